-- `counters::Setting::letter_sign` meets its contract: the two numbers whose sign it gives are the ranks of the letter and of ai.
-- Assumes nothing.
use Rattle.counters.proofs.Signs.{letter-signed}
use Rattle.counters.proofs.Setting.letter_sign.Goals as goal

pub returns : goal.returns
returns c =
    let args = c.args in
    let r = c.requires in
    let signed = letter-signed args.self.set_to args.i args.letter r.0 r.1 r.2 c.sign.ensures in
    record { special = signed.0; same = signed.1 }
