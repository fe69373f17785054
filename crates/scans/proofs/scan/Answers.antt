-- `scans::scan` meets its contract: the entries are the positions themselves.
-- Assumes nothing.
use Rattle.std.specs.Prelude.{refl, length}
use Rattle.definitions.specs.Outcomes.{scan_outcome}
use Rattle.scans.specs.Answers.{positions_written}
use Rattle.scans.proofs.Scans.{whole, takes-positions, joined-positions}
use Rattle.scans.proofs.scan.Goals as goal

pub returns : goal.returns
unfolding scan_outcome
returns c =
    let a = c.args in
    let s = c.scan_into in
    whole (λ ps. ps) refl a.k a.m a.key a.seq.now 1 a.room.now _ (takes-positions (length a.room.now)) s.result s.ensures.examined
    (rw (joined-positions (positions_written a.k a.m a.key a.seq.now s.result)) at s.ensures.written)
