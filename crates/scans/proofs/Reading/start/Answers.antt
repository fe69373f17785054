-- `scans::Reading::start` meets its contract.
-- Assumes nothing.
use Rattle.std.specs.Prelude.{◌+◌, ◌<◌, refl, length, drop}
use Rattle.std.proofs.Common.{ap, ◌∙◌, add-one, arith}
use Rattle.definitions.specs.Words.{spelled}
use Rattle.laws.specs.Rolls.{rolled}
use Rattle.scans.specs.Readings.{keyed_word}
use Rattle.scans.proofs.Keys.{keyed-none}
use Rattle.scans.proofs.Letters.{letter-read}
use Rattle.scans.proofs.Reading.start.Goals as goal

pub loop-i-init : goal.loop-i-init
loop-i-init c = keyed-none c.args.self.now.readable.prepared

pub loop-i-preserved : goal.loop-i-preserved
loop-i-preserved c =
    let x = c.args.self.now in
    let s = x.settings in
    let at = c.loop-i in
    let inside : c.args.from + at.i < length x.seq.now = omega (arith, x.readable.prepared.k_is, x.readable.prepared.wide) in
    c.roll-word.ensures (rolled s.m (drop c.args.from (spelled x.seq.now)) at.i) at.invariant
    ∙ rw add-one (ap (keyed_word s) (letter-read s x.seq.now x.readable c.args.from at.i refl inside))
