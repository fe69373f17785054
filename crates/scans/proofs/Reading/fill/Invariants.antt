-- `scans::Reading::fill` meets its contract. The loop's invariant: so many m-mers of the window were read.
-- Assumes nothing.
use Rattle.scans.specs.Readings.{Begun}
use Rattle.scans.proofs.Reading.fill.Given as goal

abbrev pub invariant-loop-at : goal.invariant-loop-at
invariant-loop-at l = Begun l.self.settings l.self.seq.now l.from l.word l.at l.ring
