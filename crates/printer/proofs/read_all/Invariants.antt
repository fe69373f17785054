-- `printer::read_all` is safe and ends. The loop's invariant: no more stands in the room than it takes. The measure is the room that is left.
-- Assumes nothing.
use Rattle.std.proofs.Common.{◌-◌, ◌≤◌}
use Rattle.printer.proofs.read_all.Given as goal

abbrev pub invariant-loop-n : goal.invariant-loop-n
invariant-loop-n l = l.n ≤ 128

abbrev pub decreases-loop-n : goal.decreases-loop-n
decreases-loop-n l = 128 - l.n
