-- `worksheets::ways_row` meets its contract. The loop's invariant: the entries from i to below hi are written.
-- Assumes nothing.
use Rattle.std.proofs.Common.{suc, ◌≤◌}
use Rattle.laws.specs.Rooms.{Written}
use Rattle.worksheets.specs.Columns.{sum_of}
use Rattle.worksheets.proofs.ways_row.Given as goal

abbrev pub invariant-loop-i : goal.invariant-loop-i
invariant-loop-i l = (l.lo ≤ l.i) × Written l.i l.hi (suc l.done) (λ j. sum_of j l.done l.allowed l.initial.ways) l.initial.ways l.ways
