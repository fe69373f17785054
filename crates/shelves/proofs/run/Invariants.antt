-- `shelves::run` meets its contract. The loop's invariant: the first i numbers are written.
-- Assumes nothing.
use Rattle.shelves.proofs.Listing.{Running}
use Rattle.shelves.proofs.run.Given as goal

abbrev pub invariant-loop-i : goal.invariant-loop-i
invariant-loop-i l = Running l.fn.numbers.first l.fn.numbers.count l.n l.initial.room l.room l.i
