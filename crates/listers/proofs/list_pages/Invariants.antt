-- `listers::list_pages` meets its contract. The loop's invariant: the k-mers of the places before `at` are written. The measure is how many are left.
-- Assumes nothing.
use Prim.Native.Nat.{◌-◌}
use Rattle.listers.proofs.Rows.{Taking}
use Rattle.listers.proofs.list_pages.Given as goal

abbrev pub invariant-loop-at : goal.invariant-loop-at
invariant-loop-at l = Taking l.k l.m l.key l.word l.size l.initial.room l.room l.at

abbrev pub decreases-loop-at : goal.decreases-loop-at
decreases-loop-at l = l.size - l.at
