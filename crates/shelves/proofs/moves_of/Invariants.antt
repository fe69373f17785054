-- `shelves::moves_of` meets its contract. The loop's invariant: the entries of the places below c are right.
-- Assumes nothing.
use Rattle.shelves.proofs.Ways.{MovesTo}
use Rattle.shelves.proofs.moves_of.Given as goal

abbrev pub invariant-loop-c : goal.invariant-loop-c
invariant-loop-c l = MovesTo l.m l.c l.next l.moves
