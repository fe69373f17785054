-- `Acceptor::ways_table` meets its contract. The loop's invariant: the rows before row `left` are right.
-- Assumes nothing.
use Rattle.shelves.specs.Descents.{WaysTo}
use Rattle.shelves.proofs.Acceptor.ways_table.Given as goal

abbrev pub invariant-loop-left : goal.invariant-loop-left
invariant-loop-left l = WaysTo l.self.m l.left l.self.moves l.self.ban l.ways
