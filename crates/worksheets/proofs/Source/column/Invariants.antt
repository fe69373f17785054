-- `worksheets::Source::column` meets its contract. The loop's invariant: the ways are those by `done` letters, so many rows and one are written, and
-- the table of allowed letters is that for the letters left in the next one.
-- Assumes nothing.
use Rattle.worksheets.proofs.Columns.{Going}
use Rattle.worksheets.proofs.Source.column.Given as goal

abbrev pub invariant-loop-done : goal.invariant-loop-done
invariant-loop-done l =
    Going l.self.m l.side.rows l.side.start l.side.follow l.side.live l.initial.ways l.self.states.now.next l.self.states.now.ban l.done l.ways l.column l.allowed
