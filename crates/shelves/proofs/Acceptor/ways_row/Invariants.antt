-- `Acceptor::ways_row` meets its contract. The loop's invariant: the ways from the states below `state` are written.
-- Assumes nothing.
use Rattle.std.proofs.Common.{◌*◌}
use Rattle.laws.specs.Rooms.{Written}
use Rattle.shelves.specs.Descents.{ways_from}
use Rattle.shelves.proofs.Acceptor.ways_row.Given as goal

abbrev pub invariant-loop-state : goal.invariant-loop-state
invariant-loop-state l = Written l.lo l.state (64 * l.left) (λ s. ways_from l.self.moves l.self.ban s l.left) l.initial.ways l.ways
