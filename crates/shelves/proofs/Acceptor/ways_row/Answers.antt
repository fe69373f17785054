-- `Acceptor::ways_row` meets its contract.
-- Assumes nothing.
use Rattle.std.proofs.Common.{arith}
use Rattle.shelves.proofs.Ways.{row-ready}
use Rattle.shelves.proofs.Acceptor.ways_row.Goals as goal

pub ways_on-sum-requires : goal.ways_on-sum-requires
ways_on-sum-requires c =
    let at = c.loop-state in
    row-ready c.args.self.now.tables c.requires at.invariant (omega arith) (omega arith)
