-- `shelves::run` meets its contract.
-- Assumes nothing.
use Rattle.std.proofs.Common.{arith}
use Rattle.shelves.proofs.Listing.{running_more, running-all}
use Rattle.shelves.proofs.run.Goals as goal

pub loop-i-preserved : goal.loop-i-preserved
loop-i-preserved c = running_more c.loop-i.invariant (omega arith) (omega arith)

pub returns : goal.returns
returns c = running-all c.loop-i.invariant (omega arith)
