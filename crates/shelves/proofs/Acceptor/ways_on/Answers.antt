-- `Acceptor::ways_on` meets its contract: the ways under the four letters are all.
-- Assumes nothing.
use Rattle.std.proofs.Common.{◌≡◌, ◌+◌, ◌^◌, ◌≤◌, arith}
use Rattle.shelves.specs.Descents.{ways_from}
use Rattle.shelves.proofs.Ways.{four-ways}
use Rattle.shelves.proofs.Acceptor.ways_on.Goals as goal
use Rattle.shelves.proofs.Acceptor.ways_on.Goals.{After-ways_under-t_ways}

-- the sum that is answered
summed : (c : goal.After-ways_under-t_ways)
    → let args = c.args in
    let sum = c.ways_under-a_ways.result + c.ways_under-c_ways.result + c.ways_under-g_ways.result + c.ways_under-t_ways.result in
    (sum ≡ ways_from args.self.now.moves args.self.now.ban args.state args.left) × (sum ≤ 4 ^ 31)
summed c =
    four-ways c.args.self.now.tables c.requires c.ways_under-a_ways.ensures c.ways_under-c_ways.ensures
    c.ways_under-g_ways.ensures c.ways_under-t_ways.ensures

pub overflow_add-result : goal.overflow_add-result
overflow_add-result c = omega (arith, (summed (goal.at.overflow_add-result c).After-ways_under-t_ways).1)

pub overflow_add-result-2 : goal.overflow_add-result-2
overflow_add-result-2 c = omega (arith, (summed (goal.at.overflow_add-result-2 c).After-ways_under-t_ways).1)

pub overflow_add-result-3 : goal.overflow_add-result-3
overflow_add-result-3 c = omega (arith, (summed (goal.at.overflow_add-result-3 c).After-ways_under-t_ways).1)
