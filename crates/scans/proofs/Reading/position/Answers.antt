-- `scans::Reading::position` meets its contract: the place of the lesser of two stamps, behind the start of the block.
-- Assumes nothing.
use Rattle.std.specs.Prelude.{◌+◌, ◌-◌, ◌≡◌, get_or}
use Rattle.std.specs.Int.Bits.{bit_and}
use Rattle.std.proofs.Common.{arith}
use Rattle.scans.specs.Readings.{positions_of}
use Rattle.scans.proofs.Windows.{position-read, position-small}
use Rattle.scans.proofs.Reading.position.Goals as goal
use Rattle.scans.proofs.Reading.position.Goals.{After-lesser-lowest}

-- the position answered is that of the window
found : (c : goal.After-lesser-lowest)
    → let x = c.args.self.now in c.args.block + bit_and c.lesser-lowest.result (x.settings.side - 1) ≡ get_or (positions_of x.settings x.seq.now) (c.args.block + c.args.at) 0
found c = let x = c.args.self.now in position-read x.settings x.seq.now x.readable c.requires.minima c.lesser-lowest.ensures

pub overflow_add-result : goal.overflow_add-result
overflow_add-result c =
    let x = c.args.self.now in
    let small = position-small x.settings x.seq.now x.readable c.requires (found (goal.at.overflow_add-result c).After-lesser-lowest) in
    omega arith

pub returns-clause-small : goal.returns-clause-small
returns-clause-small c =
    let x = c.args.self.now in
    position-small x.settings x.seq.now x.readable c.requires (found (goal.at.returns-clause-small c).After-lesser-lowest)

pub returns-clause-value : goal.returns-clause-value
returns-clause-value c = found (goal.at.returns-clause-value c).After-lesser-lowest
