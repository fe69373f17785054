-- `cards::Text::lay` meets its contract.
-- Assumes nothing.
use Rattle.std.proofs.Common.{◌+◌, ◌≤◌, length, ap, arith}
use Rattle.cards.proofs.Laying.{laid-text, text-length}
use Rattle.cards.proofs.Text.lay.Goals as goal
use Rattle.cards.proofs.Text.lay.Goals.{After-copy_from_slice}

-- the bytes fit behind the text
fits : (c : goal.After-copy_from_slice) → c.self.inside.length + length c.args.bytes.now ≤ 664
fits c = omega (arith, c.requires, text-length c.self.invariant c.self.told, ap length c.self.view_is)

pub invariant_of-self : goal.invariant_of-self
invariant_of-self c =
    rw c.copy_from_slice.ensures.after (laid-text c.args.bytes.now c.self.invariant c.self.told (fits (goal.at.invariant_of-self c).After-copy_from_slice))
