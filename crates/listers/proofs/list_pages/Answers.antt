-- `listers::list_pages` meets its contract: no page is refused, and each writes some.
-- Assumes nothing.
use Rattle.std.proofs.Common.{◌+◌, ◌≤◌, ◌<◌, arith}
use Rattle.refusals.specs.Numbers.{number-some}
use Rattle.listers.proofs.Rows.{taking-some, taking-more, taking-served}
use Rattle.listers.proofs.list_pages.Goals as goal
use Rattle.listers.proofs.list_pages.Goals.{In_ok-at}

-- a page writes some, and not too many
written : (c : In_ok-at) → (0 < c.in_ok-at.field-0) × (c.loop-at.at + c.in_ok-at.field-0 ≤ c.args.size)
written c =
    let at = c.loop-at in
    taking-some c.requires at.invariant (omega arith) (omega arith) c.in_ok-at.ensures

pub returns-in_err-at : goal.returns-in_err-at
returns-in_err-at c =
    let at = c.loop-at in
    let served = taking-served c.requires at.invariant (omega arith) (omega arith) c.in_err-at.ensures in
    absurd (omega (arith, served, number-some c.in_err-at.field-0.0))

pub overflow_add-at : goal.overflow_add-at
overflow_add-at c = omega (arith, (written (goal.at.overflow_add-at c).In_ok-at).1)

pub loop-at-smaller : goal.loop-at-smaller
loop-at-smaller c = omega (arith, (written (goal.at.loop-at-smaller c).In_ok-at).0)

pub loop-at-preserved : goal.loop-at-preserved
loop-at-preserved c =
    let at = c.loop-at in
    taking-more c.requires at.invariant (omega arith) (omega arith) c.in_ok-at.ensures
