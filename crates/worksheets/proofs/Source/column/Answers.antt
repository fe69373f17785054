-- `worksheets::Source::column` meets its contract.
-- Assumes nothing.
use Rattle.std.proofs.Math.Logic.{∥∥₁_map}
use Rattle.worksheets.proofs.Columns.{going-first, lets-anew, lets-kept, going-turn, going_next, going-all}
use Rattle.worksheets.proofs.Source.column.Goals as goal
use Rattle.worksheets.proofs.Source.column.Goals.{then-left-self, else-left-self}

pub loop-done-init : goal.loop-done-init
loop-done-init c = going-first c.allowed_letters-allowed.ensures

pub next_row-requires-clause-ready : goal.next_row-requires-clause-ready
next_row-requires-clause-ready c = ∥∥₁_map c.requires.countable (λ known. going-turn c.loop-done.invariant c.loop-done-test.true known)

pub loop-done-preserved : goal.loop-done-preserved
loop-done-preserved c =
    let going = c.loop-done.invariant in
    going_next going c.loop-done-test.true c.next_row.ensures
    (elim c.if-left-self.branch [
      | then-left-self w ↦ rw w.allowed-is (lets-anew going w.allowed_letters-allowed-then-left-self.ensures)
      | else-left-self w ↦ rw w.allowed-is (lets-kept going w.if-left-self.false)
    ])

pub returns : goal.returns
returns c = going-all c.loop-done.invariant c.loop-done-test.false
