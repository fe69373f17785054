-- `lines::cut` meets its contract.
-- Assumes nothing.
use Rattle.laws.specs.Cards.{behind-part}
use Rattle.lines.proofs.Cuts.{found-none, found-at}
use Rattle.lines.proofs.cut.Goals as goal

pub returns-in_err-at : goal.returns-in_err-at
returns-in_err-at c = rw c.from_residual.ensures (found-none c.args.byte c.args.text.now c.find.ensures c.in_err-at.was)

pub returns : goal.returns
returns c =
    let at = found-at c.args.byte c.args.text.now c.find.ensures c.in_ok-at.was in
    record { inside = at.1; before = rw at.0; behind = behind-part c.args.byte c.args.text.now at.0 }
