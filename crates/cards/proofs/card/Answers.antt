-- `cards::card` meets its contract.
-- Assumes nothing.
use Rattle.std.proofs.Common.{◌≡◌, sym, ◌∙◌, arith}
use Rattle.definitions.specs.Refusals.{refusal}
use Rattle.definitions.specs.Cards.{card_grounds, text_for}
use Rattle.cards.specs.Answers.{refusal_beside}
use Rattle.cards.proofs.Answering.{refused-for, card-is}
use Rattle.cards.proofs.card.Goals as goal
use Rattle.cards.proofs.card.Goals.{Joined-shown, in-Ok, in-Err}

-- the refusal and the text are those of the input
told : (c : Joined-shown) → let s = c.args.input.now in
    (refusal_beside c.match-shown.refusal.0 ≡ refusal (card_grounds s)) × (c.match-shown.refusal.1 ≡ text_for s)
told c =
    elim c.match-shown.branch [
      | in-Ok w ↦ rw w.refusal-is (sym w.in-Ok.ensures.accepted, w.in-Ok.ensures.text_is)
      | in-Err w ↦ rw w.refusal-is (w.in-Err.ensures, w.refused.ensures ∙ refused-for c.args.input.now w.in-Err.refusal w.in-Err.ensures)
    ]

pub returns-clause-outcome : goal.returns-clause-outcome
returns-clause-outcome c =
    let all = told (goal.at.returns-clause-outcome c).Joined-shown in
    card-is c.args.input.now all.0 (c.text.view_is ∙ all.1) c.text.invariant (omega arith)
