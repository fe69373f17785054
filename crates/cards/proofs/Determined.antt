-- The contracts of `cards` take every input, and determine their outcomes: any two that one allows are equal.
-- Assumes nothing.
use Rattle.std.proofs.Common.{ℕ, Option, Some, None, List, ◌≡◌, refl, sym, ap, ◌∙◌, arith}
use Rattle.definitions.specs.Refusals.{refusal}
use Rattle.definitions.specs.Cards as cards
use Rattle.laws.specs.Promises.{TakesAll, Determines}
use Rattle.refusals.specs.declared.Refusal.{Refusal}
use Rattle.refusals.specs.Numbers.{number-some, same-refusal, place-other, refusal-lacks}
use Rattle.cards.specs.declared.Printed.{Printed}
use Rattle.cards.specs.Answers.{refusal_beside, printed}
use Rattle.cards.proofs.card.Kinds as card-kinds
use Rattle.cards.proofs.card.Reads as card-reads

-- two refusals beside a text that have one number, which is not 6, are one
same-beside : (a b : Option Refusal) → (refusal_beside a ≡ 6 → ⊥) → refusal_beside a ≡ refusal_beside b → a ≡ b
same-beside None None h e = refl
same-beside None (Some s) h e = absurd (omega (arith, number-some s, e))
same-beside (Some r) None h e = absurd (omega (arith, number-some r, e))
same-beside (Some r) (Some s) h e = ap Some (same-refusal r s e (place-other r h ∙ sym (place-other s (λ q. h (e ∙ q)))))

-- the card's refusal is that of its grounds
card-refusal : (s : List ℕ) → (cards.card_outcome s).refusal ≡ refusal (cards.card_grounds s)
unfolding cards.card_outcome
card-refusal s = refl

-- two cards of one input are one
same-card : (s : List ℕ) (a b : Printed) → printed a ≡ cards.card_outcome s → printed b ≡ cards.card_outcome s → a ≡ b
same-card s a b h g =
    let e = h ∙ sym g in
    let placeless : refusal_beside a.refusal ≡ 6 → ⊥ = λ q. refusal-lacks 5 (cards.card_grounds s) refl (sym (card-refusal s) ∙ ap (λ (o : cards.Printed). o.refusal) (sym h) ∙ q) in
    let one : a.refusal ≡ b.refusal = same-beside a.refusal b.refusal placeless (ap (λ (o : cards.Printed). o.refusal) e) in
    ap (λ (o : cards.Printed). record { refusal = a.refusal; length = o.length; text = o.text }) e
    ∙ ap (λ (r : Option Refusal). record { refusal = r; length = b.length; text = b.text }) one

pub card-takes-all : TakesAll card-kinds.ps card-reads.Asked
card-takes-all κs args = tt

pub card-determined : Determines card-kinds.ps card-kinds.r card-reads.Post
card-determined κs args a b x y h g = (same-card args.0.now a b h.0 g.0, refl)
