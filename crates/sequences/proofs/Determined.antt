-- The contracts of `sequences` take every input, and determine their outcomes: any two that one allows are equal.
-- Assumes nothing.
use Rattle.std.specs.Prelude.{ℕ, Result, Ok, Err, ◌≡◌, refl}
use Rattle.std.proofs.Common.{sym, ap, ◌∙◌}
use Rattle.laws.specs.Promises.{TakesAll, Determines}
use Rattle.refusals.specs.Numbers.{place_in, same-answer}
use Rattle.refusals.specs.declared.Refusal.{Refusal}
use Rattle.sequences.specs.Answers.{Examined, examined}
use Rattle.sequences.proofs.examine.Kinds as examine-kinds
use Rattle.sequences.proofs.examine.Reads as examine-reads

-- the outcome has the place of a bad letter
placed : (r : Result ℕ Refusal) → (examined r).place ≡ place_in r
placed (Ok n) = refl
placed (Err r) = refl

pub examine-takes-all : TakesAll examine-kinds.ps examine-reads.Asked
examine-takes-all κs args = tt

pub examine-determined : Determines examine-kinds.ps examine-kinds.r examine-reads.Post
examine-determined κs args a b x y h g = (
  same-answer examined (λ o. o.refusal) (λ o. o.windows) (elim [ Ok n ↦ refl | Err r ↦ refl ]) (λ n. refl) a b (h ∙ sym g)
      (sym (placed a) ∙ ap (λ (o : Examined). o.place) (h ∙ sym g) ∙ placed b),
  refl,
)
