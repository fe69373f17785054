-- The contracts of `vigemins` take every input, and determine their outcomes: any two that one allows are equal.
-- Assumes nothing.
use Rattle.std.specs.Prelude.{ℕ, zero, suc, ◌≡◌, refl, Ok, Err}
use Rattle.std.proofs.Common.{sym, ◌∙◌}
use Rattle.definitions.specs.Words.{Word, word}
use Rattle.definitions.specs.Vigemins.{Form, keyed}
use Rattle.definitions.specs.Refusals.{refusal}
use Rattle.definitions.specs.Outcomes.{vigemin_grounds, vigemin_answer, vigemin_outcome}
use Rattle.laws.specs.Promises.{TakesAll, Determines}
use Rattle.refusals.specs.Numbers.{same-placeless}
use Rattle.vigemins.specs.Answers.{found}
use Rattle.vigemins.proofs.value.Kinds as value-kinds
use Rattle.vigemins.proofs.value.Reads as value-reads
use Rattle.vigemins.proofs.vigemin.Kinds as vigemin-kinds
use Rattle.vigemins.proofs.vigemin.Reads as vigemin-reads

pub value-takes-all : TakesAll value-kinds.ps value-reads.Asked
value-takes-all κs args = tt

pub value-determined : Determines value-kinds.ps value-kinds.r value-reads.Post
value-determined κs args a b x y h g = (h ∙ sym g, refl)

-- the refusal of an answer is its number
answered : (n : ℕ) (f : Form) (m : ℕ) (x : Word) → (vigemin_answer n f m x).refusal ≡ n
unfolding vigemin_answer
answered zero f m x = refl
answered (suc n) f m x = refl

-- the outcome's refusal is that of its grounds
numbered : (k m key x : ℕ) → (vigemin_outcome k m key x).refusal ≡ refusal (vigemin_grounds k m key x)
unfolding vigemin_outcome
numbered k m key x = answered (refusal (vigemin_grounds k m key x)) (keyed (word m key)) m (word k x)

pub vigemin-takes-all : TakesAll vigemin-kinds.ps vigemin-reads.Asked
vigemin-takes-all κs args = tt

pub vigemin-determined : Determines vigemin-kinds.ps vigemin-kinds.r vigemin-reads.Post
vigemin-determined κs args a b x y h g = (
  same-placeless found (λ o. o.refusal) (λ o. record { word = o.word; position = o.position }) (elim [ Ok v ↦ refl | Err r ↦ refl ]) (λ v. refl)
      (vigemin_grounds args.0 args.1.0 args.1.1.0 args.1.1.1.0) refl (numbered args.0 args.1.0 args.1.1.0 args.1.1.1.0) a b h g,
  refl,
)
