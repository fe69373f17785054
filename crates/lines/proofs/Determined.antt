-- The contracts of `lines` take every input, and determine their outcomes: any two that one allows are equal.
-- Assumes nothing.
use Rattle.std.proofs.Common.{ℕ, zero, suc, Result, Ok, Err, List, [], ◌∷◌, ◌≡◌, refl}
use Rattle.definitions.specs.Refusals.{refusal}
use Rattle.definitions.specs.Cards.{Asked, Line as LineRead, bad_line, read_answer, read_outcome, asks, parts}
use Rattle.laws.specs.Promises.{TakesAll, Determines}
use Rattle.refusals.specs.declared.Refusal.{Refusal}
use Rattle.refusals.specs.Numbers.{refusal_in, same-placeless}
use Rattle.lines.specs.declared.Line.{Line}
use Rattle.lines.specs.Answers.{lined}
use Rattle.lines.proofs.read.Kinds as read-kinds
use Rattle.lines.proofs.read.Reads as read-reads

-- what reading a line answered has the number of the refusal
lined-refusal : (r : Result Line Refusal) → (lined r).refusal ≡ refusal_in r
lined-refusal (Ok l) = refl
lined-refusal (Err r) = refl

-- and so has its outcome
read_answer-refusal : (r : ℕ) (a : Asked) → (read_answer r a).refusal ≡ r
unfolding read_answer
read_answer-refusal zero a = refl
read_answer-refusal (suc r) a = refl

read-refusal : (s : List ℕ) → (read_outcome s).refusal ≡ refusal (bad_line s ∷ [])
unfolding read_outcome
read-refusal s = read_answer-refusal (refusal (bad_line s ∷ [])) (asks (parts s))

pub read-takes-all : TakesAll read-kinds.ps read-reads.Asked
read-takes-all κs args = tt

pub read-determined : Determines read-kinds.ps read-kinds.r read-reads.Post
read-determined κs args a b x y h g = (
  same-placeless lined (λ (o : LineRead). o.refusal) (λ (o : LineRead). record { k = o.asked.k; m = o.asked.m; key = o.asked.key; word = o.asked.word })
      lined-refusal (λ l. refl) (bad_line args.0.now ∷ []) refl (read-refusal args.0.now) a b h g,
  refl,
)
