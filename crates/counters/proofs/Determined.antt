-- The contracts of `counters` take every input, and determine their outcomes: any two that one allows are equal.
-- Assumes nothing.
use Rattle.std.proofs.Common.{ℕ, ◌-◌, ◌≡◌, Result, Ok, Err, refl}
use Rattle.definitions.specs.Outcomes.{Counted, counter_grounds, counter_outcome}
use Rattle.definitions.specs.Refusals.{refusal}
use Rattle.definitions.specs.Vigemins.{keyed}
use Rattle.definitions.specs.Words.{word as word_of}
use Rattle.laws.specs.Accepted.{counter_answer-refusal}
use Rattle.laws.specs.Promises.{TakesAll, Determines}
use Rattle.refusals.specs.Numbers.{refusal_in, same-placeless}
use Rattle.refusals.specs.declared.Refusal.{Refusal}
use Rattle.counters.specs.Answers.{counted}
use Rattle.counters.proofs.antemers.Kinds as antemers-kinds
use Rattle.counters.proofs.antemers.Reads as antemers-reads

-- what it answered is under its refusal
counted-number : (r : Result ℕ Refusal) → (counted r).refusal ≡ refusal_in r
counted-number (Ok n) = refl
counted-number (Err r) = refl

-- the outcome is under the refusal of what a shelf and the plain counter take
counter-number : (k m key word : ℕ) → (counter_outcome k m key word).refusal ≡ refusal (counter_grounds k m key word)
unfolding counter_outcome
counter-number k m key word = counter_answer-refusal (refusal (counter_grounds k m key word)) (keyed (word_of m key)) (k - m) (word_of m word)

pub antemers-takes-all : TakesAll antemers-kinds.ps antemers-reads.Asked
antemers-takes-all κs args = tt

pub antemers-determined : Determines antemers-kinds.ps antemers-kinds.r antemers-reads.Post
antemers-determined κs args a b x y h g =
    let k = args.0 in
    let m = args.1.0 in
    let key = args.1.1.0 in
    let word = args.1.1.1.0 in (
      same-placeless counted (λ (o : Counted). o.refusal) (λ (o : Counted). o.count) counted-number (λ n. refl) (counter_grounds k m key word) refl
          (counter-number k m key word) a b h g,
      refl,
    )
