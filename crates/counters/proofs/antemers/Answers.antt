-- `counters::antemers` meets its contract: refused, it gives the answer under the number of refusal; else all antemers share at least no letter.
-- Assumes nothing.
use Rattle.std.proofs.Common.{ℕ, zero, suc, Bool, cond, [], ◌∷◌, Err, ◌-◌, ◌≤◌, ◌<◌, ◌≡◌, refl, sym, ap, ◌∙◌, rules, arith, ne_eqb, lt-ltb}
use Rattle.definitions.specs.Words.{Word, word as word_of}
use Rattle.definitions.specs.Vigemins.{Form, keyed}
use Rattle.definitions.specs.Shelves.{antemer}
use Rattle.definitions.specs.Refusals.{refusal, bad_counter}
use Rattle.definitions.specs.Outcomes.{shelf_grounds, counter_answer, counter_outcome}
use Rattle.laws.specs.Accepted.{word-accepted, accepted-counter, shelf-refusal}
use Rattle.laws.specs.Prefixes.{sharing_from, sharing-all}
use Rattle.refusals.specs.Numbers.{number_of, number-some}
use Rattle.refusals.specs.declared.Refusal.{Refusal}
use Rattle.counters.specs.Answers.{counted}
use Rattle.counters.proofs.antemers.Goals as goal

-- beside a refusal stands zero
refused : (r : ℕ) → 0 < r → (f : Form) (a : ℕ) (w : Word) → record { refusal = r; count = 0 } ≡ counter_answer r f a w
unfolding counter_answer
refused zero h f a w = absurd (omega arith)
refused (suc r) h f a w = refl

module _ (k m key word : ℕ) where
  -- a refusal of the shelf
  refused-shelf : (r : Refusal) → number_of r ≡ refusal (shelf_grounds k m key word) → counted (Err r) ≡ counter_outcome k m key word
  unfolding counter_outcome
  refused-shelf r e =
      let some = number-some r in
      refused (number_of r) some (keyed (word_of m key)) (k - m) (word_of m word)
      ∙ ap (λ (n : ℕ). counter_answer n (keyed (word_of m key)) (k - m) (word_of m word))
      (sym (shelf-refusal k m key word (bad_counter k m ∷ []) e ∙ ap (λ (t : Bool). cond t (refusal (bad_counter k m ∷ [])) (number_of r)) (ne_eqb (number_of r) 0 (omega arith))))

  module _ (accepted : 0 ≡ refusal (shelf_grounds k m key word)) where
    -- a length above ten
    refused-length : 10 < k - m → record { refusal = 9; count = 0 } ≡ counter_outcome k m key word
    unfolding counter_outcome
    refused-length h =
        refused 9 (omega arith) (keyed (word_of m key)) (k - m) (word_of m word)
        ∙ ap (λ (n : ℕ). counter_answer n (keyed (word_of m key)) (k - m) (word_of m word))
        (sym (shelf-refusal k m key word (bad_counter k m ∷ []) accepted ∙ ap (λ (t : Bool). cond t 9 0) (lt-ltb 10 (k - m) h)))

    -- else the antemers are counted
    answered : {n : ℕ} → k - m ≤ 10 → n ≡ sharing_from (word_of m word) (antemer (keyed (word_of m key)) (word_of m word)) 0 (k - m)
        → record { refusal = 0; count = n } ≡ counter_outcome k m key word
    unfolding counter_outcome counter_answer
    answered h q =
        ap (λ (n : ℕ). record { refusal = 0; count = n }) (q ∙ sharing-all (word_of m word) (antemer (keyed (word_of m key)) (word_of m word)) (k - m))
        ∙ ap (λ (n : ℕ). counter_answer n (keyed (word_of m key)) (k - m) (word_of m word))
        (sym (accepted-counter (record { shelf = word-accepted m k m key word (sym accepted); near = h })))

pub returns-in_err-word_refusal : goal.returns-in_err-word_refusal
returns-in_err-word_refusal c =
    let args = c.args in
    let passed : c.from_residual.result ≡ Err c.in_err-word_refusal.field-0.0 = search rules in
    rw passed (refused-shelf args.k args.m args.key args.word c.in_err-word_refusal.field-0.0 c.in_err-word_refusal.ensures)

pub returns-then-k-m-gt10 : goal.returns-then-k-m-gt10
returns-then-k-m-gt10 c =
    let args = c.args in
    refused-length args.k args.m args.key args.word c.in_ok-word_refusal.ensures c.if-k-m-gt10.true

pub returns : goal.returns
returns c =
    let args = c.args in
    answered args.k args.m args.key args.word c.in_ok-word_refusal.ensures c.if-k-m-gt10.false c.all_prefixes.ensures
