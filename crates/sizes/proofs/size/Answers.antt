-- `sizes::size` meets its contract: refused, it gives the answer under the number of refusal; else the sum of products over the worksheet is the size.
-- Assumes nothing.
use Rattle.std.proofs.Common.{ℕ, zero, suc, ◌<◌, ◌-◌, ◌≡◌, refl, sym, ap, ◌∙◌, Ok, Err, Result, arith}
use Rattle.std.proofs.lemmas.Result.{err_from_is_err_and}
use Rattle.definitions.specs.Words.{Word, word as word_of}
use Rattle.definitions.specs.Vigemins.{Form, keyed}
use Rattle.definitions.specs.Shelves.{size as shelf_size}
use Rattle.definitions.specs.Refusals.{refusal}
use Rattle.definitions.specs.Outcomes.{Worked, shelf_grounds, worksheet_outcome, size_answer, size_outcome}
use Rattle.laws.specs.Split.{product_sum}
use Rattle.laws.specs.RoundTrips.{size_small}
use Rattle.laws.proofs.RoundTrips.{worksheet-size}
use Rattle.laws.specs.Accepted.{ShelfAccepted, word-accepted}
use Rattle.refusals.specs.declared.Refusal.{Refusal}
use Rattle.refusals.specs.Numbers.{number_of, refusal_in, number-some}
use Rattle.worksheets.specs.declared.Sheet.{Sheet}
use Rattle.worksheets.specs.Answers.{worked, worked-refusal, worksheet-refusal}
use Rattle.sizes.proofs.size.Goals as goal

-- beside a refusal stands zero
refused : (r : ℕ) → 0 < r → (f : Form) (k : ℕ) (w : Word) → record { refusal = r; count = 0 } ≡ size_answer r f k w
unfolding size_answer
refused zero h f k w = absurd (omega arith)
refused (suc r) h f k w = refl

-- the refusal is that of the shelf
given : (k m key word : ℕ) (r : Result Sheet Refusal) → worked r ≡ worksheet_outcome k m key word → refusal_in r ≡ refusal (shelf_grounds k m key word)
given k m key word r e = sym (worked-refusal r) ∙ ap (λ (o : Worked). o.refusal) e ∙ worksheet-refusal k m key word

module _ (k m key word : ℕ) {s : Sheet} (e : worked (Ok s) ≡ worksheet_outcome k m key word) where
  -- where a sheet is answered, nothing is refused
  none : refusal (shelf_grounds k m key word) ≡ 0
  none = sym (given k m key word (Ok s) e)

  -- so the inputs are those of a shelf
  accepted : ShelfAccepted k m key word
  accepted = word-accepted m k m key word none

  -- and the sum of products over the worksheet is the size
  summed : product_sum (k - m) s.antemers s.postmers (suc (k - m)) ≡ shelf_size (keyed (word_of m key)) k (word_of m word)
  summed = worksheet-size k m key word e none

pub returns-in_err-sheet : goal.returns-in_err-sheet
unfolding size_outcome
returns-in_err-sheet c =
    let args = c.args in
    let p = err_from_is_err_and c.from_residual.result c.from_residual.ensures.1 in
    let r = c.in_err-sheet.field-0.0 in
    rw (p.1, p.2, ← given args.k args.m args.key args.word (Err r) c.in_err-sheet.ensures) (refused (number_of r) (number-some r) _ _ _)

pub overflow_sub-k : goal.overflow_sub-k
overflow_sub-k c =
    let args = c.args in
    (accepted args.k args.m args.key args.word c.in_ok-sheet.ensures).order.m_fits

pub products-count-requires : goal.products-count-requires
products-count-requires c =
    let args = c.args in
    let shelf = accepted args.k args.m args.key args.word c.in_ok-sheet.ensures in
    (omega (arith, shelf.order.k_few, shelf.order.m_some), rw (summed args.k args.m args.key args.word c.in_ok-sheet.ensures) (size_small shelf))

pub returns : goal.returns
unfolding size_outcome size_answer
returns c =
    let args = c.args in
    let e = c.in_ok-sheet.ensures in
    rw (none args.k args.m args.key args.word e)
    (ap (λ (n : ℕ). record { refusal = 0; count = n }) (c.products-count.ensures ∙ summed args.k args.m args.key args.word e))
