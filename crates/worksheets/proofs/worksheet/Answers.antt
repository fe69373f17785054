-- `worksheets::worksheet` meets its contract: refused, it gives the answer under the number of refusal; else the states that were prepared are those
-- of the word under the key, and the sheet made of them is the worksheet.
-- Assumes nothing.
use Rattle.std.proofs.Common.{ℕ, zero, suc, ◌<◌, ◌≤◌, List, ◌≡◌, refl, ap₂, replicate, Ok, Err, arith}
use Rattle.std.proofs.lemmas.Result.{err_from_is_err_and}
use Rattle.definitions.specs.Words.{Word, word as word_of}
use Rattle.definitions.specs.Vigemins.{Form}
use Rattle.definitions.specs.Outcomes.{worksheet_answer, worksheet_outcome}
use Rattle.laws.specs.Orders.{key_ranking, keyed-ranked}
use Rattle.laws.specs.Accepted.{word-accepted}
use Rattle.refusals.specs.Numbers.{number_of, number-some}
use Rattle.states.specs.declared.States.{States}
use Rattle.states.specs.Answers.{prepared, prepare_outcome, prepare-answered, prepare-accepted, answered-alphabets, answered-links}
use Rattle.worksheets.specs.Columns.{StatesOf}
use Rattle.worksheets.proofs.worksheet.Goals as goal

-- beside a refusal stand zeros
refused : (r : ℕ) → 0 < r → (f : Form) (k m : ℕ) (w : Word)
    → record { refusal = r; antemers = replicate 31 0; postmers = replicate 31 0 } ≡ worksheet_answer r f k m w
unfolding worksheet_answer
refused zero h f k m w = absurd (omega arith)
refused (suc r) h f k m w = refl

module _ (k m key word : ℕ) {s : States} (e : prepared (Ok s) ≡ prepare_outcome k m key word) where
  -- what was prepared are the states of the word under the key
  stated : StatesOf (key_ranking (word_of m key)) (word_of m word) m s
  stated = record { alphabets = answered-alphabets k m key word e; links = answered-links k m key word e }

  -- and m and k are in range
  in_range : (0 < m) × (m ≤ k) × (k ≤ 31)
  in_range =
      let order = (word-accepted m k m key word (prepare-accepted k m key word e)).order in
      (order.m_some, order.m_fits, order.k_few)

pub returns-in_err-states : goal.returns-in_err-states
unfolding worksheet_outcome
returns-in_err-states c =
    let args = c.args in
    let p = err_from_is_err_and c.from_residual.result c.from_residual.ensures.1 in
    let r = c.in_err-states.field-0.0 in
    rw (p.1, p.2, ← prepare-answered args.k args.m args.key args.word (Err r) c.in_err-states.ensures) (refused (number_of r) (number-some r) _ _ _ _)

pub invariant_of-source : goal.invariant_of-source
invariant_of-source c =
    let args = c.args in
    record {
      in_range = in_range args.k args.m args.key args.word c.in_ok-states.ensures;
      known = ∣ (_, _, stated args.k args.m args.key args.word c.in_ok-states.ensures) ∣₁;
      powers_are = c.powers-powers.ensures;
    }

pub returns : goal.returns
unfolding worksheet_outcome worksheet_answer
returns c =
    let args = c.args in
    let e = c.in_ok-states.ensures in
    let t = stated args.k args.m args.key args.word e in
    rw (prepare-accepted args.k args.m args.key args.word e, keyed-ranked (word_of args.m args.key))
    (ap₂ (λ (a p : List ℕ). record { refusal = 0; antemers = a; postmers = p }) (c.antemers.ensures _ _ t).is (c.postmers.ensures _ _ t).is)
