-- `vigemins::vigemin` meets its contract: refused, it gives the answer under the number of refusal; else it has the inputs that the search asks for.
-- Assumes nothing.
use Rattle.std.specs.Prelude.{ℕ, zero, suc, ◌≡◌, Err}
use Rattle.std.proofs.Common.{arith, sym}
use Rattle.std.proofs.lemmas.Result.{err_from_is_err_and}
use Rattle.definitions.specs.Words.{Word}
use Rattle.definitions.specs.Vigemins.{Form}
use Rattle.definitions.specs.Outcomes.{vigemin_answer, vigemin_outcome}
use Rattle.laws.specs.Accepted.{word-accepted}
use Rattle.refusals.specs.Numbers.{number_of, number-some}
use Rattle.refusals.specs.declared.Refusal.{Refusal}
use Rattle.vigemins.specs.Answers.{found}
use Rattle.vigemins.proofs.vigemin.Goals as goal

-- beside a refusal stand zeros
refused : (r : Refusal) (n : ℕ) → number_of r ≡ n → (f : Form) (m : ℕ) (x : Word) → found (Err r) ≡ vigemin_answer n f m x
unfolding vigemin_answer
refused r zero e f m x = absurd (omega (arith, number-some r))
refused r (suc n) e f m x = rw e

pub returns-in_err-word_refusal : goal.returns-in_err-word_refusal
unfolding vigemin_outcome
returns-in_err-word_refusal c =
    let p = err_from_is_err_and c.from_residual.result c.from_residual.ensures.1 in
    rw (p.1, p.2) (refused _ _ c.in_err-word_refusal.ensures _ _ _)

pub least_mer-requires : goal.least_mer-requires
least_mer-requires c =
    let a = c.args in
    word-accepted a.k a.k a.m a.key a.kmer (sym c.in_ok-word_refusal.ensures)

pub returns : goal.returns
unfolding vigemin_outcome
returns c = rw (← c.in_ok-word_refusal.ensures) c.least_mer.ensures
