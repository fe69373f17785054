-- `states::prepare` meets its contract: refused, it gives the answer under the number of refusal; else the tables are those of the word and the key.
-- Assumes nothing.
use Rattle.std.proofs.Common.{ℕ, zero, suc, List, Ordering, Less, ◌≡◌, refl, replicate, ◌<◌, arith}
use Rattle.definitions.specs.Words.{Word}
use Rattle.laws.specs.Orders.{Ranking}
use Rattle.std.proofs.lemmas.Result.{err_from_is_err_and}
use Rattle.refusals.specs.Numbers.{number_of, number-some}
use Rattle.states.specs.Tables.{AlphabetsOf, LinksOf}
use Rattle.states.specs.Answers.{prepare_answer, prepare_outcome}
use Rattle.states.proofs.prepare.Goals as goal

-- beside a refusal stand zeros
refused : (r : ℕ) → 0 < r → (ρ : Ranking) (w : Word)
    → record { refusal = r; own = replicate 32 0; marks = replicate 128 Less; next = replicate 128 0; ban = replicate 128 0 } ≡ prepare_answer r ρ w
unfolding prepare_answer
refused zero h ρ w = absurd (omega arith)
refused (suc r) h ρ w = refl

-- beside no refusal stand the tables
accepted : {ρ : Ranking} {w : Word} {m : ℕ} {own next ban : List ℕ} {marks : List Ordering} → AlphabetsOf ρ w m own marks → LinksOf ρ w next ban
    → record { refusal = 0; own = own; marks = marks; next = next; ban = ban } ≡ prepare_answer 0 ρ w
unfolding prepare_answer
accepted a l = rw (a.word.owns, a.ranks, l.nexts, l.bans)

pub returns-in_err-word_refusal : goal.returns-in_err-word_refusal
unfolding prepare_outcome
returns-in_err-word_refusal c =
    let p = err_from_is_err_and c.from_residual.result c.from_residual.ensures.1 in
    let r = c.in_err-word_refusal.field-0.0 in
    rw (p.1, p.2, ← c.in_err-word_refusal.ensures) (refused (number_of r) (number-some r) _ _)

pub returns : goal.returns
unfolding prepare_outcome
returns c =
    let a = c.special_alphabets-unlinked.ensures.0 in
    let l = c.link_states.ensures in
    rw (← c.in_ok-word_refusal.ensures, l.0, l.1) (accepted a (l.2 _ _ a))
