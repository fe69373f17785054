-- What the parts of a line spell.
-- Assumes nothing.
use Rattle.std.proofs.Common.{ℕ, Bool, true, false, cond, Some, None, Result, Ok, Err, List, ◌≡◌, refl, sym, ap, ◌∙◌, arith, ne_eqb}
use Rattle.std.specs.Bool.{then_some}
use Rattle.std.specs.Result.{result_ok}
use Rattle.definitions.specs.Words.{val, spelled}
use Rattle.definitions.specs.Refusals.{refusal}
use Rattle.definitions.specs.Outcomes.{Packed, pack_grounds, pack_outcome}
use Rattle.definitions.specs.Cards.{is_word}
use Rattle.laws.specs.Accepted.{pack-accepted, pack-refusal}
use Rattle.laws.specs.RoundTrips.{pack-outcome}
use Rattle.refusals.specs.Numbers.{number-some}
use Rattle.refusals.specs.declared.Refusal.{Refusal}
use Rattle.words.specs.Answers.{packed}
use Rattle.lines.specs.declared.Line.{Line}
use Rattle.lines.specs.Answers.{asked_of, asked_in}

-- a value that a test does not let through
pub cond-none : {A : Type 0} (t : Bool) (x : A) → cond t (Some x) None ≡ None → t ≡ false
cond-none true x e = absurd (cc)
cond-none false x e = refl

-- what is asked for where a test lets a line through
pub some-asked : (t : Bool) (l : Line) → asked_in (then_some t l) ≡ cond t (Some (asked_of l)) None
some-asked true l = refl
some-asked false l = refl

-- the number of a text that is a word
pub text-word : (t : List ℕ) (r : Result ℕ Refusal) → packed r ≡ pack_outcome t → result_ok r ≡ cond (is_word t) (Some (val (spelled t))) None
text-word t (Ok w) e =
    let none : refusal (pack_grounds t) ≡ 0 = sym (ap (λ (o : Packed). o.refusal) e ∙ pack-refusal t) in
    let same : w ≡ val (spelled t) = ap (λ (o : Packed). o.word) (e ∙ pack-outcome (pack-accepted t none)) in
    rw (none, same)
text-word t (Err r) e =
    let some = number-some r in
    rw (ne_eqb (refusal (pack_grounds t)) 0 (λ n. omega (arith, some, n, ap (λ (o : Packed). o.refusal) e ∙ pack-refusal t)))
