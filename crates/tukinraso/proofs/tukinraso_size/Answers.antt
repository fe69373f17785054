-- `tukinraso::tukinraso_size` meets its contract: what the size answers is coded as one number.
-- Assumes nothing.
use Rattle.std.specs.Prelude.{ℕ, Result, Ok, Err, ◌≡◌, refl}
use Rattle.std.proofs.Common.{ap, arith}
use Rattle.definitions.specs.Outcomes.{Counted, size_outcome, foreign_size_outcome, coded}
use Rattle.laws.specs.Accepted.{size-refusal-most}
use Rattle.refusals.specs.Numbers.{place_in, place-none}
use Rattle.refusals.specs.declared.Refusal.{Refusal}
use Rattle.sizes.specs.Answers.{counted, counted-refusal}
use Rattle.tukinraso.specs.Answers.{code}
use Rattle.tukinraso.proofs.tukinraso_size.Goals as goal

-- beside a size stands no place
placeless : (k m key w : ℕ) (r : Result ℕ Refusal) → counted r ≡ size_outcome k m key w → place_in r ≡ 0
placeless k m key w r e =
    place-none r (λ s. omega (arith, s, counted-refusal r, ap (λ (o : Counted). o.refusal) e, size-refusal-most k m key w))

-- its code is that of its outcome
told : (r : Result ℕ Refusal) → place_in r ≡ 0 → code r ≡ coded (counted r).refusal 0 (counted r).count
told (Ok n) p = refl
told (Err r) p = rw p

pub coded-requires : goal.coded-requires
coded-requires c =
    let a = c.args in omega (arith, placeless a.k a.m a.key a.word c.size.result c.size.ensures)

pub returns : goal.returns
unfolding foreign_size_outcome
returns c =
    let a = c.args in
    let number : c.coded.result ≡ code c.size.result = c.coded.ensures in
    rw (number, told c.size.result (placeless a.k a.m a.key a.word c.size.result c.size.ensures), c.size.ensures)
