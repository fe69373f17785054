-- The tests of document 01's rules at j, which is place j − 2 of a search.
-- Assumes nothing.
use Rattle.std.specs.Prelude.{ℕ, suc, ◌+◌, ◌-◌, ◌≤◌, ◌<◌, true, not, ◌&&◌, ◌||◌, ◌≡◌}
use Rattle.std.proofs.Common.{ap₂, ◌∙◌, arith}
use Rattle.std.specs.Ordering.{is_lt}
use Rattle.std.specs.declared.cmp.Ordering.{Ordering}
use Rattle.definitions.specs.Words.{Word}
use Rattle.laws.specs.Orders.{Ranking}
use Rattle.laws.specs.Rules.{is_less, is_equal, own, R, Σ}
use Rattle.powers.specs.Signs.{signed}
use Rattle.counters.specs.Settings.{low_at, is_hindered, is_tied}
use Rattle.counters.proofs.Signs.{signed-less}

module _ (ρ : Ranking) (w : Word) (i j : ℕ) where
  -- R(i,j) is below
  pub low-tested : 2 ≤ j → 0 < i → {r : Ordering} → r ≡ signed (R ρ w i j) → is_lt r ≡ low_at ρ w (i - 1) (j - 2)
  low-tested from some e =
      let here : i ≡ suc (i - 1) = omega arith in
      let place : j ≡ suc (suc (j - 2)) = omega arith in
      signed-less (R ρ w i j) e ∙ ap₂ (λ (k l : ℕ). is_less (R ρ w k l)) here place

-- j = q + 2 stands at place q
pub place : (q : ℕ) → q + 2 ≡ suc (suc q)
place q = omega arith

module _ (ρ : Ranking) (w : Word) (i b q : ℕ) where
  -- the letter that it is compared with
  beside : i + 2 - (q + 2) ≡ i - q
  beside = omega arith

  -- the letter is hindered there
  pub hindered-at : is_hindered ρ w i (q + 2) b ≡ (true && is_equal (R ρ w i (suc (suc q))) && not (Σ ρ w (i - q) b || own w (i - q) b))
  hindered-at = ap₂ (λ (k l : ℕ). is_equal (R ρ w i k) && not (Σ ρ w l b || own w l b)) (place q) beside

  -- or tied
  pub tied-at : is_tied ρ w i (q + 2) b ≡ (true && is_equal (R ρ w i (suc (suc q))) && own w (i - q) b)
  tied-at = ap₂ (λ (k l : ℕ). is_equal (R ρ w i k) && own w l b) (place q) beside
