-- The power of four that the table answers, and what the table holds.
-- Assumes nothing.
use Rattle.std.specs.Prelude.{ℕ, ◌+◌, ◌-◌, ◌%◌, ◌^◌, ◌≤◌, ◌<◌, List, ◌≡◌, get_or}
use Rattle.std.proofs.Common.{ap, ◌∙◌, lt_of_le_of_lt, mod-eq_of_lt, arith, pow-add}
use Rattle.std.proofs.Math.Nat.{pow-le-pow_right, mul-mod_left}
use Rattle.definitions.specs.Lists.{tabulate}
use Rattle.laws.specs.Filters.{tabulate-at}
use Rattle.laws.specs.Numbers.{four-pos}

-- 4^n in 64 bits: what passes them is dropped
abbrev pub power_outcome : ℕ → ℕ
power_outcome n = 4 ^ n % 2 ^ 64

-- up to 31 it is the power
pub power-four : (n : ℕ) → n ≤ 31 → power_outcome n ≡ 4 ^ n
power-four n h = mod-eq_of_lt (lt_of_le_of_lt (pow-le-pow_right four-pos {j = 31} h) (omega arith))

-- above 31 nothing is left of it
pub power-none : (n : ℕ) → 31 < n → power_outcome n ≡ 0
power-none n h =
    let more : n ≡ (n - 32) + 32 = omega arith in
    ap (λ (i : ℕ). 4 ^ i % 2 ^ 64) more ∙ ap (λ (p : ℕ). p % 2 ^ 64) (pow-add 4 (n - 32) 32) ∙ mul-mod_left (4 ^ (n - 32)) (2 ^ 64)

-- a list is the table of the powers
pub record PowersAre (powers : List ℕ) : Type 0 where
  pub each : (n : ℕ) → n < 32 → get_or powers n 0 ≡ 4 ^ n

-- the table is
pub powers-are : {powers : List ℕ} → powers ≡ tabulate (λ n. 4 ^ n) 32 → PowersAre powers
powers-are e = record { each = λ n h. ap (λ (l : List ℕ). get_or l n 0) e ∙ tabulate-at (λ i. 4 ^ i) 32 n 0 h }
