-- The number that a text of one or two digits spells.
-- Assumes nothing.
use Rattle.std.proofs.Common.{ℕ, ◌-◌, ◌≤◌, ◌<◌, true, ◌&&◌, List, [], ◌∷◌, length, ◌≡◌, arith, leb, leb-true}
use Rattle.definitions.specs.Lists.{all}
use Rattle.definitions.specs.Cards.{is_digit, number_of}
use Rattle.laws.specs.Tests.{and_l, and_r}

-- a digit is below 10
pub digit-small : (b : ℕ) → is_digit b ≡ true → b - 48 < 10
digit-small b e = let high = leb-true b 57 (and_r (leb 48 b) (leb b 57) e) in omega arith

-- one or two spell a number below 100
pub number_small : (s : List ℕ) → (length s ≤ 2) × (all is_digit s ≡ true) → number_of s < 100
number_small [] h = omega arith
number_small (a ∷ []) h = omega (arith, digit-small a (and_l (is_digit a) true h.1))
number_small (a ∷ b ∷ []) h =
    let first = digit-small a (and_l (is_digit a) (is_digit b && true) h.1) in
    let second = digit-small b (and_l (is_digit b) true (and_r (is_digit a) (is_digit b && true) h.1)) in
    omega arith
number_small (a ∷ b ∷ c ∷ s) h = absurd (omega (arith, h.0))
