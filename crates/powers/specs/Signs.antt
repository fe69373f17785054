-- The signs of laws as the orderings that code answers.
-- Assumes nothing.
use Rattle.std.specs.Prelude.{ℕ, ◌<◌, ◌⊎◌, ◌≡◌, refl}
use Rattle.std.specs.declared.cmp.Ordering.{Ordering}
use Rattle.std.specs.declared.cmp.Ordering.TheVariants.{Less, Equal, Greater}
use Rattle.std.proofs.Common.{inl, inr, arith, lt-ltb, le-ltb, eq-eqb, ne_eqb}
use Rattle.laws.specs.Rules.{Sign, sign, less, equal, greater}

-- a sign as an ordering
abbrev pub signed : Sign → Ordering
signed less = Less
signed equal = Equal
signed greater = Greater

-- it is one of three
pub signed-most : (s : Sign) → (signed s ≡ Less) ⊎ ((signed s ≡ Equal) ⊎ (signed s ≡ Greater))
signed-most less = inl refl
signed-most equal = inr (inl refl)
signed-most greater = inr (inr refl)

-- one number is below another
pub sign_below : {x y : ℕ} → x < y → Less ≡ signed (sign x y)
sign_below {x} {y} h = rw (lt-ltb x y h) refl

-- they are equal
pub sign-equal : {x y : ℕ} → x ≡ y → Equal ≡ signed (sign x y)
sign-equal {x} {y} e = rw (le-ltb x y (omega arith), eq-eqb x y e) refl

-- it is above
pub sign_above : {x y : ℕ} → y < x → Greater ≡ signed (sign x y)
sign_above {x} {y} h = rw (le-ltb x y (omega arith), ne_eqb x y (omega arith)) refl
