-- Decimal digits.
-- Assumes nothing.
use Rattle.std.proofs.Common.{ℕ, zero, suc, ◌+◌, ◌/◌, ◌%◌, ◌^◌, ◌≤◌, ◌<◌, Bool, true, false, cond, ltb, List, [], ◌∷◌, ◌++◌, length, ◌≡◌, sym, ap, ◌∙◌, arith, append_assoc, length-append, lt-ltb}
use Rattle.std.proofs.Math.Nat.{div-lt_iff_lt-mul, zero-lt-suc}
use Rattle.definitions.specs.Cards.{decimal_in, decimal}

-- a number below 10^n has at most n digits
decimal-length : (n x : ℕ) → length (decimal_in n x) ≤ n
decimal-length zero x = omega arith
decimal-length (suc n) x = rw length-append (go (ltb x 10) (decimal-length n (x / 10)))
  where
    go : (t : Bool) → length (decimal_in n (x / 10)) ≤ n → length (cond t [] (decimal_in n (x / 10))) + 1 ≤ suc n
    go true h = omega arith
    go false h = omega arith

-- and one digit more to write it with changes nothing
decimal-enough : (n x : ℕ) → x < 10 ^ suc n → decimal_in (suc n) x ≡ decimal_in (suc (suc n)) x
decimal-enough zero x h = rw (lt-ltb x 10 (omega arith))
decimal-enough (suc n) x h =
    ap (λ (l : List ℕ). cond (ltb x 10) [] l ++ ((48 + x % 10) ∷ [])) (decimal-enough n (x / 10) ((div-lt_iff_lt-mul (zero-lt-suc 9)).1 (omega arith)))

-- the digits of the tenth part of a number, if there is one
abbrev pub tenth : ℕ → List ℕ
tenth x = cond (ltb x 10) [] (decimal (x / 10))

module _ (x : ℕ) (h : x < 2 ^ 64) where
  -- a number has these, and the last one
  decimal-last : decimal x ≡ tenth x ++ ((48 + x % 10) ∷ [])
  unfolding decimal
  decimal-last = ap (λ (l : List ℕ). cond (ltb x 10) [] l ++ ((48 + x % 10) ∷ [])) (decimal-enough 18 (x / 10) (omega arith))

  -- these are at most 19
  tenth-most : length (tenth x) ≤ 19
  unfolding decimal
  tenth-most = go (ltb x 10) (rw (← decimal-enough 18 (x / 10) (omega arith)) (decimal-length 19 (x / 10)))
    where
      go : (t : Bool) → length (decimal_in 20 (x / 10)) ≤ 19 → length (cond t [] (decimal_in 20 (x / 10))) ≤ 19
      go true k = omega arith
      go false k = k

  -- below 100 at most one
  tenth-short : x < 100 → length (tenth x) ≤ 1
  unfolding decimal
  tenth-short k = go (ltb x 10)
    where
      one : length (decimal_in 20 (x / 10)) ≤ 1
      one = rw (lt-ltb (x / 10) 10 (omega arith)) (omega arith)

      go : (t : Bool) → length (cond t [] (decimal_in 20 (x / 10))) ≤ 1
      go true = omega arith
      go false = one

  module _ (old : List ℕ) {mid : List ℕ} (e : mid ≡ old ++ tenth x) where
    -- the last digit has room behind these
    pub last-fits : length old + 20 ≤ 664 → length mid + 1 ≤ 664
    last-fits k = omega (arith, tenth-most, ap length e, length-append old (tenth x))

    -- with it they are the number
    pub last-text : {new : List ℕ} → new ≡ mid ++ ((48 + x % 10) ∷ []) → new ≡ old ++ decimal x
    last-text n = n ∙ ap (λ (l : List ℕ). l ++ ((48 + x % 10) ∷ [])) e ∙ append_assoc old (tenth x) ((48 + x % 10) ∷ []) ∙ ap (λ (l : List ℕ). old ++ l) (sym decimal-last)

    -- and take at most 20 bytes, or at most two
    pub last-grows : {new : ℕ} → new ≡ length mid + 1 → new ≤ length old + 20
    last-grows k = omega (arith, tenth-most, ap length e, length-append old (tenth x))

    pub last-short : {new : ℕ} → new ≡ length mid + 1 → x < 100 → new ≤ length old + 2
    last-short k l = omega (arith, tenth-short l, ap length e, length-append old (tenth x))
