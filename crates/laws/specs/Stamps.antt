-- Values with their places behind them. A stamp is a value times a side, plus a place below the side; the least of some stamps tells the
-- least of the values and, of equals, the leftmost place, so that the least of two stretches is the lesser of two numbers.
-- Assumes nothing.
use Rattle.std.specs.Prelude.{ℕ, zero, suc, ◌+◌, ◌*◌, ◌%◌, ◌≤◌, ◌<◌, min, Bool, true, false, cond, List, [], ◌∷◌, ◌++◌, ◌≡◌, refl, leb, length, get_or, take, drop}
use Rattle.std.proofs.Common.{sym, ap, ◌∙◌, add-zero, add-suc, suc-add, zero-add, zero-lt-suc, le_refl, not-suc-le-zero, mul-le-mul_right, suc-mul, arith, add-one, leb-true, leb-false, take-add, drop-drop, drop-cons, get_or-take, get_or-drop}
use Rattle.std.proofs.Math.Nat.{min-eq_left, min-eq_right, min-le_right}
use Rattle.std.proofs.Math.Arith.{digits_mod}
use Rattle.definitions.specs.Vigemins.{least_place}
use Rattle.laws.specs.Minima.{least-append, least_lt, length-stretch}

-- the least of some numbers; the top where there is none
abbrev pub lowest : ℕ → List ℕ → ℕ
lowest top [] = top
lowest top (x ∷ xs) = min x (lowest top xs)

-- some values, each with its place behind it; the first place is o
abbrev pub stamped : ℕ → ℕ → List ℕ → List ℕ
stamped side o [] = []
stamped side o (v ∷ vs) = (v * side + o) ∷ stamped side (suc o) vs

-- the least is at most the top
pub lowest-top : (top : ℕ) (l : List ℕ) → lowest top l ≤ top
lowest-top top [] = le_refl top
lowest-top top (x ∷ l) = omega (arith, min-le_right x (lowest top l), lowest-top top l)

-- the lesser of three numbers, by twos
min-join : (a b c : ℕ) → min a (min b c) ≡ min (min a b) c
min-join a b c = omega arith

-- the least of two lists in a row is the lesser of theirs
pub lowest-append : (top : ℕ) (u v : List ℕ) → lowest top (u ++ v) ≡ min (lowest top u) (lowest top v)
lowest-append top [] v = sym (min-eq_right (lowest-top top v))
lowest-append top (x ∷ u) v = ap (min x) (lowest-append top u v) ∙ min-join x (lowest top u) (lowest top v)

-- the stamps of two lists in a row
pub stamped-append : (side o : ℕ) (u v : List ℕ) → stamped side o (u ++ v) ≡ stamped side o u ++ stamped side (o + length u) v
stamped-append side o [] v = rw add-zero
stamped-append side o (x ∷ u) v = ap (λ (l : List ℕ). (x * side + o) ∷ l) (stamped-append side (suc o) u v ∙ rw (suc-add, add-suc))

-- as many stamps as values
pub length-stamped : (side o : ℕ) (vs : List ℕ) → length (stamped side o vs) ≡ length vs
length-stamped side o [] = refl
length-stamped side o (v ∷ vs) = ap suc (length-stamped side (suc o) vs)

-- the stamp at a place
pub stamped-at : (side o : ℕ) (vs : List ℕ) (i : ℕ) → i < length vs → get_or (stamped side o vs) i 0 ≡ get_or vs i 0 * side + (o + i)
stamped-at side o [] i h = absurd (not-suc-le-zero h)
stamped-at side o (v ∷ vs) zero h = rw add-zero
stamped-at side o (v ∷ vs) (suc i) h = stamped-at side (suc o) vs i (omega arith) ∙ omega arith

-- each of some values is below a bound
abbrev pub Under : ℕ → List ℕ → Type 0
Under bound vs = (i : ℕ) → i < length vs → get_or vs i 0 < bound

-- the first of some values is the leftmost least exactly if it is not above the least of the others
first-least : (v : ℕ) (vs : List ℕ) → 0 < length vs
    → least_place (v ∷ vs) ≡ cond (leb v (get_or vs (least_place vs) 0)) 0 (suc (least_place vs))
first-least v vs h = least-append (v ∷ []) vs (zero-lt-suc 0) h ∙ rw (suc-add, zero-add)

module _ (top side bound : ℕ) (fits : bound * side ≤ suc top) where
  -- every place below the side has room behind a value
  pub stamp-room : (v : ℕ) → v < bound → v * side + side ≤ suc top
  stamp-room v h = omega (arith, mul-le-mul_right side h, suc-mul v side)

  -- a stamp is at most the top
  pub stamp-top : (v o : ℕ) → v < bound → o < side → v * side + o ≤ top
  stamp-top v o h k = omega (arith, stamp-room v h)

  -- the least stamp is the first one's, or that of the least of the others
  next-stamp : (o v p : ℕ) (vs : List ℕ) → suc o + p < side → (t : Bool) → leb v (get_or vs p 0) ≡ t
      → min (v * side + o) (get_or vs p 0 * side + (suc o + p)) ≡ get_or (v ∷ vs) (cond t 0 (suc p)) 0 * side + (o + cond t 0 (suc p))
  next-stamp o v p vs k true e =
      let b : v ≤ get_or vs p 0 = leb-true v (get_or vs p 0) e in min-eq_left (omega (arith, mul-le-mul_right side b)) ∙ rw add-zero
  next-stamp o v p vs k false e =
      let b : get_or vs p 0 < v = leb-false v (get_or vs p 0) e in
      min-eq_right (omega (arith, mul-le-mul_right side b, suc-mul (get_or vs p 0) side)) ∙ omega arith

  -- the least stamp of some values is that of the least value, the leftmost of equals
  pub lowest-stamp : (o : ℕ) (vs : List ℕ) → 0 < length vs → o + length vs ≤ side → Under bound vs
      → lowest top (stamped side o vs) ≡ get_or vs (least_place vs) 0 * side + (o + least_place vs)
  lowest-stamp o [] h k u = absurd (not-suc-le-zero h)
  lowest-stamp o (v ∷ []) h k u = rw (min-eq_left (stamp-top v o (u 0 h) (omega arith)), add-zero)
  lowest-stamp o (v ∷ w ∷ vs) h k u =
      rw (lowest-stamp (suc o) (w ∷ vs) (zero-lt-suc (length vs)) (omega arith) (λ i b. u (suc i) (omega arith)), first-least v (w ∷ vs) (zero-lt-suc (length vs)))
      (next-stamp o v (least_place (w ∷ vs)) (w ∷ vs) (omega (arith, least_lt (w ∷ vs) (zero-lt-suc (length vs)))) (leb v (get_or (w ∷ vs) (least_place (w ∷ vs)) 0)) refl)

  -- its place stands behind it
  pub lowest-place : (o : ℕ) (vs : List ℕ) → 0 < length vs → o + length vs ≤ side → Under bound vs
      → lowest top (stamped side o vs) % side ≡ o + least_place vs
  lowest-place o vs h k u =
      rw (lowest-stamp o vs h k u) (digits_mod (get_or vs (least_place vs) 0) (omega (arith, least_lt vs h)))

-- ---- the least stamp of a stretch

-- the least stamp of n values from place p on, their places counted from o
abbrev pub least_from : ℕ → ℕ → List ℕ → ℕ → ℕ → ℕ → ℕ
least_from top side vs o p n = lowest top (stamped side o (take n (drop p vs)))

module _ (top side : ℕ) (vs : List ℕ) where
  -- of two neighbouring stretches
  pub least_from-join : (o p a b : ℕ) → p + a ≤ length vs
      → least_from top side vs o p (a + b) ≡ min (least_from top side vs o p a) (least_from top side vs (o + a) (p + a) b)
  least_from-join o p a b h =
      rw (take-add a b (drop p vs), stamped-append side o (take a (drop p vs)) (take b (drop a (drop p vs))), length-stretch a vs p h, drop-drop)
      (lowest-append top (stamped side o (take a (drop p vs))) (stamped side (o + a) (take b (drop (p + a) vs))))

  -- with one value more in front
  pub least_from-first : (o p n : ℕ) → p < length vs
      → least_from top side vs o p (suc n) ≡ min (get_or vs p 0 * side + o) (least_from top side vs (suc o) (suc p) n)
  least_from-first o p n h = rw (drop-cons vs p 0 h)

  -- of one value alone
  pub least_from-one : (o p : ℕ) → p < length vs → get_or vs p 0 * side + o ≤ top → least_from top side vs o p 1 ≡ get_or vs p 0 * side + o
  least_from-one o p h k = least_from-first o p 0 h ∙ min-eq_left k

  -- with one value more behind
  pub least_from-last : (o p n : ℕ) → p + n < length vs → get_or vs (p + n) 0 * side + (o + n) ≤ top
      → least_from top side vs o p (suc n) ≡ min (least_from top side vs o p n) (get_or vs (p + n) 0 * side + (o + n))
  least_from-last o p n h k =
      rw (← add-one n) (least_from-join o p n 1 (omega arith) ∙ ap (min (least_from top side vs o p n)) (least_from-one (o + n) (p + n) h k))

  -- the place of the least of a stretch stands behind its least stamp
  pub least_from-place : (bound o p n : ℕ) → bound * side ≤ suc top → Under bound vs → 0 < n → p + n ≤ length vs → o + n ≤ side
      → least_from top side vs o p n % side ≡ o + least_place (take n (drop p vs))
  least_from-place bound o p n f u h k s =
      let e : length (take n (drop p vs)) ≡ n = length-stretch n vs p k in
      lowest-place top side bound f o (take n (drop p vs)) (rw e h) (rw e s) (λ i b. under-stretch i (rw e at b))
    where
      under-stretch : (i : ℕ) → i < n → get_or (take n (drop p vs)) i 0 < bound
      under-stretch i b = rw (get_or-take n (drop p vs) i 0 b, get_or-drop) (u (p + i) (omega arith))
