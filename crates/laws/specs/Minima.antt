-- The place of the least of some numbers, the windows of a word, and the vigemin.
-- Assumes nothing.
use Rattle.std.specs.Prelude.{ℕ, zero, suc, ◌+◌, ◌-◌, ◌≤◌, ◌<◌, min, Bool, true, false, cond, not, ◌&&◌, ◌⊎◌, ◌≡◌, refl, leb, length, get_or, take, drop}
use Rattle.std.proofs.Common.{suc-le-suc, inl, inr, ⊎_elim, sym, ap, ap₂, ◌∙◌, zero-add, add-zero, suc-add, lt_trans, le_trans, lt_of_lt_of_le, le_refl, le_of_lt, le_of_suc-le-suc, not-suc-le-zero, zero-lt-suc, le_antisymm, arith, ltb-false, le-ltb, leb-true, leb-false, le-leb, length-append, length-take, length-drop, length-take-le, take-suc, get_or-append-add, take-take, ext_get_or, drop-drop, get_or-drop, get_or-take}
use mathlib.Core.List.{List, [], ◌∷◌, ◌++◌, map, Memᴰ}
use Rattle.std.proofs.Math.Nat.{min-eq_left, min-eq_right}
use Rattle.std.proofs.lemmas.Bool.{lt-leb, not-true}
use Rattle.std.proofs.lemmas.List.{length-map}
use Rattle.std.proofs.Math.ListN.{get_or-append, get_or-eq_default}
use Rattle.std.proofs.Math.Seq.{take-nil}
use Rattle.definitions.specs.Lists.{put, all}
use Rattle.definitions.specs.Words.{Word, Letters, Mer, same}
use Rattle.definitions.specs.Vigemins.{Form, value, below, windows, least_place, vigemin_at, vigemin}
use Rattle.laws.specs.Tests.{and_l, and_r, and_i, test-ext, contrary, same-eq, eq-same}
use Rattle.laws.specs.Numbers.{letters-take, letters-drop}
use Rattle.laws.specs.Filters.{any, all-at, at_all, any_at, at-any, at_mem, mem-at, at_map}

-- ---- the least of some numbers

-- p is the place of the least number, the leftmost of equals
pub record Least (l : List ℕ) (p : ℕ) : Type 0 where
  pub inside : p < length l
  pub lowest : (i : ℕ) → i < length l → get_or l p 0 ≤ get_or l i 0
  pub leftmost : (i : ℕ) → i < p → get_or l p 0 < get_or l i 0

first-lowest : (v : ℕ) (vs : List ℕ) → all (leb v) vs ≡ true → (i : ℕ) → i < suc (length vs) → v ≤ get_or (v ∷ vs) i 0
first-lowest v vs e zero h = le_refl v
first-lowest v vs e (suc i) h = leb-true v (get_or vs i 0) (all-at (leb v) vs 0 i e (le_of_suc-le-suc h))

later-lowest : (v : ℕ) (vs : List ℕ) {p : ℕ} → Least vs p → get_or vs p 0 < v → (i : ℕ) → i < suc (length vs) → get_or vs p 0 ≤ get_or (v ∷ vs) i 0
later-lowest v vs s k zero h = le_of_lt k
later-lowest v vs s k (suc i) h = s.lowest i (le_of_suc-le-suc h)

later-leftmost : (v : ℕ) (vs : List ℕ) {p : ℕ} → Least vs p → get_or vs p 0 < v → (i : ℕ) → i < suc p → get_or vs p 0 < get_or (v ∷ vs) i 0
later-leftmost v vs s k zero h = k
later-leftmost v vs s k (suc i) h = s.leftmost i (le_of_suc-le-suc h)

-- a number with which a test of all fails is above the least
above-least : (v : ℕ) (vs : List ℕ) {p : ℕ} → Least vs p → all (leb v) vs ≡ false → (t : Bool) → leb v (get_or vs p 0) ≡ t → get_or vs p 0 < v
above-least v vs {p} s e true k =
    let b : v ≤ get_or vs p 0 = leb-true v (get_or vs p 0) k in
    absurd (contrary (all (leb v) vs) (at_all (leb v) vs 0 (λ i h. le-leb v (get_or vs i 0) (omega (arith, s.lowest i h)))) e)
above-least v vs {p} s e false k = leb-false v (get_or vs p 0) k

least_at : (v : ℕ) (vs : List ℕ) (t : Bool) → all (leb v) vs ≡ t → (0 < length vs → Least vs (least_place vs)) → Least (v ∷ vs) (cond t 0 (suc (least_place vs)))
least_at v vs true e s = record { inside = zero-lt-suc (length vs); lowest = first-lowest v vs e; leftmost = λ i h. absurd (not-suc-le-zero h) }
least_at v [] false e s = absurd (contrary true refl e)
least_at v (w ∷ ws) false e s =
    let r : Least (w ∷ ws) (least_place (w ∷ ws)) = s (zero-lt-suc (length ws)) in
    let k : get_or (w ∷ ws) (least_place (w ∷ ws)) 0 < v = above-least v (w ∷ ws) r e (leb v (get_or (w ∷ ws) (least_place (w ∷ ws)) 0)) refl in
    record { inside = omega (arith, r.inside); lowest = later-lowest v (w ∷ ws) r k; leftmost = later-leftmost v (w ∷ ws) r k }

-- least_place is the place of the least number, the leftmost of equals
pub least_place-least : (l : List ℕ) → 0 < length l → Least l (least_place l)
least_place-least [] h = absurd (not-suc-le-zero h)
least_place-least (v ∷ vs) h = least_at v vs (all (leb v) vs) refl (λ k. least_place-least vs k)

-- the place of the least lies inside
pub least_lt : (l : List ℕ) → 0 < length l → least_place l < length l
least_lt l h = (least_place-least l h).inside

-- no number is below the least
pub least-le : (l : List ℕ) {i : ℕ} → i < length l → get_or l (least_place l) 0 ≤ get_or l i 0
least-le l {i} h = (least_place-least l (omega arith)).lowest i h

-- where some place lies left of the least, there are numbers
least-some : (l : List ℕ) {i : ℕ} → i < least_place l → 0 < length l
least-some [] h = absurd (not-suc-le-zero h)
least-some (v ∷ vs) h = zero-lt-suc (length vs)

-- every number to the left of the least is strictly above it
pub least-left : (l : List ℕ) {i : ℕ} → i < least_place l → get_or l (least_place l) 0 < get_or l i 0
least-left l {i} h = (least_place-least l (least-some l h)).leftmost i h

-- of two places of the least, neither is left of the other
not_left : {l : List ℕ} {p q : ℕ} → Least l p → Least l q → ¬ (p < q)
not_left {p} s t h = omega (arith, t.leftmost p h, s.lowest _ t.inside)

-- a place inside, that no number is below and left of which every number is strictly above, is the place of the least
pub least-unique : (l : List ℕ) {p : ℕ} → Least l p → least_place l ≡ p
least-unique l {p} s =
    let t : Least l (least_place l) = least_place-least l (omega (arith, s.inside)) in
    omega (arith, not_left s t, not_left t s)

-- ---- two neighbouring stretches

-- a place in two lists in a row lies in the first, or so far into the second
append-place : (u v : List ℕ) (i : ℕ) → i < length (u ++ v)
    → ((i < length u) × (get_or (u ++ v) i 0 ≡ get_or u i 0)) ⊎ ((j : ℕ) × (j < length v) × (i ≡ length u + j) × (get_or (u ++ v) i 0 ≡ get_or v j 0))
append-place [] v i h = inr (i, h, sym (zero-add i), refl)
append-place (a ∷ u) v zero h = inl (zero-lt-suc (length u), refl)
append-place (a ∷ u) v (suc i) h =
    ⊎_elim (λ s. inl (suc-le-suc s.0, s.1)) (λ s. inr (s.0, s.1, ap suc s.2 ∙ sym (suc-add (length u) s.0), s.3))
    (append-place u v i (le_of_suc-le-suc h))

module _ (u v : List ℕ) {p q : ℕ} (s : Least u p) (t : Least v q) where
  append-first : get_or u p 0 ≤ get_or v q 0 → Least (u ++ v) p
  append-first h =
      record {
        inside = rw length-append (omega (arith, s.inside));
        lowest = λ i k. rw (get_or-append u v 0 p s.inside)
            (⊎_elim (λ r. rw r.1 (s.lowest i r.0)) (λ r. rw r.3 (le_trans h (t.lowest r.0 r.1))) (append-place u v i k));
        leftmost = λ i k. rw (get_or-append u v 0 p s.inside, get_or-append u v 0 i (lt_trans k s.inside)) (s.leftmost i k);
      }

  append-second : get_or v q 0 < get_or u p 0 → Least (u ++ v) (length u + q)
  append-second h =
      record {
        inside = rw length-append (omega (arith, t.inside));
        lowest = λ i k. rw (get_or-append-add u v q 0)
            (⊎_elim (λ r. rw r.1 (le_trans (le_of_lt h) (s.lowest i r.0))) (λ r. rw r.3 (t.lowest r.0 r.1)) (append-place u v i k));
        leftmost = λ i k. rw (get_or-append-add u v q 0)
            (⊎_elim (λ r. rw r.1 (lt_of_lt_of_le h (s.lowest i r.0))) (λ r. rw r.3 (t.leftmost r.0 (omega arith))) (append-place u v i (rw length-append (omega (arith, t.inside)))));
      }

append_at : (u v : List ℕ) {p q : ℕ} → Least u p → Least v q → (t : Bool) → leb (get_or u p 0) (get_or v q 0) ≡ t → Least (u ++ v) (cond t p (length u + q))
append_at u v {p} {q} r s true e = append-first u v r s (leb-true (get_or u p 0) (get_or v q 0) e)
append_at u v {p} {q} r s false e = append-second u v r s (leb-false (get_or u p 0) (get_or v q 0) e)

-- the least of two neighbouring stretches is the left one's where that is not above the right one's, and else the right one's
pub least-append : (u v : List ℕ) → 0 < length u → 0 < length v
    → least_place (u ++ v) ≡ cond (leb (get_or u (least_place u) 0) (get_or v (least_place v) 0)) (least_place u) (length u + least_place v)
least-append u v h k = least-unique (u ++ v) (append_at u v (least_place-least u h) (least_place-least v k) (leb (get_or u (least_place u) 0) (get_or v (least_place v) 0)) refl)

min-at : (u v : List ℕ) {p : ℕ} (q : ℕ) → p < length u → (t : Bool) → leb (get_or u p 0) (get_or v q 0) ≡ t
    → get_or (u ++ v) (cond t p (length u + q)) 0 ≡ min (get_or u p 0) (get_or v q 0)
min-at u v {p} q h true e = get_or-append u v 0 p h ∙ sym (min-eq_left (leb-true (get_or u p 0) (get_or v q 0) e))
min-at u v {p} q h false e = get_or-append-add u v q 0 ∙ sym (min-eq_right (le_of_lt (leb-false (get_or u p 0) (get_or v q 0) e)))

-- the least number of two neighbouring stretches is the lesser of their least numbers
pub least-value-append : (u v : List ℕ) → 0 < length u → 0 < length v
    → get_or (u ++ v) (least_place (u ++ v)) 0 ≡ min (get_or u (least_place u) 0) (get_or v (least_place v) 0)
least-value-append u v h k = rw (least-append u v h k) (min-at u v (least_place v) (least_lt u h) (leb (get_or u (least_place u) 0) (get_or v (least_place v) 0)) refl)

-- with one number more the least stays where it is, unless that number is strictly less
pub least_more : (l : List ℕ) (p : ℕ) → 0 < p → p < length l
    → least_place (take (suc p) l) ≡ cond (leb (get_or l (least_place (take p l)) 0) (get_or l p 0)) (least_place (take p l)) p
least_more l p some h =
    let long : length (take p l) ≡ p = length-take-le p l (le_of_lt h) in
    let inside : least_place (take p l) < p = rw long at (least_lt (take p l) (rw long some)) in
    rw (take-suc l p 0 h, least-append (take p l) (get_or l p 0 ∷ []) (rw long some) (zero-lt-suc 0), get_or-take p l (least_place (take p l)) 0 inside, long, add-zero)

-- ---- the entry of the least number

module _ {A : Type 0} (g : A → ℕ) (l : List A) (d : A) where
  at_value : {i : ℕ} → i < length l → get_or (map g l) i 0 ≡ g (get_or l i d)
  at_value {i} h = at_map g l d 0 i h

  -- the entry of the least number lies inside
  pub least-map-lt : 0 < length l → least_place (map g l) < length l
  least-map-lt h = rw length-map at (least_lt (map g l) (rw length-map h))

  -- no entry's number is below the least
  pub least-map-le : {i : ℕ} → i < length l → g (get_or l (least_place (map g l)) d) ≤ g (get_or l i d)
  least-map-le {i} h = rw (← at_value h, ← at_value (least-map-lt (omega arith))) (least-le (map g l) (rw length-map h))

  -- the number of every entry to the left of the least is strictly above it
  pub least-map-left : {i : ℕ} → i < least_place (map g l) → g (get_or l (least_place (map g l)) d) < g (get_or l i d)
  least-map-left {i} h =
      let b : least_place (map g l) < length l = least-map-lt (rw length-map at (least-some (map g l) h)) in
      rw (← at_value {i = i} (omega arith), ← at_value b) (least-left (map g l) h)

-- ---- windows

module _ {A : Type 0} where
  -- a stretch of a stretch at the front
  pub stretch-take : (p n q : ℕ) (x : List A) → p + n ≤ q → take n (drop p (take q x)) ≡ take n (drop p x)
  stretch-take zero n q x h = take-take n q x (omega arith)
  stretch-take (suc p) n zero x h = absurd (omega arith)
  stretch-take (suc p) n (suc q) [] h = refl
  stretch-take (suc p) n (suc q) (a ∷ x) h = stretch-take p n q x (omega arith)

  -- a stretch inside is as long as was asked for
  pub length-stretch : (n : ℕ) (x : List A) (p : ℕ) → p + n ≤ length x → length (take n (drop p x)) ≡ n
  length-stretch n x p h = length-take-le n (drop p x) (rw length-drop (omega arith))

  -- a test that holds of every entry holds of every entry of a stretch inside
  pub all-stretch : (t : A → Bool) (n : ℕ) (x : List A) (p : ℕ) (d : A) → p + n ≤ length x → all t x ≡ true → all t (take n (drop p x)) ≡ true
  all-stretch t n x p d h e =
      at_all t (take n (drop p x)) d
      (λ i k. let b : i < n = rw (length-stretch n x p h) at k in rw (get_or-take n (drop p x) i d b, get_or-drop) (all-at t x d (p + i) e (omega arith)))

  -- a stretch, each entry of it turned into something, is that stretch of all entries turned so
  pub map-stretch : {B : Type 0} (f : A → B) (n : ℕ) (x : List A) (p : ℕ) → map f (take n (drop p x)) ≡ take n (drop p (map f x))
  map-stretch f zero x p = refl
  map-stretch f (suc n) [] zero = refl
  map-stretch f (suc n) [] (suc p) = refl
  map-stretch f (suc n) (a ∷ x) zero = ap (λ l. f a ∷ l) (map-stretch f n x zero)
  map-stretch f (suc n) (a ∷ x) (suc p) = map-stretch f (suc n) x p

put-length : (n k : ℕ) (y : Word) (ys : List Word) (t : Bool) → leb n k ≡ t → length ys ≡ k - n → length (put t y ys) ≡ suc k - n
put-length n k y ys true e h = let b : n ≤ k = leb-true n k e in omega arith
put-length n k y ys false e h = let b : k < n = leb-false n k e in omega arith

-- a word has no window longer than itself
pub windows-none : (m : ℕ) (z : Word) → length z < m → windows m z ≡ []
windows-none m [] h = ap (λ (t : Bool). put t [] []) (lt-leb m 0 h)
windows-none m (a ∷ z) h = ap₂ (λ (t : Bool) (l : List Word). put t (take m (a ∷ z)) l) (lt-leb m (suc (length z)) h) (windows-none m z (omega arith))

-- how many windows of n letters a word has
pub length-windows : (n : ℕ) (x : Word) → length (windows n x) ≡ suc (length x) - n
length-windows n [] = put-length n 0 [] [] (leb n 0) refl (omega arith)
length-windows n (a ∷ x) = put-length n (suc (length x)) (take n (a ∷ x)) (windows n x) (leb n (suc (length x))) refl (length-windows n x)

-- the window at a place begins there
pub window-at : (n : ℕ) (x : Word) (p : ℕ) → p + n ≤ length x → get_or (windows n x) p [] ≡ take n (drop p x)
window-at n [] zero h = rw (le-leb n 0 (omega arith), take-nil)
window-at n [] (suc p) h = absurd (omega arith)
window-at n (a ∷ x) zero h = rw (le-leb n (suc (length x)) (omega arith))
window-at n (a ∷ x) (suc p) h = rw (le-leb n (suc (length x)) (omega arith)) (window-at n x p (omega arith))

-- the windows of a word from a place on
pub windows-drop : (n : ℕ) (x : Word) (p : ℕ) → p ≤ length x → windows n (drop p x) ≡ drop p (windows n x)
windows-drop n x p h = ext_get_or [] (windows n (drop p x)) (drop p (windows n x)) (simp (length-windows, length-drop) (omega arith)) each
  where
    each : (i : ℕ) → i < length (windows n (drop p x)) → get_or (windows n (drop p x)) i [] ≡ get_or (drop p (windows n x)) i []
    each i k =
        let b : i < suc (length x - p) - n = simp (length-windows, length-drop) at k in
        rw (get_or-drop, window-at n x (p + i) (omega arith), window-at n (drop p x) i (rw length-drop (omega arith)), drop-drop)

-- the windows of the front of a word
pub windows-take : (n : ℕ) (x : Word) (q : ℕ) → q ≤ length x → windows n (take q x) ≡ take (suc q - n) (windows n x)
windows-take n x q h =
    ext_get_or [] (windows n (take q x)) (take (suc q - n) (windows n x)) (simp (length-windows, length-take) (omega arith)) each
  where
    each : (i : ℕ) → i < length (windows n (take q x)) → get_or (windows n (take q x)) i [] ≡ get_or (take (suc q - n) (windows n x)) i []
    each i k =
        let b : i < suc (min q (length x)) - n = simp (length-windows, length-take) at k in
        let c : i < suc q - n = omega arith in
        let whole : get_or (windows n x) i [] ≡ take n (drop i x) = window-at n x i (omega arith) in
        rw (get_or-take (suc q - n) (windows n x) i [] c, whole, window-at n (take q x) i (rw length-take (omega arith)), stretch-take i n q x (omega arith))

-- n letters from a place inside are an n-mer
pub stretch-mer : (n : ℕ) (x : Word) (p : ℕ) → p + n ≤ length x → Letters x → Mer n (take n (drop p x))
stretch-mer n x p h s = (length-stretch n x p h, letters-take n (drop p x) (letters-drop p x s))

-- a window of n letters stands somewhere in the word
pub windows-mem : (n : ℕ) (x : Word) {v : Word} → Memᴰ v (windows n x) → (p : ℕ) × (p + n ≤ length x) × (v ≡ take n (drop p x))
windows-mem n x h =
    let s = mem-at (windows n x) [] h in
    let b : s.0 < suc (length x) - n = rw length-windows at s.1 in
    let c : s.0 + n ≤ length x = omega arith in
    (s.0, c, s.2 ∙ window-at n x s.0 c)

-- a window of n letters of a word is an n-mer
pub windows-mer : (n : ℕ) (x : Word) → Letters x → {v : Word} → Memᴰ v (windows n x) → Mer n v
windows-mer n x k h = let s = windows-mem n x h in rw s.2 (stretch-mer n x s.0 s.1 k)

-- ---- the vigemin

module _ (f : Form) (m : ℕ) (x : Word) where
  -- how many values of m-mers a word has
  pub length-values : length (map (value f) (windows m x)) ≡ suc (length x) - m
  length-values = length-map (windows m x) (value f) ∙ length-windows m x

  -- the value at a place is that of the m letters from there on
  pub value-at : (p : ℕ) → p + m ≤ length x → get_or (map (value f) (windows m x)) p 0 ≡ value f (take m (drop p x))
  value-at p h = at_map (value f) (windows m x) [] 0 p (rw length-windows (omega arith)) ∙ ap (value f) (window-at m x p h)

  -- the vigemin lies inside the word
  pub vigemin-inside : m ≤ length x → vigemin_at f m x + m ≤ length x
  vigemin-inside h =
      omega (arith, rw length-values at (least_lt (map (value f) (windows m x)) (rw length-values (omega arith))))

  -- the vigemin is the m letters from its position on
  pub vigemin-word : m ≤ length x → vigemin f m x ≡ take m (drop (vigemin_at f m x) x)
  vigemin-word h = window-at m x (vigemin_at f m x) (vigemin-inside h)

  -- the vigemin is an m-mer
  pub vigemin-mer : m ≤ length x → Letters x → Mer m (vigemin f m x)
  vigemin-mer h s = rw (vigemin-word h) (stretch-mer m x (vigemin_at f m x) (vigemin-inside h) s)

  -- no m-mer of the word is below the vigemin
  pub vigemin-least : (p : ℕ) → p + m ≤ length x → value f (vigemin f m x) ≤ value f (take m (drop p x))
  vigemin-least p h = rw (← window-at m x p h) (least-map-le (value f) (windows m x) [] (rw length-windows (omega arith)))

  -- every m-mer to the left of the vigemin is strictly above it
  pub vigemin-leftmost : (p : ℕ) → p < vigemin_at f m x → value f (vigemin f m x) < value f (take m (drop p x))
  vigemin-leftmost p k =
      let some : 0 < suc (length x) - m = rw length-values at (least-some (map (value f) (windows m x)) k) in
      rw (← window-at m x p (omega (arith, vigemin-inside (omega arith)))) (least-map-left (value f) (windows m x) [] k)

  -- an m-mer that none is below, and left of which each is strictly above, is the vigemin
  pub vigemin-unique : (p : ℕ) → p + m ≤ length x
      → ((q : ℕ) → q + m ≤ length x → value f (take m (drop p x)) ≤ value f (take m (drop q x)))
      → ((q : ℕ) → q < p → value f (take m (drop p x)) < value f (take m (drop q x)))
      → vigemin_at f m x ≡ p
  vigemin-unique p h lo lf =
      least-unique (map (value f) (windows m x))
      (record {
        inside = rw length-values (omega arith);
        lowest = λ i k. let b : i < suc (length x) - m = rw length-values at k in rw (value-at p h, value-at i (omega arith)) (lo i (omega arith));
        leftmost = λ i k. rw (value-at p h, value-at i (omega arith)) (lf i k);
      })

-- ---- the vigemin is w exactly if no m-mer is below w, and w is among them

not-below : (f : Form) (w v : Word) → value f w ≤ value f v → not (below f w v) ≡ true
not-below f w v h = rw (le-ltb (value f v) (value f w) h)

below-not : (f : Form) (w v : Word) → not (below f w v) ≡ true → value f w ≤ value f v
below-not f w v e = ltb-false (value f v) (value f w) (not-true (below f w v) e)

-- the word of the least value among some words is w exactly if none of them is below w, and w is among them
pub vigemin-is : (f : Form) (ws : List Word) (w : Word) → 0 < length w → ((u : Word) → Memᴰ u ws → value f u ≡ value f w → u ≡ w)
    → same (get_or ws (least_place (map (value f) ws)) []) w ≡ (all (λ v. not (below f w v)) ws && any (λ v. same v w) ws)
vigemin-is f ws w long inj = test-ext (same low w) (none && among) onward back
  where
    p : ℕ
    p = least_place (map (value f) ws)

    low : Word
    low = get_or ws p []

    none : Bool
    none = all (λ v. not (below f w v)) ws

    among : Bool
    among = any (λ v. same v w) ws

    inside : low ≡ w → p < length ws
    inside e = let n : ¬ (length ws ≤ p) = λ h. omega (arith, ap length (sym (get_or-eq_default ws [] h) ∙ e)) in omega arith

    onward : same low w ≡ true → (none && among) ≡ true
    onward e =
        let q : low ≡ w = same-eq low w e in
        let l : none ≡ true = at_all (λ v. not (below f w v)) ws [] (λ i h. not-below f w (get_or ws i []) (rw q at (least-map-le (value f) ws [] h))) in
        and_i none among l (at-any (λ v. same v w) ws [] p (inside q) e)

    equal : none ≡ true → (i : ℕ) × (i < length ws) × (same (get_or ws i []) w ≡ true) → low ≡ w
    equal e s =
        let h : p < length ws = least-map-lt (value f) ws [] (omega (arith, s.1)) in
        let le : value f low ≤ value f w = rw (same-eq (get_or ws s.0 []) w s.2) at (least-map-le (value f) ws [] s.1) in
        inj low (at_mem ws [] p h) (le_antisymm le (below-not f w low (all-at (λ v. not (below f w v)) ws [] p e h)))

    back : (none && among) ≡ true → same low w ≡ true
    back e = eq-same (equal (and_l none among e) (any_at (λ v. same v w) ws [] (and_r none among e)))
