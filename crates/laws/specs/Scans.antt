-- The scan of a sequence: what it holds, and the scan of a part. That its positions never go back stands in proofs/.
-- Assumes nothing.
use Rattle.std.specs.Prelude.{ℕ, zero, suc, ◌+◌, ◌-◌, ◌≤◌, ◌<◌, List, [], ◌∷◌, map, ◌≡◌, refl, length, get_or, take, drop}
use Rattle.std.proofs.Common.{sym, ap, ◌∙◌, le_of_suc-le-suc, not-suc-le-zero, arith, length-take, length-drop, drop-drop, ext_get_or, get_or-drop, get_or-take}
use Rattle.std.proofs.lemmas.List.{length-map}
use Rattle.definitions.specs.Words.{Word}
use Rattle.definitions.specs.Vigemins.{Form, value, windows, vigemin_at, vigemin, positions, scan}
use Rattle.laws.specs.Filters.{at_map}
use Rattle.laws.specs.Minima.{stretch-take, length-stretch, length-windows, window-at, vigemin-inside, vigemin-word, vigemin-least, vigemin-leftmost}

-- m letters from place i of the k letters from place p on are those from place p + i on
pub stretch-stretch : (i m p k : ℕ) (s : Word) → i + m ≤ k → take m (drop i (take k (drop p s))) ≡ take m (drop (p + i) s)
stretch-stretch i m p k s h = rw (stretch-take i m k (drop p s) h, drop-drop)

length-positions : (f : Form) (m p : ℕ) (xs : List Word) → length (positions f m p xs) ≡ length xs
length-positions f m p [] = refl
length-positions f m p (x ∷ xs) = ap suc (length-positions f m (suc p) xs)

positions-at : (f : Form) (m p : ℕ) (xs : List Word) (i : ℕ) → i < length xs → get_or (positions f m p xs) i 0 ≡ p + i + vigemin_at f m (get_or xs i [])
positions-at f m p [] i h = absurd (not-suc-le-zero h)
positions-at f m p (x ∷ xs) zero h = omega arith
positions-at f m p (x ∷ xs) (suc i) h = omega (arith, positions-at f m (suc p) xs i (le_of_suc-le-suc h))

module _ (f : Form) (k m : ℕ) (s : Word) where
  -- a scan has a position for each window
  pub length-scan : length (scan f k m s) ≡ suc (length s) - k
  length-scan = length-positions f m 0 (windows k s) ∙ length-windows k s

  -- the position for a window is that of its vigemin, counted from the start of the sequence
  pub scan-at : (p : ℕ) → p + k ≤ length s → get_or (scan f k m s) p 0 ≡ p + vigemin_at f m (take k (drop p s))
  scan-at p h =
      rw (positions-at f m 0 (windows k s) p (rw length-windows (omega arith)), window-at k s p h) (omega arith)

  module _ (p : ℕ) (mk : m ≤ k) (h : p + k ≤ length s) where
    inner : length (take k (drop p s)) ≡ k
    inner = length-stretch k s p h

    fits : m ≤ length (take k (drop p s))
    fits = rw inner mk

    inside : vigemin_at f m (take k (drop p s)) + m ≤ k
    inside = rw inner at (vigemin-inside f m (take k (drop p s)) fits)

    in_window : (q : ℕ) → p ≤ q → q + m ≤ p + k → take m (drop (q - p) (take k (drop p s))) ≡ take m (drop q s)
    in_window q a b = let e : p + (q - p) ≡ q = omega arith in rw (stretch-stretch (q - p) m p k s (omega arith), e)

    -- the position for a window lies in the window, with all the m letters from there on
    pub scan-inside : (p ≤ get_or (scan f k m s) p 0) × (get_or (scan f k m s) p 0 + m ≤ p + k)
    scan-inside = rw (scan-at p h) (omega (arith, inside))

    -- the m letters of the sequence at the position for a window are the window's vigemin
    pub scan-word : take m (drop (get_or (scan f k m s) p 0) s) ≡ vigemin f m (take k (drop p s))
    scan-word = rw (scan-at p h, vigemin-word f m (take k (drop p s)) fits, stretch-stretch (vigemin_at f m (take k (drop p s))) m p k s inside)

    -- no m-mer of a window is below the one at the window's position
    pub scan-least : (q : ℕ) → p ≤ q → q + m ≤ p + k → value f (take m (drop (get_or (scan f k m s) p 0) s)) ≤ value f (take m (drop q s))
    scan-least q a b = rw (scan-word, ← in_window q a b) (vigemin-least f m (take k (drop p s)) (q - p) (rw inner (omega arith)))

    -- every m-mer of a window to the left of the window's position is strictly above the one there
    pub scan-leftmost : (q : ℕ) → p ≤ q → q < get_or (scan f k m s) p 0 → value f (take m (drop (get_or (scan f k m s) p 0) s)) < value f (take m (drop q s))
    scan-leftmost q a b =
        let c : q < p + vigemin_at f m (take k (drop p s)) = rw (scan-at p h) at b in
        rw (scan-word, ← in_window q a (omega (arith, inside))) (vigemin-leftmost f m (take k (drop p s)) (q - p) (omega arith))

-- the scan of n letters from place p on is that stretch of the whole scan, counted from there
pub scan-part : (f : Form) (k m : ℕ) (s : Word) (p n : ℕ) → p + n ≤ length s
    → map (λ q. p + q) (scan f k m (take n (drop p s))) ≡ take (suc n - k) (drop p (scan f k m s))
scan-part f k m s p n h = ext_get_or 0 (map (λ q. p + q) part) (take (suc n - k) (drop p whole)) (left ∙ sym right) each
  where
    part : List ℕ
    part = scan f k m (take n (drop p s))

    whole : List ℕ
    whole = scan f k m s

    left : length (map (λ q. p + q) part) ≡ suc n - k
    left = rw (length-map, length-scan, length-stretch n s p h)

    right : length (take (suc n - k) (drop p whole)) ≡ suc n - k
    right = simp (length-take, length-drop, length-scan) (omega arith)

    each : (i : ℕ) → i < length (map (λ q. p + q) part) → get_or (map (λ q. p + q) part) i 0 ≡ get_or (take (suc n - k) (drop p whole)) i 0
    each i j =
        let b : i < suc n - k = rw left at j in
        let l : get_or part i 0 ≡ i + vigemin_at f m (take k (drop (p + i) s)) =
        rw (scan-at f k m (take n (drop p s)) i (rw (length-stretch n s p h) (omega arith)), stretch-stretch i k p n s (omega arith)) in
        let r : get_or whole (p + i) 0 ≡ p + i + vigemin_at f m (take k (drop (p + i) s)) = scan-at f k m s (p + i) (omega arith) in
        rw (at_map (λ q. p + q) part 0 0 i (rw length-map at j), get_or-take (suc n - k) (drop p whole) i 0 b, get_or-drop) (omega arith)
