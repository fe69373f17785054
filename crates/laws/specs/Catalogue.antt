-- The catalogue of a key: what stands on each shelf, that every k-mer stands on one shelf, and the pages of a shelf.
-- Assumes nothing.
use Rattle.std.specs.Prelude.{ℕ, ◌+◌, ◌-◌, ◌^◌, ◌≤◌, ◌<◌, min, Bool, true, false, ◌↔◌, ◌≡◌, refl, length, get_or, take, drop}
use Rattle.std.proofs.Common.{mul-zero, arith, sym, ap, ◌∙◌, length-take, length-drop, take-add, take_all, drop-drop}
use mathlib.Core.List.{List, [], ◌∷◌, ◌++◌, map, Memᴰ}
use Rattle.definitions.specs.Lists.{put, filter, total}
use Rattle.definitions.specs.Words.{Word, Mer, words, same, val}
use Rattle.definitions.specs.Vigemins.{Form, vigemin}
use Rattle.definitions.specs.Shelves.{shelf, size, page}
use Rattle.laws.specs.Tests.{test-ext, same-eq, eq-same}
use Rattle.laws.specs.Minima.{vigemin-mer}
use Rattle.laws.specs.Counting.{total-mul, map-agree, words-mer, filter-words, count, count-cong, count-one, length-words}
use Rattle.laws.specs.Counting.{Increasing, filter-increasing, filter-once, words-increasing}

-- ---- classes

module _ {A B : Type 0} where
  put-total : (t : Bool) (a : A) (b : B) (l : List A) (u : List B) (m n : ℕ) → m ≡ length u + n
      → length (put t a l) + m ≡ length (put t b u) + (length l + n)
  put-total true a b l u m n e = omega arith
  put-total false a b l u m n e = omega arith

  total-put : (p : B → Bool) (a : A) (f : B → List A) (ws : List B)
      → total (map (λ w. length (put (p w) a (f w))) ws) ≡ length (filter p ws) + total (map (λ w. length (f w)) ws)
  total-put p a f [] = refl
  total-put p a f (w ∷ ws) =
      put-total (p w) a w (f w) (filter p ws) (total (map (λ v. length (put (p v) a (f v))) ws)) (total (map (λ v. length (f v)) ws)) (total-put p a f ws)

  -- where each entry fits one class, the sizes of the classes sum up to the length
  total-classes : (fits : A → B → Bool) (l : List A) (ws : List B) → ((x : A) → Memᴰ x l → length (filter (fits x) ws) ≡ 1)
      → total (map (λ w. length (filter (λ x. fits x w) l)) ws) ≡ length l
  total-classes fits [] ws h = total-mul (λ w. 0) 0 ws ∙ mul-zero (total (map (λ w. 0) ws))
  total-classes fits (a ∷ l) ws h =
      total-put (fits a) a (λ w. filter (λ x. fits x w) l) ws
      ∙ omega (arith, h a (Memᴰ.head refl), total-classes fits l ws (λ x m. h x (Memᴰ.tail m)))

same-sym : (u v : Word) → same u v ≡ same v u
same-sym u v = test-ext (same u v) (same v u) (λ e. eq-same (sym (same-eq u v e))) (λ e. eq-same (sym (same-eq v u e)))

-- ---- shelves

module _ (f : Form) (k : ℕ) (w : Word) where
  -- the shelf of w holds the k-mers whose vigemin is w
  pub shelf-holds : (x : Word) → Memᴰ x (shelf f k w) ↔ (Mer k x × (vigemin f (length w) x ≡ w))
  shelf-holds x =
      let r = filter-words (λ y. same (vigemin f (length w) y) w) k x in
      (λ m. ((r.0 m).0, same-eq (vigemin f (length w) x) w (r.0 m).1), λ h. r.1 (h.0, eq-same h.1))

  -- the words on a shelf have increasing numbers
  pub shelf-increasing : Increasing (map val (shelf f k w))
  shelf-increasing = filter-increasing val (λ x. same (vigemin f (length w) x) w) (words k) (words-increasing k)

  -- no word stands twice on a shelf
  pub shelf-once : (i j : ℕ) → i < size f k w → j < size f k w → get_or (shelf f k w) i [] ≡ get_or (shelf f k w) j [] → i ≡ j
  shelf-once = filter-once (λ x. same (vigemin f (length w) x) w) k

module _ (f : Form) (k m : ℕ) (mk : m ≤ k) where
  inside : (x : Word) → Mer k x → Mer m (vigemin f m x)
  inside x h = vigemin-mer f m x (rw h.0 mk) h.1

  -- each k-mer stands on the shelf of its vigemin, and on no other shelf of an m-mer
  pub shelf-one : (x : Word) → Mer k x
      → Mer m (vigemin f m x) × Memᴰ x (shelf f k (vigemin f m x))
      × ((w : Word) → length w ≡ m → Memᴰ x (shelf f k w) → w ≡ vigemin f m x)
  shelf-one x h =
      let v = inside x h in
      (v, (shelf-holds f k (vigemin f m x) x).1 (h, ap (λ n. vigemin f n x) v.0), λ w e s. sym ((shelf-holds f k w x).0 s).1 ∙ ap (λ n. vigemin f n x) e)

  -- the sizes of the shelves of all m-mers sum up to the number of the k-mers
  pub sizes-total : total (map (size f k) (words m)) ≡ 4 ^ k
  sizes-total =
      ap total (map-agree (size f k) (λ w. count (λ x. same (vigemin f m x) w) k) (words m)
      (λ w h. ap (λ n. count (λ x. same (vigemin f n x) w) k) ((words-mer m w).0 h).0))
      ∙ total-classes (λ x. same (vigemin f m x)) (words k) (words m)
      (λ x h. count-cong (same (vigemin f m x)) (λ w. same w (vigemin f m x)) m (λ w n. same-sym (vigemin f m x) w)
      ∙ count-one (vigemin f m x) (inside x ((words-mer k x).0 h)))
      ∙ length-words k

-- ---- pages

module _ (f : Form) (k : ℕ) (w : Word) where
  -- a page has the n k-mers that are asked for, or those that are left from its start on, where they are fewer
  pub page-length : (start n : ℕ) → length (page f k w start n) ≡ min n (size f k w - start)
  page-length start n = length-take n (drop start (shelf f k w)) ∙ ap (min n) (length-drop start (shelf f k w))

  -- a page and the next one are, in a row, one longer page
  pub pages-join : (start a b : ℕ) → page f k w start (a + b) ≡ page f k w start a ++ page f k w (start + a) b
  pages-join start a b =
      take-add a b (drop start (shelf f k w)) ∙ ap (λ (l : List Word). page f k w start a ++ take b l) (drop-drop a start (shelf f k w))

  -- a page from place 0 that is as long as the shelf is the shelf
  pub page-whole : (n : ℕ) → size f k w ≤ n → page f k w 0 n ≡ shelf f k w
  page-whole n h = take_all n (shelf f k w) h
