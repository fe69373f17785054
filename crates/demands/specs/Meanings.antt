-- The catalogue's notions once more, each said of all positions and not computed, so that a reader can hold the demands against document 01's
-- sentences; and that they are those of `definitions`. A key and a word have m letters.
-- Assumes nothing.
use Rattle.std.specs.Prelude.{ℕ, ◌+◌, ◌≤◌, ◌<◌, Bool, true, not, ◌↔◌, ◌≡◌, refl, length, get_or, take, drop}
use mathlib.Core.List.{List, [], ◌++◌, Memᴰ}
use Rattle.std.proofs.Common.{sym, ap, subst, ◌∙◌, arith, lt-ltb, le-ltb, ltb-true, ltb-false, length-take, length-append, get_or-take}
use Rattle.std.proofs.lemmas.Bool.{not-true}
use Rattle.definitions.specs.Lists.{filter}
use Rattle.definitions.specs.Words.{Word, Mer, words, val, ◌⊕◌}
use Rattle.definitions.specs.Vigemins.{keyed, value, below, above, windows, vigemin, vigemin_at}
use Rattle.definitions.specs.Shelves.{antemer, postmer}
use Rattle.laws.specs.Filters.{all-at, at_all}
use Rattle.laws.specs.Minima.{window-at, length-windows, vigemin-inside, vigemin-word, vigemin-least, vigemin-leftmost, vigemin-unique}
use Rattle.laws.specs.Counting.{filter-words, filter-once}

-- ---- the notions

-- the m-mer of a word at a position
abbrev pub mer_at : ℕ → Word → ℕ → Word
mer_at m x p = take m (drop p x)

-- the number by which a word is compared: that of its sum with the key
abbrev pub keyed_number : Word → Word → ℕ
keyed_number key v = val (v ⊕ key)

-- w is the vigemin of x, at position p: it stands there; no m-mer of x is below it, once keyed; and each to its left is strictly above
pub record VigeminAt (key w x : Word) (p : ℕ) : Type 0 where
  pub inside : p + length w ≤ length x
  pub stands : mer_at (length w) x p ≡ w
  pub least : (q : ℕ) → q + length w ≤ length x → keyed_number key w ≤ keyed_number key (mer_at (length w) x q)
  pub leftmost : (q : ℕ) → q < p → keyed_number key w < keyed_number key (mer_at (length w) x q)

-- w is the vigemin of x
abbrev pub Vigemin : Word → Word → Word → Type 0
Vigemin key w x = (p : ℕ) × VigeminAt key w x p

-- y is an antemer of w: each m-mer of y followed by w, except the last, is strictly above w, once both are keyed
abbrev pub Antemer : Word → Word → Word → Type 0
Antemer key w y = (p : ℕ) → p < length y → keyed_number key w < keyed_number key (mer_at (length w) (y ++ w) p)

-- z is a postmer of w: no m-mer of z is below w, once both are keyed
abbrev pub Postmer : Word → Word → Word → Type 0
Postmer key w z = (p : ℕ) → p + length w ≤ length z → keyed_number key w ≤ keyed_number key (mer_at (length w) z p)

-- n is how many words there are of which P holds: a list of n words has them all, each once, and no other
pub record Number (P : Word → Type 0) (n : ℕ) : Type 0 where
  pub list : List Word
  pub holds : (x : Word) → Memᴰ x list ↔ P x
  pub once : (i j : ℕ) → i < length list → j < length list → get_or list i [] ≡ get_or list j [] → i ≡ j
  pub long : length list ≡ n

-- ---- they are those of `definitions`

module _ (key w x : Word) (fits : length w ≤ length x) where
  -- the vigemin that is computed is the vigemin
  pub vigemin-means : vigemin (keyed key) (length w) x ≡ w → VigeminAt key w x (vigemin_at (keyed key) (length w) x)
  vigemin-means e =
      let f = keyed key in
      let m = length w in
      record {
        inside = vigemin-inside f m x fits;
        stands = sym (vigemin-word f m x fits) ∙ e;
        least = λ q h. subst (λ (v : Word). value f v ≤ value f (mer_at m x q)) e (vigemin-least f m x q h);
        leftmost = λ q h. subst (λ (v : Word). value f v < value f (mer_at m x q)) e (vigemin-leftmost f m x q h);
      }

  -- and it is computed, with its position
  pub means-vigemin : {p : ℕ} → VigeminAt key w x p → (vigemin (keyed key) (length w) x ≡ w) × (vigemin_at (keyed key) (length w) x ≡ p)
  means-vigemin {p} v =
      let f = keyed key in
      let m = length w in
      let at : vigemin_at f m x ≡ p =
      vigemin-unique f m x p v.inside (λ q h. rw v.stands (v.least q h)) (λ q h. rw v.stands (v.leftmost q h)) in
      (vigemin-word f m x fits ∙ ap (mer_at m x) at ∙ v.stands, at)

module _ (key w : Word) where
  -- so for antemers
  pub antemer-means : (y : Word) → (antemer (keyed key) w y ≡ true) ↔ Antemer key w y
  antemer-means y = (there, back)
    where
      many : length (take (length y) (windows (length w) (y ++ w))) ≡ length y
      many = length-take (length y) (windows (length w) (y ++ w)) ∙ omega (arith, length-windows (length w) (y ++ w), length-append y w)

      at : (p : ℕ) → p < length y → get_or (take (length y) (windows (length w) (y ++ w))) p [] ≡ mer_at (length w) (y ++ w) p
      at p h = get_or-take (length y) (windows (length w) (y ++ w)) p [] h ∙ window-at (length w) (y ++ w) p (omega (arith, length-append y w))

      there : antemer (keyed key) w y ≡ true → Antemer key w y
      there e p h = ltb-true (keyed_number key w) (keyed_number key (mer_at (length w) (y ++ w) p)) (rw (at p h) at (all-at (above (keyed key) w) (take (length y) (windows (length w) (y ++ w))) [] p e (rw many h)))

      back : Antemer key w y → antemer (keyed key) w y ≡ true
      back a = at_all (above (keyed key) w) (take (length y) (windows (length w) (y ++ w))) [] (λ p h. let b : p < length y = rw many at h in rw (at p b) (lt-ltb (keyed_number key w) (keyed_number key (mer_at (length w) (y ++ w) p)) (a p b)))

  -- and for postmers
  pub postmer-means : (z : Word) → (postmer (keyed key) w z ≡ true) ↔ Postmer key w z
  postmer-means z = (there, back)
    where
      there : postmer (keyed key) w z ≡ true → Postmer key w z
      there e p h =
          ltb-false (keyed_number key (mer_at (length w) z p)) (keyed_number key w)
          (not-true (below (keyed key) w (mer_at (length w) z p)) (rw (window-at (length w) z p h) at (all-at (λ v. not (below (keyed key) w v)) (windows (length w) z) [] p e (rw length-windows (omega arith)))))

      back : Postmer key w z → postmer (keyed key) w z ≡ true
      back a =
          at_all (λ v. not (below (keyed key) w v)) (windows (length w) z) []
          (λ p h. let b : p + (length w) ≤ length z = omega (arith, rw length-windows at h) in
          rw (window-at (length w) z p b, le-ltb (keyed_number key (mer_at (length w) z p)) (keyed_number key w) (a p b)))

-- the words of n letters that pass a test are as many as those of which P holds, where the test tells P
pub number-filter : (t : Word → Bool) (n : ℕ) (P : Word → Type 0) → ((x : Word) → Mer n x → (t x ≡ true) ↔ P x)
    → Number (λ x. Mer n x × P x) (length (filter t (words n)))
number-filter t n P tells =
    let l = filter t (words n) in
    record {
      list = l;
      holds =
          λ x. (
            λ h. let r = (filter-words t n x).0 h in (r.0, (tells x r.0).0 r.1),
            λ h. (filter-words t n x).1 (h.0, (tells x h.0).1 h.1),
          );
      once = filter-once t n;
      long = refl;
    }
