-- Counting: which words of n letters there are, how many of them pass a test, and that their numbers stand in increasing order.
-- Assumes nothing.
use Rattle.std.specs.Prelude.{ℕ, zero, suc, ◌+◌, ◌*◌, ◌^◌, ◌≤◌, ◌<◌, Bool, true, false, cond, ◌&&◌, ◌||◌, ◌↔◌, ◌≡◌, refl, ltb, eqb, length, get_or, take, drop}
use Rattle.std.proofs.Common.{zero-add, add-zero, suc-add, add-suc, add_assoc, add_comm, zero-mul, one-mul, suc-mul, add-mul, pow-suc, ne_of_lt, arith, ⊎_elim, sym, ap, ap₂, ◌∙◌, subst, ltb-true, eqb-true}
use Rattle.std.proofs.Math.Nat.{pow-succ'}
use mathlib.Core.List.Memᴰ
use mathlib.Core.List.{List, [], ◌∷◌, ◌++◌, map, map-map, map-append, Memᴰ}
use Rattle.std.proofs.Math.Path.{fun_ext}
use Rattle.std.proofs.lemmas.List.{length-map}
use Rattle.std.proofs.Math.ListN.{get_or-map}
use Rattle.definitions.specs.Lists.{put, filter, tabulate, total}
use Rattle.definitions.specs.Words.{Word, Letters, Mer, letters, spread, words, same, val}
use Rattle.laws.specs.Numbers.{each-letter, letters-at}
use Rattle.laws.specs.Filters.{map-tabulate, at_mem, filter-sound, filter-complete, filter-agree, filter-every, filter_none, filter-le, length-either, filter-fixed, length-cond, length-begun, filter-split}

-- ---- lists

module _ {A : Type 0} where
  -- a common factor comes out of a sum
  pub total-mul : (f : A → ℕ) (c : ℕ) (l : List A) → total (map (λ a. f a * c) l) ≡ total (map f l) * c
  total-mul f c [] = sym (zero-mul c)
  total-mul f c (a ∷ l) = ap (λ n. f a * c + n) (total-mul f c l) ∙ sym (add-mul (f a) (total (map f l)) c)

  tabulate-append : (f : ℕ → A) (a b : ℕ) → tabulate f (a + b) ≡ tabulate f a ++ tabulate (λ i. f (a + i)) b
  tabulate-append f zero b = simp zero-add
  tabulate-append f (suc a) b = simp suc-add (ap (λ (r : List A). f zero ∷ r) (tabulate-append (λ i. f (suc i)) a b))

module _ {A B : Type 0} where
  -- functions that agree on a list give the same for it
  pub map-agree : (f g : A → B) (l : List A) → ((x : A) → Memᴰ x l → f x ≡ g x) → map f l ≡ map g l
  map-agree f g [] h = refl
  map-agree f g (a ∷ l) h = ap₂ (λ (b : B) (r : List B). b ∷ r) (h a (Memᴰ.head refl)) (map-agree f g l (λ x m. h x (Memᴰ.tail m)))

-- ---- the words of n letters

letter-mem : (a : ℕ) → a < 4 → Memᴰ a letters
letter-mem a h = subst (λ b. Memᴰ b letters) (letters-at h) (at_mem letters 0 a h)

-- the letters are below four
pub letters-lt : {a : ℕ} → Memᴰ a letters → a < 4
letters-lt {a} m = ltb-true a 4 (filter-sound (λ b. ltb b 4) letters m).1

spread-sound : (ls : List ℕ) (ws : List Word) {x : Word} → Memᴰ x (spread ls ws)
    → (a : ℕ) × (v : Word) × Memᴰ a ls × Memᴰ v ws × (a ∷ v ≡ x)
spread-sound [] ws h = absurd (Memᴰ.not-nil h)
spread-sound (b ∷ ls) ws {x} h =
    ⊎_elim (λ m. let r = Memᴰ.of_map (λ (v : Word). b ∷ v) ws m in (b, r.0, Memᴰ.head refl, r.1, r.2))
    (λ m. let r = spread-sound ls ws m in (r.0, r.1, Memᴰ.tail r.2, r.3, r.4))
    (Memᴰ.append_cases (map (λ (v : Word). b ∷ v) ws) h)

spread-complete : {a : ℕ} {v : Word} {ls : List ℕ} (ws : List Word) → Memᴰ a ls → Memᴰ v ws → Memᴰ (a ∷ v) (spread ls ws)
spread-complete {a} {v} ws (Memᴰ.head {xs = ls} e) m =
    Memᴰ.append_left (spread ls ws) (subst (λ b. Memᴰ (a ∷ v) (map (λ (z : Word). b ∷ z) ws)) e (Memᴰ.map (λ (z : Word). a ∷ z) m))
spread-complete ws (Memᴰ.tail {x = b} h) m = Memᴰ.append_right (map (λ (z : Word). b ∷ z) ws) (spread-complete ws h m)

words-sound : (n : ℕ) {x : Word} → Memᴰ x (words n) → Mer n x
words-sound zero m = subst (Mer zero) (sym (Memᴰ.eq_of_singleton m)) (refl, tt)
words-sound (suc n) m =
    let r = spread-sound letters (words n) m in
    let v = words-sound n r.3 in
    subst (Mer (suc n)) r.4 (ap suc v.0, (letters-lt r.2, v.1))

words-complete : (x : Word) → Letters x → Memᴰ x (words (length x))
words-complete [] h = Memᴰ.head refl
words-complete (a ∷ x) h = spread-complete (words (length x)) (letter-mem a h.0) (words-complete x h.1)

-- the words of n letters are the n-mers
pub words-mer : (n : ℕ) (x : Word) → Memᴰ x (words n) ↔ Mer n x
words-mer n x = (λ m. words-sound n m, λ h. subst (λ k. Memᴰ x (words k)) h.0 (words-complete x h.1))

-- what a test chooses of the words of n letters are the n-mers that pass it
pub filter-words : (p : Word → Bool) (n : ℕ) (x : Word) → Memᴰ x (filter p (words n)) ↔ (Mer n x × (p x ≡ true))
filter-words p n x =
    (λ m. let r = filter-sound p (words n) m in ((words-mer n x).0 r.0, r.1), λ h. filter-complete p (words n) ((words-mer n x).1 h.0) h.1)

-- tests that agree on the n-mers choose the same of them
pub filter-cong : (p q : Word → Bool) (n : ℕ) → ((x : Word) → Mer n x → p x ≡ q x) → filter p (words n) ≡ filter q (words n)
filter-cong p q n h = filter-agree p q (words n) (λ x m. h x ((words-mer n x).0 m))

-- ---- counts

-- how many words of n letters pass a test
abbrev pub count : (Word → Bool) → ℕ → ℕ
count p n = length (filter p (words n))

-- tests that agree on the n-mers count the same
pub count-cong : (p q : Word → Bool) (n : ℕ) → ((x : Word) → Mer n x → p x ≡ q x) → count p n ≡ count q n
count-cong p q n h = ap length (filter-cong p q n h)

-- a count splits by the first letter
pub count-split : (p : Word → Bool) (n : ℕ) → count p (suc n) ≡ total (map (λ a. count (λ z. p (a ∷ z)) n) letters)
count-split p n =
    ap length (filter-split p n) ∙ length-begun (λ a. filter (λ z. p (a ∷ z)) (words n)) letters

-- a test that every word passes counts 4 ^ n
pub count-every : (n : ℕ) → count (λ x. true) n ≡ 4 ^ n
count-every zero = refl
count-every (suc n) = rw (count-split (λ x. true) n, pow-suc) (omega (arith, count-every n))

-- a test that no word passes counts none
pub count_none : (n : ℕ) → count (λ x. false) n ≡ 0
count_none n = ap length (filter_none (words n))

-- there are 4 ^ n words of n letters
pub length-words : (n : ℕ) → length (words n) ≡ 4 ^ n
length-words n = ap length (sym (filter-every (words n))) ∙ count-every n

-- a count is at most 4 ^ n
pub count-le : (p : Word → Bool) (n : ℕ) → count p n ≤ 4 ^ n
count-le p n = rw (← length-words n) (filter-le p (words n))

-- where no n-mer passes both of two tests, the counts add
pub count-either : (p q : Word → Bool) (n : ℕ) → ((x : Word) → Mer n x → p x ≡ true → q x ≡ true → ⊥)
    → count (λ x. p x || q x) n ≡ count p n + count q n
count-either p q n h = length-either p q (words n) (λ x m. h x ((words-mer n x).0 m))

-- a fixed test beside another counts what the other does, or none
pub count-fixed : (t : Bool) (p : Word → Bool) (n : ℕ) → count (λ x. t && p x) n ≡ cond t (count p n) 0
count-fixed t p n = ap length (filter-fixed t p (words n)) ∙ length-cond t (filter p (words n))

put-times : (t : Bool) (n : ℕ) → cond t n 0 ≡ length (put {A = Word} t [] []) * n
put-times true n = sym (one-mul n)
put-times false n = sym (zero-mul n)

-- of a test of the first a letters and one of the rest, the counts multiply
pub count-product : (p q : Word → Bool) (a n : ℕ) → count (λ x. p (take a x) && q (drop a x)) (a + n) ≡ count p a * count q n
count-product p q zero n = rw zero-add (count-fixed (p []) q n ∙ put-times (p []) (count q n))
count-product p q (suc a) n =
    ap (count (λ x. p (take (suc a) x) && q (drop (suc a) x))) (suc-add a n)
    ∙ count-split (λ x. p (take (suc a) x) && q (drop (suc a) x)) (a + n)
    ∙ ap (λ f. total (map f letters)) (fun_ext (λ b. count-product (λ z. p (b ∷ z)) q a n))
    ∙ total-mul (λ b. count (λ z. p (b ∷ z)) a) (count q n) letters
    ∙ ap (λ c. c * count q n) (sym (count-split p a))

count-self : (u : Word) → Letters u → count (λ x. same x u) (length u) ≡ 1
count-self [] h = refl
count-self (b ∷ u) h =
    count-split (λ x. same x (b ∷ u)) (length u)
    ∙ ap (λ f. total (map f letters)) (fun_ext (λ a. count-fixed (eqb a b) (λ x. same x u) (length u) ∙ ap (λ c. cond (eqb a b) c 0) (count-self u h.1)))
    ∙ eqb-true (total (map (λ a. cond (eqb a b) 1 0) letters)) 1 (each-letter (λ c. eqb (total (map (λ a. cond (eqb a c) 1 0) letters)) 1) refl h.0)

-- one word of n letters is u
pub count-one : (u : Word) {n : ℕ} → Mer n u → count (λ x. same x u) n ≡ 1
count-one u h = subst (λ n. count (λ x. same x u) n ≡ 1) h.0 (count-self u h.1)

-- the words that begin with u are counted by what follows u
pub count-first : (u : Word) (q : Word → Bool) (n : ℕ) → Letters u
    → count (λ x. same (take (length u) x) u && q (drop (length u) x)) (length u + n) ≡ count q n
count-first u q n h = count-product (λ x. same x u) q (length u) n ∙ ap (λ c. c * count q n) (count-self u h) ∙ one-mul (count q n)

-- ---- increasing numbers

-- each of some numbers is above a
abbrev pub Above : ℕ → List ℕ → Type 0
Above a [] = Unit {0}
Above a (b ∷ l) = (a < b) × Above a l

-- each number is below all that follow it
abbrev pub Increasing : List ℕ → Type 0
Increasing [] = Unit {0}
Increasing (a ∷ l) = Above a l × Increasing l

above_at : {a : ℕ} (l : List ℕ) → Above a l → (i : ℕ) → i < length l → a < get_or l i 0
above_at [] h i b = absurd (omega arith)
above_at (c ∷ l) h zero b = h.0
above_at (c ∷ l) h (suc i) b = above_at l h.1 i (omega arith)

-- of increasing numbers, the one at the lower place is the lower
pub increasing-lt : (l : List ℕ) → Increasing l → (i j : ℕ) → i < j → j < length l → get_or l i 0 < get_or l j 0
increasing-lt [] h i j ij b = absurd (omega arith)
increasing-lt (a ∷ l) h i zero ij b = absurd (omega arith)
increasing-lt (a ∷ l) h zero (suc j) ij b = above_at l h.0 j (omega arith)
increasing-lt (a ∷ l) h (suc i) (suc j) ij b = increasing-lt l h.1 i j (omega arith) (omega arith)

-- of increasing numbers, no two are equal
pub increasing-once : (l : List ℕ) → Increasing l → (i j : ℕ) → i < length l → j < length l → get_or l i 0 ≡ get_or l j 0 → i ≡ j
increasing-once l h i j a b e =
    let up : ¬ (i < j) = λ ij. ne_of_lt (increasing-lt l h i j ij b) e in
    let down : ¬ (j < i) = λ ji. ne_of_lt (increasing-lt l h j i ji a) (sym e) in
    omega arith

-- some entries that are all one entry, and have increasing numbers, are this entry alone
pub increasing-alone : {A : Type 0} (v : A → ℕ) (u : A) (l : List A) → ((x : A) → Memᴰ x l → x ≡ u) → Increasing (map v l) → 0 < length l → l ≡ u ∷ []
increasing-alone v u [] h i p = absurd (omega arith)
increasing-alone v u (x ∷ []) h i p = ap (λ a. a ∷ []) (h x (Memᴰ.head refl))
increasing-alone v u (x ∷ y ∷ l) h i p =
    absurd (ne_of_lt i.0.0 (ap v (h x (Memᴰ.head refl) ∙ sym (h y (Memᴰ.tail (Memᴰ.head refl))))))

module _ {A : Type 0} (v : A → ℕ) where
  put-above : (t : Bool) (a : ℕ) (x : A) (l : List A) → a < v x → Above a (map v l) → Above a (map v (put t x l))
  put-above true a x l h r = (h, r)
  put-above false a x l h r = r

  filter-above : (p : A → Bool) (a : ℕ) (l : List A) → Above a (map v l) → Above a (map v (filter p l))
  filter-above p a [] h = tt
  filter-above p a (x ∷ l) h = put-above (p x) a x (filter p l) h.0 (filter-above p a l h.1)

  put-increasing : (t : Bool) (x : A) (l : List A) → Above (v x) (map v l) → Increasing (map v l) → Increasing (map v (put t x l))
  put-increasing true x l h r = (h, r)
  put-increasing false x l h r = r

  -- of entries with increasing numbers, what a test chooses has increasing numbers
  pub filter-increasing : (p : A → Bool) (l : List A) → Increasing (map v l) → Increasing (map v (filter p l))
  filter-increasing p [] h = tt
  filter-increasing p (x ∷ l) h = put-increasing (p x) x (filter p l) (filter-above p (v x) l h.0) (filter-increasing p l h.1)

tabulate-above : {a : ℕ} (f : ℕ → ℕ) (n : ℕ) → ((i : ℕ) → a < f i) → Above a (tabulate f n)
tabulate-above f zero h = tt
tabulate-above f (suc n) h = (h zero, tabulate-above (λ i. f (suc i)) n (λ i. h (suc i)))

tabulate-increasing : (f : ℕ → ℕ) (n : ℕ) → ((i j : ℕ) → i < j → f i < f j) → Increasing (tabulate f n)
tabulate-increasing f zero h = tt
tabulate-increasing f (suc n) h =
    (tabulate-above (λ i. f (suc i)) n (λ i. h zero (suc i) (omega arith)), tabulate-increasing (λ i. f (suc i)) n (λ i j l. h (suc i) (suc j) (omega arith)))

-- ---- the numbers of the words

module _ (n : ℕ) (known : map val (words n) ≡ tabulate (λ i. i) (4 ^ n)) where
  letter-numbers : (a : ℕ) → map val (map (λ (z : Word). a ∷ z) (words n)) ≡ tabulate (λ i. a * 4 ^ n + i) (4 ^ n)
  letter-numbers a =
      map-map val (λ (z : Word). a ∷ z) (words n)
      ∙ map-agree (λ z. val (a ∷ z)) (λ z. a * 4 ^ n + val z) (words n) (λ z m. rw ((words-mer n z).0 m).0)
      ∙ sym (map-map (λ i. a * 4 ^ n + i) val (words n))
      ∙ ap (map (λ i. a * 4 ^ n + i)) known
      ∙ map-tabulate (λ i. a * 4 ^ n + i) (λ i. i) (4 ^ n)

  spread-numbers : (m s : ℕ) → map val (spread (tabulate (λ i. s + i) m) (words n)) ≡ tabulate (λ i. s * 4 ^ n + i) (m * 4 ^ n)
  spread-numbers zero s = rw zero-mul
  spread-numbers (suc m) s =
      let f : ℕ → ℕ = λ i. s * 4 ^ n + i in
      let cut : tabulate f (4 ^ n + m * 4 ^ n) ≡ tabulate f (4 ^ n) ++ tabulate (λ i. suc s * 4 ^ n + i) (m * 4 ^ n) =
      simp (suc-mul, add_assoc) (tabulate-append f (4 ^ n) (m * 4 ^ n)) in
      simp (add-zero, add-suc, ← suc-add, map-append, suc-mul m, add_comm (m * 4 ^ n))
      (ap₂ (λ (u v : List ℕ). u ++ v) (letter-numbers s) (spread-numbers m (suc s)) ∙ sym cut)

-- the words of n letters have the numbers 0, 1 and so on, below 4 ^ n
pub words-numbers : (n : ℕ) → map val (words n) ≡ tabulate (λ i. i) (4 ^ n)
words-numbers zero = refl
words-numbers (suc n) = spread-numbers n (words-numbers n) 4 0 ∙ simp (zero-mul, zero-add, pow-succ')

-- the words of n letters have increasing numbers
pub words-increasing : (n : ℕ) → Increasing (map val (words n))
words-increasing n = rw (words-numbers n) (tabulate-increasing (λ i. i) (4 ^ n) (λ i j l. l))

-- no word stands twice among those of n letters that pass a test
pub filter-once : (p : Word → Bool) (n i j : ℕ) → i < count p n → j < count p n → get_or (filter p (words n)) i [] ≡ get_or (filter p (words n)) j [] → i ≡ j
filter-once p n i j a b e =
    let l = filter p (words n) in
    increasing-once (map val l) (filter-increasing val p (words n) (words-increasing n)) i j (rw (length-map l val) a) (rw (length-map l val) b)
    (get_or-map val l i [] ∙ ap val e ∙ sym (get_or-map val l j []))
