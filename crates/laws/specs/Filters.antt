-- Filters: what is chosen from a list, from joined lists, and from all words of n + 1 letters.
-- Assumes nothing.
use Rattle.std.specs.Prelude.{ℕ, zero, suc, ◌+◌, ◌-◌, ◌*◌, ◌≤◌, ◌<◌, min, Bool, true, false, cond, ◌&&◌, ◌||◌, ◌⊎◌, ◌≡◌, refl, length, get_or, take, drop}
use Rattle.std.proofs.Common.{suc-le-suc, zero-add, suc-add, le_refl, le_of_suc-le-suc, not-suc-le-zero, zero-lt-suc, mul-zero, mul-suc, arith, inl, inr, ⊎_elim, sym, ap, ap₂, ◌∙◌, length-append, drop-drop, take_at, drop_at}
use Rattle.std.proofs.Math.Nat.{zero-sub, sub-zero, suc-sub-suc, min-zero, suc-min-suc}
use mathlib.Core.List.Memᴰ
use mathlib.Core.List.{List, [], ◌∷◌, ◌++◌, map, map-append, append_assoc, Memᴰ}
use Rattle.std.proofs.lemmas.List.{length-map}
use Rattle.std.proofs.Math.Seq.{take-nil}
use Rattle.definitions.specs.Lists.{put, filter, all, tabulate, total}
use Rattle.definitions.specs.Words.{Word, letters, spread, words}
use Rattle.laws.specs.Tests.{and_l, and_r, and_i, or_l, or_r, or_cases, contrary}

module _ {A : Type 0} where
  -- whether a test holds of some entry
  abbrev pub any : (A → Bool) → List A → Bool
  any p [] = false
  any p (a ∷ l) = p a || any p l

  filter-sound-at : (p : A → Bool) (a : A) (l : List A) {x : A} (t : Bool) → p a ≡ t
      → (Memᴰ x (filter p l) → Memᴰ x l × (p x ≡ true)) → Memᴰ x (put t a (filter p l)) → Memᴰ x (a ∷ l) × (p x ≡ true)
  filter-sound-at p a l true e rec m =
      ⊎_elim (λ q. (Memᴰ.head q, ap p q ∙ e)) (λ r. (Memᴰ.tail (rec r).0, (rec r).1)) (Memᴰ.cases_cons m)
  filter-sound-at p a l false e rec m = (Memᴰ.tail (rec m).0, (rec m).1)

  -- what is chosen passes the test, and was there
  pub filter-sound : (p : A → Bool) (l : List A) {x : A} → Memᴰ x (filter p l) → Memᴰ x l × (p x ≡ true)
  filter-sound p [] h = absurd (Memᴰ.not-nil h)
  filter-sound p (a ∷ l) h = filter-sound-at p a l (p a) refl (λ r. filter-sound p l r) h

  filter-complete-at : (p : A → Bool) (a : A) (l : List A) {x : A} (t : Bool) → p a ≡ t → p x ≡ true
      → (Memᴰ x l → Memᴰ x (filter p l)) → (x ≡ a) ⊎ Memᴰ x l → Memᴰ x (put t a (filter p l))
  filter-complete-at p a l true e px rec (inl q) = Memᴰ.head q
  filter-complete-at p a l true e px rec (inr m) = Memᴰ.tail (rec m)
  filter-complete-at p a l false e px rec (inl q) = absurd (contrary (p a) (ap p (sym q) ∙ px) e)
  filter-complete-at p a l false e px rec (inr m) = rec m

  -- what was there and passes the test is chosen
  pub filter-complete : (p : A → Bool) (l : List A) {x : A} → Memᴰ x l → p x ≡ true → Memᴰ x (filter p l)
  filter-complete p [] h px = absurd (Memᴰ.not-nil h)
  filter-complete p (a ∷ l) h px = filter-complete-at p a l (p a) refl px (λ m. filter-complete p l m px) (Memᴰ.cases_cons h)

  -- a filter of two lists in a row
  pub filter-append : (p : A → Bool) (u v : List A) → filter p (u ++ v) ≡ filter p u ++ filter p v
  filter-append p [] v = refl
  filter-append p (a ∷ u) v = ap (put (p a) a) (filter-append p u v) ∙ put-append (p a) a (filter p u) (filter p v)
    where
      put-append : (t : Bool) (x : A) (l r : List A) → put t x (l ++ r) ≡ put t x l ++ r
      put-append true x l r = refl
      put-append false x l r = refl

  -- tests that agree on a list choose the same of it
  pub filter-agree : (p q : A → Bool) (l : List A) → ((x : A) → Memᴰ x l → p x ≡ q x) → filter p l ≡ filter q l
  filter-agree p q [] h = refl
  filter-agree p q (a ∷ l) h =
      ap₂ (λ (t : Bool) (r : List A). put t a r) (h a (Memᴰ.head refl)) (filter-agree p q l (λ x m. h x (Memᴰ.tail m)))

  -- a test that all pass chooses all
  pub filter-every : (l : List A) → filter (λ x. true) l ≡ l
  filter-every [] = refl
  filter-every (a ∷ l) = ap (λ (r : List A). a ∷ r) (filter-every l)

  -- a test that none passes chooses none
  pub filter_none : (l : List A) → filter (λ x. false) l ≡ []
  filter_none [] = refl
  filter_none (a ∷ l) = filter_none l

  -- a fixed test beside another chooses what the other does, or none
  pub filter-fixed : (t : Bool) (p : A → Bool) (l : List A) → filter (λ z. t && p z) l ≡ cond t (filter p l) []
  filter-fixed true p l = refl
  filter-fixed false p l = filter_none l

  -- the length of a list that a test keeps
  pub length-cond : (t : Bool) (l : List A) → length (cond t l []) ≡ cond t (length l) 0
  length-cond true l = refl
  length-cond false l = refl

  put-le : (t : Bool) (a : A) (l r : List A) → length l ≤ length r → length (put t a l) ≤ suc (length r)
  put-le true a l r h = omega arith
  put-le false a l r h = omega arith

  -- no more is chosen than there is
  pub filter-le : (p : A → Bool) (l : List A) → length (filter p l) ≤ length l
  filter-le p [] = le_refl 0
  filter-le p (a ∷ l) = put-le (p a) a (filter p l) l (filter-le p l)

  put-either : (s t : Bool) (a : A) (l u v : List A) → (s ≡ true → t ≡ true → ⊥) → length l ≡ length u + length v
      → length (put (s || t) a l) ≡ length (put s a u) + length (put t a v)
  put-either true true a l u v h e = absurd (h refl refl)
  put-either true false a l u v h e = omega arith
  put-either false true a l u v h e = omega arith
  put-either false false a l u v h e = e

  -- what passes a test is all, where as many pass it as there are
  pub filter-full : (p : A → Bool) (l : List A) → length (filter p l) ≡ length l → filter p l ≡ l
  filter-full p [] e = refl
  filter-full p (a ∷ l) e = go (p a) (λ h. filter-full p l h) e
    where
      go : (t : Bool) → (length (filter p l) ≡ length l → filter p l ≡ l) → length (put t a (filter p l)) ≡ suc (length l)
          → put t a (filter p l) ≡ a ∷ l
      go true rec h = ap (λ (r : List A). a ∷ r) (rec (omega arith))
      go false rec h = absurd (omega (arith, filter-le p l))

  -- where no entry passes both of two tests, as many pass either as pass the one and the other
  pub length-either : (p q : A → Bool) (l : List A) → ((x : A) → Memᴰ x l → p x ≡ true → q x ≡ true → ⊥)
      → length (filter (λ x. p x || q x) l) ≡ length (filter p l) + length (filter q l)
  length-either p q [] h = refl
  length-either p q (a ∷ l) h =
      put-either (p a) (q a) a (filter (λ x. p x || q x) l) (filter p l) (filter q l) (h a (Memᴰ.head refl))
      (length-either p q l (λ x m. h x (Memᴰ.tail m)))

-- ---- tests over a list, by places

module _ {A : Type 0} where
  -- a test that holds of every entry holds at each place
  pub all-at : (p : A → Bool) (l : List A) (d : A) (i : ℕ) → all p l ≡ true → i < length l → p (get_or l i d) ≡ true
  all-at p [] d i e h = absurd (not-suc-le-zero h)
  all-at p (a ∷ l) d zero e h = and_l (p a) (all p l) e
  all-at p (a ∷ l) d (suc i) e h = all-at p l d i (and_r (p a) (all p l) e) (le_of_suc-le-suc h)

  -- a test that holds at each place holds of every entry
  pub at_all : (p : A → Bool) (l : List A) (d : A) → ((i : ℕ) → i < length l → p (get_or l i d) ≡ true) → all p l ≡ true
  at_all p [] d h = refl
  at_all p (a ∷ l) d h = and_i (p a) (all p l) (h zero (zero-lt-suc (length l))) (at_all p l d (λ i k. h (suc i) (omega arith)))

  one_on : (Q : A → Type 0) (a : A) (l : List A) (d : A) → (i : ℕ) × (i < length l) × Q (get_or l i d) → (i : ℕ) × (i < suc (length l)) × Q (get_or (a ∷ l) i d)
  one_on Q a l d s = (suc s.0, suc-le-suc s.1, s.2)

  -- a test that holds of some entry holds at some place
  pub any_at : (p : A → Bool) (l : List A) (d : A) → any p l ≡ true → (i : ℕ) × (i < length l) × (p (get_or l i d) ≡ true)
  any_at p [] d e = absurd (contrary false e refl)
  any_at p (a ∷ l) d e =
      ⊎_elim (λ h. (zero, zero-lt-suc (length l), h)) (λ h. one_on (λ b. p b ≡ true) a l d (any_at p l d h)) (or_cases (p a) (any p l) e)

  -- a test that holds at some place holds of some entry
  pub at-any : (p : A → Bool) (l : List A) (d : A) (i : ℕ) → i < length l → p (get_or l i d) ≡ true → any p l ≡ true
  at-any p [] d i h e = absurd (not-suc-le-zero h)
  at-any p (a ∷ l) d zero h e = or_l (p a) (any p l) e
  at-any p (a ∷ l) d (suc i) h e = or_r (p a) (any p l) (at-any p l d i (le_of_suc-le-suc h) e)

  -- what stands at a place is an entry
  pub at_mem : (l : List A) (d : A) (i : ℕ) → i < length l → Memᴰ (get_or l i d) l
  at_mem [] d i h = absurd (not-suc-le-zero h)
  at_mem (a ∷ l) d zero h = Memᴰ.head refl
  at_mem (a ∷ l) d (suc i) h = Memᴰ.tail (at_mem l d i (le_of_suc-le-suc h))

  -- an entry stands at some place
  pub mem-at : (l : List A) (d : A) {a : A} → Memᴰ a l → (i : ℕ) × (i < length l) × (a ≡ get_or l i d)
  mem-at [] d h = absurd (Memᴰ.not-nil h)
  mem-at (b ∷ l) d {a} h =
      ⊎_elim (λ e. (zero, zero-lt-suc (length l), e)) (λ m. one_on (λ c. a ≡ c) b l d (mem-at l d m)) (Memᴰ.cases_cons h)

  -- what a function gives, at a place
  pub at_map : {B : Type 0} (f : A → B) (l : List A) (d : A) (e : B) (i : ℕ) → i < length l → get_or (map f l) i e ≡ f (get_or l i d)
  at_map f [] d e i h = absurd (not-suc-le-zero h)
  at_map f (a ∷ l) d e zero h = refl
  at_map f (a ∷ l) d e (suc i) h = at_map f l d e i (le_of_suc-le-suc h)

-- no more is taken than there is
pub take-least : {A : Type 0} (l : List A) (k : ℕ) → take (min (length l) k) l ≡ take k l
take-least [] k = take-nil (min 0 k) ∙ sym (take-nil k)
take-least (x ∷ l) zero = rw min-zero
take-least {A} (x ∷ l) (suc k) = rw suc-min-suc (ap (λ (r : List A). x ∷ r) (take-least l k))

module _ {A : Type 0} where
  -- what lies behind a place of two lists in a row
  drop-append : (r : ℕ) (p a : List A) → drop r (p ++ a) ≡ drop r p ++ drop (r - length p) a
  drop-append zero p a = rw zero-sub
  drop-append (suc r) [] a = rw sub-zero
  drop-append (suc r) (x ∷ p) a = rw suc-sub-suc (drop-append r p a)

  -- the first entries of two lists in a row
  take-append : (n : ℕ) (p a : List A) → take n (p ++ a) ≡ take n p ++ take (n - length (take n p)) a
  take-append zero p a = refl
  take-append (suc n) [] a = rw sub-zero
  take-append (suc n) (x ∷ p) a = rw suc-sub-suc (ap (λ (l : List A). x ∷ l) (take-append n p a))

  -- n entries from a place on of two lists in a row: those of the first, and what is left of n of the second
  pub part-append : (n r : ℕ) (p a : List A)
      → take n (drop r (p ++ a)) ≡ take n (drop r p) ++ take (n - length (take n (drop r p))) (drop (r - length p) a)
  part-append n r p a = ap (take n) (drop-append r p a) ∙ take-append n (drop r p) (drop (r - length p) a)

module _ {A B : Type 0} (f : A → B) where
  -- the first of what a function gives
  pub take-map : (n : ℕ) (l : List A) → take n (map f l) ≡ map f (take n l)
  take-map zero l = refl
  take-map (suc n) [] = refl
  take-map (suc n) (a ∷ l) = ap (λ (r : List B). f a ∷ r) (take-map n l)

  -- what a function gives from a place on
  pub drop-map : (n : ℕ) (l : List A) → drop n (map f l) ≡ map f (drop n l)
  drop-map zero l = refl
  drop-map (suc n) [] = refl
  drop-map (suc n) (a ∷ l) = drop-map n l

module _ {A : Type 0} where
  -- a table of f has n entries
  pub length-tabulate : (f : ℕ → A) (n : ℕ) → length (tabulate f n) ≡ n
  length-tabulate f zero = refl
  length-tabulate f (suc n) = ap suc (length-tabulate (λ i. f (suc i)) n)

  -- and at place i stands f i
  pub tabulate-at : (f : ℕ → A) (n i : ℕ) (d : A) → i < n → get_or (tabulate f n) i d ≡ f i
  tabulate-at f zero i d h = absurd (not-suc-le-zero h)
  tabulate-at f (suc n) zero d h = refl
  tabulate-at f (suc n) (suc i) d h = tabulate-at (λ j. f (suc j)) n i d (le_of_suc-le-suc h)

  -- functions that agree below n have one table
  pub tabulate-agree : {f g : ℕ → A} (n : ℕ) → ((i : ℕ) → i < n → f i ≡ g i) → tabulate f n ≡ tabulate g n
  tabulate-agree {f = f} {g = g} zero h = refl
  tabulate-agree {f = f} {g = g} (suc n) h =
      ap₂ (λ (a : A) (l : List A). a ∷ l) (h zero (omega arith)) (tabulate-agree {f = λ i. f (suc i)} {g = λ i. g (suc i)} n (λ i k. h (suc i) (omega arith)))

  -- a table from a place on is a table
  pub drop-tabulate : (f : ℕ → A) (n r : ℕ) → drop r (tabulate f n) ≡ tabulate (λ i. f (r + i)) (n - r)
  drop-tabulate f n zero = simp (zero-add, sub-zero)
  drop-tabulate f zero (suc r) = rw zero-sub
  drop-tabulate f (suc n) (suc r) = simp (suc-add, suc-sub-suc) (drop-tabulate (λ i. f (suc i)) n r)

module _ {A B : Type 0} where
  -- the lists that f gives for some entries, in a row
  abbrev pub joined : (A → List B) → List A → List B
  joined f [] = []
  joined f (a ∷ l) = f a ++ joined f l

  -- the length of lists in a row is the sum of their lengths
  pub length-joined : (f : A → List B) (l : List A) → length (joined f l) ≡ total (map (λ a. length (f a)) l)
  length-joined f [] = refl
  length-joined f (a ∷ l) = length-append (f a) (joined f l) ∙ ap (λ n. length (f a) + n) (length-joined f l)

  -- where each entry gives n entries, n times as many
  pub length-joined-even : (f : A → List B) (n : ℕ) → ((a : A) → length (f a) ≡ n) → (l : List A) → length (joined f l) ≡ n * length l
  length-joined-even f n e [] = sym (mul-zero n)
  length-joined-even f n e (a ∷ l) = rw (length-append, e a, length-joined-even f n e l, mul-suc) (omega arith)

  -- and those of an entry stand at n times its place
  pub joined_at : (f : A → List B) (n : ℕ) → ((a : A) → length (f a) ≡ n) → (l : List A) (d : A) (i : ℕ) → i < length l
      → take n (drop (n * i) (joined f l)) ≡ f (get_or l i d)
  joined_at f n e [] d i h = absurd (not-suc-le-zero h)
  joined_at f n e (a ∷ l) d zero h = rw mul-zero (take_at (f a) (joined f l) n (e a))
  joined_at f n e (a ∷ l) d (suc i) h =
      let place : n * suc i ≡ n + n * i = omega (arith, mul-suc n i) in
      rw (place, ← drop-drop (n * i) n (f a ++ joined f l), drop_at (f a) (joined f l) n (e a)) (joined_at f n e l d i (le_of_suc-le-suc h))

  -- what some entries and then some more give
  pub joined-append : (f : A → List B) (u v : List A) → joined f (u ++ v) ≡ joined f u ++ joined f v
  joined-append f [] v = refl
  joined-append f (a ∷ u) v = rw (joined-append f u v, append_assoc)

  -- a function of a table
  pub map-tabulate : (g : A → B) (f : ℕ → A) (n : ℕ) → map g (tabulate f n) ≡ tabulate (λ i. g (f i)) n
  map-tabulate g f zero = refl
  map-tabulate g f (suc n) = ap (λ (r : List B). g (f zero) ∷ r) (map-tabulate g (λ i. f (suc i)) n)

  -- a filter of what a function gives
  pub filter_map : (p : B → Bool) (g : A → B) (l : List A) → filter p (map g l) ≡ map g (filter (λ z. p (g z)) l)
  filter_map p g [] = refl
  filter_map p g (a ∷ l) = ap (put (p (g a)) (g a)) (filter_map p g l) ∙ map-put (p (g a)) a (filter (λ z. p (g z)) l)
    where
      map-put : (t : Bool) (x : A) (r : List A) → put t (g x) (map g r) ≡ map g (put t x r)
      map-put true x r = refl
      map-put false x r = refl

module _ {A B C : Type 0} where
  -- a function of what some entries give
  pub map-joined : (g : B → C) (f : A → List B) (l : List A) → map g (joined f l) ≡ joined (λ a. map g (f a)) l
  map-joined g f [] = refl
  map-joined g f (a ∷ l) = rw (map-append, map-joined g f l)

-- how many words some letters begin
pub length-begun : (F : ℕ → List Word) (ls : List ℕ) → length (joined (λ a. map (λ (z : Word). a ∷ z) (F a)) ls) ≡ total (map (λ a. length (F a)) ls)
length-begun F ls = length-joined (λ a. map (λ (z : Word). a ∷ z) (F a)) ls ∙ simp length-map

-- a filter over words that a list of letters begins
pub filter-spread : (p : Word → Bool) (ls : List ℕ) (ws : List Word)
    → filter p (spread ls ws) ≡ joined (λ a. map (λ (z : Word). a ∷ z) (filter (λ z. p (a ∷ z)) ws)) ls
filter-spread p [] ws = refl
filter-spread p (a ∷ ls) ws =
    filter-append p (map (λ (z : Word). a ∷ z) ws) (spread ls ws) ∙ ap₂ (λ (u v : List Word). u ++ v) (filter_map p (λ (z : Word). a ∷ z) ws) (filter-spread p ls ws)

-- a filter over all words of n + 1 letters splits by the first letter
pub filter-split : (p : Word → Bool) (n : ℕ)
    → filter p (words (suc n)) ≡ joined (λ a. map (λ (z : Word). a ∷ z) (filter (λ z. p (a ∷ z)) (words n))) letters
filter-split p n = filter-spread p letters (words n)
