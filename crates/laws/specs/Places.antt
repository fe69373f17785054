-- Places below n: whether a test holds at some place, and at which one first.
-- Assumes nothing.
use Rattle.std.specs.Prelude.{ℕ, zero, suc, ◌-◌, ◌≤◌, ◌<◌, Bool, true, false, cond, not, ◌&&◌, ◌||◌, List, [], ◌∷◌, ◌≡◌, refl, leb, ltb, length, get_or, drop}
use Rattle.std.proofs.Math.Bool.{or-false, or_assoc}
use Rattle.std.proofs.Common.{sym, ap, ap₂, ◌∙◌, le_of_suc-le-suc, not-suc-le-zero, zero-lt-suc, arith, leb-true, leb-false, lt-ltb, drop-cons}
use Rattle.std.proofs.Math.Dec.{leb-suc-suc}
use Rattle.std.proofs.Math.Seq.{drop-length}
use Rattle.definitions.specs.Lists.{all, first_place, tabulate}
use Rattle.laws.specs.Tests.{test-ext, contrary}
use Rattle.laws.specs.Filters.{any, any_at, at-any, length-tabulate, tabulate-at, tabulate-agree}

module _ {A : Type 0} (p : A → Bool) where
  -- the first place at which a test holds, where it holds at one, is such a place
  pub first_place-holds : (l : List A) (d : A) → first_place p l < length l → p (get_or l (first_place p l) d) ≡ true
  first_place-holds [] d h = absurd (not-suc-le-zero h)
  first_place-holds (a ∷ l) d h = go (p a) refl (first_place-holds l d) h
    where
      go : (t : Bool) → p a ≡ t → (first_place p l < length l → p (get_or l (first_place p l) d) ≡ true)
          → cond t zero (suc (first_place p l)) < suc (length l) → p (get_or (a ∷ l) (cond t zero (suc (first_place p l))) d) ≡ true
      go true e rec k = e
      go false e rec k = rec (le_of_suc-le-suc k)

  -- the first place at which a test holds is at most the length
  pub first_place-le : (l : List A) → first_place p l ≤ length l
  first_place-le [] = omega arith
  first_place-le (a ∷ l) = go (p a) (first_place-le l)
    where
      go : (t : Bool) → first_place p l ≤ length l → cond t zero (suc (first_place p l)) ≤ suc (length l)
      go true h = omega arith
      go false h = omega arith

  -- the first place from i on: none further where the test holds at i, else one more than from i + 1 on
  pub first_place-look : (l : List A) (d : A) (i : ℕ) {t : Bool} → i < length l → p (get_or l i d) ≡ t
      → first_place p (drop i l) ≡ cond t zero (suc (first_place p (drop (suc i) l)))
  first_place-look l d i h e = rw (drop-cons l i d h, e)

  -- at the end none is left
  pub first_place-end : (l : List A) {i : ℕ} → i ≡ length l → first_place p (drop i l) ≡ zero
  first_place-end l e = rw (e, drop-length)

  -- a test fails somewhere exactly if the first place at which it fails is below the length
  pub first_place-all : (l : List A) → ltb (first_place (λ a. not (p a)) l) (length l) ≡ not (all p l)
  first_place-all [] = refl
  first_place-all (a ∷ l) = go (p a) (first_place-all l)
    where
      f : ℕ
      f = first_place (λ b. not (p b)) l

      go : (t : Bool) → ltb f (length l) ≡ not (all p l) → ltb (cond (not t) zero (suc f)) (suc (length l)) ≡ not (t && all p l)
      go true rec = leb-suc-suc (suc f) (length l) ∙ rec
      go false rec = lt-ltb zero (suc (length l)) (zero-lt-suc (length l))

-- ---- some place

-- whether a test holds of some number below n
abbrev pub any_to : ℕ → (ℕ → Bool) → Bool
any_to n p = any (λ t. t) (tabulate p n)

-- tests that agree below n hold at some place alike
pub any_to-cong : (n : ℕ) {p q : ℕ → Bool} → ((l : ℕ) → l < n → p l ≡ q l) → any_to n p ≡ any_to n q
any_to-cong n h = ap (any (λ t. t)) (tabulate-agree n h)

-- where a test holds at no place it does not hold at some
pub any_to-none : (n : ℕ) {p : ℕ → Bool} → ((l : ℕ) → l < n → p l ≡ false) → any_to n p ≡ false
any_to-none zero h = refl
any_to-none (suc n) h = ap₂ (λ (s t : Bool). s || t) (h zero (omega arith)) (any_to-none n (λ l k. h (suc l) (omega arith)))

-- the last place split off
pub any_to-last : (n : ℕ) (p : ℕ → Bool) → any_to (suc n) p ≡ (any_to n p || p n)
any_to-last zero p = or-false (p zero)
any_to-last (suc n) p = ap (λ (t : Bool). p zero || t) (any_to-last n (λ l. p (suc l))) ∙ sym (or_assoc (p zero) (any_to n (λ l. p (suc l))) (p (suc n)))

-- one of two tests at some place
pub any_to-or : (n : ℕ) (p q : ℕ → Bool) → any_to n (λ l. p l || q l) ≡ (any_to n p || any_to n q)
any_to-or zero p q = refl
any_to-or (suc n) p q = ap (λ (t : Bool). p zero || q zero || t) (any_to-or n (λ l. p (suc l)) (λ l. q (suc l))) ∙ exchange (p zero) (q zero) (any_to n (λ l. p (suc l))) (any_to n (λ l. q (suc l)))
  where
    exchange : (a b c d : Bool) → (a || b || (c || d)) ≡ (a || c || (b || d))
    exchange true b c d = refl
    exchange false true true d = refl
    exchange false true false d = refl
    exchange false false c d = refl

-- a test that holds of some number below n is found there
pub any_to-find : (n : ℕ) (p : ℕ → Bool) → any_to n p ≡ true → (l : ℕ) × (l < n) × (p l ≡ true)
any_to-find n p e =
    let r = any_at (λ t. t) (tabulate p n) false e in
    let h : r.0 < n = rw length-tabulate at r.1 in
    (r.0, h, sym (tabulate-at p n r.0 false h) ∙ r.2)

-- and makes the whole hold
pub any_to-there : (n : ℕ) (p : ℕ → Bool) (l : ℕ) → l < n → p l ≡ true → any_to n p ≡ true
any_to-there n p l h e = at-any (λ t. t) (tabulate p n) false l (rw length-tabulate h) (tabulate-at p n l false h ∙ e)

-- a test that another implies below n
pub any_to-mono : (n : ℕ) (p q : ℕ → Bool) → ((l : ℕ) → p l ≡ true → q l ≡ true) → any_to n p ≡ true → any_to n q ≡ true
any_to-mono n p q h e = let r = any_to-find n p e in any_to-there n q r.0 r.1 (h r.0 r.2)

-- going through the numbers below n from above
pub any_to-down : (n : ℕ) (p : ℕ → Bool) → any_to n (λ q. p (n - suc q)) ≡ any_to n p
any_to-down n p =
    test-ext (any_to n (λ q. p (n - suc q))) (any_to n p)
    (λ e. let r = any_to-find n (λ q. p (n - suc q)) e in any_to-there n p (n - suc r.0) (omega (arith, r.1)) r.2)
    (λ e. let r = any_to-find n p e in
    any_to-there n (λ q. p (n - suc q)) (n - suc r.0) (omega (arith, r.1))
    (ap p (let k : r.0 < n = r.1 in let q : n - suc (n - suc r.0) ≡ r.0 = omega arith in q) ∙ r.2))

-- a test that fails from i on is tried below i alone
pub any_to-stop : (i n : ℕ) (p : ℕ → Bool) → i ≤ n → ((l : ℕ) → i ≤ l → l < n → p l ≡ false) → any_to n p ≡ any_to i p
any_to-stop i n p h none =
    test-ext (any_to n p) (any_to i p)
    (λ e. let r = any_to-find n p e in go r.0 r.1 r.2 (leb i r.0) refl)
    (λ e. let r = any_to-find i p e in any_to-there n p r.0 (omega (arith, r.1)) r.2)
  where
    go : (l : ℕ) → l < n → p l ≡ true → (t : Bool) → leb i l ≡ t → any_to i p ≡ true
    go l k e true q = absurd (contrary (p l) e (none l (leb-true i l q) k))
    go l k e false q = any_to-there i p l (leb-false i l q) e

-- ---- the first place

-- the least number below n of which a test holds; n where it holds of none
abbrev pub first_to : ℕ → (ℕ → Bool) → ℕ
first_to n p = first_place (λ t. t) (tabulate p n)

-- it is at most n
pub first_to-le : (n : ℕ) (p : ℕ → Bool) → first_to n p ≤ n
first_to-le n p = rw length-tabulate at (first_place-le (λ t. t) (tabulate p n))

-- a number at which a test holds, and below which it does not, is the least
pub first_to-is : (n : ℕ) (p : ℕ → Bool) (q : ℕ) → q < n → p q ≡ true → ((l : ℕ) → l < q → p l ≡ false) → first_to n p ≡ q
first_to-is zero p q h e low = absurd (not-suc-le-zero h)
first_to-is (suc n) p zero h e low = ap (λ (t : Bool). cond t zero (suc (first_to n (λ q. p (suc q))))) e
first_to-is (suc n) p (suc q) h e low =
    ap₂ (λ (t : Bool) (k : ℕ). cond t zero (suc k)) (low zero (omega arith)) (first_to-is n (λ l. p (suc l)) q (le_of_suc-le-suc h) e (λ l k. low (suc l) (omega arith)))

-- where the test holds at no place it is n
pub first_to-none : (n : ℕ) (p : ℕ → Bool) → ((l : ℕ) → l < n → p l ≡ false) → first_to n p ≡ n
first_to-none zero p h = refl
first_to-none (suc n) p h = ap₂ (λ (t : Bool) (k : ℕ). cond t zero (suc k)) (h zero (omega arith)) (first_to-none n (λ l. p (suc l)) (λ l k. h (suc l) (omega arith)))

-- the test holds there
pub first_to-holds : (n : ℕ) (p : ℕ → Bool) → first_to n p < n → p (first_to n p) ≡ true
first_to-holds n p h =
    sym (tabulate-at p n (first_to n p) false h) ∙ first_place-holds (λ t. t) (tabulate p n) false (rw length-tabulate h)

-- and at no place before
pub first_to-before : (n : ℕ) (p : ℕ → Bool) (q : ℕ) → q < first_to n p → p q ≡ false
first_to-before zero p q h = absurd (not-suc-le-zero h)
first_to-before (suc n) p q h = go (p zero) refl q h (λ l k. first_to-before n (λ i. p (suc i)) l k)
  where
    go : (t : Bool) → p zero ≡ t → (l : ℕ) → l < cond t zero (suc (first_to n (λ i. p (suc i)))) → ((k : ℕ) → k < first_to n (λ i. p (suc i)) → p (suc k) ≡ false) → p l ≡ false
    go true e l k rec = absurd (not-suc-le-zero k)
    go false e zero k rec = e
    go false e (suc l) k rec = rec l (le_of_suc-le-suc k)

-- tests that agree below n hold first at one place
pub first_to-cong : (n : ℕ) (p q : ℕ → Bool) → ((l : ℕ) → l < n → p l ≡ q l) → first_to n p ≡ first_to n q
first_to-cong n p q h = ap (first_place (λ t. t)) (tabulate-agree n h)
