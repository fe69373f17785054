-- The size of a shelf is the sum of antemers times postmers: each k-mer of the shelf is cut where w first stands.
-- Assumes nothing.
use Rattle.std.specs.Prelude.{ℕ, zero, suc, ◌+◌, ◌-◌, ◌*◌, ◌≤◌, ◌<◌, Bool, true, false, not, ◌&&◌, ◌||◌, ◌≡◌, refl, length, get_or, take, drop}
use Rattle.std.proofs.Math.Bool.{and-true, and-false, or-false, and_assoc, and_comm}
use Rattle.std.proofs.Common.{true≢false, sym, ap, ap₂, ◌∙◌, add_comm, add_assoc, arith, le-ltb, ne_eqb, drop_of_length-le, length-take-le, take-take, take-add}
use mathlib.Core.List.{List, [], ◌∷◌, ◌++◌, Memᴰ}
use Rattle.definitions.specs.Lists.{all, tabulate, total}
use Rattle.definitions.specs.Words.{Word, Letters, Mer, same}
use Rattle.definitions.specs.Vigemins.{Form, keyed, value, below, above, windows, vigemin}
use Rattle.definitions.specs.Shelves.{size, antemer, postmer, begins, antemers, postmers}
use Rattle.laws.specs.Tests.{and_l, and-cong, contrary, same-eq, eq-same}
use Rattle.laws.specs.Filters.{any}
use Rattle.laws.specs.Orders.{Ranking, OneToOne, ranked, keyed-law, value-one, above-neither}
use Rattle.laws.specs.Minima.{length-windows, window-at, windows-drop, windows-take, windows-mer, vigemin-is}
use Rattle.laws.specs.Counting.{count, count-cong, count_none, count-either, count-product}
use Rattle.laws.specs.Split.{rows_sum}

-- ---- a test that splits into two

-- t is p or q, and never both
abbrev Splits : Bool → Bool → Bool → Type 0
Splits t p q = (t ≡ (p || q)) × (p ≡ true → q ≡ true → ⊥)

-- where a test splits into two, so does its count
count-splits : (t p q : Word → Bool) (n : ℕ) → ((x : Word) → Mer n x → Splits (t x) (p x) (q x)) → count t n ≡ count p n + count q n
count-splits t p q n h = count-cong t (λ x. p x || q x) n (λ x k. (h x k).0) ∙ count-either p q n (λ x k. (h x k).1)

-- a test beside both parts
splits-beside : (c a b d a' b' : Bool) → Splits (a && b) (a && d) (a' && b') → Splits (c && a && b) (c && a && d) (c && a' && b')
splits-beside true a b d a' b' h = h
splits-beside false a b d a' b' h = (refl, λ p q. true≢false (sym p))

-- an entry (c not low, e equal, g high) before others (p none low, q some equal): the first equal one is this one or one of those
splits-first : (c e g p q : Bool) → Splits c e g → Splits (c && p && (e || q)) (e && (c && p)) (g && true && (p && q))
splits-first c true true p q s = absurd (s.1 refl refl)
splits-first c true false p q s = (and-true (c && p) ∙ sym (or-false (c && p)), λ a b. true≢false (sym b))
splits-first c false g p q s =
    (and_assoc c p q ∙ ap (λ (t : Bool). t && (p && q)) (s.0 ∙ sym (and-true g)), λ a b. true≢false (sym a))

-- ---- the first equal entry of a list

module _ {A : Type 0} (not_low equal high : A → Bool) where
  -- before place a all entries are high, and from there on none is low and some is equal
  abbrev equal_from : ℕ → List A → Bool
  equal_from a l = all high (take a l) && (all not_low (drop a l) && any equal (drop a l))

  -- before place a all entries are high, the entry there is equal, and from there on none is low
  abbrev equal_at : A → ℕ → List A → Bool
  equal_at d a l = all high (take a l) && (equal (get_or l a d) && all not_low (drop a l))

  -- past the end no entry is equal
  equal-past : (a : ℕ) (l : List A) → length l ≤ a → equal_from a l ≡ false
  equal-past a l h = rw (drop_of_length-le l h) (and-false (all high (take a l)))

  -- the first equal entry stands at place a or beyond it
  equal-splits : (d : A) (a : ℕ) (l : List A) → a < length l → ((v : A) → Memᴰ v l → Splits (not_low v) (equal v) (high v))
      → Splits (equal_from a l) (equal_at d a l) (equal_from (suc a) l)
  equal-splits d a [] h s = absurd (omega arith)
  equal-splits d zero (v ∷ l) h s = splits-first (not_low v) (equal v) (high v) (all not_low l) (any equal l) (s v (Memᴰ.head refl))
  equal-splits d (suc a) (v ∷ l) h s =
      splits-beside (high v) (all high (take a l)) (all not_low (drop a l) && any equal (drop a l)) (equal (get_or l a d) && all not_low (drop a l))
      (all high (take (suc a) l)) (all not_low (drop (suc a) l) && any equal (drop (suc a) l))
      (equal-splits d a l (omega arith) (λ u k. s u (Memᴰ.tail k)))

-- ---- sums

-- the last entry of a sum
pub total-last : (f : ℕ → ℕ) (n : ℕ) → total (tabulate f (suc n)) ≡ total (tabulate f n) + f n
total-last f zero = add_comm (f zero) zero
total-last f (suc n) = ap (λ (r : ℕ). f zero + r) (total-last (λ i. f (suc i)) n) ∙ sym (add_assoc (f zero) (total (tabulate (λ i. f (suc i)) n)) (f (suc n)))

-- ---- where w first stands

-- before a test a first one matters only where the second holds
and-cong-right : (a b c : Bool) → (c ≡ true → a ≡ b) → (a && c) ≡ (b && c)
and-cong-right a b c h = and_comm a c ∙ and-cong c a b h ∙ and_comm c b

-- where w stands at place a, the m-mers that begin before are those of the first a letters followed by w
windows-before : (w : Word) (a : ℕ) (x : Word) → a + length w ≤ length x → begins w (drop a x) ≡ true
    → take a (windows (length w) x) ≡ take (length (take a x)) (windows (length w) (take a x ++ w))
windows-before w a x h e =
    let seam : take (a + length w) x ≡ take a x ++ w = take-add a (length w) x ∙ ap (λ (z : Word). take a x ++ z) (same-eq (take (length w) (drop a x)) w e) in
    rw (length-take-le a x (omega arith), ← seam, windows-take (length w) x (a + length w) h)
    (sym (take-take a (suc (a + length w) - length w) (windows (length w) x) (omega arith)))

module _ (f : Form) (w : Word) where
  -- w stands among the m-mers from place a on, none of them is below w, and those before are above w
  abbrev stands_from : ℕ → Word → Bool
  stands_from a x = equal_from (λ v. not (below f w v)) (λ v. same v w) (above f w) a (windows (length w) x)

  -- w stands at place a, no m-mer from there on is below w, and those before are above w
  abbrev stands_at : ℕ → Word → Bool
  stands_at a x = equal_at (λ v. not (below f w v)) (λ v. same v w) (above f w) [] a (windows (length w) x)

  -- too few letters for w to stand from place a on
  from_past : (a k : ℕ) → k < a + length w → count (stands_from a) k ≡ 0
  from_past a k h =
      count-cong (stands_from a) (λ x. false) k
      (λ x i. equal-past (λ v. not (below f w v)) (λ v. same v w) (above f w) a (windows (length w) x) (rw length-windows (omega (arith, i.0))))
      ∙ count_none k

  -- a word in which w first stands at place a is an antemer of a letters and a postmer that begins with w
  at_cut : (a : ℕ) (x : Word) → a + length w ≤ length x → stands_at a x ≡ (antemer f w (take a x) && (begins w (drop a x) && postmer f w (drop a x)))
  at_cut a x h =
      ap₂ (λ (v : Word) (l : List Word). all (above f w) (take a (windows (length w) x)) && (same v w && all (λ u. not (below f w u)) l))
      (window-at (length w) x a h) (sym (windows-drop (length w) x a (omega arith)))
      ∙ and-cong-right (all (above f w) (take a (windows (length w) x))) (antemer f w (take a x)) (begins w (drop a x) && postmer f w (drop a x))
      (λ e. ap (all (above f w)) (windows-before w a x h (and_l (begins w (drop a x)) (postmer f w (drop a x)) e)))

  -- the words in which w first stands at place a are counted by antemers times postmers
  at-product : (a n : ℕ) → count (stands_at a) (a + (length w + n)) ≡ antemers f w a * postmers f w n
  at-product a n =
      count-cong (stands_at a) (λ x. antemer f w (take a x) && (begins w (drop a x) && postmer f w (drop a x))) (a + (length w + n))
      (λ x h. at_cut a x (omega (arith, h.0)))
      ∙ count-product (antemer f w) (λ z. begins w z && postmer f w z) a (length w + n)

  module _ (pos : 0 < length w) (apart : (v : Word) → Mer (length w) v → value f v ≡ value f w → v ≡ w) where
    -- an m-mer that is not below w is w or above w
    word-splits : (v : Word) → Mer (length w) v → Splits (not (below f w v)) (same v w) (above f w v)
    word-splits v h = (go (same v w) refl, λ e q. contrary (above f w v) q (le-ltb (value f w) (value f v) (omega (arith, equal e))))
      where
        equal : same v w ≡ true → value f v ≡ value f w
        equal e = ap (value f) (same-eq v w e)

        go : (t : Bool) → same v w ≡ t → not (below f w v) ≡ (t || above f w v)
        go true e = ap not (le-ltb (value f v) (value f w) (omega (arith, equal e)))
        go false e =
            sym (above-neither (value f v) (value f w) ∙ ap (λ (t : Bool). not t && not (below f w v))
            (ne_eqb (value f v) (value f w) (λ q. contrary (same v w) (eq-same (apart v h q)) e)))

    -- the shelf of w holds the words in which w stands and that have no m-mer below w
    size-from : (k : ℕ) → size f k w ≡ count (stands_from zero) k
    size-from k =
        count-cong (λ x. same (vigemin f (length w) x) w) (stands_from zero) k
        (λ x h. vigemin-is f (windows (length w) x) w pos (λ u i. apart u (windows-mer (length w) x h.1 i)))

    -- w first stands at place a or beyond it
    from-splits : (a k : ℕ) → a + length w ≤ k → count (stands_from a) k ≡ count (stands_at a) k + count (stands_from (suc a)) k
    from-splits a k h =
        count-splits (stands_from a) (stands_at a) (stands_from (suc a)) k
        (λ x i. equal-splits (λ v. not (below f w v)) (λ v. same v w) (above f w) [] a (windows (length w) x)
        (rw length-windows (omega (arith, i.0))) (λ v j. word-splits v (windows-mer (length w) x i.1 j)))

    -- the words in which w first stands at place a or beyond it, with n places left, by sums of antemers times postmers
    from-sum : (k n a : ℕ) → suc k ≡ a + (length w + n) → count (stands_from a) k ≡ rows_sum f w k n
    from-sum k zero a h = from_past a k (omega arith)
    from-sum k (suc n) a h =
        let whole : k ≡ a + (length w + n) = omega arith in
        let before : a ≡ k - length w - n = omega arith in
        from-splits a k (omega arith)
        ∙ ap₂ (λ (s t : ℕ). s + t) (ap (count (stands_at a)) whole ∙ at-product a n ∙ ap (λ (i : ℕ). antemers f w i * postmers f w n) before)
        (from-sum k n (suc a) (omega arith))
        ∙ add_comm (antemers f w (k - length w - n) * postmers f w n) (rows_sum f w k n)
        ∙ sym (total-last (λ p. antemers f w (k - length w - p) * postmers f w p) n)

-- ---- the size of a shelf

module _ (ρ : Ranking) (one : OneToOne ρ) (w : Word) (hw : Letters w) (pos : 0 < length w) where
  -- the size of a shelf is the sum, over the ways to cut k − m letters in two, of antemers times postmers
  pub size-sum : (k : ℕ) → length w ≤ k → size (ranked ρ) k w ≡ rows_sum (ranked ρ) w k (suc (k - length w))
  size-sum k h =
      size-from (ranked ρ) w pos apart k ∙ from-sum (ranked ρ) w pos apart k (suc (k - length w)) zero (omega arith)
    where
      apart : (v : Word) → Mer (length w) v → value (ranked ρ) v ≡ value (ranked ρ) w → v ≡ w
      apart v i = value-one ρ one v w i.1 hw i.0

-- the size of a shelf under a key is the sum, over the ways to cut k − m letters in two, of antemers times postmers
pub keyed-size-sum : (key w : Word) → Letters key → Letters w → 0 < length w → (k : ℕ) → length w ≤ k
    → size (keyed key) k w ≡ rows_sum (keyed key) w k (suc (k - length w))
keyed-size-sum key w hk hw pos k h =
    keyed-law (λ ρ f. size f k w ≡ rows_sum f w k (suc (k - length w))) (λ ρ one. size-sum ρ one w hw pos k h) key hk
