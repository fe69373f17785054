-- Signs by numbers: R(i,j), the sign of a letter against ai, and how many letters Σ1 has.
-- Assumes nothing.
use Prim.Native.Nat.{ℕ, zero, suc, ◌+◌, ◌-◌, ◌*◌, ◌/◌, ◌%◌, ◌^◌, ◌≤◌, ◌<◌}
use mathlib.Core.Bool.{Bool, true, false, cond, ◌||◌}
use mathlib.Core.List.{[], ◌∷◌}
use mathlib.Core.Path.{◌≡◌, refl, sym, ap, ap₂, ◌∙◌}
use native.Mathlib.Nat.{not-suc-le-zero, mod-eq_of_lt}
use native.Mathlib.Omega.{arith}
use borrow.Author.Tests.{ltb-true, ltb-false, lt-ltb, le-ltb, lt-leb, eqb-true, eqb-false}
use lib.Bits.{bit_xor, xor_shr}
use lib.Dec.{ltb, eqb}
use lib.ListN.{length, get_or, take, drop}
use lib.Pow.{shr_lt}
use lib.Seq.{length-take-le}
use Rattle.std.specs.Ordering.{is_lt, is_eq, is_gt}
use Rattle.std.specs.declared.cmp.Ordering.{Ordering}
use Rattle.definitions.specs.Lists.{filter, all}
use Rattle.definitions.specs.Words.{Word, Letters, letters, sum, ◌⊕◌, val, word as word_of}
use Rattle.definitions.specs.Vigemins.{value}
use Rattle.laws.specs.Numbers.{four-pos, four-pow, length_digits, digits-below, number_digits, take-digits, drop-digits, letters-take, letters-drop, letter-lt, each-letter, sum_lt, val-sum, letter-cut}
use Rattle.laws.specs.Orders.{Ranking, OneToOne, ranked, key_ranking, keyed-ranked, keyed-one-to-one, rank_same}
use Rattle.laws.specs.Prefixes.{goes_on-at}
use Rattle.laws.proofs.RulesHold.{sign-equal as equal-sign}
use Rattle.laws.specs.Rules.{Sign, sign, is_less, is_equal, less, equal, greater, stretch, own, R, Σ}
use Rattle.powers.specs.Powers.{power_outcome, power-four}
use Rattle.powers.specs.Signs.{signed}
use Rattle.counters.specs.Settings.{SetTo}

-- ---- signs

-- below as a sign and as an ordering
pub signed-less : {r : Ordering} (s : Sign) → r ≡ signed s → is_lt r ≡ is_less s
signed-less less e = ap is_lt e
signed-less equal e = ap is_lt e
signed-less greater e = ap is_lt e

-- and equal
pub signed_equal : {r : Ordering} (s : Sign) → r ≡ signed s → is_eq r ≡ is_equal s
signed_equal less e = ap is_eq e
signed_equal equal e = ap is_eq e
signed_equal greater e = ap is_eq e

-- the sign of two numbers is above where the first is above the second
signed_above : (x y : ℕ) → is_gt (signed (sign x y)) ≡ ltb y x
signed_above x y = go (ltb x y) (eqb x y) refl refl
  where
    go : (t u : Bool) → ltb x y ≡ t → eqb x y ≡ u → is_gt (signed (cond t less (cond u equal greater))) ≡ ltb y x
    go true u p q = sym (le-ltb y x (omega (arith, ltb-true x y p)))
    go false true p q = sym (le-ltb y x (omega (arith, eqb-true x y q)))
    go false false p q = sym (lt-ltb y x (omega (arith, ltb-false x y p, eqb-false x y q)))

-- and equal where they are equal
signed_same : (x y : ℕ) → is_eq (signed (sign x y)) ≡ eqb x y
signed_same x y = signed_equal (sign x y) refl ∙ equal-sign x y

-- ---- words by numbers

-- the first n letters of a word of m letters
pub front-number : (n m x : ℕ) → n ≤ m → x < 4 ^ m → val (take n (word_of m x)) ≡ x / 2 ^ (2 * (m - n))
front-number n m x h small =
    ap val (take-digits 4 n m x h)
    ∙ number_digits four-pos n (x / 4 ^ (m - n))
    ∙ rw (four-pow (m - n), four-pow n)
    (mod-eq_of_lt (shr_lt (2 * n) (2 * (m - n)) (let e : 2 * n + 2 * (m - n) ≡ 2 * m = omega arith in rw (e, ← four-pow m) small)))

-- the letters of a word of m letters from place p up to place i
pub stretch-number : (p i m x : ℕ) → i ≤ m → val (drop p (take i (word_of m x))) ≡ x / 2 ^ (2 * (m - i)) % 4 ^ (i - p)
stretch-number p i m x h =
    ap (λ (v : Word). val (drop p v)) (take-digits 4 i m x h)
    ∙ ap val (drop-digits 4 p i (x / 4 ^ (m - i)))
    ∙ number_digits four-pos (i - p) (x / 4 ^ (m - i))
    ∙ ap (λ (k : ℕ). x / k % 4 ^ (i - p)) (four-pow (m - i))

-- ---- the key's first letters

-- of a key only as many letters count as a word has
sum-front : (v key : Word) → v ⊕ key ≡ v ⊕ take (length v) key
sum-front [] key = refl
sum-front (a ∷ v) [] = refl
sum-front (a ∷ v) (c ∷ key) = ap (λ (u : Word). sum a c ∷ u) (sum-front v key)

-- the value of a word under a longer key is the XOR of its number and that of the key's first letters
front-value : (key v : Word) → length v ≤ length key → Letters v → Letters key → value (ranked (key_ranking key)) v ≡ bit_xor (val v) (val (take (length v) key))
front-value key v h hv hk =
    ap (λ f. value f v) (sym (keyed-ranked key))
    ∙ ap val (sum-front v key)
    ∙ val-sum v (take (length v) key) (sym (length-take-le (length v) key h)) hv (letters-take (length v) key hk)

-- the sign of a letter's rank against that of ai: above in Σi, equal where the letter is ai
letter-sign-of : (ρ : Ranking) → OneToOne ρ → (w : Word) → Letters w → (l letter : ℕ) → l < length w → letter < 4 → {r : Ordering}
    → r ≡ signed (sign (ρ l letter) (ρ l (get_or w l 0))) → (is_gt r ≡ Σ ρ w (suc l) letter) × (is_eq r ≡ own w (suc l) letter)
letter-sign-of ρ one w hw l letter h k {r} e = (
  ap is_gt e
      ∙ signed_above (ρ l letter) (ρ l (get_or w l 0))
      ∙ sym (ap (λ (t : Bool). t || ltb (ρ l (get_or w l 0)) (ρ l letter)) (lt-leb (length w) l h)),
  ap is_eq e
      ∙ signed_same (ρ l letter) (ρ l (get_or w l 0))
      ∙ rank_same ρ one l letter (get_or w l 0) k (letter-lt w l hw)
      ∙ sym (goes_on-at w l letter h),
)

-- ---- how many letters Σ1 has

-- how many letters rank above a letter, by its rank, which is at most 3
ranks-above : {a c : ℕ} → a < 4 → c < 4 → length (filter (λ b. ltb (sum a c) (sum b c)) letters) ≡ 3 - sum a c
ranks-above {a} {c} ha hc =
    eqb-true (length (filter (λ b. ltb (sum a c) (sum b c)) letters)) (3 - sum a c) (each-letter (test a) (each-letter (λ x. all (test x) letters) refl ha) hc)
  where
    test : ℕ → ℕ → Bool
    test x y = eqb (length (filter (λ b. ltb (sum x y) (sum b y)) letters)) (3 - sum x y)

-- ---- as the code finds them

module _ {m key word : ℕ} (s : SetTo m key word) where
  -- the key's letters
  abbrev key_word : Word
  key_word = word_of m key

  -- the word's letters
  abbrev own_word : Word
  own_word = word_of m word

  -- the value of n letters under the key
  value-number : (v : Word) (n : ℕ) → length v ≡ n → n ≤ m → Letters v → value (ranked (key_ranking key_word)) v ≡ bit_xor (val v) (key / 2 ^ (2 * (m - n)))
  value-number v n e h hv =
      front-value key_word v (rw (length_digits, e) h) hv (digits-below four-pos m key)
      ∙ ap (bit_xor (val v)) (rw e (front-number n m key h s.key_small))

  -- R(i,j)
  pub compared-sign : (i j : ℕ) → 0 < j → j ≤ i + 1 → i ≤ m → {power : ℕ} → power ≡ power_outcome (i + 1 - j)
      → let rest = 2 * (m - (i + 1 - j)) in
      sign (bit_xor (word / 2 ^ (2 * (m - i)) % power) (key / 2 ^ rest)) (bit_xor (word / 2 ^ rest) (key / 2 ^ rest)) ≡ R (key_ranking key_word) own_word i j
  compared-sign i zero pos h k e = absurd (not-suc-le-zero pos)
  compared-sign i (suc p) pos h k {power} e =
      let n : i + 1 - suc p ≡ i - p = omega arith in
      let few : i - p ≤ 31 = omega (arith, s.few) in
      let power-is : power ≡ 4 ^ (i - p) = e ∙ ap power_outcome n ∙ power-four (i - p) few in
      rw (n, power-is)
      (ap₂ sign
      (sym (value-number (stretch own_word i (suc p)) (i - p) long (omega arith) part ∙ ap (λ (k : ℕ). bit_xor k (key / 2 ^ (2 * (m - (i - p))))) (stretch-number p i m word k)))
      (sym (ap (λ (l : ℕ). value (ranked (key_ranking key_word)) (take l own_word)) long
      ∙ value-number (take (i - p) own_word) (i - p) (length-take-le (i - p) own_word (rw length_digits (omega arith))) (omega arith) (letters-take (i - p) own_word (digits-below four-pos m word))
      ∙ ap (λ (k : ℕ). bit_xor k (key / 2 ^ (2 * (m - (i - p))))) (front-number (i - p) m word (omega arith) s.word_small))))
    where
      long : length (stretch own_word i (suc p)) ≡ i - p
      long = ap length (ap (drop p) (take-digits 4 i m word k) ∙ drop-digits 4 p i (word / 4 ^ (m - i))) ∙ length_digits 4 (i - p) (word / 4 ^ (m - i))

      part : Letters (stretch own_word i (suc p))
      part = letters-drop p (take i own_word) (letters-take i own_word (digits-below four-pos m word))

  -- the sign of a letter against ai
  pub letter-signed : (i letter : ℕ) → 0 < i → i ≤ m → letter < 4 → {r : Ordering}
      → let shift = 2 * (m - i) in
      r ≡ signed (sign (bit_xor letter (key / 2 ^ shift % 4)) (bit_xor (word / 2 ^ shift % 4) (key / 2 ^ shift % 4)))
      → (is_gt r ≡ Σ (key_ranking key_word) own_word i letter) × (is_eq r ≡ own own_word i letter)
  letter-signed zero letter pos h k e = absurd (not-suc-le-zero pos)
  letter-signed (suc l) letter pos h k e =
      letter-sign-of (key_ranking key_word) (keyed-one-to-one key_word (digits-below four-pos m key)) own_word (digits-below four-pos m word) l letter
      (rw length_digits h) k (rw (letter-cut m key l (m - suc l) (omega arith), letter-cut m word l (m - suc l) (omega arith)) e)

  -- the rank of a1
  first-rank : bit_xor word key / 2 ^ (2 * (m - 1)) ≡ sum (get_or own_word 0 0) (get_or key_word 0 0)
  first-rank =
      xor_shr word key (2 * (m - 1))
      ∙ ap₂ bit_xor (first-letter word s.word_small) (first-letter key s.key_small)
    where
      first-letter : (x : ℕ) → x < 4 ^ m → x / 2 ^ (2 * (m - 1)) ≡ get_or (word_of m x) 0 0
      first-letter x small =
          sym (letter-cut m x 0 (m - 1) (omega (arith, s.some))
          ∙ mod-eq_of_lt (shr_lt 2 (2 * (m - 1)) (let e : 2 + 2 * (m - 1) ≡ 2 * m = omega (arith, s.some) in rw (e, ← four-pow m) small)))

  -- a1 and c1 are letters
  first-letters : (get_or own_word 0 0 < 4) × (get_or key_word 0 0 < 4)
  first-letters = (letter-lt own_word 0 (digits-below four-pos m word), letter-lt key_word 0 (digits-below four-pos m key))

  -- it is at most three
  pub first-rank-most : bit_xor word key / 2 ^ (2 * (m - 1)) ≤ 3
  first-rank-most = rw first-rank (omega (arith, sum_lt first-letters.0 first-letters.1))

  -- and Σ1 has the letters above it
  pub first-alphabet-size : 3 - bit_xor word key / 2 ^ (2 * (m - 1)) ≡ length (filter (Σ (key_ranking key_word) own_word 1) letters)
  first-alphabet-size =
      rw first-rank
      (sym (ap (λ (t : Bool). length (filter (λ b. t || ltb (sum (get_or own_word 0 0) (get_or key_word 0 0)) (sum b (get_or key_word 0 0))) letters))
      (lt-leb (length own_word) 0 (rw length_digits s.some))
      ∙ ranks-above first-letters.0 first-letters.1))
