-- Rolling words: the number of the m letters read last, as one letter after the other is read; and the scan of a sequence by the values of
-- all its m-mers.
-- Assumes nothing.
use Rattle.std.specs.Prelude.{ℕ, zero, suc, ◌+◌, ◌-◌, ◌*◌, ◌/◌, ◌%◌, ◌^◌, ◌≤◌, ◌<◌, List, [], ◌∷◌, map, ◌≡◌, length, get_or, take, drop}
use Rattle.std.proofs.Common.{sym, ap, ◌∙◌, pow-suc, one-mul, mul-one, add-zero, div-add-mod', add-mul, mul_right_comm, mod-eq_of_lt, mul-div_cancel, arith, length-drop, take-suc, take-add}
use Rattle.std.proofs.Math.Nat.{pow-zero, mul-add-mod_self_right, add-mul-mod_self_right, one-le-pow, mul-mod_left}
use Rattle.std.proofs.Math.Arith.{digits_div, digits_mod, mod-mul}
use Rattle.std.specs.Int.Bits.{bit_xor}
use Rattle.definitions.specs.Words.{Word, Letters, number, val, word, ◌⊕◌}
use Rattle.definitions.specs.Vigemins.{Form, keyed, value, windows, least_place, scan}
use Rattle.laws.specs.Numbers.{four-pos, number_lt, number_append, length_digits, digits-below, number-digits-lt, length-sum, sum-letters, keyed-value}
use Rattle.laws.specs.Minima.{stretch-mer, map-stretch, value-at, length-values, windows-take, windows-drop}
use Rattle.laws.specs.Scans.{scan-at}
use Rattle.laws.specs.Stamps.{Under}

-- ---- the letters read last

-- of t letters read of a word, the number of the last m, or of all where there are fewer
abbrev pub rolled : ℕ → Word → ℕ → ℕ
rolled m x t = val (take t x) % 4 ^ m

-- the number of the first letters, with one letter more
pub number-front : (b : ℕ) (x : List ℕ) (t : ℕ) → t < length x → number b (take (suc t) x) ≡ number b (take t x) * b + get_or x t 0
number-front b x t h =
    rw (take-suc x t 0 h) (number_append b (take t x) (get_or x t 0 ∷ []) ∙ rw (pow-suc b 0, pow-zero, one-mul, mul-one, add-zero))

-- the remainder of a number with one digit more is that of the remainder with this digit more
mod-more : (v b a n : ℕ) → (v % n * b + a) % n ≡ (v * b + a) % n
mod-more v b a n = sym (ap (λ (u : ℕ). u % n) split ∙ add-mul-mod_self_right (v % n * b + a) (v / n * b) n)
  where
    split : v * b + a ≡ v % n * b + a + v / n * b * n
    split = ap (λ (u : ℕ). u * b + a) (sym (div-add-mod' v n)) ∙ rw (add-mul, mul_right_comm (v / n) n b) (omega arith)

-- one letter goes out and one comes in
pub roll-letter : (m : ℕ) (x : Word) (t : ℕ) → t < length x → (rolled m x t * 4 + get_or x t 0) % 4 ^ m ≡ rolled m x (suc t)
roll-letter m x t h = mod-more (val (take t x)) 4 (get_or x t 0) (4 ^ m) ∙ ap (λ (n : ℕ). n % 4 ^ m) (sym (number-front 4 x t h))

-- the remainder of multiples
mod-scale : (a n c : ℕ) → 0 < n → 0 < c → a * c % (n * c) ≡ a % n * c
mod-scale a n c h k = rw (mod-mul (a * c) h k, mul-div_cancel a k, mul-mod_left, add-zero)

-- a letter that comes in takes the place of the last
mod-letter : (m v c : ℕ) → c < 4 → (v * 4 + c) % 4 ^ suc m ≡ v % 4 ^ m * 4 + c
mod-letter m v c h = rw (pow-suc, mod-mul (v * 4 + c) (one-le-pow m 4 four-pos) four-pos, digits_div v h, digits_mod v h)

-- the same with words kept times a side: where 4^m times the side is the end of the numbers, what goes out is dropped there
pub roll-high : (m side v c : ℕ) → 0 < m → 0 < side → c < 4 → v * side * 4 % (4 ^ m * side) + c * side ≡ (v * 4 + c) % 4 ^ m * side
roll-high zero side v c h k l = absurd (omega arith)
roll-high (suc m) side v c h k l =
    let out : v * 4 % 4 ^ suc m ≡ v % 4 ^ m * 4 = rw (add-zero, add-zero) at (mod-letter m v 0 four-pos) in
    rw (mul_right_comm v side 4, mod-scale (v * 4) (4 ^ suc m) side (one-le-pow (suc m) 4 four-pos) k, out, ← add-mul, mod-letter m v c l)

-- the number of the m letters from a place on is that of the last m of the letters up to their end
pub roll-mer : (m : ℕ) (x : Word) (p : ℕ) → p + m ≤ length x → Letters x → val (take m (drop p x)) ≡ rolled m x (p + m)
roll-mer m x p h s =
    let mer = stretch-mer m x p h s in
    let e : length (take m (drop p x)) ≡ m = mer.0 in
    let b : val (take m (drop p x)) < 4 ^ m = rw e at (number_lt 4 (take m (drop p x)) mer.1) in
    sym (rw (take-add p m x, number_append 4 (take p x) (take m (drop p x)), e, mul-add-mod_self_right) (mod-eq_of_lt b))

-- ---- the values of the m-mers of a sequence

-- the value of each m-mer under a key
abbrev pub values : ℕ → ℕ → Word → List ℕ
values m key x = map (value (keyed (word m key))) (windows m x)

module _ (m key : ℕ) (x : Word) (small : key < 4 ^ m) (s : Letters x) where
  -- the value at a place is the XOR of the number of the m letters from there on and the key
  pub value-mer : (p : ℕ) → p + m ≤ length x → get_or (values m key x) p 0 ≡ bit_xor (val (take m (drop p x))) key
  value-mer p h =
      let mer = stretch-mer m x p h s in
      value-at (keyed (word m key)) m x p h
      ∙ keyed-value (word m key) (take m (drop p x)) (mer.0 ∙ sym (length_digits 4 m key)) mer.1 (digits-below four-pos m key)
      ∙ ap (bit_xor (val (take m (drop p x)))) (number-digits-lt four-pos m key small)

  -- it is the XOR of the letters read last and the key
  pub value-rolled : (p : ℕ) → p + m ≤ length x → get_or (values m key x) p 0 ≡ bit_xor (rolled m x (p + m)) key
  value-rolled p h = value-mer p h ∙ ap (λ v. bit_xor v key) (roll-mer m x p h s)

  -- each value is below 4^m
  pub values-under : Under (4 ^ m) (values m key x)
  values-under i h =
      let b : i < suc (length x) - m = rw length-values at h in
      let c : i + m ≤ length x = omega arith in
      let mer = stretch-mer m x i c s in
      let keyed_mer : Word = take m (drop i x) ⊕ word m key in
      let e : length keyed_mer ≡ m = length-sum (take m (drop i x)) (word m key) ∙ mer.0 in
      rw (value-at (keyed (word m key)) m x i c)
      (rw e at (number_lt 4 keyed_mer (sum-letters (take m (drop i x)) (word m key) mer.1 (digits-below four-pos m key))))

-- the position for a window by the values of its m-mers
pub scan-values : (f : Form) (k m : ℕ) (x : Word) (p : ℕ) → m ≤ k → p + k ≤ length x
    → get_or (scan f k m x) p 0 ≡ p + least_place (take (suc k - m) (drop p (map (value f) (windows m x))))
scan-values f k m x p h b =
    rw (scan-at f k m x p b)
    (rw (windows-take m (drop p x) k (rw length-drop (omega arith)), windows-drop m x p (omega arith), map-stretch))
