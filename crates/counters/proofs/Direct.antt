-- The first letters of the word tested directly: whether they are an antemer, by the numbers of the m-mers of these letters followed by the word.
-- Assumes nothing.
use Prim.Native.Nat.{ℕ, ◌+◌, ◌-◌, ◌*◌, ◌/◌, ◌%◌, ◌^◌, ◌≤◌, ◌<◌}
use mathlib.Core.Bool.{Bool, true, false, not, ◌&&◌, ◌||◌, not-not}
use mathlib.Core.List.{List, [], ◌∷◌, ◌++◌}
use mathlib.Core.Path.{◌≡◌, refl, sym, ap, ap₂, ◌∙◌}
use native.Mathlib.Nat.{one-le-pow, pow-le-pow_right, lt_of_lt_of_le}
use native.Mathlib.Omega.{arith}
use lib.Bits.{bit_xor}
use lib.Dec.{ltb, leb}
use lib.ListN.{length, get_or, take, drop, length-append}
use lib.Seq.{length-take-le, get_or-take}
use Rattle.definitions.specs.Lists.{all}
use Rattle.definitions.specs.Words.{Word, Letters, val, word as word_of}
use Rattle.definitions.specs.Vigemins.{Form, keyed, value, above, windows}
use Rattle.definitions.specs.Shelves.{antemer}
use Rattle.laws.specs.Places.{any_to, any_to-cong}
use Rattle.laws.specs.Numbers.{four-pos, four-pow, length_digits, digits-below, number_lt, number-digits-lt, digits_number, number_append, window-number, letters-take, letters-append, keyed-value}
use Rattle.laws.specs.Minima.{length-windows, window-at, stretch-mer}
use Rattle.laws.specs.Orders.{above-not}
use Rattle.powers.specs.Powers.{power_outcome, power-four}
use Rattle.counters.specs.Settings.{SetTo, Served}
use Rattle.counters.proofs.Signs.{front-number}

-- a test of all entries: it fails at no place
all-places : {A : Type 0} (p : A → Bool) (l : List A) (d : A) → all p l ≡ not (any_to (length l) (λ q. not (p (get_or l q d))))
all-places p [] d = refl
all-places p (a ∷ l) d = go (p a) (all-places p l d)
  where
    go : (t : Bool) → all p l ≡ not (any_to (length l) (λ q. not (p (get_or l q d)))) → (t && all p l) ≡ not (not t || any_to (length l) (λ q. not (p (get_or l q d))))
    go true e = e
    go false e = refl

-- not above is at most
not-above : (x y : ℕ) → not (ltb y x) ≡ leb x y
not-above x y = ap not (above-not x y) ∙ not-not (leb x y)

-- a test of above is the contrary of a test of at most
pub above-tested : (x y : ℕ) {t : Bool} → t ≡ ltb y x → not t ≡ leb x y
above-tested x y e = ap not e ∙ not-above x y

-- the number of the first i letters followed by the word; side is the number of words of m letters
abbrev pub followed_by : ℕ → ℕ → ℕ → ℕ → ℕ
followed_by m word i side = word / 2 ^ (2 * (m - i)) * side + word

-- its m-mer at place p, as the code cuts it out
abbrev pub mer_at : ℕ → ℕ → ℕ → ℕ → ℕ → ℕ
mer_at m word i side p = followed_by m word i side / 2 ^ (2 * (i - p)) % side

-- whether that m-mer is at most the word, once both are keyed
abbrev pub at_most_at : ℕ → ℕ → ℕ → ℕ → ℕ → ℕ → Bool
at_most_at m key word i side p = leb (bit_xor (mer_at m word i side p) key) (bit_xor word key)

module _ {m key word i : ℕ} (set : SetTo m key word) (s : Served m i) (h : i ≤ m) {side : ℕ} (e : side ≡ power_outcome m) where
  -- there are 4^m words of m letters
  pub side-is : side ≡ 4 ^ m
  side-is = e ∙ power-four m set.few

  -- so there are some
  pub side_some : 0 < side
  side_some = rw side-is (one-le-pow m 4 four-pos)

  -- the word's letters
  abbrev own_word : Word
  own_word = word_of m word

  -- the first i of them
  abbrev front : Word
  front = take i own_word

  -- there are i of them
  front_long : length front ≡ i
  front_long = length-take-le i own_word (rw length_digits h)

  -- followed by the word
  abbrev both : Word
  both = front ++ own_word

  -- these are i + m letters
  both-mer : (length both ≡ i + m) × Letters both
  both-mer = (
    length-append front own_word ∙ ap₂ (λ (a b : ℕ). a + b) front_long (length_digits 4 m word),
    letters-append front own_word (letters-take i own_word (digits-below four-pos m word)) (digits-below four-pos m word),
  )

  -- their number
  both-number : val both ≡ followed_by m word i side
  both-number =
      rw side-is
      (number_append 4 front own_word
      ∙ ap₂ (λ (a b : ℕ). a + b)
      (ap₂ (λ (a b : ℕ). a * 4 ^ b) (front-number i m word h set.word_small) (length_digits 4 m word))
      (number-digits-lt four-pos m word set.word_small))

  -- its number fits
  pub both_small : followed_by m word i side < 4 ^ 31
  both_small = rw (← both-number) (lt_of_lt_of_le (number_lt 4 both both-mer.1) (rw both-mer.0 (pow-le-pow_right four-pos {j = 31} (omega (arith, s.fits)))))

  -- the m-mer at a place is the m letters from there on
  mer-is : (p : ℕ) → p < i → mer_at m word i side p ≡ val (take m (drop p both))
  mer-is p k =
      let behind : i + m - m - p ≡ i - p = omega arith in
      rw (← both-number, side-is, ← four-pow (i - p), ← behind)
      (sym (window-number p m (i + m) (val both) (omega arith))
      ∙ ap (λ (v : Word). val (take m (drop p v))) (digits_number 4 both both-mer.1 both-mer.0))

  -- the first i letters are an antemer exactly if no m-mer before the last is at most the word
  pub direct : antemer (keyed (word_of m key)) own_word front ≡ not (any_to i (at_most_at m key word i side))
  direct =
      all-places (above f own_word) mers []
      ∙ ap (λ (n : ℕ). not (any_to n (λ q. not (above f own_word (get_or mers q []))))) long
      ∙ ap not (any_to-cong i each)
    where
      f : Form
      f = keyed (word_of m key)

      mers : List Word
      mers = take (length front) (windows (length own_word) both)

      -- an m-mer's value under the key
      worth : (v : Word) → length v ≡ m → Letters v → value f v ≡ bit_xor (val v) key
      worth v q hv =
          keyed-value (word_of m key) v (q ∙ sym (length_digits 4 m key)) hv (digits-below four-pos m key)
          ∙ ap (bit_xor (val v)) (number-digits-lt four-pos m key set.key_small)

      long : length mers ≡ i
      long =
          length-take-le (length front) (windows (length own_word) both)
          (rw (length-windows, both-mer.0, front_long, length_digits) (omega arith))
          ∙ front_long

      at_place : (q : ℕ) → q < i → get_or mers q [] ≡ take m (drop q both)
      at_place q k =
          get_or-take (length front) (windows (length own_word) both) q [] (rw front_long k)
          ∙ ap (λ (n : ℕ). get_or (windows n both) q []) (length_digits 4 m word)
          ∙ window-at m both q (rw both-mer.0 (omega arith))

      each : (q : ℕ) → q < i → not (above f own_word (get_or mers q [])) ≡ at_most_at m key word i side q
      each q k =
          let mer = stretch-mer m both q (rw both-mer.0 (omega arith)) both-mer.1 in
          not-above (value f (get_or mers q [])) (value f own_word)
          ∙ ap₂ leb
          (ap (value f) (at_place q k) ∙ worth (take m (drop q both)) mer.0 mer.1 ∙ ap (λ (n : ℕ). bit_xor n key) (sym (mer-is q k)))
          (worth own_word (length_digits 4 m word) (digits-below four-pos m word) ∙ ap (λ (n : ℕ). bit_xor n key) (number-digits-lt four-pos m word set.word_small))
