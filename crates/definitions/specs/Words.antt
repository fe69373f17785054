-- Letters, words and their numbers (document 01, "Words and order"; source 000, section 2.1).
-- Assumes nothing.
use Rattle.std.specs.Prelude.{ℕ, zero, suc, ◌+◌, ◌*◌, ◌/◌, ◌%◌, ◌^◌, ◌<◌, Bool, true, false, ◌&&◌, List, [], ◌∷◌, ◌++◌, map, ◌≡◌, ltb, eqb, length, get_or}
use Rattle.std.specs.Int.Bits.{bit_xor}
use Rattle.definitions.specs.Lists.{first_place}

infixl 40 ◌⊕◌
-- the letters A, C, G, T
abbrev pub letters : List ℕ
letters = 0 ∷ 1 ∷ 2 ∷ 3 ∷ []

-- a word: its letters, the first one first
abbrev pub Word : Type 0
Word = List ℕ

-- each of some digits is below the base (the laws ask it)
abbrev pub Digits : ℕ → List ℕ → Type 0
Digits base [] = Unit {0}
Digits base (d ∷ ds) = (d < base) × Digits base ds

-- each letter of a word is one of the four
abbrev pub Letters : Word → Type 0
Letters = Digits 4

-- x is a k-mer: k letters, each one of the four (the laws speak of these)
abbrev pub Mer : ℕ → Word → Type 0
Mer k x = (length x ≡ k) × Letters x

-- each letter of a list before each word of another
abbrev pub spread : List ℕ → List Word → List Word
spread [] ws = []
spread (a ∷ bs) ws = map (λ (v : Word). a ∷ v) ws ++ spread bs ws

-- all words of n letters, in alphabet order, which is that of their numbers
abbrev pub words : ℕ → List Word
words zero = [] ∷ []
words (suc n) = spread letters (words n)

-- whether two words are equal
abbrev pub same : Word → Word → Bool
same [] [] = true
same [] (b ∷ v) = false
same (a ∷ u) [] = false
same (a ∷ u) (b ∷ v) = eqb a b && same u v

-- the number of some digits in a base, the first digit highest
abbrev pub number : ℕ → List ℕ → ℕ
number base [] = zero
number base (d ∷ ds) = d * base ^ length ds + number base ds

-- the last n digits of a number in a base, the first digit highest
abbrev pub digits : ℕ → ℕ → ℕ → List ℕ
digits base zero x = []
digits base (suc n) x = x / base ^ n % base ∷ digits base n x

-- a word's number: base four
abbrev pub val : Word → ℕ
val = number 4

-- the word of n letters that has a number below 4^n
abbrev pub word : ℕ → ℕ → Word
word = digits 4

-- a number as bytes, high first: so many of them
abbrev pub bytes : ℕ → ℕ → List ℕ
bytes = digits 256

-- the sum of two letters: the XOR of their codes
abbrev pub sum : ℕ → ℕ → ℕ
sum a b = bit_xor a b

-- the sum of two words, letter by letter; what lies beyond the second word stays as it is
abbrev pub ◌⊕◌ : Word → Word → Word
[] ⊕ v = []
(a ∷ u) ⊕ [] = a ∷ u
(a ∷ u) ⊕ (b ∷ v) = sum a b ∷ (u ⊕ v)

-- the bytes of the capitals A, C, G, T: a letter is written as the byte at its place
abbrev pub capitals : List ℕ
capitals = 65 ∷ 67 ∷ 71 ∷ 84 ∷ []

-- the letter that a byte is read as; 4 where it is none
abbrev pub letter_of : ℕ → ℕ
letter_of byte = first_place (eqb byte) capitals

-- whether a byte is a letter
abbrev pub is_letter_byte : ℕ → Bool
is_letter_byte byte = ltb (letter_of byte) 4

-- the word that a text spells
abbrev pub spelled : List ℕ → Word
spelled = map letter_of

-- a word's text, in capitals
abbrev pub text : Word → List ℕ
text = map (λ a. get_or capitals a 0)
