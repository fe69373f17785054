-- The numbers of refusal (document 01, "Numbers of refusal"): each number with its test, once. 10, the
-- printer's, is bad_line in Cards.
-- Assumes nothing.
use Rattle.std.specs.Prelude.{ℕ, zero, ◌-◌, ◌^◌, Bool, cond, not, ◌||◌, List, [], ◌∷◌, ltb, leb, eqb}
use Rattle.definitions.specs.Lists.{all, first_place}
use Rattle.definitions.specs.Words.{is_letter_byte}

infix 45 ◌when◌
-- a ground of refusal: its number, and whether it is met
pub record Ground : Type 0 where
  pub number : ℕ
  pub met : Bool

-- a number of refusal beside its test
abbrev pub ◌when◌ : ℕ → Bool → Ground
n when t = record { number = n; met = t }

-- the number of the first ground that is met; 0 where none is
abbrev pub refusal : List Ground → ℕ
refusal [] = zero
refusal (g ∷ gs) = cond g.met g.number (refusal gs)

-- the place of the first byte that is no letter; the length where there is none
abbrev pub first_bad_place : List ℕ → ℕ
first_bad_place s = first_place (λ b. not (is_letter_byte b)) s

-- 1: a length is 0 or above 31
abbrev pub bad_length : ℕ → Ground
bad_length n = 1 when (eqb n 0 || ltb 31 n)

-- 2: m is 0 or above k
abbrev pub bad_m : ℕ → ℕ → Ground
bad_m k m = 2 when (eqb m 0 || ltb k m)

-- 3: the key is 4^m or more
abbrev pub bad_key : ℕ → ℕ → Ground
bad_key m key = 3 when leb (4 ^ m) key

-- 4: a word is too large for its length
abbrev pub bad_word : ℕ → ℕ → Ground
bad_word n x = 4 when leb (4 ^ n) x

-- 5: the sequence has more than 65,536 letters
abbrev pub bad_sequence : ℕ → Ground
bad_sequence n = 5 when ltb 65536 n

-- 6: a byte is no letter
abbrev pub bad_letter : List ℕ → Ground
bad_letter s = 6 when not (all is_letter_byte s)

-- 7: the room is smaller than what must be written
abbrev pub bad_room : ℕ → ℕ → Ground
bad_room need room = 7 when ltb room need

-- 8: the page's start is above the size
abbrev pub bad_start : ℕ → ℕ → Ground
bad_start size start = 8 when ltb size start

-- 9: the plain counter is asked with k − m above 10
abbrev pub bad_counter : ℕ → ℕ → Ground
bad_counter k m = 9 when ltb 10 (k - m)

-- what stands beside a refusal: the place of the bad letter beside 6, and 0 beside any other
abbrev pub place_beside : ℕ → List ℕ → ℕ
place_beside r s = cond (eqb r 6) (first_bad_place s) zero
