-- What a byte is read as, and the place of a bad letter in a text: none where there is none.
-- Assumes nothing.
use Rattle.std.specs.Prelude.{ℕ, Bool, true, false, cond, not, Option, Some, None, List, ◌≡◌, refl}
use Rattle.definitions.specs.Lists.{all}
use Rattle.definitions.specs.Words.{letter_of, is_letter_byte}
use Rattle.definitions.specs.Refusals.{first_bad_place}

-- the letter that a byte is read as, if it is one
abbrev pub letter_read : ℕ → Option ℕ
letter_read byte = cond (is_letter_byte byte) (Some (letter_of byte)) None

-- the place of the first byte that is no letter, if there is one
abbrev pub bad_place : List ℕ → Option ℕ
bad_place text = cond (all is_letter_byte text) None (Some (first_bad_place text))

-- where a place is told, a letter is bad, and the first bad one stands there
pub some-bad : (s : List ℕ) {place : ℕ} → Some place ≡ bad_place s → (not (all is_letter_byte s) ≡ true) × (place ≡ first_bad_place s)
some-bad s {place} e = go (all is_letter_byte s) e
  where
    go : (t : Bool) → Some place ≡ cond t None (Some (first_bad_place s)) → (not t ≡ true) × (place ≡ first_bad_place s)
    go true q = cc
    go false q = (refl, cc)

-- and where none is, all are good
pub none-bad : (s : List ℕ) → None ≡ bad_place s → not (all is_letter_byte s) ≡ false
none-bad s e = go (all is_letter_byte s) e
  where
    go : (t : Bool) → None ≡ cond t None (Some (first_bad_place s)) → not t ≡ false
    go true q = refl
    go false q = cc
