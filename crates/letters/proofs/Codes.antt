-- The arithmetic that reads a letter.
-- Assumes nothing.
use Prim.Native.Nat.{ℕ, ◌*◌, ◌/◌, ◌%◌}
use mathlib.Core.Bool.{true}
use mathlib.Core.Path.{◌≡◌, refl, sym, ap, ◌∙◌}
use borrow.Author.Tests.{eqb-true, ltb-true}
use lib.Dec.{eqb}
use lib.ListN.{get_or}
use Rattle.definitions.specs.Words.{capitals, letter_of, is_letter_byte}
use Rattle.laws.specs.Numbers.{each-letter, letter-written}

-- the arithmetic
abbrev pub code : ℕ → ℕ
code byte = byte * 3 / 8 % 4

-- of a letter's byte it is the letter
pub code-letter : (byte : ℕ) → is_letter_byte byte ≡ true → code byte ≡ letter_of byte
code-letter byte e =
    ap code (sym (letter-written {c = byte} e))
    ∙ eqb-true (code (get_or capitals (letter_of byte) 0)) (letter_of byte) (each-letter (λ a. eqb (code (get_or capitals a 0)) a) refl (ltb-true (letter_of byte) 4 e))
