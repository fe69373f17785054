-- `letters::first_bad` meets its contract: where some byte is no letter, the first place at which one stands is the first bad place.
-- Assumes nothing.
use Rattle.std.proofs.Common.{◌≡◌, refl, ap, ◌∙◌, ℕ, Bool, true, false, not, cond, Some, None, List, suc, ◌+◌, arith, length, ltb, position, sym}
use Rattle.std.proofs.lemmas.List.Recursion.{is_position_or_len}
use Rattle.definitions.specs.Lists.{all, first_place}
use Rattle.definitions.specs.Words.{is_letter_byte}
use Rattle.definitions.specs.Refusals.{first_bad_place}
use Rattle.laws.specs.Numbers.{first_bad_place-all}
use Rattle.letters.specs.Readings.{bad_place}
use Rattle.letters.proofs.first_bad.Goals as goal

-- the first place at which a test holds, in std's words
found : (p : ℕ → Bool) (l : List ℕ) → position p l ≡ cond (ltb (first_place p l) (length l)) (Some (first_place p l)) None
found p l = ap (λ (i : ℕ). cond (ltb i (length l)) (Some i) None) (sym (is_position_or_len (first_place p) p refl (λ x xs. let one : suc (first_place p xs) ≡ 1 + first_place p xs = omega arith in ap (λ (n : ℕ). cond (p x) 0 n) one) l))

-- what is found is the bad place
bad : (text : List ℕ) → position (λ b. not (is_letter_byte b)) text ≡ bad_place text
bad text =
    found (λ b. not (is_letter_byte b)) text
    ∙ ap (λ (t : Bool). cond t (Some (first_bad_place text)) None) (first_bad_place-all text)
    ∙ turned (all is_letter_byte text)
  where
    turned : (t : Bool) → cond (not t) (Some (first_bad_place text)) None ≡ cond t None (Some (first_bad_place text))
    turned true = refl
    turned false = refl

pub returns : goal.returns
returns c = c.find_bad.ensures ∙ bad c.args.text.now
