-- `words::write` meets its contract.
-- Assumes nothing.
use Rattle.std.proofs.Common.{ℕ, suc, ◌+◌, ◌-◌, ◌*◌, ◌/◌, ◌%◌, ◌^◌, length, get_or, ◌≡◌, sym, ap, ◌∙◌, add-one, append-nil, take_all, drop_of_length-le, arith}
use Rattle.definitions.specs.Words.{capitals, word, text}
use Rattle.laws.specs.Filters.{at_map}
use Rattle.laws.specs.Numbers.{four-pow, length_digits, digits-at, length-text}
use Rattle.laws.specs.Rooms.{over_to-more}
use Rattle.words.proofs.write.Goals as goal

-- the byte at a place with j letters behind it
letter_at : (n x i j : ℕ) → suc (i + j) ≡ n → get_or (text (word n x)) i 0 ≡ get_or capitals (x / 2 ^ (2 * j) % 4) 0
letter_at n x i j e =
    at_map (λ a. get_or capitals a 0) (word n x) 0 0 i (rw length_digits (omega arith))
    ∙ ap (λ a. get_or capitals a 0) (rw four-pow at (digits-at 4 n x i j e))

pub loop-i-preserved : goal.loop-i-preserved
loop-i-preserved c =
    let n = length c.args.room.now in
    let x = c.args.word in
    let i = c.loop-i.i in
    let byte : c.capital.result ≡ get_or (text (word n x)) i 0 = c.capital.ensures ∙ sym (letter_at n x i (n - 1 - i) (omega arith)) in
    rw add-one (over_to-more (text (word n x)) c.args.room.now 0 c.loop-i.invariant byte (rw length-text (omega arith)) (omega arith))

pub returns : goal.returns
returns c =
    let old = c.args.room.now in
    let t = text (word (length old) c.args.word) in
    let i = c.loop-i.i in
    c.loop-i.invariant ∙ rw (take_all i t (rw length-text (omega arith)), drop_of_length-le old {i = i} (omega arith), append-nil)
