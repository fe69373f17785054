-- `words::unpack` meets its contract: each return gives the answer under the number of the first ground whose test held, and the room as it
-- was, or with the letters over its front.
-- Assumes nothing.
use Rattle.std.proofs.Common.{◌≡◌, false, length, take, sym, ◌∙◌, lt-ltb, le-ltb, length-take-le}
use Rattle.std.proofs.lemmas.Bool.{not-true, not-false}
use Rattle.definitions.specs.Refusals.{bad_length}
use Rattle.definitions.specs.Outcomes.{unpack_answer, unpack_outcome}
use Rattle.laws.specs.Numbers.{length-text}
use Rattle.words.proofs.unpack.Goals as goal
use Rattle.words.proofs.unpack.Goals.{Else-not-is_length}

-- where the length passes, it is not refused
long : (c : goal.Else-not-is_length) → (bad_length c.args.length).met ≡ false
long c = not-true _ (sym c.is_length.ensures ∙ c.if-not-is_length.false)

pub returns-then-not-is_length : goal.returns-then-not-is_length
unfolding unpack_outcome unpack_answer
returns-then-not-is_length c = rw (not-false _ (sym c.is_length.ensures ∙ c.if-not-is_length.true))

pub returns-then-too_large : goal.returns-then-too_large
unfolding unpack_outcome unpack_answer
returns-then-too_large c = rw (long (goal.at.returns-then-too_large c).Else-not-is_length, ← c.too_large.ensures, c.if-too_large.true)

pub returns-then-room-length : goal.returns-then-room-length
unfolding unpack_outcome unpack_answer
returns-then-room-length c =
    rw (long (goal.at.returns-then-room-length c).Else-not-is_length, ← c.too_large.ensures, c.if-too_large.false, lt-ltb (length c.args.room.now) c.args.length c.if-room-length.true)

pub returns : goal.returns
unfolding unpack_outcome unpack_answer
returns c =
    let args = c.args in
    let n = args.length in
    let front : length (take n args.room.now) ≡ n = length-take-le n args.room.now c.if-room-length.false in
    rw (long (goal.at.returns c).Else-not-is_length, ← c.too_large.ensures, c.if-too_large.false, le-ltb (length args.room.now) n c.if-room-length.false, length-text, c.write.ensures, front)
