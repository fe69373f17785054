-- `words::write` meets its contract. The loop's invariant: the first i entries of the room are written.
-- Assumes nothing.
use Rattle.std.proofs.Common.{◌≡◌, length}
use Rattle.definitions.specs.Words.{word, text}
use Rattle.laws.specs.Rooms.{over_to}
use Rattle.words.proofs.write.Given as goal

abbrev pub invariant-loop-i : goal.invariant-loop-i
invariant-loop-i l = l.room ≡ over_to l.i (text (word (length l.initial.room) l.word)) l.initial.room
