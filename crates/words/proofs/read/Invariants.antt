-- `words::read` meets its contract. The loop's invariant: the word is the number of the letters passed.
-- Assumes nothing.
use Rattle.std.proofs.Common.{◌≡◌, take}
use Rattle.definitions.specs.Words.{val, spelled}
use Rattle.words.proofs.read.Given as goal

abbrev pub invariant-loop-i : goal.invariant-loop-i
invariant-loop-i l = l.word ≡ val (take l.i (spelled l.text))
