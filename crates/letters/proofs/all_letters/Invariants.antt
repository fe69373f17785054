-- `letters::all_letters` meets its contract. The loop's invariant: what was found so far, with whether all that is left are letters, is
-- whether all are.
-- Assumes nothing.
use Rattle.std.proofs.Common.{◌≡◌, ◌&&◌, drop}
use Rattle.definitions.specs.Lists as lists
use Rattle.definitions.specs.Words.{is_letter_byte}
use Rattle.letters.proofs.all_letters.Given as goal

abbrev pub invariant-loop-byte : goal.invariant-loop-byte
invariant-loop-byte l = (l.all && lists.all is_letter_byte (drop l.byte-index l.text)) ≡ lists.all is_letter_byte l.text
