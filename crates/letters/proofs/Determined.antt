-- The contracts of `letters` take every input, and determine their outcomes: any two that one allows are equal.
-- Assumes nothing.
use mathlib.Core.Path.{refl, sym, ◌∙◌}
use Rattle.laws.specs.Promises.{TakesAll, Determines}
use Rattle.letters.proofs.first_bad.Kinds as first-bad-kinds
use Rattle.letters.proofs.first_bad.Reads as first-bad-reads
use Rattle.letters.proofs.letter.Kinds as letter-kinds
use Rattle.letters.proofs.letter.Reads as letter-reads

pub letter-takes-all : TakesAll letter-kinds.ps letter-reads.Asked
letter-takes-all κs args = tt

pub letter-determined : Determines letter-kinds.ps letter-kinds.r letter-reads.Post
letter-determined κs args a b x y h g = (h ∙ sym g, refl)

pub first-bad-takes-all : TakesAll first-bad-kinds.ps first-bad-reads.Asked
first-bad-takes-all κs args = tt

pub first-bad-determined : Determines first-bad-kinds.ps first-bad-kinds.r first-bad-reads.Post
first-bad-determined κs args a b x y h g = (h ∙ sym g, refl)
