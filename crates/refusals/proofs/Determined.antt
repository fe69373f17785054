-- The contracts of `refusals` take every input, and determine their outcomes: any two that one allows are equal.
-- Assumes nothing.
use mathlib.Core.Path.{refl, sym, ◌∙◌}
use Rattle.laws.specs.Promises.{TakesAll, Determines}
use Rattle.refusals.proofs.Refusal.number.Kinds as number-kinds
use Rattle.refusals.proofs.Refusal.number.Reads as number-reads
use Rattle.refusals.proofs.Refusal.place.Kinds as place-kinds
use Rattle.refusals.proofs.Refusal.place.Reads as place-reads

pub number-takes-all : TakesAll number-kinds.ps number-reads.Asked
number-takes-all κs args = tt

pub number-determined : Determines number-kinds.ps number-kinds.r number-reads.Post
number-determined κs args a b x y h g = (h ∙ sym g, refl)

pub place-takes-all : TakesAll place-kinds.ps place-reads.Asked
place-takes-all κs args = tt

pub place-determined : Determines place-kinds.ps place-kinds.r place-reads.Post
place-determined κs args a b x y h g = (h ∙ sym g, refl)
