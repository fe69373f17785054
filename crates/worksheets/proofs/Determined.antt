-- The contracts of `worksheets` take every input, and determine their outcomes: any two that one allows are equal.
-- Assumes nothing.
use mathlib.Core.Path.{refl}
use Rattle.definitions.specs.Outcomes.{Worked, shelf_grounds}
use Rattle.laws.specs.Promises.{TakesAll, Determines}
use Rattle.refusals.specs.Numbers.{same-placeless}
use Rattle.worksheets.specs.Answers.{worked, sheet_in, worked-refusal, worksheet-refusal}
use Rattle.worksheets.proofs.worksheet.Kinds as worksheet-kinds
use Rattle.worksheets.proofs.worksheet.Reads as worksheet-reads

pub worksheet-takes-all : TakesAll worksheet-kinds.ps worksheet-reads.Asked
worksheet-takes-all κs args = tt

pub worksheet-determined : Determines worksheet-kinds.ps worksheet-kinds.r worksheet-reads.Post
worksheet-determined κs args a b x y h g =
    let k = args.0 in
    let m = args.1.0 in
    let key = args.1.1.0 in
    let word = args.1.1.1.0 in (
      same-placeless worked (λ (o : Worked). o.refusal) sheet_in worked-refusal (λ s. refl) (shelf_grounds k m key word) refl
          (worksheet-refusal k m key word) a b h g,
      refl,
    )
