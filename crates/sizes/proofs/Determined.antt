-- The contracts of `sizes` take every input, and determine their outcomes: any two that one allows are equal.
-- Assumes nothing.
use mathlib.Core.Path.{refl}
use Rattle.definitions.specs.Outcomes.{Counted, shelf_grounds}
use Rattle.laws.specs.Accepted.{size-refusal}
use Rattle.laws.specs.Promises.{TakesAll, Determines}
use Rattle.refusals.specs.Numbers.{same-placeless}
use Rattle.sizes.specs.Answers.{counted, counted-refusal}
use Rattle.sizes.proofs.size.Kinds as size-kinds
use Rattle.sizes.proofs.size.Reads as size-reads

pub size-takes-all : TakesAll size-kinds.ps size-reads.Asked
size-takes-all κs args = tt

pub size-determined : Determines size-kinds.ps size-kinds.r size-reads.Post
size-determined κs args a b x y h g =
    let k = args.0 in
    let m = args.1.0 in
    let key = args.1.1.0 in
    let word = args.1.1.1.0 in (
      same-placeless counted (λ (o : Counted). o.refusal) (λ (o : Counted). o.count) counted-refusal (λ n. refl) (shelf_grounds k m key word) refl
          (size-refusal k m key word) a b h g,
      refl,
    )
