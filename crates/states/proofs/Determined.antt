-- The contracts of `states` take every input, and determine their outcomes: any two that one allows are equal.
-- Assumes nothing.
use mathlib.Core.Path.{refl}
use Rattle.definitions.specs.Outcomes.{shelf_grounds}
use Rattle.laws.specs.Promises.{TakesAll, Determines}
use Rattle.refusals.specs.Numbers.{same-placeless}
use Rattle.states.specs.Answers.{Prepared, prepared, states_in, prepared-refusal, prepare-refusal}
use Rattle.states.proofs.prepare.Kinds as prepare-kinds
use Rattle.states.proofs.prepare.Reads as prepare-reads

pub prepare-takes-all : TakesAll prepare-kinds.ps prepare-reads.Asked
prepare-takes-all κs args = tt

pub prepare-determined : Determines prepare-kinds.ps prepare-kinds.r prepare-reads.Post
prepare-determined κs args a b x y h g =
    let k = args.0 in
    let m = args.1.0 in
    let key = args.1.1.0 in
    let word = args.1.1.1.0 in (
      same-placeless prepared (λ (o : Prepared). o.refusal) states_in prepared-refusal (λ s. refl) (shelf_grounds k m key word) refl
          (prepare-refusal k m key word) a b h g,
      refl,
    )
