-- The contracts of `words` take every input, and determine their outcomes: any two that one allows are equal.
-- Assumes nothing.
use Rattle.std.proofs.Common.{ℕ, List, Result, Ok, Err, ◌≡◌, refl, sym, ap, ◌∙◌}
use Rattle.definitions.specs.Refusals.{refusal}
use Rattle.definitions.specs.Outcomes.{Packed, Unpacked, unpack_grounds, unpack_outcome}
use Rattle.laws.specs.Accepted.{unpack_answer-refusal}
use Rattle.laws.specs.Promises.{TakesAll, Determines}
use Rattle.refusals.specs.declared.Refusal.{Refusal}
use Rattle.refusals.specs.Numbers.{refusal_in, place_in, same-answer, same-placeless}
use Rattle.words.specs.Answers.{packed, unpacked, unpacked-refusal, unpacked-room}
use Rattle.words.proofs.pack.Kinds as pack-kinds
use Rattle.words.proofs.pack.Reads as pack-reads
use Rattle.words.proofs.unpack.Kinds as unpack-kinds
use Rattle.words.proofs.unpack.Reads as unpack-reads

-- what packing answered has the number of the refusal, and its place
packed-refusal : (r : Result ℕ Refusal) → (packed r).refusal ≡ refusal_in r
packed-refusal (Ok w) = refl
packed-refusal (Err r) = refl

packed-place : (r : Result ℕ Refusal) → (packed r).place ≡ place_in r
packed-place (Ok w) = refl
packed-place (Err r) = refl

-- the outcome of unpacking has the number of the first ground that is met
unpack-refusal : (x n : ℕ) (room : List ℕ) → (unpack_outcome x n room).refusal ≡ refusal (unpack_grounds x n room)
unfolding unpack_outcome
unpack-refusal x n room = unpack_answer-refusal (refusal (unpack_grounds x n room)) x n room

pub pack-takes-all : TakesAll pack-kinds.ps pack-reads.Asked
pack-takes-all κs args = tt

pub pack-determined : Determines pack-kinds.ps pack-kinds.r pack-reads.Post
pack-determined κs args a b x y h g =
    let e = h ∙ sym g in
    (same-answer packed (λ (o : Packed). o.refusal) (λ (o : Packed). o.word) packed-refusal (λ w. refl) a b e (sym (packed-place a) ∙ ap (λ (o : Packed). o.place) e ∙ packed-place b), refl)

pub unpack-takes-all : TakesAll unpack-kinds.ps unpack-reads.Asked
unpack-takes-all κs args = tt

pub unpack-determined : Determines unpack-kinds.ps unpack-kinds.r unpack-reads.Post
unpack-determined κs args a b x y h g =
    let word = args.0 in
    let n = args.1.0 in
    let old = args.1.1.0.now in
    let room : List ℕ = x.1.1.0 in
    let same : room ≡ y.1.1.0 = sym (unpacked-room a room) ∙ ap (λ (o : Unpacked). o.room) (h ∙ sym g) ∙ unpacked-room b y.1.1.0 in
    let other : unpacked b room ≡ unpack_outcome word n old = ap (unpacked b) same ∙ g in (
      same-placeless (λ r. unpacked r room) (λ (o : Unpacked). o.refusal) (λ (o : Unpacked). o.written) (λ r. unpacked-refusal r room) (λ w. refl)
          (unpack_grounds word n old) refl (unpack-refusal word n old) a b h other,
      ap (λ (l : List ℕ). (tt, (tt, (l, tt)))) same,
    )
