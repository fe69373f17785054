-- The contracts of `listers` take every input, and determine their outcomes: any two that one allows are equal.
-- Assumes nothing.
use Rattle.std.proofs.Common.{ℕ, zero, suc, List, ◌≡◌, refl, sym, ap, ◌∙◌}
use Rattle.definitions.specs.Words.{Word}
use Rattle.definitions.specs.Vigemins.{Form}
use Rattle.definitions.specs.Refusals.{refusal}
use Rattle.laws.specs.Promises.{TakesAll, Determines}
use Rattle.refusals.specs.Numbers.{same-placeless}
use Rattle.listers.specs.Answers.{Listed, list_grounds, list_answer, list_outcome, listed, listed-refusal, listed-room}
use Rattle.listers.proofs.list.Kinds as list-kinds
use Rattle.listers.proofs.list.Reads as list-reads

-- the refusal of a listing is that of its grounds
list_answer-refusal : (n : ℕ) (f : Form) (k : ℕ) (w : Word) (room : List ℕ) → (list_answer n f k w room).refusal ≡ n
unfolding list_answer
list_answer-refusal zero f k w room = refl
list_answer-refusal (suc n) f k w room = refl

list-refusal : (k m key w each : ℕ) (room : List ℕ) → (list_outcome k m key w each room).refusal ≡ refusal (list_grounds k m key w each room)
unfolding list_outcome
list-refusal k m key w each room = list_answer-refusal (refusal (list_grounds k m key w each room)) _ k _ room

pub list-takes-all : TakesAll list-kinds.ps list-reads.Asked
list-takes-all κs args = tt

pub list-determined : Determines list-kinds.ps list-kinds.r list-reads.Post
list-determined κs args a b x y h g =
    let k = args.0 in
    let m = args.1.0 in
    let key = args.1.1.0 in
    let word = args.1.1.1.0 in
    let each = args.1.1.1.1.0 in
    let old = args.1.1.1.1.1.0.now in
    let room : List ℕ = x.1.1.1.1.1.0 in
    let same : room ≡ y.1.1.1.1.1.0 = sym (listed-room a room) ∙ ap (λ (o : Listed). o.room) (h ∙ sym g) ∙ listed-room b y.1.1.1.1.1.0 in
    let other : listed b room ≡ list_outcome k m key word each old = ap (listed b) same ∙ g in (
      same-placeless (λ r. listed r room) (λ (o : Listed). o.refusal) (λ (o : Listed). o.written) (λ r. listed-refusal r room) (λ n. refl)
          (list_grounds k m key word each old) refl (list-refusal k m key word each old) a b h other,
      ap (λ (l : List ℕ). (tt, (tt, (tt, (tt, (tt, (l, tt))))))) same,
    )
