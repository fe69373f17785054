-- The contracts of `shelves` take every input, and determine their outcomes: any two that one allows are equal.
-- Assumes nothing.
use Rattle.std.proofs.Common.{ℕ, zero, suc, List, ◌≡◌, refl, sym, ap, ◌∙◌}
use Rattle.definitions.specs.Words.{Word}
use Rattle.definitions.specs.Vigemins.{Form}
use Rattle.definitions.specs.Outcomes.{Paged, page_grounds, page_answer, page_outcome}
use Rattle.definitions.specs.Refusals.{refusal}
use Rattle.laws.specs.Promises.{TakesAll, Determines}
use Rattle.refusals.specs.Numbers.{same-placeless}
use Rattle.shelves.specs.Answers.{paged, paged-refusal, paged-room}
use Rattle.shelves.proofs.page.Kinds as page-kinds
use Rattle.shelves.proofs.page.Reads as page-reads

-- the refusal of a page is that of its grounds
page_answer-refusal : (n : ℕ) (f : Form) (k : ℕ) (w : Word) (start : ℕ) (room : List ℕ) → (page_answer n f k w start room).refusal ≡ n
unfolding page_answer
page_answer-refusal zero f k w start room = refl
page_answer-refusal (suc n) f k w start room = refl

page-refusal : (k m key w start : ℕ) (room : List ℕ) → (page_outcome k m key w start room).refusal ≡ refusal (page_grounds k m key w start)
unfolding page_outcome
page-refusal k m key w start room = page_answer-refusal (refusal (page_grounds k m key w start)) _ k _ start room

pub page-takes-all : TakesAll page-kinds.ps page-reads.Asked
page-takes-all κs args = tt

pub page-determined : Determines page-kinds.ps page-kinds.r page-reads.Post
page-determined κs args a b x y h g =
    let k = args.0 in
    let m = args.1.0 in
    let key = args.1.1.0 in
    let word = args.1.1.1.0 in
    let start = args.1.1.1.1.0 in
    let old = args.1.1.1.1.1.0.now in
    let room : List ℕ = x.1.1.1.1.1.0 in
    let same : room ≡ y.1.1.1.1.1.0 = sym (paged-room a room) ∙ ap (λ (o : Paged). o.room) (h ∙ sym g) ∙ paged-room b y.1.1.1.1.1.0 in
    let other : paged b room ≡ page_outcome k m key word start old = ap (paged b) same ∙ g in (
      same-placeless (λ r. paged r room) (λ (o : Paged). o.refusal) (λ (o : Paged). o.written) (λ r. paged-refusal r room) (λ n. refl)
          (page_grounds k m key word start) refl (page-refusal k m key word start old) a b h other,
      ap (λ (l : List ℕ). (tt, (tt, (tt, (tt, (tt, (l, tt))))))) same,
    )
