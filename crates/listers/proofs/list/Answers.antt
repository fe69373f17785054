-- `listers::list` meets its contract: refused, it gives the answer under the number of refusal; else the pages that were taken are the shelf.
-- Assumes nothing.
use Rattle.std.proofs.Common.{ℕ, zero, suc, Bool, true, false, cond, ◌||◌, List, map, Result, Ok, Err, ◌<◌, ◌≡◌, refl, sym, ap, ap₂, ◌∙◌, arith, length, min, ltb, ltb-false, ne_eqb}
use Rattle.std.proofs.lemmas.Result.{err_from_is_err_and}
use Rattle.definitions.specs.Lists.{over}
use Rattle.definitions.specs.Words.{Word, val, word as word_of}
use Rattle.definitions.specs.Vigemins.{Form, keyed}
use Rattle.definitions.specs.Shelves.{shelf, size as size_of}
use Rattle.definitions.specs.Refusals.{refusal}
use Rattle.definitions.specs.Outcomes.{Counted, shelf_grounds, size_outcome}
use Rattle.laws.specs.Tests.{contrary}
use Rattle.laws.specs.Accepted.{word-accepted, shelf-refusal, size-refusal, size-count}
use Rattle.refusals.specs.declared.Refusal.{Refusal}
use Rattle.refusals.specs.Numbers.{number_of, number-some}
use Rattle.sizes.specs.Answers as sized
use Rattle.listers.specs.Answers.{ListReady, room_grounds, list_grounds, list_answer, list_outcome, listed}
use Rattle.listers.proofs.list.Goals as goal

-- beside a refusal nothing is written
refused : (r : ℕ) → 0 < r → (f : Form) (k : ℕ) (w : Word) (room : List ℕ) → record { refusal = r; written = 0; room = room } ≡ list_answer r f k w room
unfolding list_answer
refused zero h f k w room = absurd (omega arith)
refused (suc r) h f k w room = refl

-- two grounds of one number are one ground
one-ground : (x y : Bool) (n : ℕ) → cond x n (cond y n 0) ≡ cond (x || y) n 0
one-ground true y n = refl
one-ground false y n = refl

-- neither of two tests holds
neither : (x y : Bool) → (x || y) ≡ false → (x ≡ false) × (y ≡ false)
neither false y e = (refl, e)
neither true y e = absurd (contrary true refl e)

module _ (k m key w each : ℕ) (room : List ℕ) where
  -- where the size is refused, the listing is
  beside : (r : Refusal) → sized.counted (Err r) ≡ size_outcome k m key w → listed (Err r) room ≡ list_outcome k m key w each room
  unfolding list_outcome
  beside r e =
      let given = ap (λ (o : Counted). o.refusal) e ∙ size-refusal k m key w in
      let grounds = room_grounds (size_of (keyed (word_of m key)) k (word_of m w)) each (length room) in
      let is : refusal (list_grounds k m key w each room) ≡ number_of r =
      shelf-refusal k m key w grounds given ∙ rw (ne_eqb (number_of r) 0 (λ z. omega (arith, number-some r))) in
      refused (number_of r) (number-some r) (keyed (word_of m key)) k (word_of m w) room
      ∙ ap (λ (n : ℕ). list_answer n (keyed (word_of m key)) k (word_of m w) room) (sym is)

  module _ {count : ℕ} (e : sized.counted (Ok count) ≡ size_outcome k m key w) where
    -- where a size is answered, nothing is refused but the rooms
    none : refusal (shelf_grounds k m key w) ≡ 0
    none = sym (ap (λ (o : Counted). o.refusal) e ∙ size-refusal k m key w)

    -- and it is the size
    counted : count ≡ size_of (keyed (word_of m key)) k (word_of m w)
    counted = ap (λ (o : Counted). o.count) e ∙ size-count k m key w none

    module _ {least : ℕ} (l : least ≡ min 1 count) {t : Bool} (q : (ltb (length room) count || ltb each least) ≡ t) where
      -- whether the rooms are refused, as it was tested
      tested : refusal (list_grounds k m key w each room) ≡ cond t 7 0
      tested =
          let size = size_of (keyed (word_of m key)) k (word_of m w) in
          shelf-refusal k m key w (room_grounds size each (length room)) (sym none)
          ∙ one-ground (ltb (length room) size) (ltb each (min 1 size)) 7
          ∙ ap (λ (t : Bool). cond t 7 0) (sym (ap₂ (λ (x y : ℕ). ltb (length room) x || ltb each y) counted (l ∙ ap (min 1) counted)) ∙ q)

      -- so the answer is that of the listing
      answered : list_answer (cond t 7 0) (keyed (word_of m key)) k (word_of m w) room ≡ list_outcome k m key w each room
      unfolding list_outcome
      answered = ap (λ (n : ℕ). list_answer n (keyed (word_of m key)) k (word_of m w) room) (sym tested)

    -- where they are not, the shelf that was listed is the answer
    whole : {least : ℕ} → least ≡ min 1 count → (ltb (length room) count || ltb each least) ≡ false → {r : Result ℕ Refusal} {after : List ℕ} → r ≡ Ok count
        → after ≡ over (map val (shelf (keyed (word_of m key)) k (word_of m w))) room → listed r after ≡ list_outcome k m key w each room
    unfolding list_answer
    whole l q p a =
        ap₂ listed p a
        ∙ ap (λ (n : ℕ). record { refusal = 0; written = n; room = over (map val (shelf (keyed (word_of m key)) k (word_of m w))) room }) counted
        ∙ answered l q

    -- and the pages can be taken
    ready : {least : ℕ} → least ≡ min 1 count → (ltb (length room) count || ltb each least) ≡ false → ListReady k m key w each count room
    ready l q =
        let fits = neither _ _ q in
        record {
          accepted = word-accepted m k m key w none;
          sized = counted;
          takes = ltb-false _ _ fits.0;
          some = rw (← l) (ltb-false _ _ fits.1);
        }

pub returns-in_err-size : goal.returns-in_err-size
returns-in_err-size c =
    let args = c.args in
    let p = err_from_is_err_and c.from_residual.result c.from_residual.ensures.1 in
    rw (p.1, p.2) (beside args.k args.m args.key args.word args.each args.room.now c.in_err-size.field-0.0 c.in_err-size.ensures)

pub returns-then-room-size : goal.returns-then-room-size
returns-then-room-size c =
    let args = c.args in
    let test : (ltb (length args.room.now) c.in_ok-size.size || ltb args.each c.lesser.result) ≡ true = c.if-room-size.true in
    refused 7 (omega arith) (keyed (word_of args.m args.key)) args.k (word_of args.m args.word) args.room.now
    ∙ answered args.k args.m args.key args.word args.each args.room.now c.in_ok-size.ensures (omega arith) test

pub list_pages-requires : goal.list_pages-requires
list_pages-requires c =
    let args = c.args in
    ready args.k args.m args.key args.word args.each args.room.now c.in_ok-size.ensures (omega arith) c.if-room-size.false

pub returns : goal.returns
returns c =
    let args = c.args in
    let pages = c.list_pages.ensures in
    whole args.k args.m args.key args.word args.each args.room.now c.in_ok-size.ensures (omega arith) c.if-room-size.false pages.answered pages.filled
