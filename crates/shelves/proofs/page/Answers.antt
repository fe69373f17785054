-- `shelves::page` meets its contract: refused, it gives the answer under the number of refusal; else the states that were prepared are those of the
-- word under the key, and the page by them is the page.
-- Assumes nothing.
use Rattle.std.proofs.Common.{ℕ, zero, suc, Ok, Err, List, [], ◌∷◌, ◌≡◌, ◌<◌, refl, sym, ap, ◌∙◌, arith, ne_eqb}
use Rattle.std.proofs.lemmas.Result.{err_from_is_err_and}
use Rattle.definitions.specs.Words.{Word, word as word_of}
use Rattle.definitions.specs.Vigemins.{Form, keyed}
use Rattle.definitions.specs.Shelves.{size}
use Rattle.definitions.specs.Refusals.{Ground, refusal, bad_start}
use Rattle.definitions.specs.Outcomes.{page_grounds, page_answer, page_outcome}
use Rattle.laws.specs.Orders.{key_ranking, keyed-ranked}
use Rattle.laws.specs.Numbers.{four-pos, number-digits-lt}
use Rattle.laws.specs.Accepted.{word-accepted, shelf-refusal}
use Rattle.refusals.specs.declared.Refusal.{Refusal}
use Rattle.refusals.specs.Numbers.{number_of, number-some}
use Rattle.states.specs.Answers.{prepared, prepare_outcome, prepare-answered, prepare-accepted, answered-alphabets, answered-links}
use Rattle.states.specs.declared.States.{States}
use Rattle.shelves.specs.Answers.{paged}
use Rattle.shelves.specs.Descents.{ShelfOf}
use Rattle.shelves.proofs.page.Goals as goal

-- beside a refusal nothing is written
refused : (r : ℕ) → 0 < r → (f : Form) (k : ℕ) (w : Word) (start : ℕ) (room : List ℕ)
    → record { refusal = r; written = 0; room = room } ≡ page_answer r f k w start room
unfolding page_answer
refused zero h f k w start room = absurd (omega arith)
refused (suc r) h f k w start room = refl

module _ (k m key word start : ℕ) where
  -- what a page tests after the shelf's grounds
  abbrev starts : List Ground
  starts = bad_start (size (keyed (word_of m key)) k (word_of m word)) start ∷ []

  -- where the states are refused, the page is
  beside : (r : Refusal) → prepared (Err r) ≡ prepare_outcome k m key word → (room : List ℕ) → paged (Err r) room ≡ page_outcome k m key word start room
  unfolding page_outcome
  beside r e room =
      let given = prepare-answered k m key word (Err r) e in
      let is : refusal (page_grounds k m key word start) ≡ number_of r =
      shelf-refusal k m key word starts given ∙ rw (ne_eqb (number_of r) 0 (λ z. omega (arith, number-some r))) in
      refused (number_of r) (number-some r) (keyed (word_of m key)) k (word_of m word) start room
      ∙ ap (λ (n : ℕ). page_answer n (keyed (word_of m key)) k (word_of m word) start room) (sym is)

  module _ {s : States} (e : prepared (Ok s) ≡ prepare_outcome k m key word) where
    -- the states that were prepared are those of the word under the key
    stated : ShelfOf (key_ranking (word_of m key)) (word_of m word) m word s.next s.ban
    stated =
        let alphabets = answered-alphabets k m key word e in
        record {
          one = alphabets.one;
          letters = record { letters = alphabets.word.letters; long = alphabets.word.long; some = alphabets.word.some; few = alphabets.word.few; owns = refl };
          links = answered-links k m key word e;
          number = number-digits-lt four-pos m word (word-accepted m k m key word (prepare-accepted k m key word e)).small;
        }

    -- nothing is refused but a start
    only-start : refusal (page_grounds k m key word start) ≡ refusal starts
    only-start = shelf-refusal k m key word starts (sym (prepare-accepted k m key word e))

pub returns-in_err-states : goal.returns-in_err-states
returns-in_err-states c =
    let args = c.args in
    let p = err_from_is_err_and c.from_residual.result c.from_residual.ensures.1 in
    rw (p.1, p.2) (beside args.k args.m args.key args.word args.start c.in_err-states.field-0.0 c.in_err-states.ensures args.room.now)

pub page_by-requires : goal.page_by-requires
page_by-requires c =
    let args = c.args in
    let e = c.in_ok-states.ensures in
    let order = (word-accepted args.m args.k args.m args.key args.word (prepare-accepted args.k args.m args.key args.word e)).order in
    record {
      known = (key_ranking (word_of args.m args.key), word_of args.m args.word, stated args.k args.m args.key args.word args.start e);
      in_range = (order.m_fits, order.k_few);
    }

pub returns : goal.returns
unfolding page_outcome
returns c =
    let args = c.args in
    let e = c.in_ok-states.ensures in
    let key = word_of args.m args.key in
    let word = word_of args.m args.word in
    let given-page = c.page_by.ensures (key_ranking key) word (stated args.k args.m args.key args.word args.start e) in
    given-page
    ∙ ap (λ (f : Form). page_answer (refusal (bad_start (size f args.k word) args.start ∷ [])) f args.k word args.start args.room.now) (sym (keyed-ranked key))
    ∙ ap (λ (n : ℕ). page_answer n (keyed key) args.k word args.start args.room.now) (sym (only-start args.k args.m args.key args.word args.start e))
