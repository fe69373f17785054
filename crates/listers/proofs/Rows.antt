-- Pages that are written one after the other into one room: what each writes stands behind what the ones before wrote.
-- Assumes nothing.
use Prim.Native.Nat.{ℕ, ◌+◌, ◌-◌, ◌≤◌, ◌<◌, min}
use mathlib.Core.List.{List, ◌++◌, map, append_assoc}
use mathlib.Core.Path.{◌≡◌, sym, ap, ◌∙◌}
use native.Mathlib.Omega.{arith}
use lib.ListN.{length, take, drop, length-take, length-drop, length-map, take-append-drop}
use lib.Seq.{sets-eq, drop-drop, drop-append-le}
use Rattle.definitions.specs.Lists.{over}
use Rattle.definitions.specs.Words.{val, word as word_of}
use Rattle.definitions.specs.Vigemins.{keyed}
use Rattle.definitions.specs.Shelves.{shelf, page}
use Rattle.definitions.specs.Outcomes.{Paged, page_outcome}
use Rattle.laws.specs.Filters.{take-least, take-map, drop-map}
use Rattle.laws.specs.Rooms.{over_to, length-over_to, over_to-sets}
use Rattle.laws.specs.Listings.{page-outcome, page-written}
use Rattle.listers.specs.Answers.{ListReady}

module _ {A : Type 0} where
  -- entries that are written over the front of a part of a room, which is then put back
  part-over : (room new : List A) (at n : ℕ) → length new ≤ length (take n (drop at room))
      → take at room ++ (over new (take n (drop at room)) ++ drop n (drop at room)) ≡ take at room ++ new ++ drop (at + length new) room
  part-over room new at n h =
      ap (λ (l : List A). take at room ++ l)
      (append_assoc new (drop (length new) (take n (drop at room))) (drop n (drop at room))
      ∙ ap (λ (l : List A). new ++ l)
      (sym (drop-append-le (length new) (take n (drop at room)) (drop n (drop at room)) h)
      ∙ ap (drop (length new)) (take-append-drop n (drop at room))
      ∙ drop-drop (length new) at room))
      ∙ sym (append_assoc (take at room) new (drop (at + length new) room))

-- pages are written up to a place
pub record Taking (k m key w size : ℕ) (old room : List ℕ) (at : ℕ) : Type 0 where
  pub within : at ≤ size
  pub holds : room ≡ over_to at (map val (shelf (keyed (word_of m key)) k (word_of m w))) old

module _ {k m key w each size : ℕ} {old : List ℕ} (q : ListReady k m key w each size old) where
  -- the numbers of the shelf's k-mers
  abbrev numbers : List ℕ
  numbers = map val (shelf (keyed (word_of m key)) k (word_of m w))

  -- there are as many k-mers as the size
  numbers-long : length numbers ≡ size
  numbers-long = length-map (shelf (keyed (word_of m key)) k (word_of m w)) val ∙ sym q.sized

  module _ {room : List ℕ} {at : ℕ} (t : Taking k m key w size old room at) where
    -- the room stays as long
    pub taking-long : length room ≡ length old
    taking-long = length-over_to numbers old {i = at} t.holds (omega (arith, numbers-long, t.within)) (omega (arith, t.within, q.takes))

    module _ {n refusal written : ℕ} {after : List ℕ} (h : at < size) (e : n ≡ min each (length room - at))
        (p : record { refusal = refusal; written = written; room = after } ≡ page_outcome k m key w at (take n (drop at room))) where
      -- the room that the page was lent
      abbrev part : List ℕ
      part = take n (drop at room)

      -- the numbers of the page
      abbrev new : List ℕ
      new = map val (page (keyed (word_of m key)) k (word_of m w) at (length part))

      -- what the page answered
      answered : ◌≡◌ {A = Paged} record { refusal = refusal; written = written; room = after } record { refusal = 0; written = length new; room = over new part }
      answered = p ∙ page-outcome q.accepted at part (omega (arith, q.sized))

      -- it is not refused
      pub taking-served : refusal ≡ 0
      taking-served = ap (λ (o : Paged). o.refusal) answered

      -- what it wrote is what stands on the shelf from its start on
      new_is : new ≡ take (length part) (drop at numbers)
      new_is =
          sym (take-map val (length part) (drop at (shelf (keyed (word_of m key)) k (word_of m w))))
          ∙ ap (take (length part)) (sym (drop-map val at (shelf (keyed (word_of m key)) k (word_of m w))))

      -- so many it wrote
      written_is : written ≡ min (length part) (size - at)
      written_is =
          ap (λ (o : Paged). o.written) p ∙ page-written q.accepted at part (omega (arith, q.sized)) ∙ ap (λ (i : ℕ). min (length part) (i - at)) (sym q.sized)

      -- they are the numbers of the page
      written_new : written ≡ length new
      written_new = ap (λ (o : Paged). o.written) answered

      -- its room had so many entries
      part-long : length part ≡ n
      part-long = length-take n (drop at room) ∙ omega (arith, length-drop at room, e)

      -- it wrote some, and not too many
      pub taking-some : (0 < written) × (at + written ≤ size)
      taking-some = omega (arith, written_is, part-long, e, taking-long, q.takes, q.some)

      -- one more page is written
      pub taking-more : Taking k m key w size old (take at room ++ (after ++ drop n (drop at room))) (at + written)
      taking-more =
          let a-is : after ≡ over new part = ap (λ (o : Paged). o.room) answered in
          let fit : length new ≤ length part = omega (arith, written_new, written_is) in
          let inside : at + length new ≤ length room = omega (arith, part-long, e, fit, taking-long, q.takes) in
          let least : length new ≡ min (length (drop at numbers)) (length part) = omega (arith, ap length new_is ∙ length-take (length part) (drop at numbers)) in
          let same : take (length new) (drop at numbers) ≡ new =
          ap (λ (i : ℕ). take i (drop at numbers)) least ∙ take-least (drop at numbers) (length part) ∙ sym new_is in
          record {
            within = taking-some.1;
            holds =
                ap (λ (l : List ℕ). take at room ++ (l ++ drop n (drop at room))) a-is
                ∙ part-over room new at n fit
                ∙ sym (sets-eq new room at inside)
                ∙ over_to-sets numbers old at new t.holds same (omega (arith, numbers-long, written_new, written_is)) (omega (arith, inside, taking-long))
                ∙ ap (λ (i : ℕ). over_to (at + i) numbers old) (sym written_new);
          }
