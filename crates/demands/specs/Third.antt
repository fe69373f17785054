-- Demand 3. Pages with room for at least one, the first from place 0 and each next from where the last stopped, together hold every k-mer of the
-- shelf, each once, in alphabet order, and no other, and their number is the size; and over all words of a key every k-mer stands on exactly one
-- shelf. It is said of whatever the contracts of `page`, `size` and `vigemin` allow, for every k from 1 to 31, every m from 1 to k, every key and
-- word below 4^m.
-- Here stand the notions, and what is said of calls of `page` in a row; that they hold the shelf, and the last sentence, stand in proofs/.
-- Assumes nothing.
use Rattle.std.specs.Prelude.{ℕ, zero, suc, ◌+◌, ◌-◌, ◌^◌, ◌≤◌, ◌<◌, min, ◌≡◌, refl, length, get_or}
use mathlib.Core.List.{List, [], ◌∷◌, ◌++◌, map, Memᴰ}
use Rattle.std.proofs.Math.Path.{sym, ap}
use Rattle.std.proofs.Common.{subst, ◌∙◌, arith}
use contract.Lifetimes.{Lfts}
use Rattle.std.proofs.Math.ListN.{take}
use Rattle.std.proofs.lemmas.List.{length-map}
use Rattle.definitions.specs.Words.{Word, Mer, val, word as word_of}
use Rattle.definitions.specs.Vigemins.{keyed}
use Rattle.definitions.specs.Shelves.{size, page}
use Rattle.definitions.specs.Refusals.{Ground, refusal}
use Rattle.definitions.specs.Outcomes.{Paged, shelf_grounds, size_answer, size_outcome, page_grounds, page_answer, page_outcome}
use Rattle.laws.specs.Counting.{Increasing}
use Rattle.laws.specs.Accepted.{ShelfAccepted}
use Rattle.laws.specs.Listings.{Accepted, handed, room_of, page-outcome, page-written, page-handed, handed_over, stopped_at, RoomForOne, pages-served, pages-reach, some-room}
use Rattle.refusals.specs.Numbers.{given, number-given, refusal-most}
use Rattle.sizes.specs.Answers.{counted}
use Rattle.shelves.specs.Answers.{paged, paged-room}
use Rattle.demands.specs.Promises.{LentRoom, Answer, Sizes, Pages}
use Rattle.demands.specs.Meanings.{Vigemin}
use Rattle.demands.specs.Second.{size-defined}
use Rattle.sizes.proofs.size.Kinds as size-kinds
use Rattle.shelves.proofs.page.Kinds as page-kinds

-- ---- a shelf that is held by some numbers

-- some numbers are those of the shelf of w: of every k-mer with vigemin w, each once, in alphabet order, and of no other
pub record HoldsShelf (k : ℕ) (key w : Word) (numbers : List ℕ) : Type 0 where
  pub every : (x : Word) → Mer k x → Vigemin key w x → Memᴰ (val x) numbers
  pub no_other : (n : ℕ) → Memᴰ n numbers → (x : Word) × Mer k x × Vigemin key w x × (val x ≡ n)
  pub once : (i j : ℕ) → i < length numbers → j < length numbers → get_or numbers i 0 ≡ get_or numbers j 0 → i ≡ j
  pub in_order : Increasing numbers

-- ---- pages in a row

-- a call of `page`: the room that is lent, the answer, and what the room holds at last
pub record Call (κs : Lfts 1) : Type 0 where
  pub room : LentRoom
  pub answer : Answer page-kinds.r κs
  pub last : List ℕ

module _ (κs : Lfts 1) (k m key word : ℕ) where
  -- calls one after the other, each with room for at least one: the first from a start, each next from where the last stopped
  abbrev pub InRow : ℕ → List (Call κs) → Type 0
  InRow start [] = Unit {0}
  InRow start (c ∷ calls) =
      Pages κs k m key word start c.room c.answer c.last × (0 < length c.room.now) × InRow (start + (paged c.answer c.last).written) calls

  -- what they hand out, in a row: of each as many entries of its room as it says that it wrote
  abbrev pub pages_of : List (Call κs) → List ℕ
  pages_of [] = []
  pages_of (c ∷ calls) = take (paged c.answer c.last).written c.last ++ pages_of calls

  -- the place at which they stop
  abbrev pub stop_of : ℕ → List (Call κs) → ℕ
  stop_of start [] = start
  stop_of start (c ∷ calls) = stop_of (start + (paged c.answer c.last).written) calls

  -- none is refused
  abbrev pub Served : List (Call κs) → Type 0
  Served [] = Unit {0}
  Served (c ∷ calls) = ((paged c.answer c.last).refusal ≡ 0) × Served calls

  -- the rooms that were lent
  abbrev pub rooms : List (Call κs) → List (List ℕ)
  rooms calls = map (λ (c : Call κs). c.room.now) calls

  -- they are the outcomes of pages in a row
  pub handed_out : (start : ℕ) (calls : List (Call κs)) → InRow start calls → pages_of calls ≡ handed_over (page_outcome k m key word) start (rooms calls)
  handed_out start [] h = refl
  handed_out start (c ∷ calls) h =
      ap (λ (l : List ℕ). take (paged c.answer c.last).written c.last ++ l) (handed_out (start + (paged c.answer c.last).written) calls h.2)
      ∙ ap (λ (l : List ℕ). take (paged c.answer c.last).written l ++ handed_over (page_outcome k m key word) (start + (paged c.answer c.last).written) (rooms calls))
      (sym (paged-room c.answer c.last))
      ∙ ap (λ (o : Paged). handed o ++ handed_over (page_outcome k m key word) (start + o.written) (rooms calls)) h.0

  pub stopped-at : (start : ℕ) (calls : List (Call κs)) → InRow start calls → stop_of start calls ≡ stopped_at (page_outcome k m key word) start (rooms calls)
  stopped-at start [] h = refl
  stopped-at start (c ∷ calls) h =
      stopped-at (start + (paged c.answer c.last).written) calls h.2 ∙ ap (λ (o : Paged). stopped_at (page_outcome k m key word) (start + o.written) (rooms calls)) h.0

  room-for-one : (start : ℕ) (calls : List (Call κs)) → InRow start calls → RoomForOne (rooms calls)
  room-for-one start [] h = tt
  room-for-one start (c ∷ calls) h = (h.1, room-for-one (start + (paged c.answer c.last).written) calls h.2)

  served : (start : ℕ) (calls : List (Call κs)) → InRow start calls → Accepted (page_outcome k m key word) start (rooms calls) → Served calls
  served start [] h a = tt
  served start (c ∷ calls) h a = (
    ap (λ (o : Paged). o.refusal) h.0 ∙ a.0,
    served (start + (paged c.answer c.last).written) calls h.2
        (subst (λ (o : Paged). Accepted (page_outcome k m key word) (start + o.written) (rooms calls)) (sym h.0) a.1),
  )

module _ {k m key word : ℕ} (a : ShelfAccepted k m key word) where
  module _ (κs : Lfts 1) (calls : List (Call κs)) (h : InRow κs k m key word 0 calls) (s : _) (g : Sizes k m key word s) where
    -- pages in a row are all served
    pub pages-accepted : Served κs k m key word calls
    pages-accepted = served κs k m key word 0 calls h (pages-served a 0 (rooms κs k m key word calls) (omega arith))

    -- where their rooms have together as many entries as there are k-mers, they reach the size
    pub pages-end : (counted s).count ≤ room_of (rooms κs k m key word calls) → stop_of κs k m key word 0 calls ≡ (counted s).count
    pages-end e =
        stopped-at κs k m key word 0 calls h
        ∙ pages-reach a (rooms κs k m key word calls) (omega (arith, e, size-defined a s g))
        ∙ sym (size-defined a s g)

    -- as each has room for at least one, as many calls as there are k-mers are enough
    pub pages-enough : (counted s).count ≤ length calls → stop_of κs k m key word 0 calls ≡ (counted s).count
    pages-enough e =
        let rs = rooms κs k m key word calls in
        let many : length rs ≡ length calls = length-map calls (λ (c : Call κs). c.room.now) in
        pages-end (omega (arith, e, many, some-room rs (room-for-one κs k m key word 0 calls h)))

  -- one page, from a place of the shelf or from its end: it is served, writes the smaller of its room and of what is left, and these are the k-mers
  -- of the places from there on
  pub page-right : (κs : Lfts 1) (start : ℕ) (room : LentRoom) (r : _) (last : List ℕ) → Pages κs k m key word start room r last
      → (s : _) → Sizes k m key word s → start ≤ (counted s).count
      → ((paged r last).refusal ≡ 0) × ((paged r last).written ≡ min (length room.now) ((counted s).count - start))
      × (take (paged r last).written last ≡ map val (page (keyed (word_of m key)) k (word_of m word) start (length room.now)))
  page-right κs start room r last h s g e =
      let f = keyed (word_of m key) in
      let w = word_of m word in
      let starts : start ≤ size f k w = omega (arith, e, size-defined a s g) in (
        ap (λ (o : Paged). o.refusal) (h ∙ page-outcome a start room.now starts),
        ap (λ (o : Paged). o.written) h ∙ page-written a start room.now starts ∙ ap (λ (n : ℕ). min (length room.now) (n - start)) (sym (size-defined a s g)),
        ap (λ (l : List ℕ). take (paged r last).written l) (sym (paged-room r last)) ∙ ap handed h ∙ page-handed a start room.now starts,
      )

-- ---- exactly one shelf

-- the answer of a page by its outcome
page-given : (k m key word start : ℕ) (room : List ℕ) → let o = page_outcome k m key word start room in paged (given o.refusal o.written) o.room ≡ o
unfolding page_outcome page_answer
page-given k m key word start room = go (refusal grounds) (refusal-most grounds refl)
  where
    grounds : List Ground
    grounds = page_grounds k m key word start

    go : (n : ℕ) → n ≤ 10 → let o = page_answer n (keyed (word_of m key)) k (word_of m word) start room in paged (given o.refusal o.written) o.room ≡ o
    go zero h = refl
    go (suc n) h = ap (λ (r : ℕ). record { refusal = r; written = 0; room = room }) (number-given {A = ℕ} (suc n) 0 h)

-- and that of the size
size-given : (k m key word : ℕ) → let o = size_outcome k m key word in counted (given o.refusal o.count) ≡ o
unfolding size_outcome size_answer
size-given k m key word = go (refusal grounds) (refusal-most grounds refl)
  where
    grounds : List Ground
    grounds = shelf_grounds k m key word

    go : (n : ℕ) → n ≤ 10 → let o = size_answer n (keyed (word_of m key)) k (word_of m word) in counted (given o.refusal o.count) ≡ o
    go zero h = refl
    go (suc n) h = ap (λ (r : ℕ). record { refusal = r; count = 0 }) (number-given {A = ℕ} (suc n) 0 h)

-- calls of `page` that go through a whole shelf: in a row from place 0, until the size is reached
pub record ThroughShelf (κs : Lfts 1) (k m key word : ℕ) (calls : List (Call κs)) : Type 0 where
  pub in_row : InRow κs k m key word 0 calls
  pub size : Answer size-kinds.r tt
  pub sized : Sizes k m key word size
  pub reached : stop_of κs k m key word 0 calls ≡ (counted size).count

module _ (κs : Lfts 1) (k m key word : ℕ) where
  -- calls of `page` with some rooms, in a row from a start, each answered as its contract has it
  abbrev pub calls_of : ℕ → List LentRoom → List (Call κs)
  calls_of start [] = []
  calls_of start (room ∷ lent) =
      let o = page_outcome k m key word start room.now in
      record { room = room; answer = given o.refusal o.written; last = o.room } ∷ calls_of (start + o.written) lent

  -- they stand in a row
  in-row : (start : ℕ) (lent : List LentRoom) → RoomForOne (map (λ x. x.now) lent) → InRow κs k m key word start (calls_of start lent)
  in-row start [] h = tt
  in-row start (room ∷ lent) h =
      let o = page_outcome k m key word start room.now in
      let given_as = page-given k m key word start room.now in
      (given_as, h.0, subst (λ (x : Paged). InRow κs k m key word (start + x.written) (calls_of (start + o.written) lent)) (sym given_as) (in-row (start + o.written) lent h.1))

  -- and have those rooms
  rooms-of : (start : ℕ) (lent : List LentRoom) → rooms κs k m key word (calls_of start lent) ≡ map (λ x. x.now) lent
  rooms-of start [] = refl
  rooms-of start (room ∷ lent) =
      ap (λ (l : List (List ℕ)). room.now ∷ l) (rooms-of (start + (page_outcome k m key word start room.now).written) lent)

  -- there are such calls, whatever rooms are lent: each with room for at least one, and together for as many as there are k-mers
  pub through-shelf : ShelfAccepted k m key word → (lent : List LentRoom) → RoomForOne (map (λ x. x.now) lent) → (size_outcome k m key word).count ≤ room_of (map (λ x. x.now) lent)
      → ThroughShelf κs k m key word (calls_of 0 lent)
  through-shelf a lent h e =
      let o = size_outcome k m key word in
      let s : Answer size-kinds.r tt = given o.refusal o.count in
      record {
        in_row = in-row 0 lent h;
        size = s;
        sized = size-given k m key word;
        reached = pages-end a κs (calls_of 0 lent) (in-row 0 lent h) s (size-given k m key word) (rw (rooms-of 0 lent, size-given k m key word) e);
      }

-- a k-mer stands on exactly one shelf: there is a word of m letters whose pages hold it, and those of no other word do, whatever calls go through them.
-- There are such calls: through-shelf
pub record OnOneShelf (k m key kmer : ℕ) : Type 0 where
  pub word : ℕ
  pub small : word < 4 ^ m
  pub there : (κs : Lfts 1) (calls : List (Call κs)) → ThroughShelf κs k m key word calls → Memᴰ kmer (pages_of κs k m key word calls)
  pub no_other : (other : ℕ) → other < 4 ^ m → (other ≡ word → ⊥) → (κs : Lfts 1) (calls : List (Call κs)) → ThroughShelf κs k m key other calls
      → Memᴰ kmer (pages_of κs k m key other calls) → ⊥
