-- Pages taken one after the other: each is lent a room of its own and goes on from where the one before stopped. Together they are the
-- shelf, whatever the rooms: demand 3, of the outcomes of `page`.
-- Assumes nothing.
use Rattle.std.specs.Prelude.{ℕ, ◌+◌, ◌-◌, ◌≤◌, ◌<◌, min, Bool, true, false, List, [], ◌∷◌, ◌++◌, map, ◌≡◌, refl, leb, length, replicate, take}
use Rattle.std.proofs.lemmas.List.{map-append, length-map}
use Rattle.std.proofs.Common.{sym, ap₂, ◌∙◌, arith, leb-true, leb-false, drop_of_length-le, take_at}
use Rattle.std.proofs.Math.Path.{ap}
use Rattle.definitions.specs.Lists.{total, over}
use Rattle.definitions.specs.Words.{Word, word, val}
use Rattle.definitions.specs.Vigemins.{Form, keyed}
use Rattle.definitions.specs.Shelves.{shelf, size, page}
use Rattle.definitions.specs.Outcomes.{Paged, page_answer, page_outcome}
use Rattle.laws.specs.Accepted.{ShelfAccepted, accepted-page}
use Rattle.laws.specs.Catalogue.{page-length, pages-join, page-whole}

-- what a page handed out: as many entries of its room as it wrote
abbrev pub handed : Paged → List ℕ
handed o = take o.written o.room

-- pages one after the other, where `paging` tells what comes of a page from a start and a room
module _ (paging : ℕ → List ℕ → Paged) where
  -- what they hand out, in a row
  abbrev pub handed_over : ℕ → List (List ℕ) → List ℕ
  handed_over start [] = []
  handed_over start (room ∷ rooms) = handed (paging start room) ++ handed_over (start + (paging start room).written) rooms

  -- the place at which they stop
  abbrev pub stopped_at : ℕ → List (List ℕ) → ℕ
  stopped_at start [] = start
  stopped_at start (room ∷ rooms) = stopped_at (start + (paging start room).written) rooms

  -- none of them is refused
  abbrev pub Accepted : ℕ → List (List ℕ) → Type 0
  Accepted start [] = Unit {0}
  Accepted start (room ∷ rooms) = ((paging start room).refusal ≡ 0) × Accepted (start + (paging start room).written) rooms

-- how many entries some rooms have together
abbrev pub room_of : List (List ℕ) → ℕ
room_of rooms = total (map length rooms)

-- each of some rooms has room for at least one
abbrev pub RoomForOne : List (List ℕ) → Type 0
RoomForOne [] = Unit {0}
RoomForOne (room ∷ rooms) = (0 < length room) × RoomForOne rooms

-- rooms for at least one have together at least as many entries as they are
pub some-room : (rooms : List (List ℕ)) → RoomForOne rooms → length rooms ≤ room_of rooms
some-room [] h = omega arith
some-room (room ∷ rooms) h = omega (arith, h.0, some-room rooms h.1)

-- W5's shelf by rooms of 1, 2 and 7, the last larger than what is left; and W4's empty shelf, by a room of 1
pub listing-cases : (handed_over (page_outcome 3 2 3 0) 0 (replicate 1 9 ∷ replicate 2 9 ∷ replicate 7 9 ∷ []) ≡ 0 ∷ 16 ∷ 32 ∷ 48 ∷ [])
    × (stopped_at (page_outcome 3 2 3 0) 0 (replicate 1 9 ∷ replicate 2 9 ∷ replicate 7 9 ∷ []) ≡ 4)
    × (handed_over (page_outcome 3 2 3 12) 0 (replicate 1 9 ∷ []) ≡ [])
unfolding page_outcome page_answer
listing-cases = (refl, refl, refl)

module _ {k m key number : ℕ} (a : ShelfAccepted k m key number) where
  -- the keyed form
  abbrev f : Form
  f = keyed (word m key)

  -- the word of which the shelf is
  abbrev w : Word
  w = word m number

  -- what comes of a page of its shelf
  abbrev paging : ℕ → List ℕ → Paged
  paging = page_outcome k m key number

  -- a page from a place of the shelf, or from its end, is answered by what stands there
  pub page-outcome : (start : ℕ) (room : List ℕ) → start ≤ size f k w
      → paging start room ≡ (let new = map val (page f k w start (length room)) in record { refusal = 0; written = length new; room = over new room })
  unfolding page_outcome page_answer
  page-outcome start room h = ap (λ r. page_answer r f k w start room) (accepted-page (record { shelf = a; starts = h }))

  -- it hands that out
  pub page-handed : (start : ℕ) (room : List ℕ) → start ≤ size f k w → handed (paging start room) ≡ map val (page f k w start (length room))
  page-handed start room h = ap handed (page-outcome start room h) ∙ take_at (map val (page f k w start (length room))) _ _ refl

  -- so many it writes
  pub page-written : (start : ℕ) (room : List ℕ) → start ≤ size f k w → (paging start room).written ≡ min (length room) (size f k w - start)
  page-written start room h =
      ap (λ (o : Paged). o.written) (page-outcome start room h) ∙ length-map (page f k w start (length room)) val ∙ page-length f k w start (length room)

  -- after it the next one starts at a place of the shelf, or at its end
  page-goes-on : (start : ℕ) (room : List ℕ) → start ≤ size f k w → start + (paging start room).written ≤ size f k w
  page-goes-on start room h = omega (arith, page-written start room h)

  -- pages one after the other are all served
  pub pages-served : (start : ℕ) (rooms : List (List ℕ)) → start ≤ size f k w → Accepted paging start rooms
  pages-served start [] h = tt
  pages-served start (room ∷ rooms) h =
      (ap (λ (o : Paged). o.refusal) (page-outcome start room h), pages-served (start + (paging start room).written) rooms (page-goes-on start room h))

  -- they stop where their rooms end, or at the size
  pub pages-stop : (start : ℕ) (rooms : List (List ℕ)) → start ≤ size f k w → stopped_at paging start rooms ≡ min (start + room_of rooms) (size f k w)
  pages-stop start [] h = omega arith
  pages-stop start (room ∷ rooms) h =
      pages-stop (start + (paging start room).written) rooms (page-goes-on start room h) ∙ omega (arith, page-written start room h)

  -- together they hand out one page as long as all rooms
  pub pages-together : (start : ℕ) (rooms : List (List ℕ)) → start ≤ size f k w → handed_over paging start rooms ≡ map val (page f k w start (room_of rooms))
  pages-together start [] h = refl
  pages-together start (room ∷ rooms) h =
      ap₂ (λ (x y : List ℕ). x ++ y) (page-handed start room h) (pages-together (start + (paging start room).written) rooms (page-goes-on start room h))
      ∙ ap (λ (l : List Word). map val (page f k w start (length room)) ++ map val l) (goes_on (leb (length room) (size f k w - start)) refl)
      ∙ sym (ap (map val) (pages-join f k w start (length room) (room_of rooms)) ∙ map-append val (page f k w start (length room)) (page f k w (start + length room) (room_of rooms)))
    where
      -- a page that is shorter than its room has reached the end, from where nothing is left
      goes_on : (t : Bool) → leb (length room) (size f k w - start) ≡ t
          → page f k w (start + (paging start room).written) (room_of rooms) ≡ page f k w (start + length room) (room_of rooms)
      goes_on true e =
          let same : (paging start room).written ≡ length room = omega (arith, page-written start room h, leb-true (length room) (size f k w - start) e) in
          ap (λ (n : ℕ). page f k w (start + n) (room_of rooms)) same
      goes_on false e =
          let far : size f k w - start < length room = leb-false (length room) (size f k w - start) e in
          ap (take (room_of rooms)) (
          drop_of_length-le (shelf f k w) {i = start + (paging start room).written} (omega (arith, page-written start room h))
          ∙ sym (drop_of_length-le (shelf f k w) {i = start + length room} (omega arith))
          )

  -- from place 0 until the size is reached they hand out the shelf
  pub pages-shelf : (rooms : List (List ℕ)) → stopped_at paging 0 rooms ≡ size f k w → handed_over paging 0 rooms ≡ map val (shelf f k w)
  pages-shelf rooms e =
      pages-together 0 rooms (omega arith)
      ∙ ap (map val) (page-whole f k w (room_of rooms) (omega (arith, e, pages-stop 0 rooms (omega arith))))

  -- it is reached where the rooms have as many entries
  pub pages-reach : (rooms : List (List ℕ)) → size f k w ≤ room_of rooms → stopped_at paging 0 rooms ≡ size f k w
  pages-reach rooms h = pages-stop 0 rooms (omega arith) ∙ omega (arith, h)

  -- so it is by as many rooms as there are k-mers, each with room for at least one
  pub pages-enough : (rooms : List (List ℕ)) → RoomForOne rooms → size f k w ≤ length rooms → handed_over paging 0 rooms ≡ map val (shelf f k w)
  pages-enough rooms h e = pages-shelf rooms (pages-reach rooms (omega (arith, some-room rooms h)))
