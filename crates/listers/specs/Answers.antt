-- The outcome of listing a whole shelf by pages, and what the code answered as such.
-- Assumes nothing.
use Rattle.std.specs.Prelude.{ℕ, zero, suc, ◌≤◌, min, List, [], ◌∷◌, ◌++◌, map, Result, Ok, Err, ◌≡◌, refl, length, replicate}
use Rattle.definitions.specs.Lists.{over}
use Rattle.definitions.specs.Words.{Word, val, word as word_of}
use Rattle.definitions.specs.Vigemins.{Form, keyed}
use Rattle.definitions.specs.Shelves.{shelf, size}
use Rattle.definitions.specs.Refusals.{Ground, refusal, bad_room}
use Rattle.definitions.specs.Outcomes.{shelf_grounds}
use Rattle.laws.specs.Accepted.{ShelfAccepted}
use Rattle.refusals.specs.declared.Refusal.{Refusal}
use Rattle.refusals.specs.Numbers.{number_of, refusal_in}

-- what listing answers: the refusal, how many k-mers it wrote at the front of the room; and the room
pub record Listed : Type 0 where
  pub refusal : ℕ
  pub written : ℕ
  pub room : List ℕ

-- 7 of a listing: the room must take the shelf, and a page's room one k-mer of a shelf that has any
abbrev pub room_grounds : ℕ → ℕ → ℕ → List Ground
room_grounds size each room = bad_room size room ∷ bad_room (min 1 size) each ∷ []

-- listing tests 1 to 4, then 7
abbrev pub list_grounds : ℕ → ℕ → ℕ → ℕ → ℕ → List ℕ → List Ground
list_grounds k m key w each room = shelf_grounds k m key w ++ room_grounds (size (keyed (word_of m key)) k (word_of m w)) each (length room)

-- its answer under a number of refusal: the whole shelf, whatever the pages' room
unfoldable pub list_answer : ℕ → Form → ℕ → Word → List ℕ → Listed
list_answer zero f k w room = record { refusal = 0; written = size f k w; room = over (map val (shelf f k w)) room }
list_answer (suc r) f k w room = record { refusal = suc r; written = 0; room = room }

-- the outcome of list(k, m, key, word, each, room)
unfoldable pub list_outcome : ℕ → ℕ → ℕ → ℕ → ℕ → List ℕ → Listed
unfolding list_answer
list_outcome k m key w each room = list_answer (refusal (list_grounds k m key w each room)) (keyed (word_of m key)) k (word_of m w) room

-- case W5 by pages of three, with one entry too many; a room too small by one, and a page that takes none, are refused; W4's empty shelf asks for
-- no room at all
pub list_cases : (list_outcome 3 2 3 0 3 (replicate 5 9) ≡ record { refusal = 0; written = 4; room = 0 ∷ 16 ∷ 32 ∷ 48 ∷ 9 ∷ [] })
    × (list_outcome 3 2 3 0 3 (replicate 3 9) ≡ record { refusal = 7; written = 0; room = replicate 3 9 })
    × (list_outcome 3 2 3 0 0 (replicate 5 9) ≡ record { refusal = 7; written = 0; room = replicate 5 9 })
    × (list_outcome 3 2 3 12 0 [] ≡ record { refusal = 0; written = 0; room = [] })
unfolding list_outcome list_answer
list_cases = (refl, refl, refl, refl)

-- what listing answered, and its room
abbrev pub listed : Result ℕ Refusal → List ℕ → Listed
listed (Ok n) room = record { refusal = 0; written = n; room = room }
listed (Err r) room = record { refusal = number_of r; written = 0; room = room }

-- the outcome has the number of the refusal
pub listed-refusal : (r : Result ℕ Refusal) (room : List ℕ) → (listed r room).refusal ≡ refusal_in r
listed-refusal (Ok n) room = refl
listed-refusal (Err r) room = refl

-- and the room
pub listed-room : (r : Result ℕ Refusal) (room : List ℕ) → (listed r room).room ≡ room
listed-room (Ok n) room = refl
listed-room (Err r) room = refl

-- what taking the pages asks: the shelf is one that is accepted, its size is known, the room takes it, and a page takes at least one
pub record ListReady (k m key w each size : ℕ) (room : List ℕ) : Type 0 where
  pub accepted : ShelfAccepted k m key w
  pub sized : size ≡ length (shelf (keyed (word_of m key)) k (word_of m w))
  pub takes : size ≤ length room
  pub some : min 1 size ≤ each
