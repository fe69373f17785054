-- The whole outcome of each operation, from all its inputs, lent room included, to its answer and the last contents of its room,
-- refused or not (document 01, "Numbers of refusal" and "Pages and scans"). For each operation: what it answers, on which grounds it
-- refuses, its answer under a number of refusal, where 0 says that nothing is refused, and from these its outcome. Beside a refusal
-- stand zeros, or the place of a bad letter, and the room is as it was lent.
-- Assumes nothing.
use Rattle.std.specs.Prelude.{ℕ, zero, suc, ◌+◌, ◌-◌, ◌*◌, ◌^◌, List, [], ◌∷◌, ◌++◌, map, length, replicate}
use Rattle.definitions.specs.Lists.{over}
use Rattle.definitions.specs.Words.{Word, val, word, bytes, spelled, text}
use Rattle.definitions.specs.Vigemins.{Form, keyed, windows, vigemin, vigemin_at, scan}
use Rattle.definitions.specs.Shelves.{size, page, antemers, postmers, column}
use Rattle.definitions.specs.Refusals.{Ground, refusal, bad_length, bad_m, bad_key, bad_word, bad_sequence, bad_letter, bad_room, bad_start, bad_counter, place_beside}

-- ---- pack(text)

-- what packing answers: the refusal, the place of a bad letter, the number of the word that the text spells
pub record Packed : Type 0 where
  pub refusal : ℕ
  pub place : ℕ
  pub word : ℕ

-- packing tests 1, 6
abbrev pub pack_grounds : List ℕ → List Ground
pack_grounds t = bad_length (length t) ∷ bad_letter t ∷ []

-- its answer under a number of refusal
unfoldable pub pack_answer : ℕ → List ℕ → Packed
pack_answer zero t = record { refusal = 0; place = 0; word = val (spelled t) }
pack_answer (suc r) t = record { refusal = suc r; place = place_beside (suc r) t; word = 0 }

-- the outcome of pack(text)
unfoldable pub pack_outcome : List ℕ → Packed
unfolding pack_answer
pack_outcome t = pack_answer (refusal (pack_grounds t)) t

-- ---- unpack(word, length, room)

-- what unpacking answers: the refusal, how many letters it wrote at the front of the room; and the room
pub record Unpacked : Type 0 where
  pub refusal : ℕ
  pub written : ℕ
  pub room : List ℕ

-- unpacking tests 1, 4, 7
abbrev pub unpack_grounds : ℕ → ℕ → List ℕ → List Ground
unpack_grounds x n room = bad_length n ∷ bad_word n x ∷ bad_room n (length room) ∷ []

-- its answer under a number of refusal
unfoldable pub unpack_answer : ℕ → ℕ → ℕ → List ℕ → Unpacked
unpack_answer zero x n room = record { refusal = 0; written = n; room = over (text (word n x)) room }
unpack_answer (suc r) x n room = record { refusal = suc r; written = 0; room = room }

-- the outcome of unpack(word, length, room)
unfoldable pub unpack_outcome : ℕ → ℕ → List ℕ → Unpacked
unfolding unpack_answer
unpack_outcome x n room = unpack_answer (refusal (unpack_grounds x n room)) x n room

-- ---- vigemin(k, m, key, kmer)

-- what the vigemin answers: the refusal, the word's number and its position
pub record Found : Type 0 where
  pub refusal : ℕ
  pub word : ℕ
  pub position : ℕ

-- 1, 2, and then what is tested of the order: 3 for a key
abbrev pub order_grounds : ℕ → ℕ → Ground → List Ground
order_grounds k m order = bad_length k ∷ bad_m k m ∷ order ∷ []

-- the vigemin tests 1 to 4
abbrev pub vigemin_grounds : ℕ → ℕ → ℕ → ℕ → List Ground
vigemin_grounds k m key x = order_grounds k m (bad_key m key) ++ (bad_word k x ∷ [])

-- its answer under a number of refusal
unfoldable pub vigemin_answer : ℕ → Form → ℕ → Word → Found
vigemin_answer zero f m x = record { refusal = 0; word = val (vigemin f m x); position = vigemin_at f m x }
vigemin_answer (suc r) f m x = record { refusal = suc r; word = 0; position = 0 }

-- the outcome of vigemin(k, m, key, kmer)
unfoldable pub vigemin_outcome : ℕ → ℕ → ℕ → ℕ → Found
unfolding vigemin_answer
vigemin_outcome k m key x = vigemin_answer (refusal (vigemin_grounds k m key x)) (keyed (word m key)) m (word k x)

-- ---- size(k, m, key, word)

-- what the size and the plain counter answer: the refusal, and a number of words
pub record Counted : Type 0 where
  pub refusal : ℕ
  pub count : ℕ

-- the size and the worksheet test 1 to 4
abbrev pub shelf_grounds : ℕ → ℕ → ℕ → ℕ → List Ground
shelf_grounds k m key w = order_grounds k m (bad_key m key) ++ (bad_word m w ∷ [])

-- the size under a number of refusal
unfoldable pub size_answer : ℕ → Form → ℕ → Word → Counted
size_answer zero f k w = record { refusal = 0; count = size f k w }
size_answer (suc r) f k w = record { refusal = suc r; count = 0 }

-- the outcome of size(k, m, key, word)
unfoldable pub size_outcome : ℕ → ℕ → ℕ → ℕ → Counted
unfolding size_answer
size_outcome k m key w = size_answer (refusal (shelf_grounds k m key w)) (keyed (word m key)) k (word m w)

-- ---- worksheet(k, m, key, word)

-- what the worksheet answers: the refusal, and two columns of 31 counts
pub record Worked : Type 0 where
  pub refusal : ℕ
  pub antemers : List ℕ
  pub postmers : List ℕ

-- the worksheet under a number of refusal
unfoldable pub worksheet_answer : ℕ → Form → ℕ → ℕ → Word → Worked
worksheet_answer zero f k m w = record { refusal = 0; antemers = column k m (antemers f w); postmers = column k m (postmers f w) }
worksheet_answer (suc r) f k m w = record { refusal = suc r; antemers = replicate 31 0; postmers = replicate 31 0 }

-- the outcome of worksheet(k, m, key, word)
unfoldable pub worksheet_outcome : ℕ → ℕ → ℕ → ℕ → Worked
unfolding worksheet_answer
worksheet_outcome k m key w = worksheet_answer (refusal (shelf_grounds k m key w)) (keyed (word m key)) k m (word m w)

-- ---- the plain counter (k, m, key, word)

-- the plain counter tests 1 to 4, then 9
abbrev pub counter_grounds : ℕ → ℕ → ℕ → ℕ → List Ground
counter_grounds k m key w = shelf_grounds k m key w ++ (bad_counter k m ∷ [])

-- the number of antemers of length a, under a number of refusal
unfoldable pub counter_answer : ℕ → Form → ℕ → Word → Counted
counter_answer zero f a w = record { refusal = 0; count = antemers f w a }
counter_answer (suc r) f a w = record { refusal = suc r; count = 0 }

-- the outcome of the plain counter: the number of antemers of length k − m
unfoldable pub counter_outcome : ℕ → ℕ → ℕ → ℕ → Counted
unfolding counter_answer
counter_outcome k m key w = counter_answer (refusal (counter_grounds k m key w)) (keyed (word m key)) (k - m) (word m w)

-- ---- page(k, m, key, word, start, room)

-- what a page answers: the refusal, how many k-mers it wrote at the front of the room; and the room
pub record Paged : Type 0 where
  pub refusal : ℕ
  pub written : ℕ
  pub room : List ℕ

-- a page tests 1 to 4, then 8
abbrev pub page_grounds : ℕ → ℕ → ℕ → ℕ → ℕ → List Ground
page_grounds k m key w start = shelf_grounds k m key w ++ (bad_start (size (keyed (word m key)) k (word m w)) start ∷ [])

-- its answer under a number of refusal: as many k-mers as there are from the start on and the room takes
unfoldable pub page_answer : ℕ → Form → ℕ → Word → ℕ → List ℕ → Paged
page_answer zero f k w start room =
    let new = map val (page f k w start (length room)) in
    record { refusal = 0; written = length new; room = over new room }
page_answer (suc r) f k w start room = record { refusal = suc r; written = 0; room = room }

-- the outcome of page(k, m, key, word, start, room)
unfoldable pub page_outcome : ℕ → ℕ → ℕ → ℕ → ℕ → List ℕ → Paged
unfolding page_answer
page_outcome k m key w start room = page_answer (refusal (page_grounds k m key w start)) (keyed (word m key)) k (word m w) start room

-- ---- scan(k, m, key, seq, room)

-- what a scan answers: the refusal, the place of a bad letter, the number of windows; and the room
pub record Scanned : Type 0 where
  pub refusal : ℕ
  pub place : ℕ
  pub windows : ℕ
  pub room : List ℕ

-- what reads a sequence tests 1, 2, 3, 5, 6
abbrev pub sequence_grounds : ℕ → ℕ → ℕ → List ℕ → List Ground
sequence_grounds k m key s = order_grounds k m (bad_key m key) ++ (bad_sequence (length s) ∷ bad_letter s ∷ [])

-- a scan tests 7 after these; each window takes so many entries of the room
abbrev pub scan_grounds : ℕ → ℕ → ℕ → List ℕ → ℕ → List ℕ → List Ground
scan_grounds k m key s each room = sequence_grounds k m key s ++ (bad_room (each * length (windows k s)) (length room) ∷ [])

-- its answer under a number of refusal: the entries that stand for the positions are written
unfoldable pub scan_answer : ℕ → (List ℕ → List ℕ) → Form → ℕ → ℕ → List ℕ → List ℕ → Scanned
scan_answer zero entries f k m s room =
    record { refusal = 0; place = 0; windows = length (windows k s); room = over (entries (scan f k m (spelled s))) room }
scan_answer (suc r) entries f k m s room = record { refusal = suc r; place = place_beside (suc r) s; windows = 0; room = room }

-- the outcome of scan(k, m, key, seq, room): for each window the position of its vigemin in the whole sequence
unfoldable pub scan_outcome : ℕ → ℕ → ℕ → List ℕ → List ℕ → Scanned
unfolding scan_answer
scan_outcome k m key s room = scan_answer (refusal (scan_grounds k m key s 1 room)) (λ ps. ps) (keyed (word m key)) k m s room

-- ---- the foreign forms

-- the one number that a foreign form answers: the answer or, refused, 2^63 plus 65,536 times the refusal plus the place of a bad letter
abbrev pub coded : ℕ → ℕ → ℕ → ℕ
coded zero place answer = answer
coded (suc r) place answer = 2 ^ 63 + 65536 * suc r + place

-- the outcome of the foreign size(k, m, key, word)
unfoldable pub foreign_size_outcome : ℕ → ℕ → ℕ → ℕ → ℕ
unfolding size_outcome
foreign_size_outcome k m key w = let o = size_outcome k m key w in coded o.refusal 0 o.count

-- each position as four bytes, high first
abbrev pub as_bytes : List ℕ → List ℕ
as_bytes [] = []
as_bytes (p ∷ ps) = bytes 4 p ++ as_bytes ps

-- the outcome of the scan into bytes (k, m, key, seq, room): its room is bytes, four for each position
unfoldable pub scan_bytes_outcome : ℕ → ℕ → ℕ → List ℕ → List ℕ → Scanned
unfolding scan_answer
scan_bytes_outcome k m key s room = scan_answer (refusal (scan_grounds k m key s 4 room)) as_bytes (keyed (word m key)) k m s room

-- what the foreign scan answers, and the room
pub record ForeignScanned : Type 0 where
  pub answer : ℕ
  pub room : List ℕ

-- the outcome of the foreign scan(k, m, key, seq, room): that of the scan into bytes, as one number
unfoldable pub foreign_scan_outcome : ℕ → ℕ → ℕ → List ℕ → List ℕ → ForeignScanned
unfolding scan_bytes_outcome
foreign_scan_outcome k m key s room =
    let o = scan_bytes_outcome k m key s room in
    record { answer = coded o.refusal o.place o.windows; room = o.room }
