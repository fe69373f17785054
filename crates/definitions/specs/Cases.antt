-- The table of document 01: cases W1 to W12 as data, a test of one case against the definitions, and one claim of the whole table. Then
-- what the table does not ask: the other operations, refusals, bounds, and the order of a page.
-- Assumes nothing.
use Rattle.std.specs.Prelude.{ℕ, ◌-◌, Bool, true, not, ◌&&◌, List, [], ◌∷◌, ◌++◌, map, ◌≡◌, refl, ltb, eqb, length, get_or, take, drop, replicate}
use Rattle.definitions.specs.Lists.{filter, all, tabulate}
use Rattle.definitions.specs.Words.{Word, letters, words, same, val, sum, spelled, text}
use Rattle.definitions.specs.Refusals.{refusal, bad_sequence}
use Rattle.definitions.specs.Outcomes.{pack_outcome, unpack_outcome, vigemin_outcome, size_outcome, worksheet_outcome, counter_outcome, page_outcome, scan_outcome, foreign_size_outcome, foreign_scan_outcome}
use Rattle.definitions.specs.Outcomes.{counter_grounds, pack_answer, unpack_answer, vigemin_answer, size_answer, worksheet_answer, counter_answer, page_answer, scan_answer}
use Rattle.definitions.specs.Cards.{ascii, well_formed, decimal, card_text, printed_text, card_outcome}

-- the four capitals as bytes, so that a text can be read
abbrev A : ℕ
A = 65

abbrev C : ℕ
C = 67

abbrev G : ℕ
G = 71

abbrev T : ℕ
T = 84

-- k, and the texts of the key and of the word
pub record Setting : Type 0 where
  pub k : ℕ
  pub key : List ℕ
  pub word : List ℕ

-- a setting, written in a line
abbrev at : ℕ → List ℕ → List ℕ → Setting
at k key w = record { k = k; key = key; word = w }

-- a case: what is asked, and then what must come of it
pub data Case : Type 0 where
  -- the size
  size_is : Setting → ℕ → Case
  -- the rows of the two columns; all rows after these hold 0
  rows_are : Setting → List ℕ → List ℕ → Case
  -- the postmers of row 1 as Lemma 8 is printed, whatever k is
  print_gives : Setting → ℕ → Case
  -- the numbers on the whole shelf
  shelf_is : Setting → List ℕ → Case
  -- a page: its start, the room lent, and then the refusal, how many are written, and the room after
  page_is : Setting → ℕ → List ℕ → ℕ → ℕ → List ℕ → Case
  -- a scan: the sequence, k, m, the key's number, and then the positions
  scan_is : List ℕ → ℕ → ℕ → ℕ → List ℕ → Case
  -- a size: k, m, the key's number, the word's, and then the refusal
  size_refused : ℕ → ℕ → ℕ → ℕ → ℕ → Case

-- a setting's numbers handed to an operation
abbrev numbered : {B : Type 0} → (ℕ → ℕ → ℕ → ℕ → B) → Setting → B
numbered f s = f s.k (length s.key) (val (spelled s.key)) (val (spelled s.word))

-- 31 rows of which these come first
abbrev rows : List ℕ → List ℕ
rows ns = ns ++ replicate (31 - length ns) 0

-- Lemma 8 of source 000 as printed, for row 1 of the postmers. Such a postmer is w and one letter b more, so the row is the number of letters that b may be.
-- Where the last l letters of w are its first l, an m-mer begins with them and goes on with b: then b must not rank below w's letter at place l. This
-- binds b only if that m-mer has m letters, and behind w itself only the one with l = m − 1 has them. The print does not ask for that l. It asks whether w's
-- letter at place l is that at place m − 1: so a place with the same letter binds b too, though its own m-mer does not exist

-- whether the last l letters of w are its first l
abbrev tied : Word → ℕ → Bool
tied w l = same (drop (length w - l) w) (take l w)

-- whether the print lets place l bind b: place m − 1 binds it, and w has the same letter at l
abbrev restrains : Word → ℕ → Bool
restrains w l = tied w l && tied w (length w - 1) && eqb (get_or w l 0) (get_or w (length w - 1) 0)

-- whether a letter ranks below w's at place l, under a key
abbrev ranks_below : Word → Word → ℕ → ℕ → Bool
ranks_below key w b l = ltb (sum b (get_or key l 0)) (sum (get_or w l 0) (get_or key l 0))

-- the number of letters that may follow w, as Lemma 8 is printed
abbrev pub printed_row : Word → Word → ℕ
printed_row key w = length (filter (λ b. all (λ l. not (restrains w l && ranks_below key w b l)) (tabulate (λ l. l) (length w))) letters)

-- the test of one case. A shelf is asked for as a page with one entry of room too many, and a scan is lent exactly its room, and then one
-- entry more: what is too many must stay as it was
unfoldable pub holds : Case → Bool
unfolding size_outcome worksheet_outcome page_outcome scan_outcome size_answer worksheet_answer page_answer scan_answer
holds (size_is s n) = let o = numbered size_outcome s in eqb o.refusal 0 && eqb o.count n
holds (rows_are s ante post) =
    let o = numbered worksheet_outcome s in
    eqb o.refusal 0 && same o.antemers (rows ante) && same o.postmers (rows post)
holds (print_gives s n) = eqb (printed_row (spelled s.key) (spelled s.word)) n
holds (shelf_is s xs) =
    let o = numbered page_outcome s 0 (replicate (length xs) 9 ++ (9 ∷ [])) in
    eqb o.refusal 0 && eqb o.written (length xs) && same o.room (xs ++ (9 ∷ []))
holds (page_is s start room r n after) =
    let o = numbered page_outcome s start room in
    eqb o.refusal r && eqb o.written n && same o.room after
holds (scan_is t k m key ps) =
    let o = scan_outcome k m key t (replicate (length ps) 9) in
    let more = scan_outcome k m key t (replicate (length ps) 9 ++ (9 ∷ [])) in
    eqb o.refusal 0 && eqb o.place 0 && eqb o.windows (length ps) && same o.room ps && same more.room (ps ++ (9 ∷ []))
holds (size_refused k m key w r) = let o = size_outcome k m key w in eqb o.refusal r && eqb o.count 0

-- W1 to W12. "Any key below 16" runs through all sixteen
abbrev pub table : List Case
table =
    -- W1: k=2, key C, words A, C, G, T: sizes 5, 7, 1, 3
    size_is (at 2 (C ∷ []) (A ∷ [])) 5
    ∷ size_is (at 2 (C ∷ []) (C ∷ [])) 7
    ∷ size_is (at 2 (C ∷ []) (G ∷ [])) 1
    ∷ size_is (at 2 (C ∷ []) (T ∷ [])) 3
    -- W2: k=3, key AA, word GG: size 3; rows 0 and 1: antemers 1, 1; postmers 1, 2
    ∷ size_is (at 3 (A ∷ A ∷ []) (G ∷ G ∷ [])) 3
    ∷ rows_are (at 3 (A ∷ A ∷ []) (G ∷ G ∷ [])) (1 ∷ 1 ∷ []) (1 ∷ 2 ∷ [])
    -- W3: k=4, key TAA, word AAA: size 4; antemers 1, 0; postmers 1, 4. Lemma 8 as printed gives 1
    ∷ size_is (at 4 (T ∷ A ∷ A ∷ []) (A ∷ A ∷ A ∷ [])) 4
    ∷ rows_are (at 4 (T ∷ A ∷ A ∷ []) (A ∷ A ∷ A ∷ [])) (1 ∷ 0 ∷ []) (1 ∷ 4 ∷ [])
    ∷ print_gives (at 4 (T ∷ A ∷ A ∷ []) (A ∷ A ∷ A ∷ [])) 1
    -- W4: k=3, key AT, word TA: size 0
    ∷ size_is (at 3 (A ∷ T ∷ []) (T ∷ A ∷ [])) 0
    -- W5: k=3, key AT, word AA: the shelf is 0, 16, 32, 48
    ∷ shelf_is (at 3 (A ∷ T ∷ []) (A ∷ A ∷ [])) (0 ∷ 16 ∷ 32 ∷ 48 ∷ [])
    -- W6: W2's shelf, start 1, room 1: writes 43, answers 1
    ∷ page_is (at 3 (A ∷ A ∷ []) (G ∷ G ∷ [])) 1 (9 ∷ []) 0 1 (43 ∷ [])
    -- W7: the same, start 3: none; start 4: refusal 8
    ∷ page_is (at 3 (A ∷ A ∷ []) (G ∷ G ∷ [])) 3 (9 ∷ []) 0 0 (9 ∷ [])
    ∷ page_is (at 3 (A ∷ A ∷ []) (G ∷ G ∷ [])) 4 (9 ∷ []) 8 0 (9 ∷ [])
    -- W8: k=m=2, any key below 16, word 5, which is CC: the shelf is 5
    ∷ map (λ v. shelf_is (at 2 (text v) (C ∷ C ∷ [])) (5 ∷ [])) (words 2)
    -- W9: ACGTACGA, k=4, m=2, key AA: 0, 1, 4, 4, 4
    ++ (scan_is (A ∷ C ∷ G ∷ T ∷ A ∷ C ∷ G ∷ A ∷ []) 4 2 0 (0 ∷ 1 ∷ 4 ∷ 4 ∷ 4 ∷ [])
    -- W10: the same, key TT: 2, 3, 3, 3, 6
    ∷ scan_is (A ∷ C ∷ G ∷ T ∷ A ∷ C ∷ G ∷ A ∷ []) 4 2 15 (2 ∷ 3 ∷ 3 ∷ 3 ∷ 6 ∷ [])
    -- W11: AAAA, k=3, m=2, any key below 16: 0, 1
    ∷ tabulate (λ key. scan_is (A ∷ A ∷ A ∷ A ∷ []) 3 2 key (0 ∷ 1 ∷ [])) 16)
    -- W12: k=0 with m=0: refusal 1; k=3, m=4: 2; key 16 with k=3, m=2 and word 16: 3
    ++ (size_refused 0 0 0 0 1 ∷ size_refused 3 4 0 0 2 ∷ size_refused 3 2 16 16 3 ∷ [])

-- every case of the table holds
pub table-holds : all holds table ≡ true
unfolding holds size_outcome worksheet_outcome page_outcome scan_outcome size_answer worksheet_answer page_answer scan_answer
table-holds = refl

-- ---- what the table does not ask

-- ACGT is 27, and 31 times T is the greatest word; a text of 0 or of 32 bytes is refused by 1 before its bytes are looked at; of the
-- bytes that are no capital letter, here a and N, the first one's place is given
pub pack-cases : (pack_outcome (A ∷ C ∷ G ∷ T ∷ []) ≡ record { refusal = 0; place = 0; word = 27 })
    × (pack_outcome (replicate 31 T) ≡ record { refusal = 0; place = 0; word = 4611686018427387903 })
    × (pack_outcome [] ≡ record { refusal = 1; place = 0; word = 0 })
    × (pack_outcome (replicate 32 78) ≡ record { refusal = 1; place = 0; word = 0 })
    × (pack_outcome (A ∷ C ∷ 97 ∷ 78 ∷ []) ≡ record { refusal = 6; place = 2; word = 0 })
unfolding pack_outcome pack_answer
pack-cases = (refl, refl, refl, refl, refl)

-- 27 is ACGT, at the front of its room; 256 has no four letters, which is told before the room; and a room of three is too small
pub unpack-cases : (unpack_outcome 27 4 (9 ∷ 9 ∷ 9 ∷ 9 ∷ 9 ∷ []) ≡ record { refusal = 0; written = 4; room = A ∷ C ∷ G ∷ T ∷ 9 ∷ [] })
    × (unpack_outcome 256 4 (9 ∷ []) ≡ record { refusal = 4; written = 0; room = 9 ∷ [] })
    × (unpack_outcome 27 4 (9 ∷ 9 ∷ 9 ∷ []) ≡ record { refusal = 7; written = 0; room = 9 ∷ 9 ∷ 9 ∷ [] })
unfolding unpack_outcome unpack_answer
unpack-cases = (refl, refl, refl)

-- windows of W9 and W10: GTAC under key AA has AC at 2, ACGT under TT has GT at 2; and a key too large is told before a k-mer too large
pub vigemin-cases : (vigemin_outcome 4 2 0 177 ≡ record { refusal = 0; word = 1; position = 2 })
    × (vigemin_outcome 4 2 15 27 ≡ record { refusal = 0; word = 11; position = 2 })
    × (vigemin_outcome 4 2 16 256 ≡ record { refusal = 3; word = 0; position = 0 })
    × (vigemin_outcome 4 2 15 256 ≡ record { refusal = 4; word = 0; position = 0 })
unfolding vigemin_outcome vigemin_answer
vigemin-cases = (refl, refl, refl, refl)

-- a refused worksheet is all zeros
pub worksheet-refused : worksheet_outcome 3 2 16 0 ≡ record { refusal = 3; antemers = replicate 31 0; postmers = replicate 31 0 }
unfolding worksheet_outcome worksheet_answer
worksheet-refused = refl

-- 16 has no two letters: it is too large for m, though not for k
pub word-refused : size_outcome 3 2 0 16 ≡ record { refusal = 4; count = 0 }
unfolding size_outcome size_answer
word-refused = refl

-- the last rows of antemers of W2 and W3; k − m = 10 is served and 11 refused, after 3
pub counter-cases : (counter_outcome 3 2 0 10 ≡ record { refusal = 0; count = 1 }) × (counter_outcome 4 3 48 0 ≡ record { refusal = 0; count = 0 })
    × (refusal (counter_grounds 11 1 0 0) ≡ 0) × (counter_outcome 12 1 0 0 ≡ record { refusal = 9; count = 0 })
    × (counter_outcome 12 1 4 0 ≡ record { refusal = 3; count = 0 })
unfolding counter_outcome counter_answer
counter-cases = (refl, refl, refl, refl, refl)

-- k = 2, key T, word T: the words with a T, in the order of the words themselves. Keyed, TA would come first
pub page-in-order : page_outcome 2 1 3 3 0 (replicate 8 9) ≡ record { refusal = 0; written = 7; room = 3 ∷ 7 ∷ 11 ∷ 12 ∷ 13 ∷ 14 ∷ 15 ∷ 9 ∷ [] }
unfolding page_outcome page_answer
page-in-order = refl

-- ACG has no window of four letters; ACGT has one, which a room of none does not take; a byte that is no letter is told first, with its
-- place; and 65,536 letters are served, one more is not
pub scan-cases : (scan_outcome 4 2 0 (A ∷ C ∷ G ∷ []) (9 ∷ []) ≡ record { refusal = 0; place = 0; windows = 0; room = 9 ∷ [] })
    × (scan_outcome 4 2 0 (A ∷ C ∷ G ∷ T ∷ []) [] ≡ record { refusal = 7; place = 0; windows = 0; room = [] })
    × (scan_outcome 4 2 0 (A ∷ C ∷ 78 ∷ T ∷ []) [] ≡ record { refusal = 6; place = 2; windows = 0; room = [] })
    × (refusal (bad_sequence 65536 ∷ []) ≡ 0) × (refusal (bad_sequence 65537 ∷ []) ≡ 5)
unfolding scan_outcome scan_answer
scan-cases = (refl, refl, refl, refl, refl)

-- W2's size; and refusal 2, which is 2^63 + 65,536 · 2
pub foreign-size-cases : (foreign_size_outcome 3 2 0 10 ≡ 3) × (foreign_size_outcome 3 4 0 0 ≡ 9223372036854906880)
unfolding foreign_size_outcome size_outcome size_answer
foreign-size-cases = (refl, refl)

-- the first two windows of W9 take eight bytes, high first, and the ninth stays; refusal 6 with place 3, and 7 with no place, are
-- 2^63 + 65,536 · 6 + 3 and 2^63 + 65,536 · 7
pub foreign-scan-cases : (foreign_scan_outcome 4 2 0 (A ∷ C ∷ G ∷ T ∷ A ∷ []) (replicate 9 9)
    ≡ record { answer = 2; room = 0 ∷ 0 ∷ 0 ∷ 0 ∷ 0 ∷ 0 ∷ 0 ∷ 1 ∷ 9 ∷ [] })
    × (foreign_scan_outcome 4 2 0 (A ∷ C ∷ G ∷ 78 ∷ A ∷ []) (9 ∷ []) ≡ record { answer = 9223372036855169027; room = 9 ∷ [] })
    × (foreign_scan_outcome 4 2 0 (A ∷ C ∷ G ∷ T ∷ A ∷ []) (replicate 7 9) ≡ record { answer = 9223372036855234560; room = replicate 7 9 })
unfolding foreign_scan_outcome scan_answer
foreign-scan-cases = (refl, refl, refl)

-- ---- the shelf printer

-- document 01's example; W1's shelf of A under key C, which tells key and word apart; and k = 3, key A, word A, of whose 37 k-mers 16 are printed
pub card-cases : (card_outcome (ascii "4 TAA AAA\n") ≡ printed_text 0 (ascii "k=4 key=TAA word=AAA size=4\n0 AAAA\n1 AAAC\n2 AAAG\n3 AAAT\n"))
    × (card_outcome (ascii "2 C A\n") ≡ printed_text 0 (ascii "k=2 key=C word=A size=5\n0 AA\n1 AG\n2 AT\n3 GA\n4 TA\n"))
    × (card_outcome (ascii "3 A A\n")
    ≡ printed_text 0 (ascii "k=3 key=A word=A size=37\n0 AAA\n1 AAC\n2 AAG\n3 AAT\n4 ACA\n5 ACC\n6 ACG\n7 ACT\n8 AGA\n9 AGC\n10 AGG\n11 AGT\n12 ATA\n13 ATC\n14 ATG\n15 ATT\n"))
unfolding card_outcome card_text decimal
card-cases = (refl, refl, refl)

-- k = 0 and 32, and m above k, are well formed and refused by the operations; of k = 0 with a lower case letter 10 is told
pub card-refusals : (card_outcome (ascii "0 A A\n") ≡ printed_text 1 (ascii "refused 1\n")) × (card_outcome (ascii "32 A A\n") ≡ printed_text 1 (ascii "refused 1\n"))
    × (card_outcome (ascii "3 AAAA AAAA\n") ≡ printed_text 2 (ascii "refused 2\n")) × (card_outcome (ascii "0 A a\n") ≡ printed_text 10 (ascii "refused 10\n"))
unfolding card_outcome card_text decimal
card-refusals = (refl, refl, refl, refl)

-- malformed lines
abbrev malformed : List (List ℕ)
malformed =
    ascii "" ∷ ascii "\n" ∷ ascii "4 TAA AAA" ∷ ascii "4 TAA AAA\n\n" ∷ ascii "4 TAA AAA\n4 TAA AAA\n" ∷ ascii " 4 TAA AAA\n" ∷ ascii "4  TAA AAA\n"
    ∷ ascii "4 TAA  AAA\n" ∷ ascii "4 TAA AAA \n" ∷ ascii "4\tTAA AAA\n" ∷ ascii "4 TAA AAA\r\n" ∷ ascii "04 TAA AAA\n" ∷ ascii "00 A A\n" ∷ ascii "100 A A\n"
    ∷ ascii "x A A\n" ∷ ascii "4x A A\n" ∷ ascii "4 TAA AA\n" ∷ ascii "4 TAN AAA\n" ∷ ascii "4 TAA AaA\n" ∷ ascii "4 TAA\n" ∷ ascii "4 TAA AAA AAA\n" ∷ ascii "4  \n" ∷ []

pub malformed-lines : all (λ s. not (well_formed s)) malformed ≡ true
malformed-lines = refl
