-- Demand 1. Every operation answers every input: no contract asks anything beforehand, and the prover admits no function that may not end or may
-- go wrong. Here stands what it refuses: the number is that of the first ground that is met in the operation's list, which is the lowest of those
-- that are met, and 0 where none is; beside a refusal stand zeros, or the place of the first bad letter, and every lent room is as it was; nor
-- is room beyond what is written changed. The lists are spelled out first; each ground, with its number and its test, is in `Refusals` of
-- `definitions`.
-- Assumes nothing.
use Rattle.std.specs.Prelude.{ℕ, zero, suc, ◌+◌, ◌-◌, ◌*◌, ◌^◌, ◌≤◌, ◌<◌, min, true, false, ◌↔◌, ◌≡◌, refl, length, replicate, drop}
use mathlib.Core.List.{List, [], ◌∷◌, ◌++◌, map, Memᴰ}
use Rattle.std.specs.declared.cmp.Ordering.TheVariants.{Less}
use Rattle.std.proofs.Common.{sym, ap, subst, ◌∙◌, arith, drop_at}
use contract.Lifetimes.{Lfts}
use Rattle.std.proofs.lemmas.List.{length-map}
use Rattle.definitions.specs.Lists.{over}
use Rattle.definitions.specs.Words.{Word, val, word as word_of, text}
use Rattle.definitions.specs.Vigemins.{Form, keyed, windows}
use Rattle.definitions.specs.Shelves as shelves
use Rattle.definitions.specs.Refusals.{Ground, refusal, bad_length, bad_m, bad_key, bad_word, bad_sequence, bad_letter, bad_room, bad_start, bad_counter, place_beside}
use Rattle.definitions.specs.Outcomes as outcomes
use Rattle.definitions.specs.Cards as cards
use Rattle.laws.specs.Counting.{Above}
use Rattle.laws.specs.Accepted.{word-accepted}
use Rattle.laws.specs.RoundTrips.{size_small}
use Rattle.laws.specs.Numbers.{length-text}
use Rattle.laws.specs.Orders.{key_ranking}
use Rattle.laws.specs.Refusals.{numbers, rising, refusal-met, refusal-zero, refusal-none, refusal-lowest}
use Rattle.words.specs.Answers.{packed, unpacked, unpacked-room}
use Rattle.vigemins.specs.Answers.{found}
use Rattle.sequences.specs.Answers as sequences
use Rattle.scans.specs.Answers.{scanned}
use Rattle.states.specs.Answers as states
use Rattle.worksheets.specs.Answers.{worked}
use Rattle.sizes.specs.Answers as sizes
use Rattle.counters.specs.Answers as counters
use Rattle.shelves.specs.Answers.{paged, paged-room}
use Rattle.listers.specs.Answers as listers
use Rattle.lines.specs.Answers.{lined}
use Rattle.cards.specs.Answers.{printed}
use Rattle.demands.specs.Promises.{Lent, LentRoom, Packs, Unpacks, Finds, Examines, Scans, ScansBytes, Prepares, Works, Sizes, Counts, Pages, Lists, ForeignScans, ForeignSizes, ReadsLine, Prints}

-- ---- the lists

-- packing: 1, 6
abbrev pub pack_tests : List ℕ → List Ground
pack_tests text = bad_length (length text) ∷ bad_letter text ∷ []

-- unpacking: 1, 4, 7
abbrev pub unpack_tests : ℕ → ℕ → List ℕ → List Ground
unpack_tests word n room = bad_length n ∷ bad_word n word ∷ bad_room n (length room) ∷ []

-- the vigemin: 1 to 4
abbrev pub vigemin_tests : ℕ → ℕ → ℕ → ℕ → List Ground
vigemin_tests k m key kmer = bad_length k ∷ bad_m k m ∷ bad_key m key ∷ bad_word k kmer ∷ []

-- the size and the worksheet, and the states of a word behind them: 1 to 4
abbrev pub shelf_tests : ℕ → ℕ → ℕ → ℕ → List Ground
shelf_tests k m key word = bad_length k ∷ bad_m k m ∷ bad_key m key ∷ bad_word m word ∷ []

-- the plain counter: 1 to 4, 9
abbrev pub counter_tests : ℕ → ℕ → ℕ → ℕ → List Ground
counter_tests k m key word = bad_length k ∷ bad_m k m ∷ bad_key m key ∷ bad_word m word ∷ bad_counter k m ∷ []

-- how many k-mers a shelf holds
abbrev pub size_of : ℕ → ℕ → ℕ → ℕ → ℕ
size_of k m key word = shelves.size (keyed (word_of m key)) k (word_of m word)

-- a page: 1 to 4, 8
abbrev pub page_tests : ℕ → ℕ → ℕ → ℕ → ℕ → List Ground
page_tests k m key word start =
    bad_length k ∷ bad_m k m ∷ bad_key m key ∷ bad_word m word ∷ bad_start (size_of k m key word) start ∷ []

-- a whole shelf by pages of at most `each`: 1 to 4, and 7 where the room is too small for the shelf, or a page takes none of a shelf that has some
abbrev pub list_tests : ℕ → ℕ → ℕ → ℕ → ℕ → List ℕ → List Ground
list_tests k m key word each room =
    bad_length k ∷ bad_m k m ∷ bad_key m key ∷ bad_word m word ∷ bad_room (size_of k m key word) (length room) ∷ bad_room (min 1 (size_of k m key word)) each ∷ []

-- a scan: 1, 2, 3, 5, 6, 7, where a window needs `each` entries of the room
abbrev pub scan_tests : ℕ → ℕ → ℕ → List ℕ → ℕ → List ℕ → List Ground
scan_tests k m key seq each room =
    bad_length k ∷ bad_m k m ∷ bad_key m key ∷ bad_sequence (length seq) ∷ bad_letter seq ∷ bad_room (each * length (windows k seq)) (length room) ∷ []

-- what is tested before a scan: 1, 2, 3, 5, 6, and 7 where space for so many windows is too little
abbrev pub examine_tests : ℕ → ℕ → ℕ → List ℕ → ℕ → List Ground
examine_tests k m key seq takes =
    bad_length k ∷ bad_m k m ∷ bad_key m key ∷ bad_sequence (length seq) ∷ bad_letter seq ∷ bad_room (length (windows k seq)) takes ∷ []

-- the line that the shelf printer reads: 10
abbrev pub line_tests : List ℕ → List Ground
line_tests input = cards.bad_line input ∷ []

-- the shelf printer: 10 first, then 1 to 4 of what the line asks for
abbrev pub card_tests : List ℕ → List Ground
card_tests input = let a = cards.asks (cards.parts input) in cards.bad_line input ∷ shelf_tests a.k a.m a.key a.word

-- ---- what a list decides

-- an outcome and its number, as a list of grounds decides them; `beside` is what is to stand beside a refusal
pub record Refuses {Outcome : Type 0} (grounds : List Ground) (beside : ℕ → Outcome) (number : ℕ) (outcome : Outcome) : Type 0 where
  -- the number is that of the first ground that is met
  pub first : number ≡ refusal grounds
  -- a refusal is on a ground that is met
  pub met : 0 < number → (g : Ground) × Memᴰ g grounds × (g.met ≡ true) × (g.number ≡ number)
  -- where no ground is met the number is 0
  pub accepted : ((g : Ground) → Memᴰ g grounds → g.met ≡ false) → number ≡ 0
  -- and only there
  pub unmet : number ≡ 0 → (g : Ground) → Memᴰ g grounds → g.met ≡ false
  -- what stands beside a refusal, lent room included
  pub stands : 0 < number → outcome ≡ beside number

-- no ground that is met has a lower number
abbrev pub Lowest : List Ground → ℕ → Type 0
Lowest grounds number = (g : Ground) → Memᴰ g grounds → g.met ≡ true → number ≤ g.number

answer-number : {Outcome : Type 0} (number_of : Outcome → ℕ) (answer beside : ℕ → Outcome) → number_of (answer 0) ≡ 0
    → ((r : ℕ) → answer (suc r) ≡ beside (suc r)) → ((r : ℕ) → number_of (beside (suc r)) ≡ suc r) → (r : ℕ) → number_of (answer r) ≡ r
answer-number number_of answer beside none some same zero = none
answer-number number_of answer beside none some same (suc r) = ap number_of (some r) ∙ same r

answer-beside : {Outcome : Type 0} (answer beside : ℕ → Outcome) → ((r : ℕ) → answer (suc r) ≡ beside (suc r)) → (r : ℕ) → 0 < r → answer r ≡ beside r
answer-beside answer beside some zero h = absurd (omega arith)
answer-beside answer beside some (suc r) h = some r

-- an outcome that is the answer under the number of some grounds; an answer under a number above 0 is what is to stand beside it
module _ {Outcome : Type 0} (number_of : Outcome → ℕ) (answer : ℕ → Outcome) {beside : ℕ → Outcome} (none : number_of (answer 0) ≡ 0)
    (some : (r : ℕ) → answer (suc r) ≡ beside (suc r)) (same : (r : ℕ) → number_of (beside (suc r)) ≡ suc r) where
  -- it is decided by these grounds
  refuses : {grounds : List Ground} → Above 0 (numbers grounds) → {outcome : Outcome} → outcome ≡ answer (refusal grounds)
      → Refuses grounds beside (number_of outcome) outcome
  refuses {grounds} up e =
      rw (ap number_of e ∙ answer-number number_of answer beside none some same (refusal grounds)) (record {
        first = refl;
        met = refusal-met grounds;
        accepted = refusal-zero grounds;
        unmet = λ z g m. refusal-none grounds up z m;
        stands = λ h. e ∙ answer-beside answer beside some (refusal grounds) h;
      })

  -- and its number is the lowest, where no number of the list is below one before it
  refuses-lowest : {grounds : List Ground} → Above 0 (numbers grounds) → rising (numbers grounds) ≡ true → {outcome : Outcome}
      → outcome ≡ answer (refusal grounds) → Refuses grounds beside (number_of outcome) outcome × Lowest grounds (number_of outcome)
  refuses-lowest {grounds} up order e =
      let a = refuses up e in
      (a, λ g m t. rw a.first (refusal-lowest grounds order m t))

-- ---- the operations

-- packing
pub pack-refuses : (κs : Lfts 1) (text : Lent) (r : _) → Packs κs text r
    → Refuses (pack_tests text.now) (λ n. record { refusal = n; place = place_beside n text.now; word = 0 }) (packed r).refusal (packed r)
    × Lowest (pack_tests text.now) (packed r).refusal
unfolding outcomes.pack_outcome outcomes.pack_answer
pack-refuses κs text r h =
    refuses-lowest (λ (o : outcomes.Packed). o.refusal) (λ n. outcomes.pack_answer n text.now) refl (λ n. refl) (λ n. refl) (omega arith) refl h

-- unpacking
pub unpack-refuses : (κs : Lfts 1) (word n : ℕ) (room : LentRoom) (r : _) (last : List ℕ) → Unpacks κs word n room r last
    → Refuses (unpack_tests word n room.now) (λ i. record { refusal = i; written = 0; room = room.now }) (unpacked r last).refusal (unpacked r last)
    × Lowest (unpack_tests word n room.now) (unpacked r last).refusal
unfolding outcomes.unpack_outcome outcomes.unpack_answer
unpack-refuses κs word n room r last h =
    refuses-lowest (λ (o : outcomes.Unpacked). o.refusal) (λ i. outcomes.unpack_answer i word n room.now) refl (λ i. refl) (λ i. refl) (omega arith) refl h

-- the vigemin
pub vigemin-refuses : (k m key kmer : ℕ) (r : _) → Finds k m key kmer r
    → Refuses (vigemin_tests k m key kmer) (λ n. record { refusal = n; word = 0; position = 0 }) (found r).refusal (found r)
    × Lowest (vigemin_tests k m key kmer) (found r).refusal
unfolding outcomes.vigemin_outcome outcomes.vigemin_answer
vigemin-refuses k m key kmer r h =
    refuses-lowest (λ (o : outcomes.Found). o.refusal) (λ n. outcomes.vigemin_answer n (keyed (word_of m key)) m (word_of k kmer)) refl (λ n. refl) (λ n. refl) (omega arith) refl h

-- the size
pub size-refuses : (k m key word : ℕ) (r : _) → Sizes k m key word r
    → Refuses (shelf_tests k m key word) (λ n. record { refusal = n; count = 0 }) (sizes.counted r).refusal (sizes.counted r)
    × Lowest (shelf_tests k m key word) (sizes.counted r).refusal
unfolding outcomes.size_outcome outcomes.size_answer
size-refuses k m key word r h =
    refuses-lowest (λ (o : outcomes.Counted). o.refusal) (λ n. outcomes.size_answer n (keyed (word_of m key)) k (word_of m word)) refl (λ n. refl) (λ n. refl) (omega arith) refl h

-- the worksheet
pub worksheet-refuses : (k m key word : ℕ) (r : _) → Works k m key word r
    → Refuses (shelf_tests k m key word) (λ n. record { refusal = n; antemers = replicate 31 0; postmers = replicate 31 0 }) (worked r).refusal (worked r)
    × Lowest (shelf_tests k m key word) (worked r).refusal
unfolding outcomes.worksheet_outcome outcomes.worksheet_answer
worksheet-refuses k m key word r h =
    refuses-lowest (λ (o : outcomes.Worked). o.refusal) (λ n. outcomes.worksheet_answer n (keyed (word_of m key)) k m (word_of m word)) refl (λ n. refl) (λ n. refl) (omega arith) refl h

-- the plain counter
pub counter-refuses : (k m key word : ℕ) (r : _) → Counts k m key word r
    → Refuses (counter_tests k m key word) (λ n. record { refusal = n; count = 0 }) (counters.counted r).refusal (counters.counted r)
    × Lowest (counter_tests k m key word) (counters.counted r).refusal
unfolding outcomes.counter_outcome outcomes.counter_answer
counter-refuses k m key word r h =
    refuses-lowest (λ (o : outcomes.Counted). o.refusal) (λ n. outcomes.counter_answer n (keyed (word_of m key)) (k - m) (word_of m word)) refl (λ n. refl) (λ n. refl) (omega arith) refl h

-- a page
pub page-refuses : (κs : Lfts 1) (k m key word start : ℕ) (room : LentRoom) (r : _) (last : List ℕ) → Pages κs k m key word start room r last
    → Refuses (page_tests k m key word start) (λ n. record { refusal = n; written = 0; room = room.now }) (paged r last).refusal (paged r last)
    × Lowest (page_tests k m key word start) (paged r last).refusal
unfolding outcomes.page_outcome outcomes.page_answer
page-refuses κs k m key word start room r last h =
    refuses-lowest (λ (o : outcomes.Paged). o.refusal) (λ n. outcomes.page_answer n (keyed (word_of m key)) k (word_of m word) start room.now) refl (λ n. refl) (λ n. refl) (omega arith) refl h

-- a whole shelf by pages
pub list-refuses : (κs : Lfts 1) (k m key word each : ℕ) (room : LentRoom) (r : _) (last : List ℕ) → Lists κs k m key word each room r last
    → Refuses (list_tests k m key word each room.now) (λ n. record { refusal = n; written = 0; room = room.now }) (listers.listed r last).refusal (listers.listed r last)
    × Lowest (list_tests k m key word each room.now) (listers.listed r last).refusal
unfolding listers.list_outcome listers.list_answer
list-refuses κs k m key word each room r last h =
    refuses-lowest (λ (o : listers.Listed). o.refusal) (λ n. listers.list_answer n (keyed (word_of m key)) k (word_of m word) room.now) refl (λ n. refl) (λ n. refl) (omega arith) refl h

-- the scan
pub scan-refuses : (κs : Lfts 2) (k m key : ℕ) (seq : Lent) (room : LentRoom) (r : _) (last : List ℕ) → Scans κs k m key seq room r last
    → Refuses (scan_tests k m key seq.now 1 room.now) (λ n. record { refusal = n; place = place_beside n seq.now; windows = 0; room = room.now }) (scanned r last).refusal (scanned r last)
    × Lowest (scan_tests k m key seq.now 1 room.now) (scanned r last).refusal
unfolding outcomes.scan_outcome outcomes.scan_answer
scan-refuses κs k m key seq room r last h =
    refuses-lowest (λ (o : outcomes.Scanned). o.refusal) (λ n. outcomes.scan_answer n (λ ps. ps) (keyed (word_of m key)) k m seq.now room.now) refl (λ n. refl) (λ n. refl) (omega arith) refl h

-- the scan into bytes
pub scan-bytes-refuses : (κs : Lfts 2) (k m key : ℕ) (seq : Lent) (room : LentRoom) (r : _) (last : List ℕ) → ScansBytes κs k m key seq room r last
    → Refuses (scan_tests k m key seq.now 4 room.now) (λ n. record { refusal = n; place = place_beside n seq.now; windows = 0; room = room.now }) (scanned r last).refusal (scanned r last)
    × Lowest (scan_tests k m key seq.now 4 room.now) (scanned r last).refusal
unfolding outcomes.scan_bytes_outcome outcomes.scan_answer
scan-bytes-refuses κs k m key seq room r last h =
    refuses-lowest (λ (o : outcomes.Scanned). o.refusal) (λ n. outcomes.scan_answer n outcomes.as_bytes (keyed (word_of m key)) k m seq.now room.now) refl (λ n. refl) (λ n. refl) (omega arith) refl h

-- what is tested before a scan
pub examine-refuses : (κs : Lfts 1) (k m key : ℕ) (seq : Lent) (takes : ℕ) (r : _) → Examines κs k m key seq takes r
    → Refuses (examine_tests k m key seq.now takes) (λ n. record { refusal = n; place = place_beside n seq.now; windows = 0 }) (sequences.examined r).refusal (sequences.examined r)
    × Lowest (examine_tests k m key seq.now takes) (sequences.examined r).refusal
unfolding sequences.examine_outcome sequences.examine_answer
examine-refuses κs k m key seq takes r h =
    refuses-lowest (λ (o : sequences.Examined). o.refusal) (λ n. sequences.examine_answer n k seq.now) refl (λ n. refl) (λ n. refl) (omega arith) refl h

-- the states of a word
pub prepare-refuses : (k m key word : ℕ) (r : _) → Prepares k m key word r
    → Refuses (shelf_tests k m key word) (λ n. record { refusal = n; own = replicate 32 0; marks = replicate 128 Less; next = replicate 128 0; ban = replicate 128 0 }) (states.prepared r).refusal (states.prepared r)
    × Lowest (shelf_tests k m key word) (states.prepared r).refusal
unfolding states.prepare_outcome states.prepare_answer
prepare-refuses k m key word r h =
    refuses-lowest (λ (o : states.Prepared). o.refusal) (λ n. states.prepare_answer n (key_ranking (word_of m key)) (word_of m word)) refl (λ n. refl) (λ n. refl) (omega arith) refl h

-- the line that the shelf printer reads
pub read-refuses : (κs : Lfts 1) (input : Lent) (r : _) → ReadsLine κs input r
    → Refuses (line_tests input.now) (λ n. record { refusal = n; asked = cards.nothing }) (lined r).refusal (lined r)
    × Lowest (line_tests input.now) (lined r).refusal
unfolding cards.read_outcome cards.read_answer
read-refuses κs input r h =
    refuses-lowest (λ (o : cards.Line). o.refusal) (λ n. cards.read_answer n (cards.asks (cards.parts input.now))) refl (λ n. refl) (λ n. refl) (omega arith) refl h

-- the line that is printed for a refusal
abbrev pub refused_line : ℕ → List ℕ
refused_line n = cards.ascii "refused " ++ cards.decimal n ++ cards.ascii "\n"

-- the shelf printer: of its list the first ground that is met decides, so that 10 goes before lower numbers; the refusal's line is printed
pub card-refuses : (κs : Lfts 1) (input : Lent) (r : _) → Prints κs input r
    → Refuses (card_tests input.now) (λ n. cards.printed_text n (refused_line n)) (printed r).refusal (printed r)
unfolding cards.card_outcome cards.card_text
card-refuses κs input r h =
    let a = cards.asks (cards.parts input.now) in
    refuses (λ (o : cards.Printed). o.refusal) (λ n. cards.printed_text n (cards.card_text n (keyed (word_of a.m a.key)) a))
    refl (λ n. refl) (λ n. refl) (omega arith) h.0

-- ---- the foreign forms

-- one number for a refusal and the place of a bad letter
abbrev pub refused_number : ℕ → ℕ → ℕ
refused_number n place = 2 ^ 63 + 65536 * n + place

-- the size as one number, under a number of refusal
coded-size : (f : Form) (k : ℕ) (w : Word) (n : ℕ)
    → let o = outcomes.size_answer n f k w in
    let r = outcomes.coded o.refusal 0 o.count in
    (n ≡ 0 → r ≡ shelves.size f k w) × (0 < n → r ≡ refused_number n 0)
unfolding outcomes.size_answer
coded-size f k w zero = (λ e. refl, λ h. absurd (omega arith))
coded-size f k w (suc n) = (λ e. absurd (omega arith), λ h. refl)

-- the foreign size: the size or, refused, the number of that
pub foreign-size-refuses : (k m key word : ℕ) (r : _) → ForeignSizes k m key word r
    → let n = refusal (shelf_tests k m key word) in
    (n ≡ 0 → r ≡ size_of k m key word) × (0 < n → r ≡ refused_number n 0) × Lowest (shelf_tests k m key word) n
unfolding outcomes.foreign_size_outcome outcomes.size_outcome
foreign-size-refuses k m key word r h =
    let a = coded-size (keyed (word_of m key)) k (word_of m word) (refusal (shelf_tests k m key word)) in
    (λ e. h ∙ a.0 e, λ e. h ∙ a.1 e, λ g i t. refusal-lowest (shelf_tests k m key word) refl i t)

-- the scan into bytes as one number, under a number of refusal
coded-scan : (f : Form) (k m : ℕ) (s room : List ℕ) (n : ℕ)
    → let o = outcomes.scan_answer n outcomes.as_bytes f k m s room in
    let r = outcomes.coded o.refusal o.place o.windows in
    (n ≡ 0 → r ≡ length (windows k s)) × (0 < n → (r ≡ refused_number n (place_beside n s)) × (o.room ≡ room))
unfolding outcomes.scan_answer
coded-scan f k m s room zero = (λ e. refl, λ h. absurd (omega arith))
coded-scan f k m s room (suc n) = (λ e. absurd (omega arith), λ h. (refl, refl))

-- the foreign scan: the number of windows or, refused, the number of that with the place of a bad letter, and the room as it was
pub foreign-scan-refuses : (κs : Lfts 2) (k m key : ℕ) (seq : Lent) (room : LentRoom) (r : _) (last : List ℕ) → ForeignScans κs k m key seq room r last
    → let n = refusal (scan_tests k m key seq.now 4 room.now) in
    (n ≡ 0 → r ≡ length (windows k seq.now)) × (0 < n → (r ≡ refused_number n (place_beside n seq.now)) × (last ≡ room.now))
    × Lowest (scan_tests k m key seq.now 4 room.now) n
unfolding outcomes.foreign_scan_outcome outcomes.scan_bytes_outcome
foreign-scan-refuses κs k m key seq room r last h =
    let a = coded-scan (keyed (word_of m key)) k m seq.now room.now (refusal (scan_tests k m key seq.now 4 room.now)) in
    let answer = ap (λ (o : outcomes.ForeignScanned). o.answer) h in (
      λ e. answer ∙ a.0 e,
      λ e. (answer ∙ (a.1 e).0, ap (λ (o : outcomes.ForeignScanned). o.room) h ∙ (a.1 e).1),
      λ g i t. refusal-lowest (scan_tests k m key seq.now 4 room.now) refl i t,
    )

-- an answer below 2^63 is no refusal
pub small-accepted : (n place r : ℕ) → (0 < n → r ≡ refused_number n place) → r < 2 ^ 63 → n ≡ 0
small-accepted zero place r f h = refl
small-accepted (suc n) place r f h = absurd (omega (arith, f (omega arith)))

-- the foreign size is refused exactly if its answer is 2^63 or more
pub foreign-size-told : (k m key word : ℕ) (r : _) → ForeignSizes k m key word r → (r < 2 ^ 63) ↔ (refusal (shelf_tests k m key word) ≡ 0)
foreign-size-told k m key word r h =
    let a = foreign-size-refuses k m key word r h in (
      small-accepted (refusal (shelf_tests k m key word)) 0 r a.1,
      λ z. omega (arith, a.0 z, size_small (word-accepted m k m key word z)),
    )

-- ---- room beyond what is written

-- what is written over the front of a room leaves the rest as it was
rest-kept : (new old : List ℕ) (n : ℕ) → length new ≡ n → drop n (over new old) ≡ drop n old
rest-kept new old n e = drop_at new (drop (length new) old) n e ∙ ap (λ (i : ℕ). drop i old) e

unpack-rest : (n word i : ℕ) (room : List ℕ) → let o = outcomes.unpack_answer i word n room in drop o.written o.room ≡ drop o.written room
unfolding outcomes.unpack_answer
unpack-rest n word zero room = rest-kept (text (word_of n word)) room n (length-text n word)
unpack-rest n word (suc i) room = refl

page-rest : (f : Form) (k : ℕ) (w : Word) (start n : ℕ) (room : List ℕ) → let o = outcomes.page_answer n f k w start room in drop o.written o.room ≡ drop o.written room
unfolding outcomes.page_answer
page-rest f k w start zero room = rest-kept (map val (shelves.page f k w start (length room))) room _ refl
page-rest f k w start (suc n) room = refl

list-rest : (f : Form) (k : ℕ) (w : Word) (n : ℕ) (room : List ℕ) → let o = listers.list_answer n f k w room in drop o.written o.room ≡ drop o.written room
unfolding listers.list_answer
list-rest f k w zero room = rest-kept (map val (shelves.shelf f k w)) room (shelves.size f k w) (length-map (shelves.shelf f k w) val)
list-rest f k w (suc n) room = refl

-- unpacking, refused or not, changes no more of the room than it says that it wrote (of the scans ScanIs in Second says it and, refused, scan-refuses)
pub unpack-spare : (κs : Lfts 1) (word n : ℕ) (room : LentRoom) (r : _) (last : List ℕ) → Unpacks κs word n room r last
    → drop (unpacked r last).written last ≡ drop (unpacked r last).written room.now
unfolding outcomes.unpack_outcome
unpack-spare κs word n room r last h =
    ap (λ (l : List ℕ). drop (unpacked r last).written l) (sym (unpacked-room r last)) ∙ subst (λ (o : outcomes.Unpacked). drop o.written o.room ≡ drop o.written room.now) (sym h)
    (unpack-rest n word (refusal (unpack_tests word n room.now)) room.now)

-- a page
pub page-spare : (κs : Lfts 1) (k m key word start : ℕ) (room : LentRoom) (r : _) (last : List ℕ) → Pages κs k m key word start room r last
    → drop (paged r last).written last ≡ drop (paged r last).written room.now
unfolding outcomes.page_outcome
page-spare κs k m key word start room r last h =
    ap (λ (l : List ℕ). drop (paged r last).written l) (sym (paged-room r last)) ∙ subst (λ (o : outcomes.Paged). drop o.written o.room ≡ drop o.written room.now) (sym h)
    (page-rest (keyed (word_of m key)) k (word_of m word) start (refusal (page_tests k m key word start)) room.now)

-- a whole shelf by pages
pub list-spare : (κs : Lfts 1) (k m key word each : ℕ) (room : LentRoom) (r : _) (last : List ℕ) → Lists κs k m key word each room r last
    → drop (listers.listed r last).written last ≡ drop (listers.listed r last).written room.now
unfolding listers.list_outcome
list-spare κs k m key word each room r last h =
    ap (λ (l : List ℕ). drop (listers.listed r last).written l) (sym (listers.listed-room r last)) ∙ subst (λ (o : listers.Listed). drop o.written o.room ≡ drop o.written room.now) (sym h)
    (list-rest (keyed (word_of m key)) k (word_of m word) (refusal (list_tests k m key word each room.now)) room.now)
