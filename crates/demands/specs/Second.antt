-- Demand 2. The size of a shelf, the counts of its worksheet, the plain counter, the vigemin and the scan are what the notions say, whatever their
-- contracts allow them to answer: for every k from 1 to 31, every m from 1 to k, every key and word below 4^m (`ShelfAccepted` in `Accepted` of
-- `laws`; likewise for the other operations), and every sequence that is not refused.
-- That the size and the vigemin are so stands in proofs/.
-- Assumes nothing.
use Rattle.std.specs.Prelude.{ℕ, suc, Result, Ok, Err, ◌+◌, ◌-◌, ◌*◌, ◌≤◌, ◌<◌, ◌&&◌, List, ◌≡◌, length, get_or}
use Rattle.std.proofs.Math.Path.{refl, ap}
use Rattle.std.proofs.Common.{sym, subst, ◌∙◌, arith}
use contract.Lifetimes.{Lfts}
use Rattle.std.proofs.lemmas.List.{length-map}
use Rattle.definitions.specs.Lists.{tabulate, over, total}
use Rattle.definitions.specs.Words.{Word, Mer, val, word as word_of, letter_of, spelled, text}
use Rattle.definitions.specs.Vigemins.{keyed, scan}
use Rattle.definitions.specs.Shelves.{size, antemers, postmers, antemer, postmer, begins, column}
use Rattle.definitions.specs.Refusals.{refusal}
use Rattle.definitions.specs.Outcomes.{Packed, Unpacked, Counted, Worked, Scanned, ForeignScanned, size_answer, size_outcome, worksheet_answer, worksheet_outcome, counter_answer, counter_outcome, scan_answer, scan_outcome, scan_bytes_outcome, foreign_scan_outcome, scan_grounds, coded, as_bytes}
use Rattle.laws.specs.Tests.{and_l, and_r, and_i, same-eq, eq-same}
use Rattle.laws.specs.Numbers.{length_digits}
use Rattle.laws.specs.Minima.{length-windows}
use Rattle.laws.specs.Scans.{length-scan, scan-inside, scan-least, scan-leftmost}
use Rattle.laws.specs.Split.{column-at, column-above}
use Rattle.laws.specs.Accepted.{PackAccepted, UnpackAccepted, ShelfAccepted, CounterAccepted, ScanAccepted, accepted-word, accepted-counter, accepted-scan, size-count}
use Rattle.laws.specs.RoundTrips.{pack-outcome, unpack-outcome, counter-row}
use Rattle.laws.proofs.RoundTrips.{worksheet-size}
use Rattle.refusals.specs.declared.Refusal.{Refusal}
use Rattle.words.specs.Answers.{packed, unpacked, unpacked-room}
use Rattle.scans.specs.Answers.{scanned}
use Rattle.worksheets.specs.Answers.{worked}
use Rattle.sizes.specs.Answers.{counted}
use Rattle.counters.specs.Answers as counters
use Rattle.demands.specs.Promises.{Lent, LentRoom, Packs, Unpacks, Scans, ScansBytes, Works, Sizes, Counts, ForeignScans}
use Rattle.demands.specs.Meanings.{mer_at, keyed_number, Vigemin, Antemer, Postmer, Number, antemer-means, postmer-means, number-filter}

-- ---- sizes and worksheets

-- how many k-mers have the vigemin w
abbrev pub SizeIs : ℕ → Word → Word → ℕ → Type 0
SizeIs k key w n = Number (λ x. Mer k x × Vigemin key w x) n

-- how many antemers of w have length a
abbrev pub AntemersAre : Word → Word → ℕ → ℕ → Type 0
AntemersAre key w a n = Number (λ y. Mer a y × Antemer key w y) n

-- how many postmers of w have length m + a and begin with w
abbrev pub PostmersAre : Word → Word → ℕ → ℕ → Type 0
PostmersAre key w a n = Number (λ z. Mer (length w + a) z × ((mer_at (length w) z 0 ≡ w) × Postmer key w z)) n

-- a worksheet of 31 rows: row a holds the antemers of length a and the postmers of length m + a that begin with w; rows above k − m hold 0 twice
pub record WorksheetIs (k m : ℕ) (key w : Word) (before after : List ℕ) : Type 0 where
  pub antemers : (a : ℕ) → m + a ≤ k → AntemersAre key w a (get_or before a 0)
  pub postmers : (a : ℕ) → m + a ≤ k → PostmersAre key w a (get_or after a 0)
  pub above : (a : ℕ) → k < m + a → a < 31 → (get_or before a 0 ≡ 0) × (get_or after a 0 ≡ 0)
  pub rows : (length before ≡ 31) × (length after ≡ 31)

module _ (key w : Word) where
  -- the rows of the worksheet that are defined are those numbers
  antemers-mean : (a : ℕ) → AntemersAre key w a (antemers (keyed key) w a)
  antemers-mean a = number-filter (antemer (keyed key) w) a (Antemer key w) (λ y h. antemer-means key w y)

  postmers-mean : (a : ℕ) → PostmersAre key w a (postmers (keyed key) w a)
  postmers-mean a =
      number-filter (λ z. begins w z && postmer (keyed key) w z) (length w + a) (λ z. (mer_at (length w) z 0 ≡ w) × Postmer key w z)
      (λ z h. (
        λ e. (same-eq (mer_at (length w) z 0) w (and_l (begins w z) (postmer (keyed key) w z) e), (postmer-means key w z).0 (and_r (begins w z) (postmer (keyed key) w z) e)),
        λ p. and_i (begins w z) (postmer (keyed key) w z) (eq-same p.0) ((postmer-means key w z).1 p.1),
      ))

module _ {k m key word : ℕ} (a : ShelfAccepted k m key word) where
  -- the word is no longer than a k-mer
  pub fits : length (word_of m word) ≤ k
  fits = rw (length_digits 4 m word) a.order.m_fits

  -- what the size may answer is the size that is defined
  pub size-defined : (r : _) → Sizes k m key word r → (counted r).count ≡ size (keyed (word_of m key)) k (word_of m word)
  size-defined r h = ap (λ (o : Counted). o.count) h ∙ size-count k m key word (accepted-word a)

  -- what the worksheet answers where nothing is refused
  worked-columns : (r : _) → Works k m key word r
      → ((worked r).refusal ≡ 0) × ((worked r).antemers ≡ column k m (antemers (keyed (word_of m key)) (word_of m word)))
      × ((worked r).postmers ≡ column k m (postmers (keyed (word_of m key)) (word_of m word)))
  unfolding worksheet_outcome worksheet_answer
  worked-columns r h =
      let e = h ∙ ap (λ (n : ℕ). worksheet_answer n (keyed (word_of m key)) k m (word_of m word)) (accepted-word a) in
      (ap (λ (o : Worked). o.refusal) e, ap (λ (o : Worked). o.antemers) e, ap (λ (o : Worked). o.postmers) e)

  -- whatever the worksheet may answer has these counts in its rows
  pub worksheet-right : (r : _) → Works k m key word r
      → ((worked r).refusal ≡ 0) × WorksheetIs k m (word_of m key) (word_of m word) (worked r).antemers (worked r).postmers
  worksheet-right r h =
      let c = worked-columns r h in
      let f = keyed (word_of m key) in
      let w = word_of m word in (
        c.0,
        record {
          antemers = λ i b. subst (AntemersAre (word_of m key) w i) (sym (rw c.1 (column-at k m (antemers f w) i b (few i b)))) (antemers-mean (word_of m key) w i);
          postmers = λ i b. subst (PostmersAre (word_of m key) w i) (sym (rw c.2 (column-at k m (postmers f w) i b (few i b)))) (postmers-mean (word_of m key) w i);
          above = λ i b t. (rw c.1 (column-above k m (antemers f w) i b t), rw c.2 (column-above k m (postmers f w) i b t));
          rows = (rw c.1 refl, rw c.2 refl);
        },
      )
    where
      few : (i : ℕ) → m + i ≤ k → i < 31
      few i b = omega (arith, a.order.m_some, a.order.k_few)

  -- the size is the sum over a of the antemers in row k − m − a times the postmers in row a
  pub size-worksheet : (r : _) → Works k m key word r → (s : _) → Sizes k m key word s
      → (counted s).count ≡ total (tabulate (λ i. get_or (worked r).antemers (k - m - i) 0 * get_or (worked r).postmers i 0) (suc (k - m)))
  size-worksheet r h s g = size-defined s g ∙ sym (worksheet-size k m key word h (accepted-word a))

-- so of W3, key TAA and word AAA: whatever the size may answer is 4, where Lemma 8 as printed gives 1
pub size-case : (r : _) → Sizes 4 3 48 0 r → ((counted r).refusal ≡ 0) × ((counted r).count ≡ 4)
unfolding size_outcome size_answer
size-case r h = (ap (λ (o : Counted). o.refusal) h, ap (λ (o : Counted). o.count) h)

-- whatever the plain counter may answer is the number of antemers of length k − m
pub counter-right : {k m key word : ℕ} → CounterAccepted k m key word → (r : _) → Counts k m key word r
    → ((counters.counted r).refusal ≡ 0) × AntemersAre (word_of m key) (word_of m word) (k - m) (counters.counted r).count
unfolding counter_outcome counter_answer
counter-right {k} {m} {key} {word} a r h =
    let e = h ∙ ap (λ (n : ℕ). counter_answer n (keyed (word_of m key)) (k - m) (word_of m word)) (accepted-counter a) in (
      ap (λ (o : Counted). o.refusal) e,
      subst (AntemersAre (word_of m key) (word_of m word) (k - m)) (sym (ap (λ (o : Counted). o.count) e)) (antemers-mean (word_of m key) (word_of m word) (k - m)),
    )

-- which stands in row k − m of the worksheet
pub counter-worksheet : {k m key word : ℕ} → CounterAccepted k m key word → (r : _) → Counts k m key word r → (s : _) → Works k m key word s
    → (counters.counted r).count ≡ get_or (worked s).antemers (k - m) 0
counter-worksheet {k} {m} {key} {word} a r h s g =
    ap (λ (o : Counted). o.count) h ∙ counter-row k m key word (sym (ap (λ (o : Counted). o.refusal) h) ∙ (counter-right a r h).0)
    ∙ ap (λ (o : Worked). get_or o.antemers (k - m) 0) (sym g)

-- ---- the vigemin and the scan

-- the position for the window of k letters at place i of a sequence: it lies in the window with all m letters; no m-mer of the window is below the
-- one there, once keyed; and each of the window to its left is strictly above
pub record WindowAt (key : Word) (k m : ℕ) (s : Word) (i p : ℕ) : Type 0 where
  pub inside : (i ≤ p) × (p + m ≤ i + k)
  pub least : (q : ℕ) → i ≤ q → q + m ≤ i + k → keyed_number key (mer_at m s p) ≤ keyed_number key (mer_at m s q)
  pub leftmost : (q : ℕ) → i ≤ q → q < p → keyed_number key (mer_at m s p) < keyed_number key (mer_at m s q)

-- the positions of a sequence: one for each window of k letters, from left to right
pub record PositionsOf (key : Word) (k m : ℕ) (s : Word) (positions : List ℕ) : Type 0 where
  pub many : length positions ≡ suc (length s) - k
  pub each : (i : ℕ) → i + k ≤ length s → WindowAt key k m s i (get_or positions i 0)

-- the scan that is defined has them
positions-mean : (key : Word) (k m : ℕ) (s : Word) → m ≤ k → PositionsOf key k m s (scan (keyed key) k m s)
positions-mean key k m s fits =
    let f = keyed key in
    record {
      many = length-scan f k m s;
      each = λ i h. record { inside = scan-inside f k m s i fits h; least = scan-least f k m s i fits h; leftmost = scan-leftmost f k m s i fits h };
    }

-- what a scan leaves in its room: the positions of the sequence at its front, as `entries` has them, and then the room as it was
pub record ScanIs (entries : List ℕ → List ℕ) (key : Word) (k m : ℕ) (seq room : List ℕ) (count : ℕ) (last : List ℕ) : Type 0 where
  pub positions : List ℕ
  pub right : PositionsOf key k m (spelled seq) positions
  pub counted : count ≡ length positions
  pub written : last ≡ over (entries positions) room

-- the answer under the number of refusal of a sequence that is accepted
scan-answered : {k m key each : ℕ} {seq room : List ℕ} → ScanAccepted k m key seq each room → (entries : List ℕ → List ℕ) {o : Scanned}
    → o ≡ scan_answer (refusal (scan_grounds k m key seq each room)) entries (keyed (word_of m key)) k m seq room
    → (o.refusal ≡ 0) × ScanIs entries (word_of m key) k m seq room o.windows o.room
unfolding scan_answer
scan-answered {k} {m} {key} {each} {seq} {room} a entries h =
    let f = keyed (word_of m key) in
    let e = h ∙ ap (λ (n : ℕ). scan_answer n entries f k m seq room) (accepted-scan a) in (
      ap (λ (o : Scanned). o.refusal) e,
      record {
        positions = scan f k m (spelled seq);
        right = positions-mean (word_of m key) k m (spelled seq) a.order.m_fits;
        counted =
            ap (λ (o : Scanned). o.windows) e ∙ length-windows k seq ∙ sym (length-scan f k m (spelled seq) ∙ ap (λ (n : ℕ). suc n - k) (length-map seq letter_of));
        written = ap (λ (o : Scanned). o.room) e;
      },
    )

-- the room of an answer as an outcome is what the room holds at last
scanned-room : (r : Result ℕ Refusal) (last : List ℕ) → (scanned r last).room ≡ last
scanned-room (Ok n) last = refl
scanned-room (Err e) last = refl

module _ (κs : Lfts 2) {k m key : ℕ} (seq : Lent) (room : LentRoom) where
  -- whatever the scan may answer, and leave in the room
  pub scan-right : ScanAccepted k m key seq.now 1 room.now → (r : _) (last : List ℕ) → Scans κs k m key seq room r last
      → ((scanned r last).refusal ≡ 0) × ScanIs (λ ps. ps) (word_of m key) k m seq.now room.now (scanned r last).windows last
  unfolding scan_outcome
  scan-right a r last h =
      subst (λ (l : List ℕ). ((scanned r last).refusal ≡ 0) × ScanIs (λ ps. ps) (word_of m key) k m seq.now room.now (scanned r last).windows l)
      (scanned-room r last) (scan-answered a (λ ps. ps) h)

  -- the scan into bytes: four for each position, high first
  pub scan-bytes-right : ScanAccepted k m key seq.now 4 room.now → (r : _) (last : List ℕ) → ScansBytes κs k m key seq room r last
      → ((scanned r last).refusal ≡ 0) × ScanIs as_bytes (word_of m key) k m seq.now room.now (scanned r last).windows last
  unfolding scan_bytes_outcome
  scan-bytes-right a r last h =
      subst (λ (l : List ℕ). ((scanned r last).refusal ≡ 0) × ScanIs as_bytes (word_of m key) k m seq.now room.now (scanned r last).windows l)
      (scanned-room r last) (scan-answered a as_bytes h)

  -- and so the foreign scan
  pub foreign-scan-right : ScanAccepted k m key seq.now 4 room.now → (r : _) (last : List ℕ) → ForeignScans κs k m key seq room r last
      → ScanIs as_bytes (word_of m key) k m seq.now room.now r last
  unfolding foreign_scan_outcome scan_bytes_outcome
  foreign-scan-right a r last h =
      let o = scan_bytes_outcome k m key seq.now room.now in
      let b = scan-answered a as_bytes {o = o} refl in
      let answer : r ≡ o.windows = ap (λ (x : ForeignScanned). x.answer) h ∙ ap (λ (n : ℕ). coded n o.place o.windows) b.0 in
      let same : last ≡ o.room = ap (λ (x : ForeignScanned). x.room) h in
      rw (answer, same) b.1

-- ---- packing and unpacking

-- whatever packing may answer is the number of the word that the text spells
pub pack-right : (κs : Lfts 1) (t : Lent) → PackAccepted t.now → (r : _) → Packs κs t r → ((packed r).refusal ≡ 0) × ((packed r).word ≡ val (spelled t.now))
pack-right κs t a r h =
    let e = h ∙ pack-outcome a in
    (ap (λ (o : Packed). o.refusal) e, ap (λ (o : Packed). o.word) e)

-- whatever unpacking may answer, and leave in the room: as many letters as were asked for, and at the front of the room the word in capitals
pub unpack-right : (κs : Lfts 1) (word n : ℕ) (room : LentRoom) → UnpackAccepted word n room.now → (r : _) (last : List ℕ) → Unpacks κs word n room r last
    → ((unpacked r last).refusal ≡ 0) × ((unpacked r last).written ≡ n) × (last ≡ over (text (word_of n word)) room.now)
unpack-right κs word n room a r last h =
    let e = h ∙ unpack-outcome a in
    (ap (λ (o : Unpacked). o.refusal) e, ap (λ (o : Unpacked). o.written) e, sym (unpacked-room r last) ∙ ap (λ (o : Unpacked). o.room) e)
