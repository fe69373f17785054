-- What an operation accepts: for each list of grounds the facts that hold of the inputs exactly if none is met, as a record, and
-- the way there and back. Then, that an answer bears the refusal that it was given.
-- Assumes nothing.
use Rattle.std.specs.Prelude.{ℕ, zero, suc, ◌-◌, ◌*◌, ◌^◌, ◌≤◌, ◌<◌, Bool, true, false, cond, not, ◌||◌, List, [], ◌∷◌, ◌++◌, ◌≡◌, refl, ltb, eqb, length}
use Rattle.std.proofs.Common.{true≢false, sym, ap, ◌∙◌, zero-lt-suc, suc-ne-zero, arith, ltb-true, ltb-false, le-ltb, leb-false, eqb-true, ne_eqb}
use Rattle.std.proofs.lemmas.Bool.{lt-leb, not-false}
use Rattle.definitions.specs.Lists.{all}
use Rattle.definitions.specs.Words.{Word, word, is_letter_byte}
use Rattle.definitions.specs.Vigemins.{Form, keyed, windows}
use Rattle.definitions.specs.Shelves.{size}
use Rattle.definitions.specs.Refusals.{Ground, refusal, bad_key, bad_word, bad_sequence, bad_letter, bad_room, bad_start, bad_counter, first_bad_place, place_beside}
use Rattle.definitions.specs.Outcomes.{pack_grounds, unpack_grounds, order_grounds, shelf_grounds, counter_grounds, page_grounds, scan_grounds, pack_answer, pack_outcome, unpack_answer, size_answer, size_outcome, worksheet_answer, counter_answer, scan_answer, as_bytes, scan_bytes_outcome}
use Rattle.laws.specs.Numbers.{first_bad_place-all}
use Rattle.laws.specs.Refusals.{refusal-unmet, unmet-refusal, refusal-append, refusal-most}

-- the test of a length, and of m, is not met exactly by the numbers from 1 to a top
pub inside : (n top : ℕ) → (eqb n 0 || ltb top n) ≡ false → (0 < n) × (n ≤ top)
inside zero top e = absurd (true≢false e)
inside (suc n) top e = (zero-lt-suc n, ltb-false top (suc n) (rw (ne_eqb (suc n) 0 (suc-ne-zero n)) at e))

not-outside : {n top : ℕ} → 0 < n → n ≤ top → (eqb n 0 || ltb top n) ≡ false
not-outside {n} {top} h l = rw (ne_eqb n 0 (omega arith)) (le-ltb top n l)

-- ---- pack(text)

-- what packing accepts: 1 to 31 bytes, each a letter
pub record PackAccepted (t : List ℕ) : Type 0 where
  pub some : 0 < length t
  pub few : length t ≤ 31
  pub all_letters : all is_letter_byte t ≡ true

-- where packing refuses nothing, it has such a text
pub pack-accepted : (t : List ℕ) → refusal (pack_grounds t) ≡ 0 → PackAccepted t
pack-accepted t z =
    let u = (refusal-unmet [] (pack_grounds t) (omega arith) z).1 in
    let n = inside (length t) 31 u.0 in
    record { some = n.0; few = n.1; all_letters = not-false (all is_letter_byte t) u.1.0 }

-- such a text is not refused
pub accepted-pack : {t : List ℕ} → PackAccepted t → refusal (pack_grounds t) ≡ 0
accepted-pack {t} a = unmet-refusal [] (pack_grounds t) refl (not-outside a.some a.few, (ap not a.all_letters, tt))

-- ---- unpack(word, length, room)

-- what unpacking accepts: 1 to 31 letters, a word of so many, and room for them
pub record UnpackAccepted (x n : ℕ) (room : List ℕ) : Type 0 where
  pub some : 0 < n
  pub few : n ≤ 31
  pub small : x < 4 ^ n
  pub fits : n ≤ length room

-- where unpacking refuses nothing, it has such inputs
pub unpack-accepted : (x n : ℕ) (room : List ℕ) → refusal (unpack_grounds x n room) ≡ 0 → UnpackAccepted x n room
unpack-accepted x n room z =
    let u = (refusal-unmet [] (unpack_grounds x n room) (omega arith) z).1 in
    omega (arith, inside n 31 u.0, leb-false, ltb-false)

-- such inputs are not refused
pub accepted-unpack : {x n : ℕ} {room : List ℕ} → UnpackAccepted x n room → refusal (unpack_grounds x n room) ≡ 0
accepted-unpack {x} {n} {room} a =
    unmet-refusal [] (unpack_grounds x n room) refl (not-outside a.some a.few, omega (arith, lt-leb, le-ltb))

-- ---- k, m and the key

-- the lengths and keys that every other operation accepts: 1 ≤ m ≤ k ≤ 31, and a key of m letters
pub record OrderAccepted (k m key : ℕ) : Type 0 where
  pub k_some : 0 < k
  pub k_few : k ≤ 31
  pub m_some : 0 < m
  pub m_fits : m ≤ k
  pub key_small : key < 4 ^ m

-- where k, m and the key are not refused, they are such
pub order-accepted : (k m key : ℕ) → refusal (order_grounds k m (bad_key m key)) ≡ 0 → OrderAccepted k m key
order-accepted k m key z =
    let u = (refusal-unmet [] (order_grounds k m (bad_key m key)) (omega arith) z).1 in
    omega (arith, inside k 31 u.0, inside m k u.1.0, leb-false)

-- such a k, m and key are not refused
pub accepted-order : {k m key : ℕ} → OrderAccepted k m key → refusal (order_grounds k m (bad_key m key)) ≡ 0
accepted-order {k} {m} {key} a =
    unmet-refusal [] (order_grounds k m (bad_key m key)) refl
    (not-outside a.k_some a.k_few, (not-outside a.m_some a.m_fits, omega (arith, lt-leb)))

-- ---- vigemin(k, m, key, kmer), size and worksheet(k, m, key, word)

-- what these accept: a k, m and key, and the number of a word of n letters
pub record WordAccepted (n k m key x : ℕ) : Type 0 where
  pub order : OrderAccepted k m key
  pub small : x < 4 ^ n

-- the vigemin takes a k-mer
abbrev pub VigeminAccepted : ℕ → ℕ → ℕ → ℕ → Type 0
VigeminAccepted k m key x = WordAccepted k k m key x

-- the size and the worksheet take an m-mer
abbrev pub ShelfAccepted : ℕ → ℕ → ℕ → ℕ → Type 0
ShelfAccepted k m key w = WordAccepted m k m key w

-- where they refuse nothing, they have such inputs: for the vigemin n is k, and for the shelf m
pub word-accepted : (n k m key x : ℕ) → refusal (order_grounds k m (bad_key m key) ++ (bad_word n x ∷ [])) ≡ 0 → WordAccepted n k m key x
word-accepted n k m key x z =
    let u = refusal-unmet (order_grounds k m (bad_key m key)) (bad_word n x ∷ []) (omega arith) z in
    record { order = order-accepted k m key u.0; small = leb-false (4 ^ n) x u.1.0 }

-- such inputs are not refused
pub accepted-word : {n k m key x : ℕ} → WordAccepted n k m key x → refusal (order_grounds k m (bad_key m key) ++ (bad_word n x ∷ [])) ≡ 0
accepted-word {n} {k} {m} {key} {x} a =
    unmet-refusal (order_grounds k m (bad_key m key)) (bad_word n x ∷ []) (accepted-order a.order) (omega (arith, lt-leb))

-- ---- the plain counter (k, m, key, word)

-- where a shelf's grounds come first, the refusal is theirs or, where that is 0, that of the others
pub shelf-refusal : (k m key w : ℕ) (others : List Ground) {r : ℕ} → r ≡ refusal (shelf_grounds k m key w)
    → refusal (shelf_grounds k m key w ++ others) ≡ cond (eqb r 0) (refusal others) r
shelf-refusal k m key w others e = refusal-append (shelf_grounds k m key w) others (omega arith) (sym e)

-- what the plain counter accepts: what a shelf takes, and k − m up to 10
pub record CounterAccepted (k m key w : ℕ) : Type 0 where
  pub shelf : ShelfAccepted k m key w
  pub near : k - m ≤ 10

-- where the plain counter refuses nothing, it has such inputs
pub counter-accepted : (k m key w : ℕ) → refusal (counter_grounds k m key w) ≡ 0 → CounterAccepted k m key w
counter-accepted k m key w z =
    let u = refusal-unmet (shelf_grounds k m key w) (bad_counter k m ∷ []) (omega arith) z in
    record { shelf = word-accepted m k m key w u.0; near = ltb-false 10 (k - m) u.1.0 }

-- such inputs are not refused
pub accepted-counter : {k m key w : ℕ} → CounterAccepted k m key w → refusal (counter_grounds k m key w) ≡ 0
accepted-counter {k} {m} {key} {w} a =
    unmet-refusal (shelf_grounds k m key w) (bad_counter k m ∷ []) (accepted-word a.shelf) (omega (arith, le-ltb))

-- ---- page(k, m, key, word, start, room)

-- what a page accepts: what a shelf takes, and a start up to the size
pub record PageAccepted (k m key w start : ℕ) : Type 0 where
  pub shelf : ShelfAccepted k m key w
  pub starts : start ≤ size (keyed (word m key)) k (word m w)

-- where a page refuses nothing, it has such inputs
pub page-accepted : (k m key w start : ℕ) → refusal (page_grounds k m key w start) ≡ 0 → PageAccepted k m key w start
page-accepted k m key w start z =
    let n = size (keyed (word m key)) k (word m w) in
    let u = refusal-unmet (shelf_grounds k m key w) (bad_start n start ∷ []) (omega arith) z in
    record { shelf = word-accepted m k m key w u.0; starts = ltb-false n start u.1.0 }

-- such inputs are not refused
pub accepted-page : {k m key w start : ℕ} → PageAccepted k m key w start → refusal (page_grounds k m key w start) ≡ 0
accepted-page {k} {m} {key} {w} {start} a =
    let n = size (keyed (word m key)) k (word m w) in
    unmet-refusal (shelf_grounds k m key w) (bad_start n start ∷ []) (accepted-word a.shelf) (omega (arith, le-ltb))

-- ---- scan(k, m, key, seq, room)

-- what a scan accepts: a k, m and key, at most 65,536 bytes, each a letter, and room for so many entries for each window
pub record ScanAccepted (k m key : ℕ) (s : List ℕ) (each : ℕ) (room : List ℕ) : Type 0 where
  pub order : OrderAccepted k m key
  pub short : length s ≤ 65536
  pub all_letters : all is_letter_byte s ≡ true
  pub fits : each * length (windows k s) ≤ length room

-- the grounds after those of k, m and the key
abbrev scan_rest : ℕ → List ℕ → ℕ → List ℕ → List Ground
scan_rest k s each room = bad_sequence (length s) ∷ bad_letter s ∷ bad_room (each * length (windows k s)) (length room) ∷ []

-- where a scan refuses nothing, it has such inputs
pub scan-accepted : (k m key : ℕ) (s : List ℕ) (each : ℕ) (room : List ℕ) → refusal (scan_grounds k m key s each room) ≡ 0 → ScanAccepted k m key s each room
scan-accepted k m key s each room z =
    let u = refusal-unmet (order_grounds k m (bad_key m key)) (scan_rest k s each room) (omega arith) z in
    record {
      order = order-accepted k m key u.0;
      short = omega (arith, ltb-false);
      all_letters = not-false (all is_letter_byte s) u.1.1.0;
      fits = omega (arith, ltb-false);
    }

-- such inputs are not refused
pub accepted-scan : {k m key : ℕ} {s : List ℕ} {each : ℕ} {room : List ℕ} → ScanAccepted k m key s each room → refusal (scan_grounds k m key s each room) ≡ 0
accepted-scan {k} {m} {key} {s} {each} {room} a =
    unmet-refusal (order_grounds k m (bad_key m key)) (scan_rest k s each room) (accepted-order a.order)
    (omega (arith, le-ltb), (ap not a.all_letters, omega (arith, le-ltb)))

-- ---- the refusal of an answer is the one that it was given

-- of packing
pub pack_answer-refusal : (r : ℕ) (t : List ℕ) → (pack_answer r t).refusal ≡ r
unfolding pack_answer
pack_answer-refusal zero t = refl
pack_answer-refusal (suc r) t = refl

-- of unpacking
pub unpack_answer-refusal : (r x n : ℕ) (room : List ℕ) → (unpack_answer r x n room).refusal ≡ r
unfolding unpack_answer
unpack_answer-refusal zero x n room = refl
unpack_answer-refusal (suc r) x n room = refl

-- of the size
pub size_answer-refusal : (r : ℕ) (f : Form) (k : ℕ) (w : Word) → (size_answer r f k w).refusal ≡ r
unfolding size_answer
size_answer-refusal zero f k w = refl
size_answer-refusal (suc r) f k w = refl

-- of the worksheet
pub worksheet_answer-refusal : (r : ℕ) (f : Form) (k m : ℕ) (w : Word) → (worksheet_answer r f k m w).refusal ≡ r
unfolding worksheet_answer
worksheet_answer-refusal zero f k m w = refl
worksheet_answer-refusal (suc r) f k m w = refl

-- of the plain counter
pub counter_answer-refusal : (r : ℕ) (f : Form) (a : ℕ) (w : Word) → (counter_answer r f a w).refusal ≡ r
unfolding counter_answer
counter_answer-refusal zero f a w = refl
counter_answer-refusal (suc r) f a w = refl

-- of a scan
pub scan_answer-refusal : (r : ℕ) (entries : List ℕ → List ℕ) (f : Form) (k m : ℕ) (s room : List ℕ) → (scan_answer r entries f k m s room).refusal ≡ r
unfolding scan_answer
scan_answer-refusal zero entries f k m s room = refl
scan_answer-refusal (suc r) entries f k m s room = refl

-- the place in a scan's answer is the one beside its refusal
pub scan_answer-place : (r : ℕ) (entries : List ℕ → List ℕ) (f : Form) (k m : ℕ) (s room : List ℕ) → (scan_answer r entries f k m s room).place ≡ place_beside r s
unfolding scan_answer
scan_answer-place zero entries f k m s room = refl
scan_answer-place (suc r) entries f k m s room = refl

-- ---- packing, and the size

-- the refusal of packing is that of its grounds
pub pack-refusal : (t : List ℕ) → (pack_outcome t).refusal ≡ refusal (pack_grounds t)
unfolding pack_outcome
pack-refusal t = pack_answer-refusal (refusal (pack_grounds t)) t

-- the refusal of a size is that of its shelf
pub size-refusal : (k m key w : ℕ) → (size_outcome k m key w).refusal ≡ refusal (shelf_grounds k m key w)
unfolding size_outcome
size-refusal k m key w = size_answer-refusal (refusal (shelf_grounds k m key w)) (keyed (word m key)) k (word m w)

-- where nothing is refused, the size is counted
pub size-count : (k m key w : ℕ) → refusal (shelf_grounds k m key w) ≡ 0 → (size_outcome k m key w).count ≡ size (keyed (word m key)) k (word m w)
unfolding size_outcome size_answer
size-count k m key w z = ap (λ (r : ℕ). (size_answer r (keyed (word m key)) k (word m w)).count) z

-- ---- the numbers of a refused size and of a refused scan are small

-- the size refuses by at most 4
pub size-refusal-most : (k m key w : ℕ) → (size_outcome k m key w).refusal ≤ 4
size-refusal-most k m key w = rw size-refusal (refusal-most 4 (shelf_grounds k m key w) refl)

module _ (k m key : ℕ) (s : List ℕ) (each : ℕ) (room : List ℕ) where
  -- no number of refusal is above 7
  pub scan-refusal-most : refusal (scan_grounds k m key s each room) ≤ 7
  scan-refusal-most = refusal-most 7 (scan_grounds k m key s each room) refl

  -- the place beside it lies in a sequence of at most 65,536 letters
  pub scan-place-small : place_beside (refusal (scan_grounds k m key s each room)) s < 65536
  scan-place-small = go (eqb (refusal (scan_grounds k m key s each room)) 6) refl
    where
      order : ℕ
      order = refusal (order_grounds k m (bad_key m key))

      -- of 5, 6 and 7 the second is given
      six : (t u v : Bool) → cond {A = ℕ} t 5 (cond u 6 (cond v 7 0)) ≡ 6 → (t ≡ false) × (u ≡ true)
      six true u v e = absurd (omega arith)
      six false true v e = (refl, refl)
      six false false true e = absurd (omega arith)
      six false false false e = absurd (omega arith)

      -- it is given where k, m and the key are good
      later : (t : Bool) → eqb order 0 ≡ t → cond t (refusal (scan_rest k s each room)) order ≡ 6 → refusal (scan_rest k s each room) ≡ 6
      later true q e = e
      later false q e = absurd (omega (arith, refusal-most 3 (order_grounds k m (bad_key m key)) refl))

      go : (t : Bool) → eqb (refusal (scan_grounds k m key s each room)) 6 ≡ t → cond t (first_bad_place s) 0 < 65536
      go false e = omega arith
      go true e =
          let given = refusal-append (order_grounds k m (bad_key m key)) (scan_rest k s each room) {r = order} (omega arith) refl in
          let r = later (eqb order 0) refl (sym given ∙ eqb-true (refusal (scan_grounds k m key s each room)) 6 e) in
          let b = six (ltb 65536 (length s)) (not (all is_letter_byte s)) (ltb (length room) (each * length (windows k s))) r in
          omega (arith, ltb-false 65536 (length s) b.0, ltb-true (first_bad_place s) (length s) (first_bad_place-all s ∙ b.1))

-- the numbers that the scan into bytes answers beside its windows are small
pub scan_bytes-small : (k m key : ℕ) (s room : List ℕ) → ((scan_bytes_outcome k m key s room).refusal ≤ 7) × ((scan_bytes_outcome k m key s room).place < 65536)
unfolding scan_bytes_outcome
scan_bytes-small k m key s room =
    let r = refusal (scan_grounds k m key s 4 room) in
    let f = keyed (word m key) in
    (rw (scan_answer-refusal r as_bytes f k m s room) (scan-refusal-most k m key s 4 room), rw (scan_answer-place r as_bytes f k m s room) (scan-place-small k m key s 4 room))
