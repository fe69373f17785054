-- Outcomes of operations that lead back to each other or agree: packing and unpacking, the plain counter and the worksheet; and what it is that a scan
-- agrees with the vigemin of each of its windows, which is proved in proofs/, as is that the worksheet and the size agree.
-- Assumes nothing.
use Rattle.std.specs.Prelude.{ℕ, ◌+◌, ◌-◌, ◌^◌, ◌≤◌, ◌<◌, true, List, ◌≡◌, refl, length, get_or, take, drop}
use Rattle.std.proofs.Common.{sym, ap, ◌∙◌, arith, take_at}
use Rattle.std.proofs.Math.Nat.{pow-le-pow_right}
use Rattle.std.proofs.lemmas.List.{length-map}
use Rattle.definitions.specs.Lists.{all, over}
use Rattle.definitions.specs.Words.{Letters, val, word, same, letter_of, is_letter_byte, spelled, text}
use Rattle.definitions.specs.Vigemins.{keyed, windows, vigemin_at, vigemin, scan}
use Rattle.definitions.specs.Shelves.{size, antemers}
use Rattle.definitions.specs.Refusals.{refusal}
use Rattle.definitions.specs.Outcomes.{pack_answer, pack_outcome, unpack_grounds, unpack_answer, unpack_outcome, vigemin_answer, vigemin_outcome, worksheet_answer, worksheet_outcome, counter_grounds, counter_answer, counter_outcome, scan_grounds, scan_answer, scan_outcome}
use Rattle.laws.specs.Numbers.{four-pos, digits-below, number-digits-lt, digits_number, spelled-text, text-spelled, spelled-letters, text-letters, length-text, spelled-small}
use Rattle.laws.specs.Minima.{length-stretch, all-stretch}
use Rattle.laws.specs.Counting.{count-le}
use Rattle.laws.specs.Split.{column-at}
use Rattle.laws.specs.Accepted.{ShelfAccepted, PackAccepted, pack-accepted, accepted-pack, UnpackAccepted, unpack-accepted, accepted-unpack, VigeminAccepted, accepted-word, counter-accepted, accepted-counter, counter_answer-refusal, ScanAccepted, scan-accepted, accepted-scan, pack-refusal, unpack_answer-refusal, scan_answer-refusal}

-- ---- what is answered where nothing is refused

-- a text that packing accepts is answered by the number of the word that it spells
pub pack-outcome : {t : List ℕ} → PackAccepted t → pack_outcome t ≡ record { refusal = 0; place = 0; word = val (spelled t) }
unfolding pack_outcome pack_answer
pack-outcome {t} a = ap (λ r. pack_answer r t) (accepted-pack a)

packed-accepted : (t : List ℕ) → (pack_outcome t).refusal ≡ 0 → PackAccepted t
packed-accepted t z = pack-accepted t (sym (pack-refusal t) ∙ z)

-- a word that unpacking accepts is written over the front of the room
pub unpack-outcome : {x n : ℕ} {room : List ℕ} → UnpackAccepted x n room
    → unpack_outcome x n room ≡ record { refusal = 0; written = n; room = over (text (word n x)) room }
unfolding unpack_outcome unpack_answer
unpack-outcome {x} {n} {room} a = ap (λ r. unpack_answer r x n room) (accepted-unpack a)

unpacked-accepted : (x n : ℕ) (room : List ℕ) → (unpack_outcome x n room).refusal ≡ 0 → UnpackAccepted x n room
unfolding unpack_outcome
unpacked-accepted x n room z = unpack-accepted x n room (sym (unpack_answer-refusal (refusal (unpack_grounds x n room)) x n room) ∙ z)

-- a k-mer that the vigemin accepts is answered by its vigemin
pub vigemin-outcome : {k m key x : ℕ} → VigeminAccepted k m key x
    → vigemin_outcome k m key x ≡ (let f = keyed (word m key) in record { refusal = 0; word = val (vigemin f m (word k x)); position = vigemin_at f m (word k x) })
unfolding vigemin_outcome vigemin_answer
vigemin-outcome {k} {m} {key} {x} a = ap (λ r. vigemin_answer r (keyed (word m key)) m (word k x)) (accepted-word a)

-- a sequence that a scan accepts is answered by its positions
pub scan-outcome : {k m key : ℕ} {s room : List ℕ} → ScanAccepted k m key s 1 room
    → scan_outcome k m key s room ≡ record { refusal = 0; place = 0; windows = length (windows k s); room = over (scan (keyed (word m key)) k m (spelled s)) room }
unfolding scan_outcome scan_answer
scan-outcome {k} {m} {key} {s} {room} a = ap (λ r. scan_answer r (λ ps. ps) (keyed (word m key)) k m s room) (accepted-scan a)

pub scanned-accepted : (k m key : ℕ) (s room : List ℕ) → (scan_outcome k m key s room).refusal ≡ 0 → ScanAccepted k m key s 1 room
unfolding scan_outcome
scanned-accepted k m key s room z =
    scan-accepted k m key s 1 room (sym (scan_answer-refusal (refusal (scan_grounds k m key s 1 room)) (λ ps. ps) (keyed (word m key)) k m s room) ∙ z)

-- ---- packing and unpacking

-- the word of n letters that has the number of a packed text is what the text spells
pub packed-word : {t : List ℕ} {n : ℕ} → PackAccepted t → length t ≡ n → word n (pack_outcome t).word ≡ spelled t
packed-word {t} a e = rw (pack-outcome a) (digits_number 4 (spelled t) (spelled-letters t a.all_letters) (length-map t letter_of ∙ e))

-- the number of a packed text of n letters is that of a word of n letters
pub packed-small : {t : List ℕ} {n : ℕ} → PackAccepted t → length t ≡ n → (pack_outcome t).word < 4 ^ n
packed-small {t} a e = rw (pack-outcome a, ← e) (spelled-small t a.all_letters)

-- a text that is packed and unpacked again is the same text
pub unpack-pack : (t room : List ℕ) → (pack_outcome t).refusal ≡ 0 → length t ≤ length room
    → unpack_outcome (pack_outcome t).word (length t) room ≡ record { refusal = 0; written = length t; room = over t room }
unpack-pack t room z h =
    let a = packed-accepted t z in
    let b : UnpackAccepted (pack_outcome t).word (length t) room = record { some = a.some; few = a.few; small = packed-small a refl; fits = h } in
    rw (unpack-outcome b, packed-word a refl, text-spelled t a.all_letters)

-- a word that is unpacked and packed again is the same word
pub pack-unpack : (x n : ℕ) (room : List ℕ) → (unpack_outcome x n room).refusal ≡ 0
    → pack_outcome (take (unpack_outcome x n room).written (unpack_outcome x n room).room) ≡ record { refusal = 0; place = 0; word = x }
pack-unpack x n room z =
    rw (unpack-outcome a, take_at (text (word n x)) _ n long, pack-outcome b, spelled-text (word n x) l, number-digits-lt four-pos n x a.small)
  where
    a : UnpackAccepted x n room
    a = unpacked-accepted x n room z

    l : Letters (word n x)
    l = digits-below four-pos n x

    long : length (text (word n x)) ≡ n
    long = length-text n x

    b : PackAccepted (text (word n x))
    b = record { some = rw long a.some; few = rw long a.few; all_letters = text-letters (word n x) l }

-- ---- a scan and the vigemin of each window

-- the number that packing gives for the n letters of a sequence from place p on
abbrev pub packed_at : ℕ → List ℕ → ℕ → ℕ
packed_at n s p = (pack_outcome (take n (drop p s))).word

-- the position that a scan writes for the window at place p
abbrev pub scanned_at : ℕ → ℕ → ℕ → List ℕ → List ℕ → ℕ → ℕ
scanned_at k m key s room p = get_or (scan_outcome k m key s room).room p 0

-- a scan agrees with packing and the vigemin on the window at place p: its k-mer is packed, the vigemin of this is found, the scan
-- writes its position counted from the start of the sequence, and packing what stands there gives its word
pub record WindowAgrees (k m key : ℕ) (s room : List ℕ) (p : ℕ) : Type 0 where
  pub packs : (pack_outcome (take k (drop p s))).refusal ≡ 0
  pub finds : (vigemin_outcome k m key (packed_at k s p)).refusal ≡ 0
  pub position : scanned_at k m key s room p ≡ p + (vigemin_outcome k m key (packed_at k s p)).position
  pub word : (vigemin_outcome k m key (packed_at k s p)).word ≡ packed_at m s (scanned_at k m key s room p)

-- packing accepts 1 to 31 bytes from any place of a sequence of letters
pub stretch-packed : (n : ℕ) (s : List ℕ) (p : ℕ) → 0 < n → n ≤ 31 → p + n ≤ length s → all is_letter_byte s ≡ true → PackAccepted (take n (drop p s))
stretch-packed n s p some few h e =
    let l = length-stretch n s p h in
    record { some = rw l some; few = rw l few; all_letters = all-stretch is_letter_byte n s p 0 h e }

-- ---- the plain counter and the worksheet

-- the plain counter's answer is the number of antemers in row k − m of the worksheet
pub counter-row : (k m key w : ℕ) → (counter_outcome k m key w).refusal ≡ 0
    → (counter_outcome k m key w).count ≡ get_or (worksheet_outcome k m key w).antemers (k - m) 0
unfolding counter_outcome worksheet_outcome counter_answer worksheet_answer
counter-row k m key w z =
    let a = counter-accepted k m key w (sym (counter_answer-refusal (refusal (counter_grounds k m key w)) (keyed (word m key)) (k - m) (word m w)) ∙ z) in
    let order = a.shelf.order in
    let count = antemers (keyed (word m key)) (word m w) in
    rw (accepted-counter a, accepted-word a.shelf)
    (sym (column-at k m count (k - m) (omega (arith, order.m_fits)) (omega (arith, order.k_few, order.m_some, order.m_fits))))

-- ---- the size

module _ {k m key w : ℕ} (a : ShelfAccepted k m key w) where
  -- no more k-mers stand on a shelf than there are
  pub size_small : size (keyed (word m key)) k (word m w) ≤ 4 ^ 31
  size_small =
      let few : k ≤ 31 = a.order.k_few in
      let most : 4 ^ k ≤ 4 ^ 31 = pow-le-pow_right four-pos few in
      omega (arith, count-le (λ x. same (vigemin (keyed (word m key)) (length (word m w)) x) (word m w)) k)
