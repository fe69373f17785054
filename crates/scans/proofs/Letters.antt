-- A sequence that a scan reads: its values, the m-mer that ends in a letter, and the position for a window.
-- Assumes nothing.
use Prim.Native.Nat.{ℕ, suc, ◌+◌, ◌-◌, ◌*◌, ◌^◌, ◌≤◌, ◌<◌}
use mathlib.Core.List.{List}
use mathlib.Core.Bool.{true}
use mathlib.Core.Path.{◌≡◌, sym, ap, ◌∙◌}
use native.Mathlib.Nat.{mod-lt, one-le-pow}
use native.Mathlib.Omega.{arith}
use lib.ListN.{length, get_or, take, drop, length-map, length-drop}
use lib.Seq.{get_or-drop, drop-drop}
use Rattle.definitions.specs.Words.{Letters, letter_of, is_letter_byte, spelled, val, word as word_of}
use Rattle.definitions.specs.Vigemins.{keyed, least_place, scan}
use Rattle.laws.specs.Filters.{all-at, at_map}
use Rattle.laws.specs.Minima.{length-values}
use Rattle.laws.specs.Numbers.{four-pos, spelled-letters, letters-drop}
use Rattle.laws.specs.Rolls.{rolled, roll-letter, roll-mer, values, value-rolled, values-under, scan-values}
use Rattle.scans.specs.declared.Settings.{Settings}
use Rattle.scans.specs.Readings.{top, Prepared, keyed_word, roll_on, Rolled, Readable}
use Rattle.scans.proofs.Blocks.{Values}
use Rattle.scans.proofs.Keys.{keyed-room}

-- behind a word that was rolled on every place below the side fits
pub roll-room : {s : Settings} → Prepared s → (byte : ℕ) {word r : ℕ} → Rolled s word byte r → (v : ℕ) → word ≡ keyed_word s v
    → r + s.side ≤ suc top
roll-room {s} p byte f v e =
    rw (f v e) (keyed-room p (roll_on s v byte) (mod-lt (v * 4 + letter_of byte) (one-le-pow s.m 4 four-pos)))

module _ (s : Settings) (seq : List ℕ) (a : Readable s seq) where
  -- how many m-mers there are
  pub length-mers : length (values s.m s.key (spelled seq)) ≡ suc (length seq) - s.m
  length-mers = length-values (keyed (word_of s.m s.key)) s.m (spelled seq) ∙ ap (λ n. suc n - s.m) (length-map seq letter_of)

  -- their values can be stamped
  pub mers : Values s.side s.width (4 ^ s.m) (values s.m s.key (spelled seq))
  mers =
      let p = a.prepared in
      record {
        some = p.wide;
        few = omega (arith, p.k_is, p.k_few, p.m_some);
        fits = omega (arith, p.stamps_fit);
        places = p.places_fit;
        under = values-under s.m s.key (spelled seq) p.key_small (spelled-letters seq a.all_letters);
      }

  -- of the letters from a place on those read last, once one more is read, which stands at a place of the sequence
  pub letter-read : (from t : ℕ) {place : ℕ} → place ≡ from + t → place < length seq
      → roll_on s (rolled s.m (drop from (spelled seq)) t) (get_or seq place 0) ≡ rolled s.m (drop from (spelled seq)) (suc t)
  letter-read from t {place} e h =
      rw (← at_map letter_of seq 0 0 place h, e, ← get_or-drop from (spelled seq) t 0)
      (roll-letter s.m (drop from (spelled seq)) t (rw (length-drop, length-map) (omega arith)))

  -- where m letters were read, it does not matter from which place on
  pub rolled-from : (from t : ℕ) {end : ℕ} → end ≡ from + t → s.m ≤ t → end ≤ length seq
      → rolled s.m (drop from (spelled seq)) t ≡ rolled s.m (spelled seq) end
  rolled-from from t {end} e h l =
      let x = spelled seq in
      let letters : Letters x = spelled-letters seq a.all_letters in
      let j = t - s.m in
      let part : j + s.m ≡ t = omega arith in
      let whole : from + j + s.m ≡ end = omega arith in
      rw part at (sym (roll-mer s.m (drop from x) j (rw (length-drop, length-map) (omega arith)) (letters-drop from x letters)))
      ∙ ap (λ (y : List ℕ). val (take s.m y)) (drop-drop j from x)
      ∙ rw whole at (roll-mer s.m x (from + j) (rw length-map (omega arith)) letters)

  -- a byte of the sequence is a letter's
  pub seq-letter : (place : ℕ) → place < length seq → is_letter_byte (get_or seq place 0) ≡ true
  seq-letter place h = all-at is_letter_byte seq 0 place a.all_letters h

  -- the m-mer that ends in a letter, as it is kept: it is the value at a place, times the side
  pub mer-read : (from t p : ℕ) {word place r : ℕ} → place ≡ from + t → place < length seq → p + s.m ≡ suc place → s.m ≤ suc t
      → word ≡ keyed_word s (rolled s.m (drop from (spelled seq)) t) → Rolled s word (get_or seq place 0) r
      → (r ≡ keyed_word s (rolled s.m (drop from (spelled seq)) (suc t))) × (r ≡ get_or (values s.m s.key (spelled seq)) p 0 * s.side)
  mer-read from t p {word} {place} {r} i h e long w m =
      let v = rolled s.m (drop from (spelled seq)) t in
      let l : p + s.m ≤ length (spelled seq) = rw length-map (omega arith) in
      let now : r ≡ keyed_word s (rolled s.m (drop from (spelled seq)) (suc t)) = m v w ∙ ap (keyed_word s) (letter-read from t i h) in (
        now,
        now ∙ rw (rolled-from from (suc t) {end = suc place} (omega arith) long h, value-rolled s.m s.key (spelled seq) a.prepared.key_small (spelled-letters seq a.all_letters) p l, e),
      )

  -- the position for a window
  pub window-position : (p : ℕ) → p + s.k ≤ length seq
      → get_or (scan (keyed (word_of s.m s.key)) s.k s.m (spelled seq)) p 0 ≡ p + least_place (take s.width (drop p (values s.m s.key (spelled seq))))
  window-position p h =
      let e : suc s.k - s.m ≡ s.width = omega (arith, a.prepared.k_is) in
      rw e at (scan-values (keyed (word_of s.m s.key)) s.k s.m (spelled seq) p (omega (arith, a.prepared.k_is, a.prepared.wide)) (rw length-map h))
