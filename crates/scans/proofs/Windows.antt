-- A window that was read, and the next one.
-- Assumes nothing.
use Prim.Native.Nat.{ℕ, suc, ◌+◌, ◌-◌, ◌*◌, ◌/◌, ◌^◌, ◌≤◌, ◌<◌, min}
use mathlib.Core.List.{List}
use mathlib.Core.Path.{◌≡◌, ap, ◌∙◌, subst}
use native.Mathlib.Numerals.{add-one}
use native.Mathlib.Omega.{arith}
use lib.Bits.{bit_and}
use lib.ListN.{length, get_or, set, drop, length-map}
use Rattle.definitions.specs.Lists.{tabulate}
use Rattle.definitions.specs.Words.{spelled, word as word_of}
use Rattle.definitions.specs.Vigemins.{keyed}
use Rattle.laws.specs.Filters.{length-tabulate, tabulate-at}
use Rattle.laws.specs.Scans.{length-scan, scan-inside}
use Rattle.laws.specs.Rolls.{rolled, values}
use Rattle.scans.specs.declared.Settings.{Settings}
use Rattle.scans.specs.declared.Run.{Run}
use Rattle.scans.specs.Readings.{top, Entries, Suffixes, keyed_word, Rolled, Readable, Fresh, Filled, Minima, Begun, Read, ReadTo, Writable, positions_of}
use Rattle.scans.proofs.Blocks.{filled-entries, filled_more, filled-minima, minima-filled, minima-more, minima-place}
use Rattle.scans.proofs.Letters.{length-mers, mers, rolled-from, mer-read, window-position}

-- a ring of tops is fresh
pub fresh-tops : {width : ℕ} → width ≤ 31 → Fresh width (tabulate (λ _. top) 32)
fresh-tops {width} h =
    record { full = length-tabulate (λ _. top) 32; end = tabulate-at (λ _. top) 32 width 0 (omega arith) }

-- and has the stamps of nothing
pub fresh-filled : {side width : ℕ} {vs : List ℕ} {from : ℕ} {ring : List ℕ} → Fresh width ring → Filled side width vs from 0 ring
fresh-filled f = record { full = f.full; stamps = λ q l. absurd (omega arith); end = f.end }

-- of so many windows the left run has the first half, and the right one so many from this one on
abbrev pub behind : ℕ → ℕ
behind windows = windows - (windows + 1) / 2

-- a window that was read to a place stands in the block that the place tells
pub read-at : {s : Settings} {seq : List ℕ} {place at : ℕ} {r : Run} {ring : List ℕ} → ReadTo s seq place at r ring → {block : ℕ} → block + at + s.k ≡ place
    → Read s seq block at r ring
read-at {s} {seq} {place} {at} {r} {ring} d {block} e =
    let same : d.block ≡ block = omega (arith, d.there) in
    subst (λ (b : ℕ). Read s seq b at r ring) same d.read

module _ (s : Settings) (seq : List ℕ) (a : Readable s seq) where
  -- a window whose m-mers were read lies inside the sequence
  pub minima-inside : {block at run : ℕ} {ring : List ℕ} → Minima s.side s.width (values s.m s.key (spelled seq)) block at run ring
      → block + at + s.k ≤ length seq
  minima-inside m = omega (arith, m.read, length-mers s seq a, a.prepared.k_is, a.prepared.wide)

  -- and so a window that was read
  pub block_inside : {block at : ℕ} {r : Run} {ring : List ℕ} → Read s seq block at r ring → block + at + s.k ≤ length seq
  block_inside d = minima-inside d.minima

  -- a block that was read whole can be turned into suffixes
  pub whole-entries : {block at : ℕ} {r : Run} {ring : List ℕ} → at ≡ s.width → Read s seq block at r ring → Entries s.width ring
  whole-entries {block} {at} {r} {ring} e d =
      let vs = values s.m s.key (spelled seq) in
      let m : Minima s.side s.width vs block s.width r.least ring = rw e at d.minima in
      filled-entries s.side s.width (4 ^ s.m) vs (mers s seq a) m.read (minima-filled s.side s.width (4 ^ s.m) vs (mers s seq a) m)

  -- and becomes the last one
  pub turn-read : {block at next : ℕ} {r : Run} {ring new : List ℕ} → at ≡ s.width → next ≡ block + s.width → Suffixes s.width ring new
      → Read s seq block at r ring → Read s seq next 0 (record { word = r.word; least = top }) new
  turn-read {block} {at} {next} {r} {ring} {new} e n f d =
      let whole : Minima s.side s.width (values s.m s.key (spelled seq)) block s.width r.least ring = rw e at d.minima in
      let same : block + at ≡ next + 0 = omega arith in
      record {
        minima =
            rw n
            (filled-minima s.side s.width (4 ^ s.m) (values s.m s.key (spelled seq)) (mers s seq a) whole.read
            (minima-filled s.side s.width (4 ^ s.m) (values s.m s.key (spelled seq)) (mers s seq a) whole)
            f);
        word = rw same at d.word;
      }

  -- the position of the vigemin of a window that was read
  pub position-read : {block at run : ℕ} {ring : List ℕ} → Minima s.side s.width (values s.m s.key (spelled seq)) block at run ring
      → {least : ℕ} → least ≡ min (get_or ring at 0) run → block + bit_and least (s.side - 1) ≡ get_or (positions_of s seq) (block + at) 0
  position-read {block} {at} m {least} e =
      let place = minima-place s.side s.width (4 ^ s.m) (values s.m s.key (spelled seq)) (mers s seq a) m in
      rw (window-position s seq a (block + at) (minima-inside m), a.prepared.places_are least, e, place) (omega arith)

  -- it lies in the sequence
  pub position-small : {block at : ℕ} {r : Run} {ring : List ℕ} → Read s seq block at r ring → {p : ℕ} → p ≡ get_or (positions_of s seq) (block + at) 0 → p < 65536
  position-small {block} {at} d {p} e =
      let k : block + at + s.k ≤ length (spelled seq) = rw length-map (block_inside d) in
      let inside = scan-inside (keyed (word_of s.m s.key)) s.k s.m (spelled seq) (block + at) (omega (arith, a.prepared.k_is, a.prepared.wide)) k in
      omega (arith, inside.1, block_inside d, a.short, a.prepared.m_some)

  -- the next window is read
  pub step-read : {block at place : ℕ} {r : Run} {ring : List ℕ} → Read s seq block at r ring → at < s.width → place ≡ block + at + s.k → place < length seq → {word : ℕ} → Rolled s r.word (get_or seq place 0) word
      → {least : ℕ} → least ≡ min r.least (word + at + s.width)
      → Read s seq block (at + 1) (record { word = word; least = least }) (set ring at (word + at))
  step-read {block} {at} {place} {r} {ring} d inside there in_seq {word} st {least} q =
      record { minima = more; word = got.0 ∙ ap (λ (t : ℕ). keyed_word s (rolled s.m (spelled seq) t)) letters }
    where
      vs : List ℕ
      vs = values s.m s.key (spelled seq)

      letters : suc place ≡ block + (at + 1) + s.k
      letters = omega arith

      got : (word ≡ keyed_word s (rolled s.m (spelled seq) (suc place))) × (word ≡ get_or vs (block + s.width + at) 0 * s.side)
      got =
          mer-read s seq a 0 place (block + s.width + at) (omega arith) in_seq (omega (arith, a.prepared.k_is))
          (omega (arith, a.prepared.k_is)) (rw there d.word) st

      more : Minima s.side s.width vs block (at + 1) least (set ring at (word + at))
      more =
          rw (q, got.1, add-one)
          (minima-more s.side s.width (4 ^ s.m) vs (mers s seq a) d.minima inside (omega (arith, length-mers s seq a, a.prepared.k_is)))

  -- ---- the first window of a run

  module _ (from : ℕ) (i : from + s.k ≤ length seq) where
    -- one more m-mer is read
    pub begun_more : {word at place next : ℕ} {ring : List ℕ} → Begun s seq from word at ring → at < s.width → place ≡ from + s.m - 1 + at
        → Rolled s word (get_or seq place 0) next → Begun s seq from next (at + 1) (set ring at (next + at))
    begun_more {word} {at} {place} {next} {ring} b h e st =
        record {
          within = omega arith;
          rolls = got.0 ∙ ap (λ (t : ℕ). keyed_word s (rolled s.m (drop from (spelled seq)) t)) letters;
          filled = rw (got.1, add-one) (filled_more s.side s.width (4 ^ s.m) vs (mers s seq a) b.filled h);
        }
      where
        vs : List ℕ
        vs = values s.m s.key (spelled seq)

        letters : suc (s.m - 1 + at) ≡ s.m - 1 + (at + 1)
        letters = omega arith

        got : (next ≡ keyed_word s (rolled s.m (drop from (spelled seq)) (suc (s.m - 1 + at)))) × (next ≡ get_or vs (from + at) 0 * s.side)
        got =
            mer-read s seq a from (s.m - 1 + at) (from + at) (omega (arith, a.prepared.m_some)) (omega (arith, a.prepared.k_is, a.prepared.m_some))
            (omega (arith, a.prepared.m_some)) (omega (arith, a.prepared.m_some)) b.rolls st

    -- where all were read, the ring can be turned into suffixes
    pub begun-entries : {word : ℕ} {ring : List ℕ} → Begun s seq from word s.width ring → Entries s.width ring
    begun-entries b =
        filled-entries s.side s.width (4 ^ s.m) (values s.m s.key (spelled seq)) (mers s seq a)
        (omega (arith, length-mers s seq a, a.prepared.k_is)) b.filled

    -- and then the window was read
    pub begun-read : {word block : ℕ} {ring new : List ℕ} → block ≡ from → Begun s seq from word s.width ring → Suffixes s.width ring new
        → Read s seq block 0 (record { word = word; least = top }) new
    begun-read e b f =
        rw e
        (record {
          minima =
              filled-minima s.side s.width (4 ^ s.m) (values s.m s.key (spelled seq)) (mers s seq a)
              (omega (arith, length-mers s seq a, a.prepared.k_is)) b.filled f;
          word = b.rolls ∙ ap (keyed_word s) letters;
        })
      where
        letters : rolled s.m (drop from (spelled seq)) (s.m - 1 + s.width) ≡ rolled s.m (spelled seq) (from + 0 + s.k)
        letters =
            rolled-from s seq a from (s.m - 1 + s.width) {end = from + 0 + s.k} (omega (arith, a.prepared.k_is, a.prepared.m_some)) (omega (arith, a.prepared.wide)) (omega arith)

module _ {s : Settings} {seq : List ℕ} {windows each room : ℕ} (w : Writable s seq windows each room) where
  -- a position for each window
  pub length-positions : length (positions_of s seq) ≡ windows
  length-positions =
      length-scan (keyed (word_of s.m s.key)) s.k s.m (spelled seq) ∙ rw length-map (omega (arith, w.all))
