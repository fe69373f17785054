-- Two runs that write the entries for their windows, whatever the entries are.
-- Assumes nothing.
use Rattle.std.specs.Prelude.{ℕ, suc, ◌+◌, ◌*◌, ◌/◌, ◌≤◌, ◌<◌, List, ◌≡◌, length, get_or}
use Rattle.std.proofs.Common.{mul-suc, mul-le-mul_left, arith}
use Rattle.std.proofs.lemmas.List.Edits.{sets}
use Rattle.definitions.specs.Lists.{over}
use Rattle.laws.specs.Filters.{joined}
use Rattle.scans.specs.declared.Settings.{Settings}
use Rattle.scans.specs.declared.Runs.{Runs}
use Rattle.scans.specs.Readings.{ReadBoth, Writable, positions_of}
use Rattle.scans.proofs.Rooms.{Laid, laid_none, laid_more, laid-all}
use Rattle.scans.proofs.Windows.{behind, length-positions}

-- each run has read the window before window i, and the entries for it and those before it are written
pub record Writing {A : Type 0} (s : Settings) (seq : List ℕ) (windows each : ℕ) (goal : List A) (i : ℕ) (r : Runs) (left right : List ℕ) (room : List A) : Type 0 where
  pub read : ReadBoth s seq r left right
  pub from : r.from ≡ behind windows
  pub last : suc (r.block + r.at) ≡ i
  pub within : i ≤ (windows + 1) / 2
  pub laid : Laid goal each windows (behind windows) i room

module _ {A : Type 0} (entries : ℕ → List A) {each : ℕ} (even : (p : ℕ) → length (entries p) ≡ each) {s : Settings} {seq : List ℕ} {windows : ℕ} (old : List A)
    (w : Writable s seq windows each (length old)) where
  -- there is room for all
  fits : each * length (positions_of s seq) ≤ length old
  fits = rw (length-positions w) w.fits

  -- nothing is written yet
  pub laid-first : Laid (over (joined entries (positions_of s seq)) old) each windows (behind windows) 0 old
  laid-first = rw (length-positions w) at (laid_none entries even (positions_of s seq) old fits (behind windows))

  module _ {i : ℕ} (half : i < (windows + 1) / 2) where
    -- the right run's window is one of the windows
    pub inside : behind windows + i < windows
    inside = omega arith

    -- and there is room for its entries
    pub room : each * (behind windows + i) + each ≤ length old
    room = rw (← mul-suc each (behind windows + i)) (omega (arith, w.fits, mul-le-mul_left each inside))

    -- they are written for one window more of each run
    pub writing-more : {r : Runs} {left right : List ℕ} {before now : List A} → Laid (over (joined entries (positions_of s seq)) old) each windows (behind windows) i before → ReadBoth s seq r left right
        → r.from ≡ behind windows → r.block + r.at ≡ i
        → now ≡ sets (sets before (each * i) (entries (get_or (positions_of s seq) i 0))) (each * (r.from + i)) (entries (get_or (positions_of s seq) (r.from + i) 0))
        → Writing s seq windows each (over (joined entries (positions_of s seq)) old) (i + 1) r left right now
    writing-more {before = before} {now = now} l d f at e =
        let count = length-positions w in
        let one : Laid (over (joined entries (positions_of s seq)) old) each (length (positions_of s seq)) (behind windows) (i + 1) now =
        laid_more entries even (positions_of s seq) old fits (rw count l) (rw count inside) (rw f at e) in
        record { read = d; from = f; last = omega arith; within = omega arith; laid = rw count at one }

  -- where the runs have met, all is written
  pub writing-all : {i : ℕ} {r : Runs} {left right : List ℕ} {now : List A} → Writing s seq windows each (over (joined entries (positions_of s seq)) old) i r left right now → (windows + 1) / 2 ≤ i → now ≡ over (joined entries (positions_of s seq)) old
  writing-all {i = i} h k = laid-all entries even (positions_of s seq) old fits {from = behind windows} {i = i} (rw (length-positions w) h.laid) (omega arith) (omega (arith, length-positions w, h.within))
