-- Minima by blocks, over any values: a block that was read becomes the last one; one value more is read; the least of a window.
-- Assumes nothing.
use Prim.Native.Nat.{ℕ, suc, ◌+◌, ◌-◌, ◌*◌, ◌%◌, ◌≤◌, ◌<◌, min}
use mathlib.Core.Bool.{Bool, true, false}
use mathlib.Core.List.{List}
use mathlib.Core.Path.{◌≡◌, refl, sym, ap, ◌∙◌}
use native.Mathlib.Nat.{sub_self}
use native.Mathlib.Omega.{arith}
use borrow.Author.Tests.{eqb-true, eqb-false}
use lib.Dec.{eqb}
use lib.ListN.{length, get_or, set, take, drop, length-set}
use lib.Seq.{ext_get_or, get_or-take, get_or-drop, get_or-set_other}
use Rattle.definitions.specs.Vigemins.{least_place}
use Rattle.laws.specs.Minima.{length-stretch}
use Rattle.laws.specs.Rooms.{set_holds}
use Rattle.laws.specs.Stamps.{lowest, stamped, length-stamped, stamped-at, least_from, least_from-last, least_from-join, least_from-place, stamp-top, Under}
use Rattle.scans.specs.Readings.{top, Entries, Suffixes, Filled, Minima}

-- values below a bound, whose stamps fit below the top, with a side above the places of two blocks
pub record Values (side width bound : ℕ) (vs : List ℕ) : Type 0 where
  pub some : 0 < width
  pub few : width ≤ 31
  pub fits : bound * side ≤ suc top
  pub places : width + width ≤ side
  pub under : Under bound vs

module _ (side width bound : ℕ) (vs : List ℕ) (v : Values side width bound vs) where
  -- the stamp of a value at a place of two blocks is below the top
  stamp-low : (p q : ℕ) → p < length vs → q < side → get_or vs p 0 * side + q ≤ top
  stamp-low p q h k = stamp-top top side bound v.fits (get_or vs p 0) q (v.under p h) k

  -- one stamp more in a ring
  stamps-more : (start at : ℕ) (ring : List ℕ) → at < length ring → ((q : ℕ) → q < at → get_or ring q 0 ≡ get_or vs (start + q) 0 * side + q)
      → (q : ℕ) → q < suc at → get_or (set ring at (get_or vs (start + at) 0 * side + at)) q 0 ≡ get_or vs (start + q) 0 * side + q
  stamps-more start at ring h stamps q l = set_holds ring at q h (λ e. rw e) (λ n. stamps q (omega (arith, n)))

  -- one value more is stamped into a ring
  pub filled_more : {block at : ℕ} {ring : List ℕ} → Filled side width vs block at ring → at < width
      → Filled side width vs block (suc at) (set ring at (get_or vs (block + at) 0 * side + at))
  filled_more {block} {at} {ring} f h =
      record {
        full = length-set ring at (get_or vs (block + at) 0 * side + at) ∙ f.full;
        stamps = stamps-more block at ring (omega (arith, f.full, v.few)) f.stamps;
        end = get_or-set_other ring at width (get_or vs (block + at) 0 * side + at) 0 (λ e. omega arith) ∙ f.end;
      }

  -- the entries of a filled ring can be turned into suffixes
  pub filled-entries : {block : ℕ} {ring : List ℕ} → block + width ≤ length vs → Filled side width vs block width ring → Entries width ring
  filled-entries {block} b f =
      record {
        some = v.some;
        few = v.few;
        full = f.full;
        below = λ q h. rw (f.stamps q h) (stamp-low (block + q) q (omega arith) (omega (arith, v.places)));
      }

  -- the entries of a filled ring from a place on are the stamps of the values from there on
  filled-stamps : {block : ℕ} {ring : List ℕ} → block + width ≤ length vs → Filled side width vs block width ring
      → (q : ℕ) → q < width → take (width - q) (drop q ring) ≡ stamped side q (take (width - q) (drop (block + q) vs))
  filled-stamps {block} {ring} b f q h = ext_get_or 0 left right (left-long ∙ sym right-long) each
    where
      left : List ℕ
      left = take (width - q) (drop q ring)

      part : List ℕ
      part = take (width - q) (drop (block + q) vs)

      right : List ℕ
      right = stamped side q part

      part-long : length part ≡ width - q
      part-long = length-stretch (width - q) vs (block + q) (omega arith)

      left-long : length left ≡ width - q
      left-long = length-stretch (width - q) ring q (omega (arith, f.full, v.few))

      right-long : length right ≡ width - q
      right-long = length-stamped side q part ∙ part-long

      each : (i : ℕ) → i < length left → get_or left i 0 ≡ get_or right i 0
      each i k =
          let l : i < width - q = rw left-long at k in
          let place : block + (q + i) ≡ block + q + i = omega arith in
          rw (stamped-at side q part i (rw part-long l), get_or-take (width - q) (drop q ring) i 0 l, get_or-take (width - q) (drop (block + q) vs) i 0 l, get_or-drop q ring i 0, get_or-drop (block + q) vs i 0, f.stamps (q + i) (omega arith), place)

  -- a filled ring turned into suffixes is that of a block after which nothing was read
  pub filled-minima : {block : ℕ} {ring new : List ℕ} → block + width ≤ length vs → Filled side width vs block width ring → Suffixes width ring new
      → Minima side width vs block 0 top new
  filled-minima {block} {ring} {new} b f s =
      record {
        full = s.full;
        within = omega arith;
        read = omega arith;
        runs = refl;
        stamps = λ q h. absurd (omega arith);
        left = λ q _ h. at q h (eqb q width) refl;
      }
    where
      at : (q : ℕ) → q ≤ width → (t : Bool) → eqb q width ≡ t → get_or new q 0 ≡ least_from top side vs q (block + q) (width - q)
      at q h true e = rw (eqb-true q width e, sub_self) (s.others width (omega arith) ∙ f.end)
      at q h false e =
          let l : q < width = omega (arith, eqb-false q width e) in
          s.least q l ∙ ap (lowest top) (filled-stamps b f q l)

  -- where a whole block was read after the last one, the ring is filled with its stamps
  pub minima-filled : {block run : ℕ} {ring : List ℕ} → Minima side width vs block width run ring → Filled side width vs (block + width) width ring
  minima-filled {block} m =
      record { full = m.full; stamps = m.stamps; end = m.left width (omega arith) (omega arith) ∙ rw sub_self }

  -- one value more is read
  pub minima-more : {block at run : ℕ} {ring : List ℕ} → Minima side width vs block at run ring → at < width → block + width + at < length vs
      → (let stamp = get_or vs (block + width + at) 0 * side + at in Minima side width vs block (suc at) (min run (stamp + width)) (set ring at stamp))
  minima-more {block} {at} {run} {ring} m h k =
      record {
        full = length-set ring at stamp ∙ m.full;
        within = omega arith;
        read = omega arith;
        runs = rw (m.runs, order) (sym (least_from-last top side vs width (block + width) at k (stamp-low (block + width + at) (width + at) k (omega (arith, v.places)))));
        stamps = stamps-more (block + width) at ring (omega (arith, m.full, v.few)) m.stamps;
        left = λ q l n. get_or-set_other ring at q stamp 0 (λ e. omega arith) ∙ m.left q (omega arith) n;
      }
    where
      stamp : ℕ
      stamp = get_or vs (block + width + at) 0 * side + at

      order : stamp + width ≡ get_or vs (block + width + at) 0 * side + (width + at)
      order = omega arith

  -- the place of the least value of the window that begins so far behind the start of the block
  pub minima-place : {block at run : ℕ} {ring : List ℕ} → Minima side width vs block at run ring
      → min (get_or ring at 0) run % side ≡ at + least_place (take width (drop (block + at) vs))
  minima-place {block} {at} {run} {ring} m =
      ap (λ (n : ℕ). n % side) joined
      ∙ least_from-place top side vs bound at (block + at) width v.fits v.under v.some (omega (arith, m.read)) (omega (arith, m.within, v.places))
    where
      joined : min (get_or ring at 0) run ≡ least_from top side vs at (block + at) width
      joined =
          let whole : width - at + at ≡ width = omega (arith, m.within) in
          let places : at + (width - at) ≡ width = omega (arith, m.within) in
          let second : block + at + (width - at) ≡ block + width = omega (arith, m.within) in
          rw (m.left at (omega arith) m.within, m.runs)
          (sym (rw (whole, places, second) at (least_from-join top side vs at (block + at) (width - at) at (omega (arith, m.read, m.within)))))
