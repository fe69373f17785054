-- A row of ways, and lists that are given up to a place.
-- Assumes nothing.
use Prim.Native.Nat.{ℕ, suc, ◌+◌, ◌*◌, ◌^◌, ◌≤◌, ◌<◌}
use mathlib.Core.Bool.{Bool, true, false}
use mathlib.Core.List.{List}
use mathlib.Core.Logic.{◌⊎◌, inl, inr}
use mathlib.Core.Path.{◌≡◌, refl, sym, ap, ◌∙◌}
use native.Mathlib.Nat.{zero-add, add-zero}
use native.Mathlib.Omega.{arith}
use borrow.Author.Tests.{ltb-true, ltb-false, leb-true, leb-false}
use lib.Dec.{ltb, leb}
use lib.ListN.{length, get_or, set, length-set, get_or-eq_default}
use lib.Seq.{get_or-set_other, ext_get_or}
use Rattle.definitions.specs.Lists.{tabulate}
use Rattle.definitions.specs.Shelves.{row}
use Rattle.laws.specs.Filters.{length-tabulate, tabulate-at}
use Rattle.laws.specs.Rooms.{Written, set_holds}
use Rattle.worksheets.specs.Columns.{UpTo, way_of, sum_of, RowReady, WayReady, SumReady, ColumnIs}
use Rattle.laws.proofs.RulesHold.{total-letters}

-- ---- a row of ways

module _ {i done : ℕ} {allowed ways : List ℕ} (q : SumReady i done allowed ways) where
  -- the first way can be read
  pub first-ready : WayReady (4 * i) done allowed ways
  first-ready = rw add-zero at (q.ready 0 (omega arith))

  -- the four ways on from a state, and that their sum is small
  pub four-ways : {a c g t : ℕ} → a ≡ way_of (4 * i) done allowed ways → c ≡ way_of (4 * i + 1) done allowed ways
      → g ≡ way_of (4 * i + 2) done allowed ways → t ≡ way_of (4 * i + 3) done allowed ways → (a + c + g + t ≡ sum_of i done allowed ways) × (a + c + g + t ≤ 4 ^ 31)
  four-ways {a} {c} {g} {t} ea ec eg et =
      let a-is : a ≡ way_of (4 * i + 0) done allowed ways = ea ∙ ap (λ (p : ℕ). way_of p done allowed ways) (sym (add-zero (4 * i))) in
      (omega arith, omega (arith, q.small 0 (omega arith), q.small 1 (omega arith), q.small 2 (omega arith), q.small 3 (omega arith)))

-- a row of ways, of which the states from `lo` on are written
module _ {lo hi done : ℕ} {allowed old : List ℕ} (q : RowReady lo hi done allowed old) where
  module _ {i : ℕ} {ways : List ℕ} (s : Written (suc i) hi (suc done) (λ j. sum_of j done allowed old) old ways) (h : lo ≤ i) (k : i < hi) where
    -- a way is what it was at first
    way-kept : (b : ℕ) → b < 4 → way_of (4 * i + b) done allowed ways ≡ way_of (4 * i + b) done allowed old
    way-kept b f =
        s.outside (done + get_or allowed (4 * i + b) 0) (go (ltb (get_or allowed (4 * i + b) 0) 32) refl)
      where
        go : (t : Bool) → ltb (get_or allowed (4 * i + b) 0) 32 ≡ t
            → (done + get_or allowed (4 * i + b) 0 < suc done + suc i) ⊎ (suc done + hi ≤ done + get_or allowed (4 * i + b) 0)
        go true e = inl (omega (arith, q.leads i b k f (ltb-true (get_or allowed (4 * i + b) 0) 32 e)))
        go false e = inr (omega (arith, q.high, ltb-false (get_or allowed (4 * i + b) 0) 32 e))

    -- a way can be read
    way-ready : (b : ℕ) → b < 4 → WayReady (4 * i + b) done allowed ways
    way-ready b f =
        record {
          inside = omega (arith, q.high);
          leads = omega (arith, q.high, q.most i b k f);
        }

    -- the ways on can be summed up
    pub sum-ready : SumReady i done allowed ways
    sum-ready = record { ready = way-ready; small = λ b f. rw (way-kept b f) (q.small i b h k f) }

    -- their sum is what it was at first
    pub sum_kept : sum_of i done allowed ways ≡ sum_of i done allowed old
    sum_kept = total-letters (λ b. way_of (4 * i + b) done allowed ways) (λ b. way_of (4 * i + b) done allowed old) way-kept

    -- it is stored inside the ways
    pub sum_inside : suc done + i < length ways
    sum_inside = omega (arith, q.high, s.long, q.long_ways)

-- ---- lists that are given up to a place

module _ {n to v : ℕ} {given : ℕ → ℕ} {list : List ℕ} (u : UpTo n to given list) (h : to < n) (e : v ≡ given to) where
  -- one more number is given
  pub up_to-more : UpTo n (suc to) given (set list to v)
  up_to-more =
      record {
        long = length-set list to v ∙ u.long;
        below = λ i k. set_holds list to i (omega (arith, u.long)) (λ q. rw q e) (λ n. u.below i (omega (arith, n)));
        above = λ i k. get_or-set_other list to i v 0 (λ r. omega arith) ∙ u.above i (omega arith);
      }

-- none is given
pub up_to-none : (n : ℕ) (given : ℕ → ℕ) → UpTo n 0 given (tabulate (λ i. 0) n)
up_to-none n given = record { long = length-tabulate (λ (i : ℕ). 0) n; below = λ i h. absurd (omega arith); above = λ i h. go i (ltb i n) refl }
  where
    go : (i : ℕ) (t : Bool) → ltb i n ≡ t → get_or (tabulate {A = ℕ} (λ j. 0) n) i 0 ≡ 0
    go i true q = tabulate-at (λ j. 0) n i 0 (ltb-true i n q)
    go i false q = get_or-eq_default (tabulate (λ j. 0) n) 0 (rw length-tabulate (ltb-false i n q))

-- numbers that are written over zeros are given
pub up_to-written : {n to : ℕ} {given : ℕ → ℕ} {list : List ℕ} → Written 0 to 0 given (tabulate (λ i. 0) n) list → UpTo n to given list
up_to-written {n} {to} {given} s =
    record {
      long = s.long ∙ length-tabulate (λ i. 0) n;
      below = λ i h. rw zero-add at (s.inside i (omega arith) h);
      above = λ i h. s.outside i (inr (omega arith)) ∙ (up_to-none n given).above i (omega arith);
    }

-- a list that is given up to a row is a column, where the rows agree
pub up_to-column : {k m rows : ℕ} {given count : ℕ → ℕ} {list : List ℕ} → UpTo 31 (suc rows) given list
    → ((a : ℕ) → a < 31 → row (leb a rows) given a ≡ row (leb (m + a) k) count a) → ColumnIs k m count list
up_to-column {k} {m} {rows} {given} {count} {list} u same =
    record {
      is =
          ext_get_or 0 list (tabulate (λ a. row (leb (m + a) k) count a) 31) (u.long ∙ sym (length-tabulate (λ a. row (leb (m + a) k) count a) 31))
          (λ a h. let low : a < 31 = omega (arith, u.long) in at a (leb a rows) refl ∙ same a low ∙ sym (tabulate-at (λ i. row (leb (m + i) k) count i) 31 a 0 low));
    }
  where
    at : (a : ℕ) (t : Bool) → leb a rows ≡ t → get_or list a 0 ≡ row t given a
    at a true q = u.below a (omega (arith, leb-true a rows q))
    at a false q = u.above a (leb-false a rows q)
