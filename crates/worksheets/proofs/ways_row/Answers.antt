-- `worksheets::ways_row` meets its contract.
-- Assumes nothing.
use Rattle.std.proofs.Common.{ℕ, suc, ◌+◌, ◌-◌, ◌≤◌, ◌<◌, List, ◌≡◌, refl, ◌∙◌, add-one, arith}
use lib.ListN.{set}
use Rattle.laws.specs.Rooms.{Written, written-down}
use Rattle.worksheets.specs.Columns.{sum_of, RowReady}
use Rattle.worksheets.proofs.Rows.{sum_kept, sum_inside}
use Rattle.worksheets.proofs.ways_row.Goals as goal

-- the state below those that are written
module _ {lo hi done i : ℕ} {allowed old ways : List ℕ} (q : RowReady lo hi done allowed old) (h : lo < i) (k : i ≤ hi) (s : Written i hi (suc done) (λ j. sum_of j done allowed old) old ways) where
  -- what is written begins after it
  lowered : Written (suc (i - 1)) hi (suc done) (λ j. sum_of j done allowed old) old ways
  lowered = let e : suc (i - 1) ≡ i = omega arith in rw e s

  -- it is written too
  stored : {v : ℕ} → v ≡ sum_of (i - 1) done allowed ways → Written (i - 1) hi (suc done) (λ j. sum_of j done allowed old) old (set ways (done + 1 + (i - 1)) v)
  stored e =
      rw add-one
      (written-down lowered (sum_inside q lowered (omega arith) (omega arith)) (e ∙ sum_kept q lowered (omega arith) (omega arith)) refl (omega arith))

pub loop-i-preserved : goal.loop-i-preserved
loop-i-preserved c = (omega arith, stored c.requires c.loop-i-test.true c.loop-i.auto.i c.loop-i.invariant.1 c.ways_on-sum.ensures)
