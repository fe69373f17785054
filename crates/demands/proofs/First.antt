-- Demand 1, of the foreign scan: its one number tells whether it is refused.
-- Assumes nothing.
use Rattle.std.specs.Prelude.{ℕ, ◌^◌, ◌<◌, ◌↔◌, ◌≡◌}
use mathlib.Core.List.{List}
use Rattle.std.proofs.Common.{arith}
use contract.Lifetimes.{Lfts}
use Rattle.definitions.specs.Refusals.{refusal, place_beside}
use Rattle.laws.specs.Minima.{length-windows}
use Rattle.laws.specs.Accepted.{scan-accepted, scan-place-small}
use Rattle.demands.specs.Promises.{Lent, LentRoom, ForeignScans}
use Rattle.demands.specs.First.{scan_tests, foreign-scan-refuses, small-accepted}

-- the foreign scan is refused exactly if its answer is 2^63 or more; and a place is below 65,536, so that the number of refusal and the place can be read off
pub foreign-scan-told : (κs : Lfts 2) (k m key : ℕ) (seq : Lent) (room : LentRoom) (r : _) (last : List ℕ) → ForeignScans κs k m key seq room r last
    → let n = refusal (scan_tests k m key seq.now 4 room.now) in
    ((r < 2 ^ 63) ↔ (n ≡ 0)) × (place_beside n seq.now < 65536)
foreign-scan-told κs k m key seq room r last h =
    let a = foreign-scan-refuses κs k m key seq room r last h in
    let n = refusal (scan_tests k m key seq.now 4 room.now) in (
      (
        small-accepted n (place_beside n seq.now) r (λ g. (a.1 g).0),
        λ z. omega (arith, a.0 z, length-windows k seq.now, (scan-accepted k m key seq.now 4 room.now z).short, (scan-accepted k m key seq.now 4 room.now z).order.k_some),
      ),
      scan-place-small k m key seq.now 4 room.now,
    )
