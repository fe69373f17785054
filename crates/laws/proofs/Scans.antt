-- The positions of a scan never go back.
-- Assumes nothing.
use Rattle.std.specs.Prelude.{ℕ, zero, suc, ◌+◌, ◌≤◌, ◌<◌, length, get_or}
use Rattle.std.proofs.Common.{add-zero, add-suc, le_refl, le_trans, arith}
use Rattle.definitions.specs.Words.{Word}
use Rattle.definitions.specs.Vigemins.{Form, scan}
use Rattle.laws.specs.Scans.{scan-inside, scan-least, scan-leftmost}

module _ (f : Form) (k m : ℕ) (s : Word) where
  -- positions never go back
  pub scan-forward : (p : ℕ) → m ≤ k → suc p + k ≤ length s → get_or (scan f k m s) p 0 ≤ get_or (scan f k m s) (suc p) 0
  scan-forward p mk h = omega (arith, not_back)
    where
      now : ℕ
      now = get_or (scan f k m s) p 0

      next : ℕ
      next = get_or (scan f k m s) (suc p) 0

      not_back : ¬ (next < now)
      not_back b =
          let fits : p + k ≤ length s = omega arith in
          let i = scan-inside f k m s p mk fits in
          let j = scan-inside f k m s (suc p) mk h in
          omega (arith, scan-leftmost f k m s p mk fits next (omega arith) b, scan-least f k m s (suc p) mk h now (omega arith) (omega arith))

  -- nor over more windows
  pub scan-onward : (p d : ℕ) → m ≤ k → p + d + k ≤ length s → get_or (scan f k m s) p 0 ≤ get_or (scan f k m s) (p + d) 0
  scan-onward p zero mk h = rw add-zero (le_refl (get_or (scan f k m s) p 0))
  scan-onward p (suc d) mk h = rw add-suc (le_trans (scan-onward p d mk (omega arith)) (scan-forward (p + d) mk (omega arith)))
