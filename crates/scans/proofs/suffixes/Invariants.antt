-- `scans::suffixes` meets its contract. The loop's invariant: from i on, each entry of a ring is the least of those from its place on, and the
-- others are as they were.
-- Assumes nothing.
use Prim.Native.Nat.{ℕ, ◌-◌, ◌≤◌, ◌<◌}
use mathlib.Core.List.{List}
use mathlib.Core.Logic.{◌⊎◌}
use mathlib.Core.Path.{◌≡◌}
use lib.ListN.{length, get_or, take, drop}
use Rattle.laws.specs.Stamps.{lowest}
use Rattle.scans.specs.Readings.{top}
use Rattle.scans.proofs.suffixes.Given as goal

-- the ring with the entries from i on turned
pub record From (width : ℕ) (old ring : List ℕ) (i least : ℕ) : Type 0 where
  pub inside : i < width
  pub now : least ≡ lowest top (take (width - i) (drop i old))
  pub turned : (q : ℕ) → i ≤ q → q < width → get_or ring q 0 ≡ lowest top (take (width - q) (drop q old))
  pub others : (q : ℕ) → (q < i) ⊎ (width ≤ q) → get_or ring q 0 ≡ get_or old q 0
  pub full : length ring ≡ 32

abbrev pub invariant-loop-i : goal.invariant-loop-i
invariant-loop-i l = From l.width l.initial.left l.left l.i l.least × From l.width l.initial.right l.right l.i l.other
