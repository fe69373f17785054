-- `worksheets::Source::ends` meets its contract. The loop's invariant: the ways to end at the states below i are written, the others are 0, and
-- `fall` is the state that i falls to.
-- Assumes nothing.
use Rattle.std.proofs.Common.{ℕ, ◌<◌, ◌≡◌, List}
use Rattle.definitions.specs.Words.{Word}
use Rattle.laws.specs.Orders.{Ranking}
use Rattle.laws.specs.Falls.{fall}
use Rattle.worksheets.specs.Columns.{UpTo, end_ways}
use Rattle.worksheets.specs.Sources.{Each}
use Rattle.worksheets.proofs.Source.ends.Given as goal

-- the ways to end at the states below i are written, and a state is the one that i falls to
pub record Ended (ρ : Ranking) (w : Word) (i : ℕ) (ends : List ℕ) (low : ℕ) : Type 0 where
  pub some : 0 < i
  pub written : UpTo 64 i (end_ways ρ w) ends
  pub falls : low ≡ fall w i

abbrev pub invariant-loop-i : goal.invariant-loop-i
invariant-loop-i l = (l.fall < l.i) × Each l.self (λ ρ w. Ended ρ w l.i l.ends l.fall)
