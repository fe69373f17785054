-- `worksheets::Source::caught` meets its contract. The loop's invariant: the thread is caught in w exactly if, with the first j letters of w tied too,
-- it is caught in the rest of w.
-- Assumes nothing.
use Rattle.std.proofs.Common.{ℕ, ◌+◌, ◌≡◌, Bool, true, drop}
use Rattle.definitions.specs.Words.{Word}
use Rattle.laws.specs.Orders.{Ranking}
use Rattle.laws.specs.Threads.{caught}
use Rattle.laws.specs.Acceptors.{below_hit}
use Rattle.worksheets.specs.Sources.{Each}
use Rattle.worksheets.proofs.Source.caught.Given as goal

-- a thread tied with l letters, of which the latest j are w's first ones, is caught in the rest of w
abbrev pub tied_to : Ranking → Word → ℕ → ℕ → Bool
tied_to ρ w l j = caught w (below_hit ρ w) true l (drop l w) (drop j w)

abbrev pub invariant-loop-j : goal.invariant-loop-j
invariant-loop-j l = Each l.self (λ ρ w. tied_to ρ w l.i 0 ≡ tied_to ρ w (l.i + l.j) l.j)
