-- `states::special_alphabets` meets its contract. The loop's invariant: the first p rows of both tables are written, and no state is linked.
-- Assumes nothing.
use Prim.Native.Nat.{ℕ}
use mathlib.Core.List.{List}
use mathlib.Core.Path.{◌≡◌}
use lib.ListN.{get_or}
use Rattle.std.proofs.Common.{Ordering, Greater}
use Rattle.definitions.specs.Lists.{tabulate}
use Rattle.definitions.specs.Words.{Word, word as word_of}
use Rattle.laws.specs.Orders.{Ranking, key_ranking}
use Rattle.states.specs.Grids.{grid}
use Rattle.states.specs.Tables.{mark_at, Unlinked}
use Rattle.states.proofs.Rows.{written}
use Rattle.states.proofs.special_alphabets.Given as goal

-- the tables of which the first p rows are written
pub record Marked (ρ : Ranking) (w : Word) (p : ℕ) (own : List ℕ) (marks : List Ordering) : Type 0 where
  pub owns : own ≡ tabulate (written p 0 (λ q. get_or w q 0)) 32
  pub ranks : marks ≡ grid (written p (λ b. Greater) (mark_at ρ w))

abbrev pub invariant-loop-p : goal.invariant-loop-p
invariant-loop-p l = Marked (key_ranking (word_of l.m l.key)) (word_of l.m l.word) l.p l.s.own l.s.marks × Unlinked l.s.next l.s.ban
