-- `states::link_states` meets its contract. The loop's invariant: the rows of the states below i are written, `fall` is the state that state i
-- falls to, and the special alphabets are as they were.
-- Assumes nothing.
use mathlib.Core.Path.{◌≡◌}
use Rattle.definitions.specs.Words.{Word}
use Rattle.laws.specs.Orders.{Ranking}
use Rattle.states.specs.Tables.{AlphabetsOf}
use Rattle.states.proofs.Below.{Reached}
use Rattle.states.proofs.link_states.Given as goal

abbrev pub invariant-loop-i : goal.invariant-loop-i
invariant-loop-i l =
    (l.s.own ≡ l.initial.s.own)
    × (l.s.marks ≡ l.initial.s.marks)
    × ((ρ : Ranking) (w : Word) → AlphabetsOf ρ w l.m l.s.own l.s.marks → Reached ρ w l.i l.fall l.s.next l.s.ban)
