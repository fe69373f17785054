-- `worksheets::Source::allowed_letters` meets its contract. The loop's invariant: the entries below c are written.
-- Assumes nothing.
use Rattle.std.proofs.Common.{ℕ, ◌≡◌, ◌<◌, get_or}
use Rattle.worksheets.specs.Columns.{led_to}
use Rattle.worksheets.proofs.Source.allowed_letters.Given as goal

abbrev pub invariant-loop-c : goal.invariant-loop-c
invariant-loop-c l = (j : ℕ) → j < l.c → get_or l.to-items j 0 ≡ led_to l.few (get_or l.self.states.now.ban j 0) (get_or l.self.states.now.next j 0)
