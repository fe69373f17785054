-- The answer of the plain counter as the outcome that `definitions` speaks of.
-- Assumes nothing.
use Rattle.std.specs.Prelude.{ℕ, Result, Ok, Err}
use Rattle.definitions.specs.Outcomes as outcomes
use Rattle.refusals.specs.Numbers.{number_of}
use Rattle.refusals.specs.declared.Refusal.{Refusal}

-- what the plain counter answered; a zero stands beside a refusal
abbrev pub counted : Result ℕ Refusal → outcomes.Counted
counted (Ok n) = record { refusal = 0; count = n }
counted (Err r) = record { refusal = number_of r; count = 0 }
