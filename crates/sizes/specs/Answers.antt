-- The answer of the size as the outcome that `definitions` speaks of.
-- Assumes nothing.
use Rattle.std.specs.Prelude.{ℕ, Result, Ok, Err, ◌≡◌, refl}
use Rattle.definitions.specs.Outcomes as outcomes
use Rattle.refusals.specs.declared.Refusal.{Refusal}
use Rattle.refusals.specs.Numbers.{number_of, refusal_in}

-- what the size answered
abbrev pub counted : Result ℕ Refusal → outcomes.Counted
counted (Ok n) = record { refusal = 0; count = n }
counted (Err r) = record { refusal = number_of r; count = 0 }

-- the outcome has the number of the refusal
pub counted-refusal : (r : Result ℕ Refusal) → (counted r).refusal ≡ refusal_in r
counted-refusal (Ok n) = refl
counted-refusal (Err r) = refl
