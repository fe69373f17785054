-- The answer of the vigemin as the outcome that `definitions` speaks of.
-- Assumes nothing.
use Rattle.std.specs.Prelude.{Result, Ok, Err}
use Rattle.definitions.specs.Outcomes as outcomes
use Rattle.refusals.specs.Numbers.{number_of}
use Rattle.refusals.specs.declared.Refusal.{Refusal}
use Rattle.vigemins.specs.declared.Found.{Found}

-- what the vigemin answered: zeros beside a refusal
abbrev pub found : Result Found Refusal → outcomes.Found
found (Ok v) = record { refusal = 0; word = v.word; position = v.position }
found (Err r) = record { refusal = number_of r; word = 0; position = 0 }
