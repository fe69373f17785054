-- The answers of the foreign forms as the outcomes that `definitions` speaks of.
-- Assumes nothing.
use Rattle.std.specs.Prelude.{ℕ, List, Result, Ok, Err}
use Rattle.definitions.specs.Outcomes.{coded, ForeignScanned}
use Rattle.refusals.specs.Numbers.{number_of, place_of}
use Rattle.refusals.specs.declared.Refusal.{Refusal}

-- what an operation answered, as one number
abbrev pub code : Result ℕ Refusal → ℕ
code (Ok n) = coded 0 0 n
code (Err r) = coded (number_of r) (place_of r) 0

-- what the foreign scan answered, and the room as it left it
abbrev pub foreign_scanned : ℕ → List ℕ → ForeignScanned
foreign_scanned answer room = record { answer = answer; room = room }
