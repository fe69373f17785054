-- The answers of the scans as the outcomes that `definitions` speaks of.
-- Assumes nothing.
use Rattle.std.specs.Prelude.{ℕ, Result, Ok, Err, List, []}
use Rattle.definitions.specs.Words.{spelled, word}
use Rattle.definitions.specs.Vigemins.{keyed, scan}
use Rattle.definitions.specs.Outcomes as outcomes
use Rattle.refusals.specs.Numbers.{number_of, place_of}
use Rattle.refusals.specs.declared.Refusal.{Refusal}

-- what a scan answered, and the room as it left it: no windows beside a refusal
abbrev pub scanned : Result ℕ Refusal → List ℕ → outcomes.Scanned
scanned (Ok n) room = record { refusal = 0; place = 0; windows = n; room = room }
scanned (Err r) room = record { refusal = number_of r; place = place_of r; windows = 0; room = room }

-- the positions that a scan writes, by its answer: none where it refuses
abbrev pub positions_written : ℕ → ℕ → ℕ → List ℕ → Result ℕ Refusal → List ℕ
positions_written k m key s (Ok _) = scan (keyed (word m key)) k m (spelled s)
positions_written k m key s (Err _) = []
