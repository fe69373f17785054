-- The answers of the operations on words as the outcomes that `definitions` speaks of.
-- Assumes nothing.
use Rattle.std.specs.Prelude.{ℕ, List, Result, Ok, Err, ◌≡◌, refl}
use Rattle.definitions.specs.Outcomes as outcomes
use Rattle.refusals.specs.Numbers.{number_of, place_of, refusal_in}
use Rattle.refusals.specs.declared.Refusal.{Refusal}

-- what packing answered
abbrev pub packed : Result ℕ Refusal → outcomes.Packed
packed (Ok word) = record { refusal = 0; place = 0; word = word }
packed (Err r) = record { refusal = number_of r; place = place_of r; word = 0 }

-- what unpacking answered, and the room as it left it
abbrev pub unpacked : Result ℕ Refusal → List ℕ → outcomes.Unpacked
unpacked (Ok written) room = record { refusal = 0; written = written; room = room }
unpacked (Err r) room = record { refusal = number_of r; written = 0; room = room }

-- its outcome has the number of the refusal
pub unpacked-refusal : (r : Result ℕ Refusal) (room : List ℕ) → (unpacked r room).refusal ≡ refusal_in r
unpacked-refusal (Ok n) room = refl
unpacked-refusal (Err r) room = refl

-- and the room
pub unpacked-room : (r : Result ℕ Refusal) (room : List ℕ) → (unpacked r room).room ≡ room
unpacked-room (Ok n) room = refl
unpacked-room (Err r) room = refl
