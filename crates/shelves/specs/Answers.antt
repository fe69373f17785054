-- The answer of a page as the outcome that `definitions` speaks of.
-- Assumes nothing.
use Rattle.std.specs.Prelude.{ℕ, List, Result, Ok, Err, ◌≡◌, refl}
use Rattle.definitions.specs.Outcomes as outcomes
use Rattle.refusals.specs.declared.Refusal.{Refusal}
use Rattle.refusals.specs.Numbers.{number_of, refusal_in}

-- what a page answered, and its room
abbrev pub paged : Result ℕ Refusal → List ℕ → outcomes.Paged
paged (Ok n) room = record { refusal = 0; written = n; room = room }
paged (Err r) room = record { refusal = number_of r; written = 0; room = room }

-- the outcome has the number of the refusal
pub paged-refusal : (r : Result ℕ Refusal) (room : List ℕ) → (paged r room).refusal ≡ refusal_in r
paged-refusal (Ok n) room = refl
paged-refusal (Err r) room = refl

-- and the room
pub paged-room : (r : Result ℕ Refusal) (room : List ℕ) → (paged r room).room ≡ room
paged-room (Ok n) room = refl
paged-room (Err r) room = refl
