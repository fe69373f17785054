-- The outcome of examining a sequence, and what the code answered as such.
-- Assumes nothing.
use Rattle.std.specs.Prelude.{ℕ, zero, suc, Result, Ok, Err, List, [], ◌∷◌, ◌++◌, ◌≡◌, refl, length}
use Rattle.definitions.specs.Vigemins.{windows}
use Rattle.definitions.specs.Refusals.{Ground, refusal, bad_room, place_beside}
use Rattle.definitions.specs.Outcomes.{sequence_grounds}
use Rattle.refusals.specs.Numbers.{number_of, place_of}
use Rattle.refusals.specs.declared.Refusal.{Refusal}

-- what examining answers: the refusal, the place of a bad letter, the number of windows
pub record Examined : Type 0 where
  pub refusal : ℕ
  pub place : ℕ
  pub windows : ℕ

-- examining tests 1, 2, 3, 5, 6, and then 7: the room takes what is written for fewer windows than there are
abbrev pub examine_grounds : ℕ → ℕ → ℕ → List ℕ → ℕ → List Ground
examine_grounds k m key s takes = sequence_grounds k m key s ++ (bad_room (length (windows k s)) takes ∷ [])

-- its answer under a number of refusal
unfoldable pub examine_answer : ℕ → ℕ → List ℕ → Examined
examine_answer zero k s = record { refusal = 0; place = 0; windows = length (windows k s) }
examine_answer (suc r) k s = record { refusal = suc r; place = place_beside (suc r) s; windows = 0 }

-- the outcome of examine(k, m, key, seq, takes)
unfoldable pub examine_outcome : ℕ → ℕ → ℕ → List ℕ → ℕ → Examined
unfolding examine_answer
examine_outcome k m key s takes = examine_answer (refusal (examine_grounds k m key s takes)) k s

-- ACGT has two windows of three letters, which room for two takes and room for one does not; ACNT has a bad letter, which is told first, with
-- its place; and AC has no window, which room for none takes
pub examine-cases : (examine_outcome 3 2 0 (65 ∷ 67 ∷ 71 ∷ 84 ∷ []) 2 ≡ record { refusal = 0; place = 0; windows = 2 })
    × (examine_outcome 3 2 0 (65 ∷ 67 ∷ 71 ∷ 84 ∷ []) 1 ≡ record { refusal = 7; place = 0; windows = 0 })
    × (examine_outcome 3 2 0 (65 ∷ 67 ∷ 78 ∷ 84 ∷ []) 1 ≡ record { refusal = 6; place = 2; windows = 0 })
    × (examine_outcome 3 2 0 (65 ∷ 67 ∷ []) 0 ≡ record { refusal = 0; place = 0; windows = 0 })
unfolding examine_outcome examine_answer
examine-cases = (refl, refl, refl, refl)

-- what examining answered: no windows beside a refusal
abbrev pub examined : Result ℕ Refusal → Examined
examined (Ok n) = record { refusal = 0; place = 0; windows = n }
examined (Err r) = record { refusal = number_of r; place = place_of r; windows = 0 }
