-- The answer of the worksheet as the outcome that `definitions` speaks of.
-- Assumes nothing.
use Rattle.std.specs.Prelude.{ℕ, Result, Ok, Err, replicate, ◌≡◌, refl}
use Rattle.definitions.specs.Words.{word as word_of}
use Rattle.definitions.specs.Vigemins.{keyed}
use Rattle.definitions.specs.Refusals.{refusal}
use Rattle.definitions.specs.Outcomes.{shelf_grounds, worksheet_outcome}
use Rattle.definitions.specs.Outcomes as outcomes
use Rattle.laws.specs.Accepted.{worksheet_answer-refusal}
use Rattle.refusals.specs.declared.Refusal.{Refusal}
use Rattle.refusals.specs.Numbers.{number_of, refusal_in}
use Rattle.worksheets.specs.declared.Sheet.{Sheet}

-- what the worksheet answered
abbrev pub worked : Result Sheet Refusal → outcomes.Worked
worked (Ok s) = record { refusal = 0; antemers = s.antemers; postmers = s.postmers }
worked (Err r) = record { refusal = number_of r; antemers = replicate 31 0; postmers = replicate 31 0 }

-- the sheet in an outcome
abbrev pub sheet_in : outcomes.Worked → Sheet
sheet_in o = record { antemers = o.antemers; postmers = o.postmers }

-- the outcome has the number of the refusal
pub worked-refusal : (r : Result Sheet Refusal) → (worked r).refusal ≡ refusal_in r
worked-refusal (Ok s) = refl
worked-refusal (Err r) = refl

-- the refusal of the worksheet is that of the shelf
pub worksheet-refusal : (k m key w : ℕ) → (worksheet_outcome k m key w).refusal ≡ refusal (shelf_grounds k m key w)
unfolding worksheet_outcome
worksheet-refusal k m key w = worksheet_answer-refusal (refusal (shelf_grounds k m key w)) (keyed (word_of m key)) k m (word_of m w)
