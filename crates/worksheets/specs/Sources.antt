-- What is said of every ranking and word to which the states belong that a worksheet is made from.
-- Assumes nothing.
use Rattle.definitions.specs.Words.{Word}
use Rattle.laws.specs.Orders.{Ranking}
use Rattle.worksheets.specs.Columns.{StatesOf}
use Rattle.worksheets.specs.declared.Source.{Source}

-- something holds of every ranking and word whose states these are
abbrev pub Each : Source → (Ranking → Word → Type 0) → Type 0
Each s Q = (ρ : Ranking) (w : Word) → StatesOf ρ w s.m s.states.now → Q ρ w
