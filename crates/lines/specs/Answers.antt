-- What reading a line answers as the outcome that `definitions` speaks of, and what the parts of a line spell and ask for.
-- Assumes nothing.
use Rattle.std.specs.Prelude.{ℕ, ◌-◌, ◌≤◌, ◌<◌, ◌≡◌, cond, List, Option, Some, None, Result, Ok, Err, length, eqb}
use Rattle.definitions.specs.Lists.{first_place}
use Rattle.definitions.specs.Cards as cards
use Rattle.refusals.specs.Numbers.{number_of}
use Rattle.refusals.specs.declared.Refusal.{Refusal}
use Rattle.lines.specs.declared.Line as declared-line

-- what a line asks for
abbrev pub asked_of : declared-line.Line → cards.Asked
asked_of l = record { k = l.k; m = l.m; key = l.key; word = l.word }

-- what a line asks for, if there is one
abbrev pub asked_in : Option declared-line.Line → Option cards.Asked
asked_in (Some l) = Some (asked_of l)
asked_in None = None

-- what reading a line answered
abbrev pub lined : Result declared-line.Line Refusal → cards.Line
lined (Ok l) = record { refusal = 0; asked = asked_of l }
lined (Err r) = record { refusal = number_of r; asked = cards.nothing }

-- a text has no such byte
abbrev pub IsUncut : ℕ → List ℕ → Type 0
IsUncut b s = length s ≤ first_place (eqb b) s

-- a text has such a byte, and these are its parts before and behind the first one
pub record IsCut (b : ℕ) (s front back : List ℕ) : Type 0 where
  pub inside : first_place (eqb b) s < length s
  pub before : front ≡ cards.before b s
  pub behind : back ≡ cards.behind b s

-- the digit that a byte spells, if it spells one
abbrev pub digit_of : ℕ → Option ℕ
digit_of b = cond (cards.is_digit b) (Some (b - 48)) None

-- the number that a text spells, if it spells one
abbrev pub spelled_in : List ℕ → Option ℕ
spelled_in s = cond (cards.is_number s) (Some (cards.number_of s)) None

-- three texts as parts
abbrev pub parts_of : List ℕ → List ℕ → List ℕ → cards.Parts
parts_of k key w = record { k = k; key = key; word = w }

-- what three texts ask for, if they are proper
abbrev pub asked_by : cards.Parts → Option cards.Asked
asked_by p = cond (cards.proper p) (Some (cards.asks p)) None

-- what an input asks for, if it is well formed
abbrev pub asked_for : List ℕ → Option cards.Asked
asked_for s = cond (cards.well_formed s) (Some (cards.asks (cards.parts s))) None
