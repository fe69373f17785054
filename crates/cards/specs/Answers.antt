-- The card as the outcome that `definitions` speaks of.
-- Assumes nothing.
use Rattle.std.specs.Prelude.{ℕ, Option, Some, None}
use Rattle.definitions.specs.Cards as cards
use Rattle.refusals.specs.Numbers.{number_of}
use Rattle.refusals.specs.declared.Refusal.{Refusal}
use Rattle.cards.specs.declared.Printed as declared-printed

-- the number of the refusal that stands beside the text; 0 where none does
abbrev pub refusal_beside : Option Refusal → ℕ
refusal_beside None = 0
refusal_beside (Some r) = number_of r

-- what the card answered
abbrev pub printed : declared-printed.Printed → cards.Printed
printed r = record { refusal = refusal_beside r.refusal; length = r.length; text = r.text }
