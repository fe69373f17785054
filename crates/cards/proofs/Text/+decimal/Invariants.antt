-- The cycle of calls {decimal}. The measure is the number.
-- Assumes nothing.
use Rattle.cards.proofs.Text.+decimal.Given as goal

abbrev pub decreases-decimal : goal.decreases-decimal
decreases-decimal l = l.number
