-- `worksheets::Source::next_row` meets its contract: the two stretches that are written are the next row.
-- Assumes nothing.
use Rattle.std.proofs.Common.{ℕ, List, refl}
use Rattle.std.proofs.Math.Logic.{∥∥₁_elim}
use Rattle.std.proofs.Props.{props}
use Rattle.powers.specs.Powers.{powers-are}
use Rattle.worksheets.specs.Columns.{RowReady}
use Rattle.worksheets.proofs.Columns.{turn-ready, turn-done}
use Rattle.worksheets.proofs.Source.next_row.Goals as goal

-- what writing a row asks has one proof at most
row-prop : (lo hi done : ℕ) (allowed ways : List ℕ) → IsProp (RowReady lo hi done allowed ways)
row-prop lo hi done allowed ways = Prim.hlevel props

pub ways_row-requires : goal.ways_row-requires
ways_row-requires c =
    ∥∥₁_elim c.requires.ready (row-prop _ _ _ _ _) (λ t. turn-ready t.4 c.saturating_sub-free.ensures c.lesser-needed.ensures)

pub returns : goal.returns
returns c =
    λ W first next ban t. turn-done t c.saturating_sub-free.ensures c.lesser-needed.ensures c.ways_row.ensures
    (powers-are c.args.self.now.powers_are) c.free_row.ensures refl
