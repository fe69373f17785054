-- `worksheets::Source::antemers` meets its contract: what the column counts are the antemers.
-- Assumes nothing.
use Rattle.std.proofs.Common.{arith}
use Rattle.std.proofs.Math.Logic.{∥∥₁_map}
use Rattle.worksheets.proofs.Laws.{known-lt, known-le}
use Rattle.worksheets.proofs.Sides.{live_ways, antemer-side, antemer-column}
use Rattle.worksheets.proofs.Source.antemers.Goals as goal

pub ends-requires-clause-in_range : goal.ends-requires-clause-in_range
ends-requires-clause-in_range c =
    let known = c.args.self.now.known in (
      known-lt known (λ ρ w t. (c.reach-live.ensures ρ w t).some),
      known-le known (λ ρ w t. omega (arith, (c.reach-live.ensures ρ w t).most, t.alphabets.word.long)),
    )

pub column-requires-clause-countable : goal.column-requires-clause-countable
column-requires-clause-countable c =
    let self = c.args.self.now in
    ∥∥₁_map self.known
    (λ t. (
      live_ways t.0 t.1 c.reach-live.result,
      antemer-side t.2.alphabets.one t.2.alphabets.word t.2.links self.k self.in_range.1 self.in_range.2 (c.reach-live.ensures t.0 t.1 t.2) (c.ends.ensures t.0 t.1 t.2),
    ))

pub returns : goal.returns
returns c = λ ρ w t.
    let self = c.args.self.now in
    let reached = c.reach-live.ensures ρ w t in
    antemer-column t.alphabets.one t.alphabets.word t.links self.k self.in_range.1 self.in_range.2 reached
    (c.column.ensures (live_ways ρ w c.reach-live.result)
    (antemer-side t.alphabets.one t.alphabets.word t.links self.k self.in_range.1 self.in_range.2 reached (c.ends.ensures ρ w t)))
