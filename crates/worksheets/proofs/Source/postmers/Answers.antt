-- `worksheets::Source::postmers` meets its contract: what the column counts are the postmers.
-- Assumes nothing.
use Rattle.std.proofs.Math.Logic.{∥∥₁_map}
use Rattle.laws.specs.Tables.{postmer_ways}
use Rattle.worksheets.proofs.Laws.{known-lt}
use Rattle.worksheets.proofs.Rows.{up_to-written}
use Rattle.worksheets.proofs.Sides.{lasts-some, postmer-side, postmer-column}
use Rattle.worksheets.proofs.Source.postmers.Goals as goal

pub overflow_sub-last : goal.overflow_sub-last
overflow_sub-last c = known-lt c.args.self.now.known (λ ρ w t. lasts-some ρ t.alphabets.word (c.lasts-last.ensures ρ w t))

pub column-requires-clause-countable : goal.column-requires-clause-countable
column-requires-clause-countable c =
    let self = c.args.self.now in
    ∥∥₁_map self.known
    (λ t. (
      postmer_ways t.0 t.1,
      postmer-side t.2.alphabets.one t.2.alphabets.word t.2.links self.k self.in_range.1 self.in_range.2 c.lesser.ensures (c.lasts-last.ensures t.0 t.1 t.2) (up_to-written c.free_row.ensures),
    ))

pub returns : goal.returns
returns c = λ ρ w t.
    let self = c.args.self.now in
    let last = c.lasts-last.ensures ρ w t in
    postmer-column t.alphabets.one t.alphabets.word t.links self.k self.in_range.1 self.in_range.2 c.lesser.ensures last
    (c.column.ensures (postmer_ways ρ w)
    (postmer-side t.alphabets.one t.alphabets.word t.links self.k self.in_range.1 self.in_range.2 c.lesser.ensures last (up_to-written c.free_row.ensures)))
