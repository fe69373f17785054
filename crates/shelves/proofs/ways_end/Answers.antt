-- `shelves::ways_end` meets its contract.
-- Assumes nothing.
use Rattle.std.proofs.Common.{refl}
use Rattle.shelves.proofs.Ways.{ends}
use Rattle.shelves.proofs.ways_end.Goals as goal

pub returns : goal.returns
returns c =
    ends c.fill.new.self c.fill-2.new.self c.args.ways.now c.requires c.fill.auto.self c.fill-2.auto.self
    (λ i h. c.fill.ensures.clones i 0 h refl) (λ i h. c.fill-2.ensures.clones i 0 h refl)
