-- `sizes::products` meets its contract. The loop's invariant: the sum is that over the first a rows. A part of it is at most the whole,
-- which is at most 4^31.
-- Assumes nothing.
use Rattle.std.proofs.Common.{◌≡◌}
use Rattle.laws.specs.Split.{product_sum}
use Rattle.sizes.proofs.products.Given as goal

abbrev pub invariant-loop-a : goal.invariant-loop-a
invariant-loop-a l = l.sum ≡ product_sum l.n l.sheet.antemers l.sheet.postmers l.a
