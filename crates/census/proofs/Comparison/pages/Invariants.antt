-- `census::Comparison::pages` is safe and ends. The loop's invariant: no more pages were made than k-mers are behind, and the room is as long as it was.
-- The measure is how many k-mers are left. Assumes nothing.
use Rattle.std.proofs.Common.{◌+◌, ◌≤◌, length}
use Rattle.census.proofs.Comparison.pages.Given as goal

abbrev pub invariant-loop-pages : goal.invariant-loop-pages
invariant-loop-pages g l = l.pages + length l.left ≤ length l.shelf

abbrev pub decreases-loop-pages : goal.decreases-loop-pages
decreases-loop-pages g l = length l.left
