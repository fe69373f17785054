-- `Descent::fill`, which calls itself, meets its contract. The measure is how many letters are left.
-- The invariant of its loop: the k-mers under the letters before this one are listed, as `Going` has it.
-- Assumes nothing.
use Rattle.shelves.proofs.Listing.{Going}
use Rattle.shelves.proofs.Descent.+fill.Given as goal

abbrev pub decreases-fill : goal.decreases-fill
decreases-fill l = l.at.left

abbrev pub invariant-loop-letter : goal.invariant-loop-letter
invariant-loop-letter l =
    Going l.self.acceptor.now.moves l.self.acceptor.now.ban l.at.left l.at.state l.at.begun l.skip l.initial.room l.room l.passed l.written l.letter
