-- `cards::Text::list` meets its contract. The loop's invariant: the lines of the k-mers passed are written.
-- Assumes nothing.
use Rattle.std.proofs.Common.{◌≡◌, ◌+◌, ◌*◌, ◌≤◌, ◌++◌, length, take, map}
use Rattle.definitions.specs.Words.{word}
use Rattle.definitions.specs.Cards.{entries}
use Rattle.cards.proofs.Text.list.Given as goal

abbrev pub invariant-loop-place : goal.invariant-loop-place
invariant-loop-place l = record {
  text : l.self ≡ l.initial.self ++ entries 0 (map (word l.k) (take l.place l.kmers));
  grows : length l.self ≤ length l.initial.self + 35 * l.place;
}
