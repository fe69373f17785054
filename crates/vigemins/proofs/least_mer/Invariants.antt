-- `vigemins::least_mer` meets its contract. The loop's invariant: of the first p m-mers the least is held, with its value and its position.
-- Assumes nothing.
use Prim.Native.Nat.{ℕ, suc, ◌+◌, ◌≤◌, ◌<◌}
use mathlib.Core.Path.{◌≡◌}
use lib.ListN.{length, get_or, take, drop}
use Rattle.definitions.specs.Words.{Word, val, word as word_of}
use Rattle.definitions.specs.Vigemins.{least_place}
use Rattle.laws.specs.Rolls.{values}
use Rattle.vigemins.proofs.least_mer.Given as goal

-- what is held of the first p m-mers of a word: the least of them, its value and its position
pub record Passed (m key : ℕ) (x : Word) (p word least position : ℕ) : Type 0 where
  pub some : 0 < p
  pub inside : p + m ≤ suc (length x)
  pub place : position ≡ least_place (take p (values m key x))
  pub mer : word ≡ val (take m (drop position x))
  pub lowest : least ≡ get_or (values m key x) position 0

abbrev pub invariant-loop-p : goal.invariant-loop-p
invariant-loop-p l = Passed l.m l.key (word_of l.k l.kmer) l.p l.word l.least l.position
