-- `scans::Reading::start` meets its contract. The loop's invariant: the word is that of the letters passed.
-- Assumes nothing.
use Rattle.std.specs.Prelude.{◌≡◌, drop}
use Rattle.definitions.specs.Words.{spelled}
use Rattle.laws.specs.Rolls.{rolled}
use Rattle.scans.specs.Readings.{keyed_word}
use Rattle.scans.proofs.Reading.start.Given as goal

abbrev pub invariant-loop-i : goal.invariant-loop-i
invariant-loop-i l =
    let s = l.self.settings in l.word ≡ keyed_word s (rolled s.m (drop l.from (spelled l.self.seq.now)) l.i)
