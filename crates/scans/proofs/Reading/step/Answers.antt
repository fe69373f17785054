-- `scans::Reading::step` meets its contract: the m-mer that ends in the letter is read, and its stamp is that of a place behind the block.
-- Assumes nothing.
use Rattle.std.specs.Prelude.{suc, ◌+◌, ◌≤◌, get_or}
use Rattle.std.proofs.Common.{sym, arith}
use Rattle.definitions.specs.Words.{spelled}
use Rattle.laws.specs.Rolls.{rolled}
use Rattle.scans.specs.Readings.{top}
use Rattle.scans.proofs.Letters.{roll-room}
use Rattle.scans.proofs.Windows.{step-read}
use Rattle.scans.proofs.Reading.step.Goals as goal
use Rattle.scans.proofs.Reading.step.Goals.{After-roll-word}

-- behind the word every place below the side fits
room : (c : goal.After-roll-word) → c.roll-word.result + c.args.self.now.settings.side ≤ suc top
room c =
    let x = c.args.self.now in
    let s = x.settings in
    let d = c.requires.read in
    roll-room x.readable.prepared (get_or x.seq.now c.args.place 0) c.roll-word.ensures (rolled s.m (spelled x.seq.now) (d.block + c.args.at + s.k)) d.read.word

pub overflow_add-stamp : goal.overflow_add-stamp
overflow_add-stamp c =
    omega (arith, room (goal.at.overflow_add-stamp c).After-roll-word, c.requires.inside.0, c.args.self.now.readable.prepared.places_fit)

pub overflow_add-far : goal.overflow_add-far
overflow_add-far c =
    omega (arith, room (goal.at.overflow_add-far c).After-roll-word, c.requires.inside.0, c.args.self.now.readable.prepared.places_fit)

pub returns : goal.returns
returns c =
    let x = c.args.self.now in
    let d = c.requires.read in
    let i = c.requires.inside in
    record {
      block = d.block;
      there = omega (arith, d.there);
      read = step-read x.settings x.seq.now x.readable d.read i.0 (sym d.there) i.1 c.roll-word.ensures c.lesser.ensures;
    }
