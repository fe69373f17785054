-- `scans::Reading::next_windows` meets its contract: once the last blocks have m-mers left to be read after them, each run reads one letter.
-- Assumes nothing.
use Rattle.std.specs.Prelude.{◌+◌}
use Rattle.std.proofs.Common.{arith}
use Rattle.scans.proofs.Windows.{read-at}
use Rattle.scans.proofs.Reading.next_windows.Goals as goal

pub step-one-requires : goal.step-one-requires
step-one-requires c =
    let t = c.turned-t in
    record {
      read = record { block = t.result.block; there = omega (arith, t.ensures.same, c.requires.last); read = t.ensures.read_both.one };
      inside = (t.ensures.inside, omega (arith, c.requires.more));
    }

pub step-other-requires : goal.step-other-requires
step-other-requires c =
    let t = c.turned-t in
    record {
      read =
          record { block = t.result.block + t.result.from; there = omega (arith, t.ensures.same, c.requires.last); read = t.ensures.read_both.other };
      inside = (t.ensures.inside, omega (arith, c.requires.more, t.ensures.same));
    }

pub returns-clause-read_both : goal.returns-clause-read_both
returns-clause-read_both c =
    let t = c.turned-t in
    record {
      one = read-at c.step-one.ensures (omega (arith, t.ensures.same, c.requires.last));
      other = read-at c.step-other.ensures (omega (arith, t.ensures.same, c.requires.last));
    }
