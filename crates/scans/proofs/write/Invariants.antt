-- `scans::write` meets its contract. The loop's invariant: each run has read its window i, and the entries for those up to it are written.
-- Assumes nothing.
use Rattle.std.specs.Prelude.{◌+◌}
use Rattle.definitions.specs.Lists.{over}
use Rattle.laws.specs.Filters.{joined}
use Rattle.scans.specs.Readings.{positions_of}
use Rattle.scans.proofs.Writes.{Writing}
use Rattle.scans.proofs.write.Given as goal

abbrev pub invariant-loop-i : goal.invariant-loop-i
invariant-loop-i g l =
    let e = g.E.Entry in
    Writing l.reading.settings l.reading.seq.now l.windows e.EACH (over (joined e.entries (positions_of l.reading.settings l.reading.seq.now)) l.fn.room) (l.i + 1) l.r l.left l.right l.room
