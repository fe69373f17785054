-- `scans::scan_into` meets its contract: where there is no window, or something is refused, nothing is written, and else the entries are.
-- Assumes nothing.
use Rattle.std.specs.Prelude.{◌/◌, length}
use Rattle.std.proofs.Common.{arith, sym, ◌∙◌}
use Rattle.definitions.specs.Words.{word}
use Rattle.definitions.specs.Vigemins.{keyed}
use Rattle.scans.proofs.Scans.{counted, none-scanned, order, writable}
use Rattle.scans.proofs.scan_into.Goals as goal

pub returns-else-windows-ne0-clause-written : goal.returns-else-windows-ne0-clause-written
returns-else-windows-ne0-clause-written g c =
    let a = c.args in
    let none = sym (counted a.k a.m a.key a.seq.now (length a.room.now / c.EACH.result) c.in_ok-windows.ensures) ∙ c.if-windows-ne0.false in
    rw (none-scanned (keyed (word a.m a.key)) a.k a.m a.seq.now none)

pub new-requires : goal.new-requires
new-requires g c =
    let a = c.args in order a.k a.m a.key a.seq.now (length a.room.now / c.EACH.result) c.in_ok-windows.ensures

pub write-requires : goal.write-requires
write-requires g c =
    let a = c.args in
    writable a.k a.m a.key a.seq.now (length a.room.now / c.EACH.result) c.in_ok-windows.ensures (rw c.EACH.ensures) (omega arith) c.new.ensures
