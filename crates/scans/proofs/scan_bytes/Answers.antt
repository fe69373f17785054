-- `scans::scan_bytes` meets its contract: the entries are the bytes of the positions.
-- Assumes nothing.
use Rattle.std.specs.Prelude.{refl, length}
use Rattle.definitions.specs.Outcomes.{as_bytes, scan_bytes_outcome}
use Rattle.scans.specs.Answers.{positions_written}
use Rattle.scans.proofs.Scans.{whole, takes-bytes, joined-bytes}
use Rattle.scans.proofs.scan_bytes.Goals as goal

pub returns : goal.returns
unfolding scan_bytes_outcome
returns c =
    let a = c.args in
    let s = c.scan_into in
    whole as_bytes refl a.k a.m a.key a.seq.now 4 a.room.now _ (takes-bytes (length a.room.now)) s.result s.ensures.examined
    (rw (joined-bytes (positions_written a.k a.m a.key a.seq.now s.result)) at s.ensures.written)
