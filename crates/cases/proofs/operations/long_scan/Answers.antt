-- `cases::operations::long_scan` is safe: the part that is scanned has as many letters as it is to have. Assumes nothing.
use Rattle.std.proofs.Common.{arith, length-take}
use Rattle.cases.proofs.operations.long_scan.Goals as goal

pub slice_bounds-seq-end-2 : goal.slice_bounds-seq-end-2
slice_bounds-seq-end-2 c = simp length-take (omega arith)
