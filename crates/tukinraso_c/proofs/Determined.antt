-- The contracts of the exports are those of the library, so they take every input and determine their outcomes as those do.
-- Assumes nothing.
use Rattle.laws.specs.Promises.{TakesAll, Determines}
use Rattle.tukinraso.proofs.Determined as library
use Rattle.tukinraso_c.proofs.tukinraso_scan.Kinds as tukinraso-scan-kinds
use Rattle.tukinraso_c.proofs.tukinraso_scan.Reads as tukinraso-scan-reads
use Rattle.tukinraso_c.proofs.tukinraso_size.Kinds as tukinraso-size-kinds
use Rattle.tukinraso_c.proofs.tukinraso_size.Reads as tukinraso-size-reads

pub tukinraso-scan-takes-all : TakesAll tukinraso-scan-kinds.ps tukinraso-scan-reads.Asked
tukinraso-scan-takes-all = library.tukinraso-scan-takes-all

pub tukinraso-scan-determined : Determines tukinraso-scan-kinds.ps tukinraso-scan-kinds.r tukinraso-scan-reads.Post
tukinraso-scan-determined = library.tukinraso-scan-determined

pub tukinraso-size-takes-all : TakesAll tukinraso-size-kinds.ps tukinraso-size-reads.Asked
tukinraso-size-takes-all = library.tukinraso-size-takes-all

pub tukinraso-size-determined : Determines tukinraso-size-kinds.ps tukinraso-size-kinds.r tukinraso-size-reads.Post
tukinraso-size-determined = library.tukinraso-size-determined
