-- `tukinraso_c::tukinraso_scan` meets its contract: what the library ensures of the same numbers.
-- Assumes nothing.
use Rattle.tukinraso_c.proofs.tukinraso_scan.Goals as goal

pub returns : goal.returns
returns c = c.tukinraso_scan.ensures
