-- `tukinraso_c::tukinraso_size` meets its contract: what the library ensures of the same numbers.
-- Assumes nothing.
use Rattle.tukinraso_c.proofs.tukinraso_size.Goals as goal

pub returns : goal.returns
returns c = c.tukinraso_size.ensures
