-- `counters::Setting::first_alphabet` meets its contract: the shift leaves the rank of a1, which is at most three.
-- Assumes nothing.
use Rattle.counters.proofs.Signs.{first-rank-most, first-alphabet-size}
use Rattle.counters.proofs.Setting.first_alphabet.Goals as goal

pub overflow_sub-result : goal.overflow_sub-result
overflow_sub-result c = first-rank-most c.args.self.set_to

pub returns : goal.returns
returns c = first-alphabet-size c.args.self.set_to
