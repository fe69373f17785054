-- `counters::Setting::whole` meets its contract.
-- Assumes nothing.
use Rattle.std.proofs.Common.{rules, arith, sym, ◌∙◌}
use Rattle.std.proofs.iter.Serving.{serving}
use Rattle.counters.proofs.Searches.{all-searched}
use Rattle.counters.proofs.Direct.{both_small, side_some, direct, at_most_at, above-tested}
use Rattle.counters.proofs.Setting.whole.Goals as goal

pub overflow_mul-followed-2 : goal.overflow_mul-followed-2
overflow_mul-followed-2 c = let small = both_small c.args.self.set_to c.requires.served c.requires.in_range c.power-side.ensures in omega (arith, small)

pub overflow_add-followed : goal.overflow_add-followed
overflow_add-followed c = let small = both_small c.args.self.set_to c.requires.served c.requires.in_range c.power-side.ensures in omega (arith, small)

pub all-requires-clause-callable : goal.all-requires-clause-callable
all-requires-clause-callable c =
    let some = side_some c.args.self.set_to c.requires.served c.requires.in_range c.power-side.ensures in
    grind (arith, serving)

pub returns : goal.returns
returns c =
    let args = c.args in
    let s = args.self in
    all-searched {n = args.i} (λ k. k) (λ k. omega arith) (omega arith) (at_most_at s.m s.key s.word args.i c.power-side.result)
    (λ a r f k. search rules) c.all.result (λ k l t e. search (rules, above-tested)) c.all.ensures.runs
    ∙ sym (direct s.set_to c.requires.served c.requires.in_range c.power-side.ensures)
