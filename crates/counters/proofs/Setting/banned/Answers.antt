-- `counters::Setting::banned` meets its contract.
-- Assumes nothing.
use Rattle.std.proofs.Common.{rules, arith, ◌+◌}
use Rattle.counters.specs.Readings.{ranking, own_word}
use Rattle.counters.specs.Settings.{is_below_at}
use Rattle.counters.proofs.Searches.{any-searched}
use Rattle.counters.proofs.Setting.banned.Goals as goal

pub returns : goal.returns
returns c =
    let s = c.args.self in
    any-searched {n = c.args.i} (λ k. k + 1) (λ k. omega arith) (omega arith) (is_below_at (ranking s) (own_word s))
    (λ a r f k. search rules) c.any.result (λ k l t e. search rules) c.any.ensures.runs
