-- `counters::Setting::below_at` meets its contract.
-- Assumes nothing.
use Rattle.std.proofs.Common.{rules, arith, ◌+◌, ◌-◌}
use Rattle.counters.specs.Readings.{ranking, own_word}
use Rattle.counters.specs.Settings.{low_at}
use Rattle.counters.proofs.Searches.{any-searched}
use Rattle.counters.proofs.Tests.{low-tested}
use Rattle.counters.proofs.Setting.below_at.Goals as goal

pub returns : goal.returns
returns c =
    let s = c.args.self in
    any-searched {n = c.args.i - 1} (λ k. k + 2) (λ k. omega arith) (omega arith) (low_at (ranking s) (own_word s) (c.args.i - 1))
    (λ a r f k. search rules) c.any.result (λ k l t e. search (rules, low-tested)) c.any.ensures.runs
