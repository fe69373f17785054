-- `counters::Setting::least_tied` meets its contract.
-- Assumes nothing.
use Rattle.std.proofs.Common.{ℕ, rules, arith, ap, ◌+◌, ◌∙◌}
use Rattle.laws.specs.Places.{first_to-cong}
use Rattle.counters.specs.Readings.{ranking, own_word}
use Rattle.counters.specs.Settings.{is_tied}
use Rattle.counters.proofs.Searches.{find-searched}
use Rattle.counters.proofs.Tests.{place, tied-at}
use Rattle.counters.proofs.Setting.least_tied.Goals as goal

pub returns : goal.returns
returns c =
    let args = c.args in
    let s = args.self in
    c.unwrap_or.ensures
    ∙ find-searched {n = args.i} (λ k. k + 2) (λ k. omega arith) (omega arith) (λ q. is_tied (ranking s) (own_word s) args.i (q + 2) args.letter)
    (λ a r f k. search rules) c.find.result (λ k l t e. search rules) c.find.ensures.runs
    ∙ ap (λ (k : ℕ). k + 2) (first_to-cong args.i _ _ (λ q h. tied-at (ranking s) (own_word s) args.i args.letter q))
    ∙ place _
