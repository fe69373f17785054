-- `counters::Setting::may_follow` meets its contract.
-- Assumes nothing.
use Rattle.std.proofs.Common.{ℕ, suc, Bool, true, not, ◌&&◌, ◌+◌, ◌≡◌, rules, arith, sym, ap, ap₂, ◌∙◌, add-one}
use Rattle.laws.specs.Places.{any_to-cong}
use Rattle.laws.specs.Rules.{Σ}
use Rattle.counters.specs.Readings.{ranking, own_word}
use Rattle.counters.specs.Settings.{is_hindered}
use Rattle.counters.proofs.Searches.{any-searched}
use Rattle.counters.proofs.Tests.{hindered-at}
use Rattle.counters.proofs.Setting.may_follow.Goals as goal

pub returns-then-is_gt : goal.returns-then-is_gt
returns-then-is_gt c =
    let args = c.args in
    let s = args.self in
    let hindered =
    any-searched {n = args.i} (λ k. k + 2) (λ k. omega arith) (omega arith) (λ q. is_hindered (ranking s) (own_word s) args.i (q + 2) args.letter)
    (λ a r f k. search rules) c.any.result (λ k l t e. search rules) c.any.ensures.runs
    ∙ any_to-cong args.i (λ q h. hindered-at (ranking s) (own_word s) args.i args.letter q)
    in
    let lies : Σ (ranking s) (own_word s) (suc args.i) args.letter ≡ true =
    ap (λ (k : ℕ). Σ (ranking s) (own_word s) k args.letter) (sym (add-one args.i)) ∙ sym c.letter_sign.ensures.special ∙ sym c.is_gt.ensures ∙ c.if-is_gt.true
    in
    ap₂ (λ (t u : Bool). t && not u) (sym lies) hindered
