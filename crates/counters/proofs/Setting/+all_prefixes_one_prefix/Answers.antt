-- The proof of the cycle of calls {all_prefixes, one_prefix} of `counters::Setting`: the loop of `all_prefixes` sums up over the shared lengths, and
-- that of `one_prefix` over the letters that may follow.
-- Assumes nothing.
use Rattle.std.proofs.Common.{ℕ, ◌+◌, ◌-◌, ◌≤◌, ◌<◌, sym, ◌∙◌, arith}
use Rattle.laws.specs.Numbers.{length_digits}
use Rattle.counters.proofs.Counts.{summed-more, summed-small, summed-all, gathered-more, gathered-skip, gathered-all, gathered-small, T-between, full-none, banned-none, whole-one, none-shared, none-shared-small}
use Rattle.counters.proofs.Setting.+all_prefixes_one_prefix.Goals.{one_prefix-then-i-self-via-then-i-self, one_prefix-then-i-self-via-else-i-self+then-banned, one_prefix-After-least_tied-t, one_prefix-then-may_follow, one_prefix-else-may_follow}
use Rattle.counters.proofs.Setting.+all_prefixes_one_prefix.Goals as goal

pub all_prefixes-overflow_add-sum : goal.all_prefixes-overflow_add-sum
all_prefixes-overflow_add-sum t c =
    let small = summed-small c.loop-shared.invariant c.one_prefix-sum.ensures c.requires.short in
    omega (arith, small)

pub all_prefixes-loop-shared-preserved : goal.all_prefixes-loop-shared-preserved
all_prefixes-loop-shared-preserved t c = summed-more c.loop-shared.invariant c.one_prefix-sum.ensures

pub all_prefixes-returns : goal.all_prefixes-returns
all_prefixes-returns t c =
    let s = c.args.self in
    let long = length_digits 4 s.m s.word in
    summed-all c.loop-shared.invariant (omega (arith, c.lesser-shared-end.ensures, long))

pub one_prefix-returns-then-i-self : goal.one_prefix-returns-then-i-self
one_prefix-returns-then-i-self t c =
    let set = c.args.self.set_to in
    elim c.then-i-self.branch [
      | one_prefix-then-i-self-via-then-i-self w ↦ full-none set c.args.n w.if-i-self.true
      | one_prefix-then-i-self-via-else-i-self+then-banned w ↦
          banned-none set c.args.i c.args.n (omega arith) (sym w.if-banned.true ∙ w.banned.ensures)
    ]

pub one_prefix-returns-then-i-n : goal.one_prefix-returns-then-i-n
one_prefix-returns-then-i-n t c =
    whole-one c.args.self.set_to (omega arith) c.if-i-n.true c.whole.ensures c.from.ensures

pub one_prefix-overflow_mul-result : goal.one_prefix-overflow_mul-result
one_prefix-overflow_mul-result t c =
    let small = none-shared-small c.args.self.set_to (c.args.n - 1) (omega (arith, c.requires.served.short)) c.first_alphabet.ensures c.all_prefixes.ensures in
    omega (arith, small)

pub one_prefix-returns-then-i-eq0 : goal.one_prefix-returns-then-i-eq0
one_prefix-returns-then-i-eq0 t c =
    none-shared c.args.self.set_to {i = c.args.i} {n = c.args.n} (omega arith) (omega arith) c.first_alphabet.ensures c.all_prefixes.ensures

-- what follows a letter is shorter
shorter : (t : ℕ) (c : one_prefix-After-least_tied-t t)
    → let j = c.least_tied-t.result in
    (j ≤ c.args.i + 2) × (j ≤ c.args.n + 1) × (c.args.n + 1 - j < c.args.n)
shorter t c = T-between _ _ c.loop-letter.letter c.least_tied-t.ensures (omega arith)

pub one_prefix-overflow_sub-i : goal.one_prefix-overflow_sub-i
one_prefix-overflow_sub-i t c = (shorter t c).0

pub one_prefix-overflow_sub-n-then-may_follow : goal.one_prefix-overflow_sub-n-then-may_follow
one_prefix-overflow_sub-n-then-may_follow t c = (shorter t c).1

pub one_prefix-overflow_add-sum : goal.one_prefix-overflow_add-sum
one_prefix-overflow_add-sum t c =
    let small =
    gathered-small c.loop-letter.invariant (omega arith) c.requires.served.short (omega arith) c.least_tied-t.ensures c.all_prefixes-sum.ensures
    in
    omega (arith, small)

pub one_prefix-loop-letter-preserved : goal.one_prefix-loop-letter-preserved
one_prefix-loop-letter-preserved t c =
    let at = c.loop-letter.invariant in
    let asked = c.may_follow.ensures in
    elim c.if-may_follow.branch [
      | one_prefix-then-may_follow w ↦
          rw w.sum-is
          (gathered-more at (omega arith) c.requires.served.short (omega arith) (sym w.if-may_follow.true ∙ asked) w.least_tied-t.ensures w.all_prefixes-sum.ensures)
      | one_prefix-else-may_follow w ↦ rw w.sum-is (gathered-skip at (omega arith) (sym w.if-may_follow.false ∙ asked))
    ]

pub one_prefix-returns : goal.one_prefix-returns
one_prefix-returns t c =
    gathered-all c.args.self.set_to (omega arith) (omega arith) (sym c.if-banned.false ∙ c.banned.ensures) c.loop-letter.invariant c.loop-letter-test.false
