-- The proof of the cycle of calls {all_prefixes, one_prefix} of `counters::Setting`. `all_prefixes` asks `one_prefix` for the same length n, which asks `all_prefixes` for
-- shorter ones, so the measures are twice n plus one for `all_prefixes`, and twice n for `one_prefix`.
-- The loop of `all_prefixes` sums up over the shared lengths, and that of `one_prefix` over the letters that may follow.
-- Assumes nothing.
use Prim.Native.Nat.{◌+◌, ◌*◌}
use Rattle.counters.specs.Readings.{ranking, own_word, is_antemer}
use Rattle.counters.proofs.Counts.{Summed, Gathered}
use Rattle.counters.proofs.Setting.+all_prefixes_one_prefix.Given as goal

abbrev pub decreases-all_prefixes : goal.decreases-all_prefixes
decreases-all_prefixes l = 2 * l.n + 1

abbrev pub decreases-one_prefix : goal.decreases-one_prefix
decreases-one_prefix l = 2 * l.n

abbrev pub invariant-all_prefixes-loop-shared : goal.invariant-all_prefixes-loop-shared
invariant-all_prefixes-loop-shared l =
    Summed (own_word l.self) (is_antemer l.self) l.i l.n l.sum l.shared

abbrev pub invariant-one_prefix-loop-letter : goal.invariant-one_prefix-loop-letter
invariant-one_prefix-loop-letter l =
    Gathered (ranking l.self) (own_word l.self) (is_antemer l.self) l.i l.n l.sum l.letter
