-- `powers::power` meets its contract: up to 31 the table has the power, and above it nothing is left of it in 64 bits.
-- Assumes nothing.
use Prim.Native.Nat.{ℕ, ◌^◌}
use mathlib.Core.List.{List}
use mathlib.Core.Path.{sym, ap, ◌∙◌}
use native.Mathlib.Omega.{arith}
use lib.ListN.{get_or}
use Rattle.laws.specs.Filters.{tabulate-at}
use Rattle.powers.specs.Powers.{power-four, power-none}
use Rattle.powers.proofs.power.Goals as goal

pub returns-then-n-gt31 : goal.returns-then-n-gt31
returns-then-n-gt31 c = sym (power-none c.args.n c.if-n-gt31.true)

pub returns : goal.returns
returns c =
    let n = c.args.n in
    ap (λ (l : List ℕ). get_or l n 0) c.powers-table.ensures ∙ tabulate-at (λ i. 4 ^ i) 32 n 0 (omega arith) ∙ sym (power-four n c.if-n-gt31.false)
