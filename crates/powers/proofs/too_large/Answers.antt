-- `powers::too_large` meets its contract: no number of 64 bits is too large for 32 letters or more, and below that the table tells.
-- Assumes nothing.
use Prim.Native.Nat.{ℕ, ◌^◌, ◌≤◌}
use mathlib.Core.Path.{◌≡◌, sym, ap, ◌∙◌}
use native.Mathlib.Nat.{pow-le-pow_right}
use native.Mathlib.Omega.{arith}
use borrow.Author.Tests.{lt-leb}
use lib.Dec.{leb}
use Rattle.laws.specs.Numbers.{four-pos}
use Rattle.powers.specs.Powers.{power-four}
use Rattle.powers.proofs.too_large.Goals as goal

pub returns-then-n-gt31 : goal.returns-then-n-gt31
returns-then-n-gt31 c =
    let n = c.args.n in
    let large : 4 ^ 32 ≤ 4 ^ n = pow-le-pow_right four-pos c.if-n-gt31.true in
    sym (lt-leb (4 ^ n) c.args.word (omega (arith, c.ranges.word)))

pub returns : goal.returns
returns c =
    let n = c.args.n in
    let four : c.power.result ≡ 4 ^ n = c.power.ensures ∙ power-four n c.if-n-gt31.false in
    ap (λ (p : ℕ). leb p c.args.word) four
