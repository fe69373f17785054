-- `counters::Setting::compared` meets its contract: the two numbers whose sign it gives are the values of the two stretches of the word.
-- Assumes nothing.
use Rattle.std.proofs.Common.{ap, ◌∙◌, ◌+◌, ◌-◌, arith}
use native.Mathlib.Nat.{one-le-pow}
use Rattle.laws.specs.Numbers.{four-pos}
use Rattle.powers.specs.Powers.{power-four}
use Rattle.powers.specs.Signs.{signed}
use Rattle.counters.proofs.Signs.{compared-sign}
use Rattle.counters.proofs.Setting.compared.Goals as goal

pub nonzero_rem-stretch : goal.nonzero_rem-stretch
nonzero_rem-stretch c =
    let args = c.args in
    let length = args.i + 1 - args.j in
    rw (c.power.ensures ∙ power-four length (omega (arith, args.self.set_to.few))) (one-le-pow length 4 four-pos)

pub returns : goal.returns
returns c =
    let args = c.args in
    let r = c.requires in
    c.sign.ensures ∙ ap signed (compared-sign args.self.set_to args.i args.j r.0 r.1 r.2 c.power.ensures)
