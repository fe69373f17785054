-- `Descent::at_once` meets its contract: what it reads are the ways and the power.
-- Assumes nothing.
use Rattle.std.proofs.Common.{arith}
use Rattle.shelves.proofs.Listing.{power-some, start-lt, once-free, rest_lt, once-rest}
use Rattle.shelves.proofs.Descent.at_once.Goals as goal

pub overflow_mul-first : goal.overflow_mul-first
overflow_mul-first c =
    let self = c.args.self.now in
    omega (arith, start-lt self.acceptor.now.tables self.complete c.requires)

pub overflow_add-first : goal.overflow_add-first
overflow_add-first c =
    let self = c.args.self.now in
    omega (arith, start-lt self.acceptor.now.tables self.complete c.requires)

pub returns-then-count-power : goal.returns-then-count-power
returns-then-count-power c =
    let self = c.args.self.now in
    once-free self.acceptor.now.tables self.complete c.requires c.if-count-power.true

pub nonzero_rem-result : goal.nonzero_rem-result
nonzero_rem-result c =
    let self = c.args.self.now in
    power-some self.acceptor.now.tables self.complete c.requires

pub overflow_add-result : goal.overflow_add-result
overflow_add-result c =
    let self = c.args.self.now in
    omega (arith, rest_lt self.acceptor.now.tables self.complete c.requires c.if-at-self.true)

pub returns-then-at-self : goal.returns-then-at-self
returns-then-at-self c =
    let self = c.args.self.now in
    once-rest self.acceptor.now.tables self.complete c.requires c.if-at-self.true
