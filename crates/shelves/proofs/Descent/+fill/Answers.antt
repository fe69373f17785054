-- `Descent::fill`, which calls itself, meets its contract.
-- Assumes nothing.
use Rattle.std.proofs.Common.{◌≡◌, ◌+◌, ◌*◌, ◌<◌, ap, arith}
use Rattle.shelves.proofs.Listing.{longer-ready, descend, going-into, going-past, going-all}
use Rattle.shelves.specs.declared.Beginning.{Beginning}
use Rattle.shelves.proofs.Descent.+fill.Goals.{then-passed-under, else-passed-under}
use Rattle.shelves.proofs.Descent.+fill.Goals as goal

pub longer-next-requires : goal.longer-next-requires
longer-next-requires t c =
    let self = c.args.self.now in
    longer-ready self.acceptor.now.tables self.complete c.requires c.in_default.ensures (omega arith)

pub fill-written-requires : goal.fill-written-requires
fill-written-requires t c =
    let self = c.args.self.now in
    let some : 0 < c.args.at.left = c.in_default.ensures in
    let at = c.loop-letter in
    let entered : at.passed < c.ways_under-under.result = omega arith in
    let next : c.longer-next.result.begun ≡ 4 * c.args.at.begun + at.letter = ap (λ (b : Beginning). b.begun) c.longer-next.ensures in
    rw c.longer-next.ensures (omega (arith, c.decreases, some), descend self.acceptor.now.tables self.complete c.requires some (omega arith) c.ways_under-under.ensures entered)

pub loop-letter-preserved : goal.loop-letter-preserved
loop-letter-preserved t c =
    let at = c.loop-letter in
    let few = c.loop-letter-test.true in
    let known = c.ways_under-under.ensures in
    elim c.if-passed-under.branch [
      | then-passed-under w ↦
          going-into at.invariant few known w.if-passed-under.true (rw w.longer-next.ensures at w.fill-written.ensures) w.room-is w.passed-is w.written-is
      | else-passed-under w ↦ going-past at.invariant few known w.if-passed-under.false w.room-is w.passed-is w.written-is
    ]

pub returns : goal.returns
returns t c = going-all c.loop-letter.invariant c.in_default.ensures (omega arith)
