-- `states::link_states` meets its contract.
-- Assumes nothing.
use Rattle.std.proofs.Common.{add-one, arith}
use Rattle.states.proofs.Below.{alphabets-kept, reached-last, reached-more, Going, going}
use Rattle.states.proofs.link_states.Goals as goal
use Rattle.states.proofs.link_states.Goals.{In-loop-i}

-- what is read in the loop lies in the tables
known : (c : goal.In-loop-i) → (let at = c.loop-i in Going c.args.m at.i at.fall at.s.own at.s.next)
known c =
    let given = c.requires.known in
    let inv = c.loop-i.invariant in
    let here = alphabets-kept inv.0 inv.1 given.2 in
    going here (inv.2 given.0 given.1 here) (omega arith)

pub overflow_mul-after : goal.overflow_mul-after
overflow_mul-after c = omega (arith, (known (goal.at.overflow_mul-after c).In-loop-i).low)

pub overflow_add-after : goal.overflow_add-after
overflow_add-after c = let k = known (goal.at.overflow_add-after c).In-loop-i in omega (arith, k.low, k.letter)

pub bounds-s-fall : goal.bounds-s-fall
bounds-s-fall c = let k = known (goal.at.bounds-s-fall c).In-loop-i in omega (arith, k.low, k.letter)

pub link-requires : goal.link-requires
link-requires c =
    let k = known (goal.at.link-requires c).In-loop-i in
    record { small = omega (arith, k.few); from = omega (arith, k.low); to = omega (arith, k.few) }

pub link-requires-in-loop-i : goal.link-requires-in-loop-i
link-requires-in-loop-i c =
    let k = known (goal.at.link-requires-in-loop-i c).In-loop-i in
    record { small = omega (arith, k.few); from = omega (arith, k.low); to = omega (arith, k.few) }

pub loop-i-preserved : goal.loop-i-preserved
loop-i-preserved c =
    let inv = c.loop-i.invariant in
    let here = c.at-here.ensures in
    (inv.0, inv.1, rw add-one (λ ρ w a. reached-more a (inv.2 ρ w a) (omega arith) here c.link.ensures c.link-in-loop-i.ensures))

pub returns : goal.returns
returns c =
    let inv = c.loop-i.invariant in
    (inv.0, inv.1, λ ρ w a. reached-last (inv.2 ρ w (alphabets-kept inv.0 inv.1 a)) (omega (arith, a.word.long)))
