-- `scans::Reading::fill` meets its contract.
-- Assumes nothing.
use Rattle.std.specs.Prelude.{◌+◌, ◌-◌, ◌≡◌, refl, get_or, drop}
use Rattle.std.proofs.Common.{add-zero, arith}
use Rattle.definitions.specs.Words.{spelled}
use Rattle.laws.specs.Rolls.{rolled}
use Rattle.scans.proofs.Letters.{roll-room}
use Rattle.scans.proofs.Windows.{fresh-filled, begun_more}
use Rattle.scans.proofs.Reading.fill.Goals as goal

pub loop-at-init : goal.loop-at-init
loop-at-init c =
    record { within = omega arith; rolls = rw add-zero c.start-word.ensures; filled = fresh-filled c.requires.fresh }

pub overflow_add-ring : goal.overflow_add-ring
overflow_add-ring c =
    let x = c.args.self.now in
    let s = x.settings in
    let at = c.loop-at in
    let v = rolled s.m (drop c.args.from (spelled x.seq.now)) (s.m - 1 + at.at) in
    omega (arith, roll-room x.readable.prepared (get_or x.seq.now (c.args.from + s.m - 1 + at.at) 0) c.roll-word.ensures v at.invariant.rolls, x.readable.prepared.places_fit)

pub loop-at-preserved : goal.loop-at-preserved
loop-at-preserved c =
    let x = c.args.self.now in
    begun_more x.settings x.seq.now x.readable c.args.from c.requires.inside c.loop-at.invariant (omega arith) refl c.roll-word.ensures

pub returns : goal.returns
returns c =
    let at = c.loop-at in
    let end : at.at ≡ c.args.self.now.settings.width = omega (arith, at.invariant.within) in
    rw end at at.invariant
