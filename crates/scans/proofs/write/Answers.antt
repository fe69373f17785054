-- `scans::write` meets its contract.
-- Assumes nothing.
use Rattle.std.specs.Prelude.{◌≤◌, ◌≡◌}
use Rattle.std.proofs.Common.{arith, ◌∙◌}
use Rattle.scans.proofs.Windows.{behind, fresh-tops}
use Rattle.scans.proofs.Writes.{laid-first, room, writing-more, writing-all}
use Rattle.scans.proofs.write.Goals as goal

pub begin-r-requires-clause-fresh : goal.begin-r-requires-clause-fresh
begin-r-requires-clause-fresh g c =
    let p = c.requires.readable.prepared in
    let few : c.args.s.width ≤ 31 = omega (arith, p.k_is, p.k_few, p.m_some) in
    (fresh-tops few, fresh-tops few)

pub loop-i-init : goal.loop-i-init
loop-i-init g c =
    let e = g.E.Entry in
    let b = c.begin-r.ensures in
    writing-more e.entries g.met.E.Entry.even c.args.room.now c.requires (omega (arith, c.requires.some))
    (laid-first e.entries g.met.E.Entry.even c.args.room.now c.requires) b.read_both b.at_start.0 b.at_start.1 c.put_both.ensures

pub put_both-requires-in-loop-i-clause-fits : goal.put_both-requires-in-loop-i-clause-fits
put_both-requires-in-loop-i-clause-fits g c =
    let e = g.E.Entry in
    let from : c.next_windows-r.result.from ≡ behind c.args.windows = c.next_windows-r.ensures.at_next.0 ∙ c.loop-i.invariant.from in
    rw (from, c.loop-i.auto.room, c.put_both.auto.room) (room e.entries g.met.E.Entry.even c.args.room.now c.requires (omega arith))

pub loop-i-preserved : goal.loop-i-preserved
loop-i-preserved g c =
    let e = g.E.Entry in
    let h = c.loop-i.invariant in
    let n = c.next_windows-r.ensures in
    writing-more e.entries g.met.E.Entry.even c.args.room.now c.requires (omega arith) h.laid n.read_both (n.at_next.0 ∙ h.from) n.at_next.1
    c.put_both-in-loop-i.ensures

pub returns : goal.returns
returns g c =
    writing-all g.E.Entry.entries g.met.E.Entry.even c.args.room.now c.requires c.loop-i.invariant (omega arith)
