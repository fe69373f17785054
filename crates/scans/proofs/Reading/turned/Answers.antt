-- `scans::Reading::turned` meets its contract: blocks that were read whole become the last ones, and otherwise nothing changes.
-- Assumes nothing.
use Rattle.std.specs.Prelude.{◌≡◌}
use Rattle.std.proofs.Common.{arith}
use Rattle.scans.proofs.Windows.{block_inside, whole-entries, turn-read}
use Rattle.scans.proofs.Reading.turned.Goals as goal

pub suffixes-requires : goal.suffixes-requires
suffixes-requires c =
    let x = c.args.self.now in
    let whole : c.args.r.at ≡ x.settings.width = c.if-r-self.true in
    (whole-entries x.settings x.seq.now x.readable whole c.requires.one, whole-entries x.settings x.seq.now x.readable whole c.requires.other)

pub overflow_add-result : goal.overflow_add-result
overflow_add-result c =
    let x = c.args.self.now in
    omega (arith, block_inside x.settings x.seq.now x.readable c.requires.one, x.readable.short, x.readable.prepared.k_is, x.readable.prepared.k_few)

pub returns-then-r-self-clause-read_both : goal.returns-then-r-self-clause-read_both
returns-then-r-self-clause-read_both c =
    let x = c.args.self.now in
    let f = c.suffixes.ensures in
    let whole : c.args.r.at ≡ x.settings.width = c.if-r-self.true in
    record {
      one = turn-read x.settings x.seq.now x.readable whole (omega arith) f.left c.requires.one;
      other = turn-read x.settings x.seq.now x.readable whole (omega arith) f.right c.requires.other;
    }
