-- `scans::Reading::begin` meets its contract: the rings of both windows, once filled, are turned into suffixes.
-- Assumes nothing.
use Rattle.std.specs.Prelude.{refl}
use Rattle.std.proofs.Common.{zero-add, arith}
use Rattle.scans.proofs.Windows.{begun-entries, begun-read}
use Rattle.scans.proofs.Reading.begin.Goals as goal

pub suffixes-requires : goal.suffixes-requires
suffixes-requires c =
    let x = c.args.self.now in (
      begun-entries x.settings x.seq.now x.readable 0 (omega arith) c.fill-word.ensures,
      begun-entries x.settings x.seq.now x.readable c.args.from c.requires.inside c.fill-other.ensures,
    )

pub returns-clause-read_both : goal.returns-clause-read_both
returns-clause-read_both c =
    let x = c.args.self.now in
    let f = c.suffixes.ensures in
    record {
      one = begun-read x.settings x.seq.now x.readable 0 (omega arith) refl c.fill-word.ensures f.left;
      other = begun-read x.settings x.seq.now x.readable c.args.from c.requires.inside (zero-add c.args.from) c.fill-other.ensures f.right;
    }
