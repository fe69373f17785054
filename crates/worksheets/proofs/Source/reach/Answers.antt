-- `worksheets::Source::reach` meets its contract: where w's own letter is banned, its ban is at most all of w.
-- Assumes nothing.
use Rattle.std.proofs.Common.{◌-◌, ◌<◌, arith, get_or}
use Rattle.laws.specs.Bans.{low_by, ban-most}
use Rattle.worksheets.proofs.Laws.{own-ban}
use Rattle.worksheets.proofs.Source.reach.Goals as goal

pub returns-then-own_entry-lt-NEVER : goal.returns-then-own_entry-lt-NEVER
returns-then-own_entry-lt-NEVER c =
    let below = c.loop-i.i - 1 in
    let inside : below < c.args.self.now.m = omega arith in
    λ ρ w t. record {
      some = omega arith;
      most = omega (arith, t.alphabets.word.long);
      stops = λ l. ban-most w (low_by ρ w) below (get_or w below 0) (omega (arith, own-ban c.args.self.now.states.now t.alphabets.word ρ t.links.bans below inside c.own_entry.ensures));
    }
