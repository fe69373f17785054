-- `worksheets::Source::own_letter` meets its contract: w's letters are letters.
-- Assumes nothing.
use Rattle.worksheets.proofs.Laws.{own_letter}
use Rattle.worksheets.proofs.Source.own_letter.Goals as goal

pub returns-clause-letter : goal.returns-clause-letter
returns-clause-letter c = own_letter c.args.self.now.known c.args.p c.requires
