-- The cycle of calls {decimal}: the tenth part is written, and the last digit behind it.
-- Assumes nothing.
use Rattle.std.proofs.Common.{ℕ, ◌++◌, ◌≡◌, sym, ◌∙◌, append-nil, lt-ltb, le-ltb}
use Rattle.cards.proofs.Digits.{tenth, last-fits, last-text, last-grows, last-short}
use Rattle.cards.proofs.Text.+decimal.Goals as goal
use Rattle.cards.proofs.Text.+decimal.Goals.{then-number-ge10, else-number-ge10, Joined-number-ge10}

-- the digits of the tenth part are written, if there is one
mid : (t : ℕ) (c : Joined-number-ge10 t) → c.if-number-ge10.self ≡ c.args.self.now ++ tenth c.args.number
mid t c =
    elim c.if-number-ge10.branch [
      | then-number-ge10 w ↦ w.self-is ∙ w.decimal.ensures.text ∙ rw (le-ltb c.args.number 10 w.if-number-ge10.true)
      | else-number-ge10 w ↦ w.self-is ∙ sym (rw (lt-ltb c.args.number 10 w.if-number-ge10.false) (append-nil c.args.self.now))
    ]

pub lay-requires : goal.lay-requires
lay-requires t c =
    last-fits c.args.number c.ranges.number.fits c.args.self.now (mid t (goal.at.lay-requires t c).Joined-number-ge10) c.requires

pub returns-clause-text : goal.returns-clause-text
returns-clause-text t c =
    last-text c.args.number c.ranges.number.fits c.args.self.now (mid t (goal.at.returns-clause-text t c).Joined-number-ge10) c.lay.ensures.text

pub returns-clause-grows : goal.returns-clause-grows
returns-clause-grows t c =
    last-grows c.args.number c.ranges.number.fits c.args.self.now (mid t (goal.at.returns-clause-grows t c).Joined-number-ge10) c.lay.ensures.grows

pub returns-clause-grows_short : goal.returns-clause-grows_short
returns-clause-grows_short t c =
    last-short c.args.number c.ranges.number.fits c.args.self.now (mid t (goal.at.returns-clause-grows_short t c).Joined-number-ge10) c.lay.ensures.grows
