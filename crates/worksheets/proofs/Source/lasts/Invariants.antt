-- `worksheets::Source::lasts` meets its contract. The loop's invariant: the rows are those in which the first j letters of w are allowed.
-- Assumes nothing.
use Rattle.std.proofs.Common.{◌≡◌}
use Rattle.laws.specs.Bans.{lasts, low_by}
use Rattle.worksheets.specs.Sources.{Each}
use Rattle.worksheets.proofs.Source.lasts.Given as goal

abbrev pub invariant-loop-j : goal.invariant-loop-j
invariant-loop-j l = Each l.self (λ ρ w. l.rows ≡ lasts w (low_by ρ w) l.j)
