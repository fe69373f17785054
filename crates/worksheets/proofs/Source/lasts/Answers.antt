-- `worksheets::Source::lasts` meets its contract.
-- Assumes nothing.
use Rattle.std.proofs.Common.{ℕ, ◌+◌, ◌-◌, ◌<◌, min, ◌≡◌, sym, ap, ap₂, ◌∙◌, add-one, arith}
use Rattle.definitions.specs.Words.{Word}
use Rattle.laws.specs.Orders.{Ranking}
use Rattle.laws.specs.Bans.{lasts, low_by}
use Rattle.states.specs.declared.States.{States}
use Rattle.worksheets.specs.Columns.{StatesOf, EntryIs}
use Rattle.worksheets.proofs.Laws.{known-le, own-ban, own-later}
use Rattle.worksheets.proofs.Source.lasts.Goals as goal

-- one letter more
allowed-more : {ρ : Ranking} {w : Word} {m : ℕ} {s : States} → StatesOf ρ w m s → (j : ℕ) {rows left r : ℕ} → rows ≡ lasts w (low_by ρ w) j → j < m → EntryIs j j s s.ban left
    → r ≡ min rows (left + j - m) → r ≡ lasts w (low_by ρ w) (j + 1)
allowed-more {ρ} {w} {s = s} t j q h e f =
    f ∙ ap₂ (λ (x y : ℕ). min x y) q (ap₂ (λ (x y : ℕ). x + j - y) (own-ban s t.alphabets.word ρ t.links.bans j h e) (sym t.alphabets.word.long)) ∙ ap (lasts w (low_by ρ w)) (sym (add-one j))

pub overflow_sub-left : goal.overflow_sub-left
overflow_sub-left c =
    let j = c.loop-j.j in
    let h = c.loop-j-test.true in
    known-le c.args.self.now.known (λ ρ w t. omega (arith, own-ban c.args.self.now.states.now t.alphabets.word ρ t.links.bans j h c.own_entry-left.ensures, own-later ρ t.alphabets.word j h))

pub loop-j-preserved : goal.loop-j-preserved
loop-j-preserved c =
    λ ρ w t. allowed-more t c.loop-j.j (c.loop-j.invariant ρ w t) c.loop-j-test.true c.own_entry-left.ensures c.lesser-rows.ensures
