-- What the marks of a state tell: with what holds at the state that it falls to, its next states and its bans.
-- Assumes nothing.
use Prim.Native.Nat.{ℕ, zero, suc, ◌-◌, ◌≤◌, ◌<◌}
use native.Mathlib.Omega.{arith}
use mathlib.Core.Bool.{Bool, true, false, cond, ◌&&◌}
use mathlib.Core.Path.{◌≡◌, refl, sym, ◌∙◌}
use borrow.Author.Tests.{lt-ltb, le-leb}
use lib.Dec.{ltb, leb, eqb}
use lib.ListN.{length, get_or}
use Rattle.std.proofs.Common.{Less, Equal, Greater}
use Rattle.definitions.specs.Words.{Word, Letters}
use Rattle.laws.specs.Numbers.{letter-lt}
use Rattle.laws.specs.Orders.{Ranking, OneToOne, rank_same}
use Rattle.laws.specs.States.{next}
use Rattle.laws.specs.Falls.{fall, fallen, fall-le, next-by-fall}
use Rattle.laws.specs.Bans.{never, ban, low_by, ban-by-fall}
use Rattle.states.specs.Tables.{is_mark, mark_of, mark-equal, mark-below, entry_by, mark_at, next_at, ban_at}
use Rattle.states.proofs.Rows.{written}

-- of a table in which the rows below state i are written, the row of the state that it falls to; state 0 finds what stands there at first
pub at-fall : (w : Word) (d : ℕ) (f : ℕ → ℕ → ℕ) (i : ℕ) → i ≤ length w
    → ◌≡◌ {A = ℕ → ℕ} (written i (λ b. d) (λ s b. cond (leb s (length w)) (f s b) d) (fall w i)) (λ b. fallen w d (λ s. f s b) i)
at-fall w d f zero h = refl
at-fall w d f (suc i) h =
    rw (lt-ltb (fall w (suc i)) (suc i) (omega (arith, fall-le w i)), le-leb (fall w (suc i)) (length w) (omega (arith, fall-le w i)))

module _ (ρ : Ranking) (w : Word) where
  -- a letter's mark is Equal exactly where it is w's own; past the end of w it is none
  own-mark : OneToOne ρ → Letters w → (i b : ℕ) → b < 4 → is_mark (mark_at ρ w i b) Equal ≡ (ltb i (length w) && eqb b (get_or w i 0))
  own-mark one hw i b h = go (ltb i (length w))
    where
      go : (t : Bool) → is_mark (cond t (mark_of (ρ i b) (ρ i (get_or w i 0))) Greater) Equal ≡ (t && eqb b (get_or w i 0))
      go true = mark-equal (ρ i b) (ρ i (get_or w i 0)) ∙ rank_same ρ one i b (get_or w i 0) h (letter-lt w i hw)
      go false = refl

  -- and Less exactly where it ranks below w's own
  low-mark : (i b : ℕ) → is_mark (mark_at ρ w i b) Less ≡ (ltb i (length w) && low_by ρ w i b)
  low-mark i b = go (ltb i (length w))
    where
      go : (t : Bool) → is_mark (cond t (mark_of (ρ i b) (ρ i (get_or w i 0))) Greater) Less ≡ (t && low_by ρ w i b)
      go true = mark-below (ρ i b) (ρ i (get_or w i 0))
      go false = refl

  -- the next state by a letter's mark
  pub next-by-mark : OneToOne ρ → Letters w → (i b : ℕ) → i ≤ length w → b < 4 → entry_by Equal (suc i) (mark_at ρ w i b) (fallen w 0 (λ s. next w s b) i) ≡ next_at w i b
  next-by-mark one hw i b h k = rw (own-mark one hw i b k, le-leb i (length w) h) (sym (next-by-fall w i b h))

  -- when a letter is banned, by its mark
  pub ban-by-mark : (i b : ℕ) → i ≤ length w
      → entry_by Less (length w - i) (mark_at ρ w i b) (fallen w never (λ s. ban w (low_by ρ w) s b) i) ≡ ban_at ρ w i b
  ban-by-mark i b h = rw (low-mark i b, le-leb i (length w) h) (sym (ban-by-fall w (low_by ρ w) i b h))
