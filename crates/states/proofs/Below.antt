-- The next states and the bans of the states below state i, and one state more.
-- Assumes nothing.
use Prim.Native.Nat.{ℕ, zero, suc, ◌+◌, ◌-◌, ◌*◌, ◌≤◌, ◌<◌}
use mathlib.Core.Bool.{cond}
use mathlib.Core.List.{List, ◌∷◌, map}
use mathlib.Core.Path.{◌≡◌, refl, sym, ap, fun_ext, ◌∙◌}
use native.Mathlib.Numerals.{add-one}
use native.Mathlib.Omega.{arith}
use borrow.Author.Tests.{lt-leb}
use lib.Dec.{leb}
use lib.ListN.{length, get_or}
use lib.Seq.{sets}
use Rattle.std.proofs.Common.{Ordering, Less, Equal}
use Rattle.definitions.specs.Words.{Word, letters}
use Rattle.laws.specs.Numbers.{row-agree}
use Rattle.laws.specs.Orders.{Ranking}
use Rattle.laws.specs.States.{first, next, longest-le}
use Rattle.laws.specs.Falls.{fall, fallen, fall-le, fall-by-next}
use Rattle.laws.specs.Bans.{never, ban, low_by}
use Rattle.states.specs.Grids.{grid, grid-row, grid-at}
use Rattle.states.specs.Tables.{row_of, linked_row, mark_at, next_at, ban_at, own_at, own-lt, AlphabetsOf, Unlinked, LinksOf}
use Rattle.states.proofs.Rows.{written, written_all, write-row}
use Rattle.states.proofs.Marks.{at-fall, next-by-mark, ban-by-mark}

-- the special alphabets of a word, where the tables are as they were
pub alphabets-kept : {ρ : Ranking} {w : Word} {m : ℕ} {own own₀ : List ℕ} {marks marks₀ : List Ordering} → own ≡ own₀ → marks ≡ marks₀
    → AlphabetsOf ρ w m own₀ marks₀ → AlphabetsOf ρ w m own marks
alphabets-kept e f a = rw (e, f) a

-- tables of which the rows below state i are written, and the state that state i falls to
pub record Reached (ρ : Ranking) (w : Word) (i now : ℕ) (nexts bans : List ℕ) : Type 0 where
  pub next_rows : nexts ≡ grid (written i (λ b. 0) (next_at w))
  pub ban_rows : bans ≡ grid (written i (λ b. never) (ban_at ρ w))
  pub falls : i ≤ length w → now ≡ fall w i

-- at first no row is written
pub reached-first : (ρ : Ranking) (w : Word) {nexts bans : List ℕ} → Unlinked nexts bans → Reached ρ w 0 0 nexts bans
reached-first ρ w u = record { next_rows = u.nexts; ban_rows = u.bans; falls = λ h. refl }

-- past the last state the tables are whole
pub reached-last : {ρ : Ranking} {w : Word} {i now : ℕ} {nexts bans : List ℕ} → Reached ρ w i now nexts bans → length w < i → LinksOf ρ w nexts bans
reached-last {ρ} {w} {i} r h = record {
  nexts = r.next_rows ∙ ap grid (written_all (λ b. 0) (next_at w) i (λ s k. fun_ext (λ b. rw (lt-leb s (length w) (omega arith)))));
  bans = r.ban_rows ∙ ap grid (written_all (λ b. never) (ban_at ρ w) i (λ s k. fun_ext (λ b. rw (lt-leb s (length w) (omega arith)))));
}

-- no state falls above itself
fall-most : (w : Word) (i : ℕ) → fall w i ≤ i
fall-most w zero = omega arith
fall-most w (suc i) = omega (arith, fall-le w i)

-- what follows from the state that a state falls to is a state
fallen-most : (w : Word) (i b : ℕ) → fallen w 0 (λ s. next w s b) i ≤ length w
fallen-most w zero b = omega arith
fallen-most w (suc i) b = longest-le w (length w) (b ∷ first w (fall w (suc i)))

-- what is read at state i lies in the tables
pub record Going (m i now : ℕ) (own nexts : List ℕ) : Type 0 where
  pub few : m ≤ 31
  pub low : now < 32
  pub letter : get_or own i 0 < 4
  pub after : get_or nexts (4 * now + get_or own i 0) 0 ≤ 31

module _ {ρ : Ranking} {w : Word} {m : ℕ} {own : List ℕ} {marks : List Ordering} (a : AlphabetsOf ρ w m own marks) {i now : ℕ} {nexts bans : List ℕ}
    (r : Reached ρ w i now nexts bans) (h : i ≤ m) where
  -- state i is one of w
  inside : i ≤ length w
  inside = rw a.word.long h

  -- the state that it falls to has its row
  small : now < 32
  small = omega (arith, r.falls inside, fall-most w i, a.word.few)

  -- and state i its own
  row_here : i < 32
  row_here = omega (arith, a.word.few)

  -- what is read for the state after i
  after_is : get_or nexts (4 * now + get_or own i 0) 0 ≡ fallen w 0 (λ s. next w s (get_or w i 0)) i
  after_is =
      ap (λ (l : List ℕ). get_or l (4 * now + get_or own i 0) 0) r.next_rows
      ∙ grid-at (written i (λ b. 0) (next_at w)) now (get_or own i 0) small (own-lt a.word i row_here)
      ∙ rw (own_at a.word i row_here, r.falls inside) (ap (λ (g : ℕ → ℕ). g (get_or w i 0)) (at-fall w 0 (next w) i inside))

  -- state i can be gone through
  pub going : Going m i now own nexts
  going = record {
    few = a.word.few;
    low = small;
    letter = own-lt a.word i row_here;
    after = omega (arith, after_is, fallen-most w i (get_or w i 0), a.word.long, a.word.few);
  }

  -- the marks of state i
  marks-here : {row : List Ordering} → row ≡ row_of i marks → row ≡ map (mark_at ρ w i) letters
  marks-here e = e ∙ ap (row_of i) a.ranks ∙ grid-row (mark_at ρ w) i row_here

  -- the row of the state that it falls to
  row-fallen : (d : ℕ) (f : ℕ → ℕ → ℕ) {table : List ℕ} → table ≡ grid (written i (λ b. d) (λ s b. cond (leb s (length w)) (f s b) d))
      → row_of now table ≡ map (λ b. fallen w d (λ s. f s b) i) letters
  row-fallen d f q =
      ap (row_of now) q ∙ grid-row (written i (λ b. d) (λ s b. cond (leb s (length w)) (f s b) d)) now small
      ∙ rw (r.falls inside) (ap (λ (g : ℕ → ℕ). map g letters) (at-fall w d f i inside))

  -- the row of next states of state i, by its marks and by that of the state that it falls to
  next_here : {here : List Ordering} → here ≡ row_of i marks → linked_row Equal (i + 1) here (row_of now nexts) ≡ map (next_at w i) letters
  next_here p = rw (add-one, marks-here p, row-fallen 0 (next w) r.next_rows) (row-agree (λ b k. next-by-mark ρ w a.one a.word.letters i b inside k))

  -- and its row of bans
  ban-here : {here : List Ordering} → here ≡ row_of i marks → linked_row Less (m - i) here (row_of now bans) ≡ map (ban_at ρ w i) letters
  ban-here p = rw (marks-here p, row-fallen never (ban w (low_by ρ w)) r.ban_rows, ← a.word.long) (row-agree (λ b k. ban-by-mark ρ w i b inside))

  -- one state more
  pub reached-more : {here : List Ordering} {nexts' bans' : List ℕ} → here ≡ row_of i marks → nexts' ≡ sets nexts (4 * i) (linked_row Equal (i + 1) here (row_of now nexts))
      → bans' ≡ sets bans (4 * i) (linked_row Less (m - i) here (row_of now bans)) → Reached ρ w (suc i) (get_or nexts (4 * now + get_or own i 0) 0) nexts' bans'
  reached-more p s₁ s₂ = record {
    next_rows = s₁ ∙ write-row (λ b. 0) (next_at w) i row_here r.next_rows (next_here p);
    ban_rows = s₂ ∙ write-row (λ b. never) (ban_at ρ w) i row_here r.ban_rows (ban-here p);
    falls = λ k. after_is ∙ sym (fall-by-next w i k);
  }
