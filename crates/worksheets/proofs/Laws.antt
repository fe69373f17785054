-- What stands at a place of the tables of the states of a word.
-- Assumes nothing.
use Rattle.std.proofs.Common.{ℕ, ◌+◌, ◌*◌, ◌≤◌, ◌<◌, Bool, cond, List, ◌≡◌, ap, ◌∙◌, arith, lt-ltb, le-ltb, length, get_or, Ordering, Greater}
use Rattle.std.proofs.Math.Logic.{∥∥₁_elim}
use Rattle.std.proofs.Props.{props}
use Rattle.definitions.specs.Words.{Word}
use Rattle.laws.specs.Numbers.{letter-lt}
use Rattle.laws.specs.Orders.{Ranking}
use Rattle.laws.specs.States.{next}
use Rattle.laws.specs.Bans.{never, ban, low_by, ban-le, ban-own}
use Rattle.states.specs.declared.States.{States}
use Rattle.states.specs.Grids.{grid, grid-entry}
use Rattle.states.specs.Tables.{Known, LettersOf, mark_of, mark_at, next_at, ban_at, own_at, own-lt, next-entry, ban-entry}
use Rattle.worksheets.specs.Columns.{StatesOf, EntryIs}

-- ---- states that are known

-- orders of numbers have one proof at most
lt-prop : (a b : ℕ) → IsProp (a < b)
lt-prop a b = Prim.hlevel props

le-prop : (a b : ℕ) → IsProp (a ≤ b)
le-prop a b = Prim.hlevel props

module _ {m : ℕ} {s : States} (known : ∥ Known (λ ρ w. StatesOf ρ w m s) ∥₁) where
  -- an order of numbers that follows from the states of any ranking and word follows from known states
  pub known-lt : {a b : ℕ} → ((ρ : Ranking) (w : Word) → StatesOf ρ w m s → a < b) → a < b
  known-lt {a} {b} f = ∥∥₁_elim known (lt-prop a b) (λ k. f k.0 k.1 k.2)

  pub known-le : {a b : ℕ} → ((ρ : Ranking) (w : Word) → StatesOf ρ w m s → a ≤ b) → a ≤ b
  known-le {a} {b} f = ∥∥₁_elim known (le-prop a b) (λ k. f k.0 k.1 k.2)

-- ---- the tables

module _ {w : Word} {m : ℕ} (s : States) (l : LettersOf w m s.own) where
  -- an entry for w's own letter
  own-entry : {E : Type 0} (table : List E) (i p : ℕ) (d : E) {r : E} → p < 32 → EntryIs i p s table r → r ≡ get_or table (4 * i + get_or w p 0) d
  own-entry table i p d h e = e d ∙ ap (λ (b : ℕ). get_or table (4 * i + b) d) (own_at l p h)

  -- where w's own letter leads
  pub own-next : s.next ≡ grid (next_at w) → (i p : ℕ) {r : ℕ} → i ≤ m → p < m → EntryIs i p s s.next r → r ≡ next w i (get_or w p 0)
  own-next nexts i p h k e = own-entry s.next i p 0 (omega (arith, l.few)) e ∙ next-entry l nexts i (get_or w p 0) h (letter-lt w p l.letters)

  -- the fewest letters left at which w's own letter is banned, under any ranking
  pub own-ban : (ρ : Ranking) → s.ban ≡ grid (ban_at ρ w) → (j : ℕ) {r : ℕ} → j < m → EntryIs j j s s.ban r → r ≡ ban w (low_by ρ w) j (get_or w j 0)
  own-ban ρ bans j h e = own-entry s.ban j j 0 (omega (arith, l.few)) e ∙ ban-entry l ρ bans j (get_or w j 0) (omega arith) (letter-lt w j l.letters)

module _ {ρ : Ranking} {w : Word} {m : ℕ} {s : States} (t : StatesOf ρ w m s) where
  -- the mark, at a place further on, of w's own letter
  pub own-mark : (i j : ℕ) {r : Ordering} → i + j < m → EntryIs (i + j) j s s.marks r
      → r ≡ mark_of (ρ (i + j) (get_or w j 0)) (ρ (i + j) (get_or w (i + j) 0))
  own-mark i j h e =
      own-entry s t.alphabets.word s.marks (i + j) j Greater (omega (arith, t.alphabets.word.few)) e
      ∙ ap (λ (x : List Ordering). get_or x (4 * (i + j) + get_or w j 0) Greater) t.alphabets.ranks
      ∙ grid-entry (mark_at ρ w) (i + j) (get_or w j 0) Greater (omega (arith, t.alphabets.word.few)) (letter-lt w j t.alphabets.word.letters)
      ∙ ap (λ (b : Bool). cond b (mark_of (ρ (i + j) (get_or w j 0)) (ρ (i + j) (get_or w (i + j) 0))) Greater) (lt-ltb (i + j) (length w) (omega (arith, t.alphabets.word.long)))

module _ (ρ : Ranking) {w : Word} {m : ℕ} {own : List ℕ} (l : LettersOf w m own) (j : ℕ) (h : j < m) where
  -- the fewest letters left at which w's own letter is banned are never more than never
  pub own-never : ban w (low_by ρ w) j (get_or w j 0) ≤ never
  own-never = ban-le w (low_by ρ w) j (get_or w j 0) (omega (arith, l.long, l.few))

  -- and more than the rest of w
  pub own-later : m < ban w (low_by ρ w) j (get_or w j 0) + j
  own-later =
      omega (
        arith,
        l.long,
        ban-own w (low_by ρ w) j (omega (arith, l.long, l.few)) (omega (arith, l.long)) (le-ltb (ρ j (get_or w j 0)) (ρ j (get_or w j 0)) (omega arith)),
      )

-- w's own letter is a letter
pub own_letter : {m : ℕ} {s : States} → ∥ Known (λ ρ w. StatesOf ρ w m s) ∥₁ → (p : ℕ) → p < 32 → get_or s.own p 0 < 4
own_letter known p h = known-lt known (λ ρ w t. own-lt t.alphabets.word p h)
