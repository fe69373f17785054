-- What the tables of the states of a word hold, over any ranking of the letters for each place.
-- Assumes nothing.
use Rattle.std.specs.Prelude.{ℕ, ◌+◌, ◌*◌, ◌≤◌, ◌<◌, Bool, true, false, cond, List, map, ◌≡◌, refl, ltb, leb, eqb, length, get_or, take, drop}
use Rattle.std.specs.declared.cmp.Ordering.{Ordering}
use Rattle.std.specs.declared.cmp.Ordering.TheVariants.{Less, Equal, Greater}
use Rattle.std.specs.Ordering.{ordering_index}
use Rattle.std.proofs.Common.{sym, ap, ◌∙◌, arith, ltb-true, le-leb, ne_eqb}
use Rattle.definitions.specs.Lists.{tabulate}
use Rattle.definitions.specs.Words.{Word, Letters, letters}
use Rattle.laws.specs.Numbers.{letter-lt}
use Rattle.laws.specs.Filters.{tabulate-at}
use Rattle.laws.specs.Orders.{Ranking, OneToOne}
use Rattle.laws.specs.States.{next}
use Rattle.laws.specs.Rules.{sign, less, equal, greater}
use Rattle.laws.specs.Bans.{never, ban, low_by}
use Rattle.powers.specs.Signs.{signed}
use Rattle.states.specs.Grids.{grid, grid-at}

-- how a rank stands beside that of w's own letter: its sign against it
abbrev pub mark_of : ℕ → ℕ → Ordering
mark_of rank own = signed (sign rank own)

-- whether a mark is the one asked for
abbrev pub is_mark : Ordering → Ordering → Bool
is_mark mark asked = eqb (ordering_index mark) (ordering_index asked)

-- a mark is Equal exactly where the ranks are equal
pub mark-equal : (r o : ℕ) → is_mark (mark_of r o) Equal ≡ eqb r o
mark-equal r o = go (ltb r o) (eqb r o) refl refl
  where
    go : (s t : Bool) → ltb r o ≡ s → eqb r o ≡ t → is_mark (signed (cond s less (cond t equal greater))) Equal ≡ t
    go true t p q = sym (ne_eqb r o (λ e. omega (arith, ltb-true r o p))) ∙ q
    go false true p q = refl
    go false false p q = refl

-- a mark is Less exactly where the rank is below
pub mark-below : (r o : ℕ) → is_mark (mark_of r o) Less ≡ ltb r o
mark-below r o = go (ltb r o) (eqb r o)
  where
    go : (s t : Bool) → is_mark (signed (cond s less (cond t equal greater))) Less ≡ s
    go true t = refl
    go false true = refl
    go false false = refl

-- what a table holds at a letter: `held` where its mark is the one asked for, else what it holds at the state that this one falls to
abbrev pub entry_by : Ordering → ℕ → Ordering → ℕ → ℕ
entry_by asked held mark fallen = cond (is_mark mark asked) held fallen

-- a state's row, by its marks and by the row of the state that it falls to
abbrev pub linked_row : Ordering → ℕ → List Ordering → List ℕ → List ℕ
linked_row asked held marks fallen = map (λ b. entry_by asked held (get_or marks b Less) (get_or fallen b 0)) letters

-- the row of a state
abbrev pub row_of : {A : Type 0} → ℕ → List A → List A
row_of i table = take 4 (drop (4 * i) table)

-- what writing row i by that of another state needs
pub record Linking (held fall i : ℕ) : Type 0 where
  pub small : held ≤ 32
  pub from : fall < 32
  pub to : i < 32

-- ---- the tables

-- w's own letter at each place; 0 past its end
abbrev pub own_of : Word → List ℕ
own_of w = tabulate (λ p. get_or w p 0) 32

-- the mark of a letter at a place; past the end of w all letters rank above
abbrev pub mark_at : Ranking → Word → ℕ → ℕ → Ordering
mark_at ρ w p b = cond (ltb p (length w)) (mark_of (ρ p b) (ρ p (get_or w p 0))) Greater

-- the state after a letter; 0 where there is no state i
abbrev pub next_at : Word → ℕ → ℕ → ℕ
next_at w i b = cond (leb i (length w)) (next w i b) 0

-- the fewest letters left at which a letter is banned; never where there is no state i
abbrev pub ban_at : Ranking → Word → ℕ → ℕ → ℕ
ban_at ρ w i b = cond (leb i (length w)) (ban w (low_by ρ w) i b) never

-- ---- words and rankings that tables belong to

-- something holds of some ranking and word
abbrev pub Known : (Ranking → Word → Type 0) → Type 0
Known P = (ρ : Ranking) × (w : Word) × P ρ w

-- something holds of every ranking and word of which something else holds
abbrev pub All : (Ranking → Word → Type 0) → (Ranking → Word → Type 0) → Type 0
All P Q = (ρ : Ranking) (w : Word) → P ρ w → Q ρ w

-- ---- what holds of lists that are such tables

-- w's own letters, of a word of m letters
pub record LettersOf (w : Word) (m : ℕ) (own : List ℕ) : Type 0 where
  pub letters : Letters w
  pub long : length w ≡ m
  pub some : 0 < m
  pub few : m ≤ 31
  pub owns : own ≡ own_of w

module _ {w : Word} {m : ℕ} {own : List ℕ} (l : LettersOf w m own) where
  -- w's own letter stands at its place
  pub own_at : (p : ℕ) → p < 32 → get_or own p 0 ≡ get_or w p 0
  own_at p h = ap (λ (x : List ℕ). get_or x p 0) l.owns ∙ tabulate-at (λ q. get_or w q 0) 32 p 0 h

  -- what stands there is a letter
  pub own-lt : (p : ℕ) → p < 32 → get_or own p 0 < 4
  own-lt p h = rw (own_at p h) (letter-lt w p l.letters)

  -- the next state by a letter
  pub next-entry : {nexts : List ℕ} → nexts ≡ grid (next_at w) → (i b : ℕ) → i ≤ m → b < 4 → get_or nexts (4 * i + b) 0 ≡ next w i b
  next-entry e i b h k =
      ap (λ (x : List ℕ). get_or x (4 * i + b) 0) e
      ∙ grid-at (next_at w) i b (omega (arith, l.few)) k
      ∙ ap (λ (t : Bool). cond t (next w i b) 0) (le-leb i (length w) (omega (arith, l.long)))

  -- the fewest letters left at which a letter is banned
  pub ban-entry : (ρ : Ranking) {bans : List ℕ} → bans ≡ grid (ban_at ρ w) → (i b : ℕ) → i ≤ m → b < 4 → get_or bans (4 * i + b) 0 ≡ ban w (low_by ρ w) i b
  ban-entry ρ e i b h k =
      ap (λ (x : List ℕ). get_or x (4 * i + b) 0) e
      ∙ grid-at (ban_at ρ w) i b (omega (arith, l.few)) k
      ∙ ap (λ (t : Bool). cond t (ban w (low_by ρ w) i b) never) (le-leb i (length w) (omega (arith, l.long)))

-- the special alphabets of a word of m letters
pub record AlphabetsOf (ρ : Ranking) (w : Word) (m : ℕ) (own : List ℕ) (marks : List Ordering) : Type 0 where
  pub word : LettersOf w m own
  pub one : OneToOne ρ
  pub ranks : marks ≡ grid (mark_at ρ w)

-- before the states are linked, every letter leads to state 0 and none is banned
pub record Unlinked (next ban : List ℕ) : Type 0 where
  pub nexts : next ≡ grid (λ s b. 0)
  pub bans : ban ≡ grid (λ s b. never)

-- such tables
pub unlinked-first : Unlinked (grid (λ s b. 0)) (grid (λ s b. never))
unlinked-first = record { nexts = refl; bans = refl }

-- the next states and the bans
pub record LinksOf (ρ : Ranking) (w : Word) (next ban : List ℕ) : Type 0 where
  pub nexts : next ≡ grid (next_at w)
  pub bans : ban ≡ grid (ban_at ρ w)
