-- Tables of 32 rows, one for each state, with a place in each for every letter: letter b of row i stands at place 4·i+b.
-- Assumes nothing.
use Rattle.std.specs.Prelude.{ℕ, ◌+◌, ◌*◌, ◌<◌, List, map, ◌≡◌, refl, length, get_or, take, drop}
use Rattle.std.proofs.Common.{sym, ap, ◌∙◌, get_or-take, get_or-drop}
use Rattle.definitions.specs.Lists.{tabulate}
use Rattle.definitions.specs.Words.{letters}
use Rattle.laws.specs.Filters.{joined, joined_at, tabulate-at, at_map}
use Rattle.laws.specs.Numbers.{letters-at}

-- the table that holds f i b at row i and letter b
abbrev pub grid : {A : Type 0} → (ℕ → ℕ → A) → List A
grid f = joined (λ i. map (f i) letters) (tabulate (λ i. i) 32)

module _ {A : Type 0} where
  -- 32 rows of four letters
  pub length-grid : (f : ℕ → ℕ → A) → length (grid f) ≡ 128
  length-grid f = refl

  -- the four entries from place 4·i on are row i
  pub grid-row : (f : ℕ → ℕ → A) (i : ℕ) → i < 32 → take 4 (drop (4 * i) (grid f)) ≡ map (f i) letters
  grid-row f i h =
      joined_at (λ s. map (f s) letters) 4 (λ s. refl) (tabulate (λ s. s) 32) 0 i h ∙ ap (λ s. map (f s) letters) (tabulate-at (λ s. s) 32 i 0 h)

  -- what stands at row i and letter b; d would stand past the end
  pub grid-entry : (f : ℕ → ℕ → A) (i b : ℕ) (d : A) → i < 32 → b < 4 → get_or (grid f) (4 * i + b) d ≡ f i b
  grid-entry f i b d h k =
      sym (get_or-take 4 (drop (4 * i) (grid f)) b d k ∙ get_or-drop (4 * i) (grid f) b d)
      ∙ ap (λ (l : List A). get_or l b d) (grid-row f i h)
      ∙ at_map (f i) letters 0 d b k
      ∙ ap (f i) (letters-at k)

-- in a table of numbers
pub grid-at : (f : ℕ → ℕ → ℕ) (i b : ℕ) → i < 32 → b < 4 → get_or (grid f) (4 * i + b) 0 ≡ f i b
grid-at f i b h k = grid-entry f i b 0 h k
