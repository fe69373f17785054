-- What the private functions of the plain counter ask and give.
-- Assumes nothing.
use Rattle.std.specs.Prelude.{ℕ, suc, ◌+◌, ◌-◌, ◌^◌, ◌≤◌, ◌<◌, Bool, true, not, ◌&&◌, ◌||◌}
use Rattle.definitions.specs.Words.{Word}
use Rattle.laws.specs.Orders.{Ranking}
use Rattle.laws.specs.Places.{any_to}
use Rattle.laws.specs.Rules.{is_less, is_equal, own, R, Σ}

-- the numbers of a key and a word of m letters
pub record SetTo (m key word : ℕ) : Type 0 where
  pub some : 0 < m
  pub few : m ≤ 31
  pub key_small : key < 4 ^ m
  pub word_small : word < 4 ^ m

-- antemers of length n are served: followed by the word they have at most 31 letters
pub record Served (m n : ℕ) : Type 0 where
  pub short : n ≤ 10
  pub fits : m + n ≤ 31

-- whether R(i+1,q+2) is below, where every m-mer counts
abbrev pub low_at : Ranking → Word → ℕ → ℕ → Bool
low_at ρ w i q = true && is_less (R ρ w (suc i) (suc (suc q)))

-- whether some R(i+1,j) with 2 ≤ j ≤ i+1 is below
abbrev pub is_below_at : Ranking → Word → ℕ → Bool
is_below_at ρ w i = any_to i (low_at ρ w i)

-- whether R(i,j) is equal and a letter neither lies in Σ(i−j+2) nor is a(i−j+2)
abbrev pub is_hindered : Ranking → Word → ℕ → ℕ → ℕ → Bool
is_hindered ρ w i j b = is_equal (R ρ w i j) && not (Σ ρ w (i + 2 - j) b || own w (i + 2 - j) b)

-- whether R(i,j) is equal and a letter is a(i−j+2)
abbrev pub is_tied : Ranking → Word → ℕ → ℕ → ℕ → Bool
is_tied ρ w i j b = is_equal (R ρ w i j) && own w (i + 2 - j) b
