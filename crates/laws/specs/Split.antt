-- The rows of a worksheet, and the sum of antemers times postmers over them. That the size of a shelf is that sum stands in proofs/.
-- Assumes nothing.
use Rattle.std.specs.Prelude.{ℕ, ◌+◌, ◌-◌, ◌*◌, ◌≤◌, ◌<◌, Bool, ◌≡◌, refl, leb, length, get_or}
use Rattle.std.proofs.Common.{ap, ◌∙◌, le-leb}
use mathlib.Core.List.{List, [], ◌∷◌}
use Rattle.std.proofs.lemmas.Bool.{lt-leb}
use Rattle.definitions.specs.Lists.{tabulate, total}
use Rattle.definitions.specs.Words.{Word}
use Rattle.definitions.specs.Vigemins.{Form, keyed}
use Rattle.definitions.specs.Shelves.{antemers, postmers, row, column}
use Rattle.laws.specs.Filters.{tabulate-at}
use Rattle.laws.specs.Counting.{count}

-- ---- the rows

-- a row of a column
pub column-at : (k m : ℕ) (count : ℕ → ℕ) (a : ℕ) → m + a ≤ k → a < 31 → get_or (column k m count) a 0 ≡ count a
column-at k m count a h few = tabulate-at (λ i. row (leb (m + i) k) count i) 31 a 0 few ∙ ap (λ (t : Bool). row t count a) (le-leb (m + a) k h)

-- a row above the last holds 0
pub column-above : (k m : ℕ) (count : ℕ → ℕ) (a : ℕ) → k < m + a → a < 31 → get_or (column k m count) a 0 ≡ 0
column-above k m count a h few = tabulate-at (λ i. row (leb (m + i) k) count i) 31 a 0 few ∙ ap (λ (t : Bool). row t count a) (lt-leb (m + a) k h)

-- ---- the sum

-- the sum over the first so many rows a of the antemers in row n − a times the postmers in row a
abbrev pub product_sum : ℕ → List ℕ → List ℕ → ℕ → ℕ
product_sum n before after count = total (tabulate (λ a. get_or before (n - a) 0 * get_or after a 0) count)

-- over the first n rows a, the antemers in row k−m−a times the postmers in row a
abbrev pub rows_sum : Form → Word → ℕ → ℕ → ℕ
rows_sum f w k n = total (tabulate (λ a. antemers f w (k - length w - a) * postmers f w a) n)

-- W3, key TAA and word AAA: antemers 1, 0 and postmers 1, 4 come to 4
pub rows-case : rows_sum (keyed (3 ∷ 0 ∷ 0 ∷ [])) (0 ∷ 0 ∷ 0 ∷ []) 4 2 ≡ 4
rows-case = refl
