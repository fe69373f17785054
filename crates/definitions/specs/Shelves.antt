-- Shelves, their pages, and the counts behind their sizes (document 01, "Words and order" and "Pages and scans"; source 000,
-- sections 2.1 to 2.3). The word w has m letters; a key enters by the form alone.
-- Assumes nothing.
use Rattle.std.specs.Prelude.{ℕ, zero, ◌+◌, Bool, true, false, not, ◌&&◌, List, ◌++◌, leb, length, take, drop}
use Rattle.definitions.specs.Lists.{filter, all, tabulate}
use Rattle.definitions.specs.Words.{Word, words, same}
use Rattle.definitions.specs.Vigemins.{Form, below, above, windows, vigemin}

-- the shelf of w: all k-mers whose vigemin is w, in increasing order of the k-mer itself, not of its keyed form
abbrev pub shelf : Form → ℕ → Word → List Word
shelf f k w = filter (λ x. same (vigemin f (length w) x) w) (words k)

-- the size of a shelf: how many k-mers it holds
abbrev pub size : Form → ℕ → Word → ℕ
size f k w = length (shelf f k w)

-- a page of a shelf: at most n k-mers, those of places start, start + 1 and so on
abbrev pub page : Form → ℕ → Word → ℕ → ℕ → List Word
page f k w start n = take n (drop start (shelf f k w))

-- an antemer y: each m-mer of y followed by w, except the last, is strictly above w once both are keyed (these begin in y)
abbrev pub antemer : Form → Word → Word → Bool
antemer f w y = all (above f w) (take (length y) (windows (length w) (y ++ w)))

-- a postmer z: no m-mer of z is below w once both are keyed; so a word shorter than m always is one
abbrev pub postmer : Form → Word → Word → Bool
postmer f w z = all (λ v. not (below f w v)) (windows (length w) z)

-- whether a word begins with w
abbrev pub begins : Word → Word → Bool
begins w z = same (take (length w) z) w

-- the number of antemers of length a
abbrev pub antemers : Form → Word → ℕ → ℕ
antemers f w a = length (filter (antemer f w) (words a))

-- the number of postmers of length m + a that begin with w
abbrev pub postmers : Form → Word → ℕ → ℕ
postmers f w a = length (filter (λ z. begins w z && postmer f w z) (words (length w + a)))

-- row a of a column: its count where the row is used, else 0
abbrev pub row : Bool → (ℕ → ℕ) → ℕ → ℕ
row true count a = count a
row false count a = zero

-- a column of the worksheet: 31 rows, of which those above k − m hold 0
abbrev pub column : ℕ → ℕ → (ℕ → ℕ) → List ℕ
column k m count = tabulate (λ a. row (leb (m + a) k) count a) 31
