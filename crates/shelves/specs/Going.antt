-- What the methods of an acceptor and of a descent ask and give, over the acceptor and the descent themselves.
-- Assumes nothing.
use Rattle.std.specs.Prelude.{ℕ, List}
use Rattle.shelves.specs.declared.Acceptor.{Acceptor}
use Rattle.shelves.specs.declared.Beginning.{Beginning}
use Rattle.shelves.specs.declared.Descent.{Descent}
use Rattle.shelves.specs.Descents as tables

-- ---- an acceptor

-- a table of ways can be read from a state, where so many letters are left
abbrev pub Ready : Acceptor → ℕ → ℕ → List ℕ → Type 0
Ready a left state ways = tables.Ready a.m left state a.moves a.ban ways

-- the row of so many letters can be written into it, for the states from lo to below hi
abbrev pub RowReady : Acceptor → ℕ → ℕ → ℕ → List ℕ → Type 0
RowReady a lo hi left ways = tables.RowReady a.m lo hi left a.moves a.ban ways

-- its first n rows are right
abbrev pub WaysTo : Acceptor → ℕ → List ℕ → Type 0
WaysTo a n ways = tables.WaysTo a.m n a.moves a.ban ways

-- how many words of n letters complete a state
abbrev pub ways_from : Acceptor → ℕ → ℕ → ℕ
ways_from a = tables.ways_from a.moves a.ban

-- how many of these begin with a letter, where n letters follow it
abbrev pub ways_below : Acceptor → ℕ → ℕ → ℕ → ℕ
ways_below a = tables.ways_below a.moves a.ban

-- going from a beginning one letter further down
abbrev pub Longer : Acceptor → Beginning → ℕ → Type 0
Longer a b letter = tables.Longer a.m b.left b.state b.begun letter

-- ---- a descent

-- a beginning stands in the tables, and has more k-mers under it than are to be passed over
abbrev pub Reached : Descent → Beginning → ℕ → Type 0
Reached d b skip = tables.Reached d.k d.acceptor.now.m b.left b.state b.begun skip d.acceptor.now.moves d.acceptor.now.ban

-- the numbers of the k-mers under a beginning
abbrev pub below : Descent → Beginning → List ℕ
below d b = tables.under d.acceptor.now.moves d.acceptor.now.ban b.left b.state b.begun
