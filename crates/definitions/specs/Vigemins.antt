-- The order of words under a key, the vigemin of a k-mer and the scan of a sequence (document 01, "Words and order" and "Pages
-- and scans"; source 000, Definition 1).
-- The vigemin of a k-mer is its m-mer v with the least v⊕key, the leftmost of equals. The keyed form of v is v⊕key; what follows is
-- said of any form of words, so that another order can take the key's place.
-- Assumes nothing.
use Rattle.std.specs.Prelude.{ℕ, zero, suc, ◌+◌, Bool, cond, List, [], ◌∷◌, map, ltb, leb, length, get_or, take}
use Rattle.definitions.specs.Lists.{put, all}
use Rattle.definitions.specs.Words.{Word, val, ◌⊕◌}

-- what each word is turned into before words are compared
abbrev pub Form : Type 0
Form = Word → Word

-- the keyed form of a word v: v⊕key
abbrev pub keyed : Word → Form
keyed key v = v ⊕ key

-- the number by which a word is compared: that of its form
abbrev pub value : Form → Word → ℕ
value f v = val (f v)

-- whether v, the last word named, is below w, once both are keyed
abbrev pub below : Form → Word → Word → Bool
below f w v = ltb (value f v) (value f w)

-- whether v, the last word named, is strictly above w, once both are keyed
abbrev pub above : Form → Word → Word → Bool
above f w v = ltb (value f w) (value f v)

-- the windows of n letters of a word, from left to right: with n = m they are its m-mers
abbrev pub windows : ℕ → Word → List Word
windows n [] = put (leb n zero) [] []
windows n (a ∷ x) = put (leb n (suc (length x))) (take n (a ∷ x)) (windows n x)

-- the place of the least of some numbers, the leftmost of equals: the first place, unless a later number is strictly less
abbrev pub least_place : List ℕ → ℕ
least_place [] = zero
least_place (v ∷ vs) = cond (all (leb v) vs) zero (suc (least_place vs))

-- the position of the vigemin of a k-mer
abbrev pub vigemin_at : Form → ℕ → Word → ℕ
vigemin_at f m x = least_place (map (value f) (windows m x))

-- the vigemin of a k-mer: its m-mer there
abbrev pub vigemin : Form → ℕ → Word → Word
vigemin f m x = get_or (windows m x) (vigemin_at f m x) []

-- the positions in the whole sequence of the vigemins of some windows, the first of which begins at p
abbrev pub positions : Form → ℕ → ℕ → List Word → List ℕ
positions f m p [] = []
positions f m p (x ∷ xs) = (p + vigemin_at f m x) ∷ positions f m (suc p) xs

-- the scan of a sequence: for each window of k letters the position of its vigemin
abbrev pub scan : Form → ℕ → ℕ → Word → List ℕ
scan f k m s = positions f m zero (windows k s)
