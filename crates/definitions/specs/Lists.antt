-- Lists: choosing, testing, counting off and writing over.
-- Assumes nothing.
use Rattle.std.specs.Prelude.{ℕ, zero, suc, ◌+◌, Bool, true, false, cond, ◌&&◌, List, [], ◌∷◌, ◌++◌, length, drop}

module _ {A : Type 0} where
  -- a list with one more entry in front, where the test holds
  abbrev pub put : Bool → A → List A → List A
  put true a l = a ∷ l
  put false a l = l

  -- the entries for which a test holds, in their order
  abbrev pub filter : (A → Bool) → List A → List A
  filter p [] = []
  filter p (a ∷ l) = put (p a) a (filter p l)

  -- whether a test holds of every entry
  abbrev pub all : (A → Bool) → List A → Bool
  all p [] = true
  all p (a ∷ l) = p a && all p l

  -- the first place, from 0, at which a test holds; the length where it holds at none
  abbrev pub first_place : (A → Bool) → List A → ℕ
  first_place p [] = zero
  first_place p (a ∷ l) = cond (p a) zero (suc (first_place p l))

  -- f 0, f 1 and so on: n entries
  abbrev pub tabulate : (ℕ → A) → ℕ → List A
  tabulate f zero = []
  tabulate f (suc n) = f zero ∷ tabulate (λ i. f (suc i)) n

  -- room that is written: the new entries, and then what of the old room lies beyond them
  abbrev pub over : List A → List A → List A
  over new old = new ++ drop (length new) old

-- the sum of some numbers (the laws speak of it)
abbrev pub total : List ℕ → ℕ
total [] = zero
total (n ∷ l) = n + total l
