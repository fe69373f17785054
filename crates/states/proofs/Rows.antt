-- Tables that are written row by row: one of which the first i rows are written holds some d in the others.
-- Assumes nothing.
use Prim.Native.Nat.{ℕ, zero, suc, ◌*◌, ◌≤◌, ◌<◌}
use native.Mathlib.Nat.{le_of_suc-le-suc, not-suc-le-zero, suc-ne-zero}
use native.Mathlib.Omega.{arith}
use mathlib.Core.Bool.{Bool, true, false, cond}
use mathlib.Core.List.{List, [], ◌∷◌, ◌++◌, map}
use mathlib.Core.Path.{◌≡◌, refl, sym, ap, ap₂, fun_ext, ◌∙◌}
use borrow.Author.Tests.{ltb-true, ltb-false, lt-ltb, le-ltb}
use lib.Dec.{ltb}
use lib.ListN.{set}
use lib.Seq.{sets}
use Rattle.definitions.specs.Lists.{tabulate}
use Rattle.definitions.specs.Words.{letters}
use Rattle.states.specs.Grids.{grid}

module _ {A : Type 0} where
  -- the first n of some entries, and d from there on
  abbrev pub written : ℕ → A → (ℕ → A) → ℕ → A
  written n d f i = cond (ltb i n) (f i) d

  module _ (d : A) (f : ℕ → A) where
    -- one entry more changes none of the others
    written-other : (n i : ℕ) → (i ≡ n → ⊥) → written n d f i ≡ written (suc n) d f i
    written-other n i h = go (ltb i n) refl
      where
        go : (t : Bool) → ltb i n ≡ t → cond t (f i) d ≡ written (suc n) d f i
        go true e = rw (lt-ltb i (suc n) (omega (arith, ltb-true i n e)))
        go false e = rw (le-ltb i (suc n) (omega (arith, ltb-false i n e)))

    -- the entry that was written last
    written_last : (n : ℕ) → written (suc n) d f n ≡ f n
    written_last n = rw (lt-ltb n (suc n) (omega arith))

    -- all is written where d stands at all the other places
    pub written_all : (n : ℕ) → ((i : ℕ) → n ≤ i → f i ≡ d) → written n d f ≡ f
    written_all n h = fun_ext (λ i. go i (ltb i n) refl)
      where
        go : (i : ℕ) (t : Bool) → ltb i n ≡ t → cond t (f i) d ≡ f i
        go i true e = refl
        go i false e = sym (h i (ltb-false i n e))

  -- a list with one entry changed, where the others stay
  set-tabulate : (f g : ℕ → A) (n i : ℕ) → i < n → ((j : ℕ) → (j ≡ i → ⊥) → f j ≡ g j) → set (tabulate f n) i (g i) ≡ tabulate g n
  set-tabulate f g zero i h k = absurd (not-suc-le-zero h)
  set-tabulate f g (suc n) zero h k =
      ap (λ (r : ℕ → A). g zero ∷ tabulate r n) (fun_ext (λ j. k (suc j) (suc-ne-zero j)))
  set-tabulate f g (suc n) (suc i) h k =
      ap₂ (λ (a : A) (l : List A). a ∷ l) (k zero (λ e. omega arith))
      (set-tabulate (λ j. f (suc j)) (λ j. g (suc j)) n i (le_of_suc-le-suc h) (λ j q. k (suc j) (λ e. q (omega arith))))

  -- one entry more of a list is written
  pub write-entry : (d : A) (f : ℕ → A) (n i : ℕ) → i < n → set (tabulate (written i d f) n) i (f i) ≡ tabulate (written (suc i) d f) n
  write-entry d f n i h =
      ap (set (tabulate (written i d f) n) i) (sym (written_last d f i))
      ∙ set-tabulate (written i d f) (written (suc i) d f) n i h (written-other d f i)

module _ {A : Type 0} where
  -- n rows in a row: a grid is 32 of them
  rows : (ℕ → ℕ → A) → ℕ → List A
  rows f zero = []
  rows f (suc n) = map (f zero) letters ++ rows (λ i. f (suc i)) n

  -- rows with one changed, where the others stay
  sets_rows : (f g : ℕ → ℕ → A) (n i : ℕ) → i < n → ((j : ℕ) → (j ≡ i → ⊥) → f j ≡ g j) → sets (rows f n) (4 * i) (map (g i) letters) ≡ rows g n
  unfolding rows
  sets_rows f g zero i h k = absurd (not-suc-le-zero h)
  sets_rows f g (suc n) zero h k =
      ap (λ (r : ℕ → ℕ → A). map (g zero) letters ++ rows r n) (fun_ext (λ j. k (suc j) (suc-ne-zero j)))
  sets_rows f g (suc n) (suc i) h k =
      let place : 4 * suc i ≡ suc (suc (suc (suc (4 * i)))) = omega arith in
      rw place
      (ap₂ (λ (r : ℕ → A) (l : List A). map r letters ++ l) (k zero (λ e. omega arith))
      (sets_rows (λ j. f (suc j)) (λ j. g (suc j)) n i (le_of_suc-le-suc h) (λ j q. k (suc j) (λ e. q (omega arith)))))

  -- one row more of a grid is written
  pub write-row : (d : ℕ → A) (f : ℕ → ℕ → A) (i : ℕ) {room row : List A} → i < 32 → room ≡ grid (written i d f) → row ≡ map (f i) letters
      → sets room (4 * i) row ≡ grid (written (suc i) d f)
  unfolding rows
  write-row d f i h e q =
      ap₂ (λ (l r : List A). sets l (4 * i) r) e (q ∙ ap (λ (r : ℕ → A). map r letters) (sym (written_last d f i)))
      ∙ sets_rows (written i d f) (written (suc i) d f) 32 i h (written-other d f i)
