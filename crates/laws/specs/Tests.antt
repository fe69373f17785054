-- Tests: what follows from a joined test, and when two words are one.
-- Assumes nothing.
use Rattle.std.specs.Prelude.{ℕ, ◌≤◌, min, Bool, true, false, not, ◌&&◌, ◌||◌, [], ◌∷◌, ◌⊎◌, ◌≡◌, refl, eqb, leb}
use Rattle.std.proofs.Common.{true≢false, inl, inr, sym, ap₂, subst, ◌∙◌, arith, eqb-true, eq-eqb, leb-true, le-leb}
use Rattle.definitions.specs.Words.{Word, same}

-- ---- and, or

-- both of two tests: the first holds
pub and_l : (a b : Bool) → (a && b) ≡ true → a ≡ true
and_l true b e = refl
and_l false b e = e

-- and the second
pub and_r : (a b : Bool) → (a && b) ≡ true → b ≡ true
and_r true b e = e
and_r false true e = refl
and_r false false e = e

-- both hold where each does
pub and_i : (a b : Bool) → a ≡ true → b ≡ true → (a && b) ≡ true
and_i true b p q = q
and_i false b p q = p

-- one of two tests holds where the first does
pub or_l : (a b : Bool) → a ≡ true → (a || b) ≡ true
or_l true b p = refl
or_l false true p = refl
or_l false false p = p

-- or where the second does
pub or_r : (a b : Bool) → b ≡ true → (a || b) ≡ true
or_r true b p = refl
or_r false b p = p

-- and then one of them does
pub or_cases : (a b : Bool) → (a || b) ≡ true → (a ≡ true) ⊎ (b ≡ true)
or_cases true b e = inl refl
or_cases false b e = inr e

-- of three tests the first two change places
pub and-left-comm : (a b c : Bool) → (a && (b && c)) ≡ (b && (a && c))
and-left-comm true b c = refl
and-left-comm false true c = refl
and-left-comm false false c = refl

-- a joined test fails where its second part does
pub and_none : (a b : Bool) → b ≡ false → (a && b) ≡ false
and_none true b e = e
and_none false b e = refl

-- a first test that implies another
pub and_mono : (a b c : Bool) → (a ≡ true → b ≡ true) → (a && c) ≡ true → (b && c) ≡ true
and_mono true b c h e = and_i b c (h refl) e
and_mono false b c h e = absurd (true≢false (sym e))

-- two tests that imply two others
pub or_mono : (a b c d : Bool) → (a ≡ true → c ≡ true) → (b ≡ true → d ≡ true) → (a || b) ≡ true → (c || d) ≡ true
or_mono true b c d f g e = or_l c d (f refl)
or_mono false b c d f g e = or_r c d (g e)

-- not one of two: neither
pub not-or : (a b : Bool) → not (a || b) ≡ (not a && not b)
not-or true b = refl
not-or false b = refl

-- not both: one fails
pub not-and : (a b : Bool) → not (a && b) ≡ (not a || not b)
not-and true b = refl
not-and false b = refl

-- beside a test a second one matters only where the first holds
pub and-cong : (a b c : Bool) → (a ≡ true → b ≡ c) → (a && b) ≡ (a && c)
and-cong true b c h = h refl
and-cong false b c h = refl

-- two tests are equal where each implies the other
pub test-ext : (a b : Bool) → (a ≡ true → b ≡ true) → (b ≡ true → a ≡ true) → a ≡ b
test-ext true b f g = sym (f refl)
test-ext false true f g = g refl
test-ext false false f g = refl

-- two comparisons are equal where each implies the other
pub leb-cong : (a b c d : ℕ) → (a ≤ b → c ≤ d) → (c ≤ d → a ≤ b) → leb a b ≡ leb c d
leb-cong a b c d f g = test-ext (leb a b) (leb c d) (λ e. le-leb c d (f (leb-true a b e))) (λ e. le-leb a b (g (leb-true c d e)))

-- a number is at most the lesser of two exactly if it is at most each
pub leb-min : (a x y : ℕ) → leb a (min x y) ≡ (leb a x && leb a y)
leb-min a x y =
    test-ext (leb a (min x y)) (leb a x && leb a y)
    (λ e. and_i (leb a x) (leb a y) (le-leb a x (omega (arith, leb-true a (min x y) e))) (le-leb a y (omega (arith, leb-true a (min x y) e))))
    (λ e. le-leb a (min x y) (omega (arith, leb-true a x (and_l (leb a x) (leb a y) e), leb-true a y (and_r (leb a x) (leb a y) e))))

-- a test is not both
pub contrary : (a : Bool) → a ≡ true → a ≡ false → ⊥
contrary a p q = true≢false (sym p ∙ q)

-- ---- one word

-- the test of one word says that they are one
pub same-eq : (u v : Word) → same u v ≡ true → u ≡ v
same-eq [] [] e = refl
same-eq [] (b ∷ v) e = absurd (true≢false (sym e))
same-eq (a ∷ u) [] e = absurd (true≢false (sym e))
same-eq (a ∷ u) (b ∷ v) e =
    ap₂ (λ (x : ℕ) (y : Word). x ∷ y) (eqb-true a b (and_l (eqb a b) (same u v) e)) (same-eq u v (and_r (eqb a b) (same u v) e))

same_refl : (u : Word) → same u u ≡ true
same_refl [] = refl
same_refl (a ∷ u) = and_i (eqb a a) (same u u) (eq-eqb a a refl) (same_refl u)

-- and holds where they are
pub eq-same : {u v : Word} → u ≡ v → same u v ≡ true
eq-same {u} e = subst (λ v. same u v ≡ true) e (same_refl u)
