-- Refusals: the number given is that of a ground that is met, it is 0 only where none is, and it is the lowest where no number of
-- the list is below one before it.
-- Assumes nothing.
use Rattle.std.specs.Prelude.{ℕ, ◌≤◌, ◌<◌, Bool, true, false, cond, ◌&&◌, ◌⊎◌, ◌≡◌, refl, eqb, leb}
use mathlib.Core.List.Memᴰ
use mathlib.Core.List.{List, [], ◌∷◌, ◌++◌, map, Memᴰ}
use Rattle.std.proofs.Common.{inl, inr, ⊎_elim, ap, ◌∙◌, arith, ne_eqb, leb-true}
use Rattle.definitions.specs.Refusals.{Ground, refusal}
use Rattle.definitions.specs.Lists.{all}
use Rattle.laws.specs.Tests.{contrary, and_l, and_r}
use Rattle.laws.specs.Counting.{Above}

-- the numbers of some grounds
abbrev pub numbers : List Ground → List ℕ
numbers gs = map (λ (g : Ground). g.number) gs

-- a number that is given belongs to a ground that is met
pub refusal-met : (gs : List Ground) → 0 < refusal gs → (g : Ground) × Memᴰ g gs × (g.met ≡ true) × (g.number ≡ refusal gs)
refusal-met [] h = absurd (omega arith)
refusal-met (g ∷ gs) h = go g.met refl h (λ k. refusal-met gs k)
  where
    go : (t : Bool) → g.met ≡ t → 0 < cond t g.number (refusal gs)
        → (0 < refusal gs → (f : Ground) × Memᴰ f gs × (f.met ≡ true) × (f.number ≡ refusal gs))
        → (f : Ground) × Memᴰ f (g ∷ gs) × (f.met ≡ true) × (f.number ≡ cond t g.number (refusal gs))
    go true e k rec = (g, Memᴰ.head refl, e, refl)
    go false e k rec = let r = rec k in (r.0, Memᴰ.tail r.1, r.2, r.3)

-- whether each of some numbers is at most all that follow it
abbrev pub rising : List ℕ → Bool
rising [] = true
rising (n ∷ l) = all (leb n) l && rising l

most-number : (n : ℕ) (gs : List Ground) → all (leb n) (numbers gs) ≡ true → {g : Ground} → Memᴰ g gs → n ≤ g.number
most-number n [] up m = absurd (Memᴰ.not-nil m)
most-number n (h ∷ gs) up {g} m =
    ⊎_elim (λ e. rw e (leb-true n h.number (and_l (leb n h.number) (all (leb n) (numbers gs)) up)))
    (λ k. most-number n gs (and_r (leb n h.number) (all (leb n) (numbers gs)) up) k) (Memᴰ.cases_cons m)

-- where no number is below one before it, the first ground that is met is the lowest
pub refusal-lowest : (gs : List Ground) → rising (numbers gs) ≡ true → {g : Ground} → Memᴰ g gs → g.met ≡ true → refusal gs ≤ g.number
refusal-lowest [] up m e = absurd (Memᴰ.not-nil m)
refusal-lowest (h ∷ gs) up {g} m e =
    go h.met refl (Memᴰ.cases_cons m) (λ k. refusal-lowest gs (and_r (all (leb h.number) (numbers gs)) (rising (numbers gs)) up) k e)
  where
    go : (t : Bool) → h.met ≡ t → (g ≡ h) ⊎ Memᴰ g gs → (Memᴰ g gs → refusal gs ≤ g.number) → cond t h.number (refusal gs) ≤ g.number
    go true q (inl k) rec = omega (arith, ap (λ (f : Ground). f.number) k)
    go true q (inr k) rec = most-number h.number gs (and_l (all (leb h.number) (numbers gs)) (rising (numbers gs)) up) k
    go false q (inl k) rec = absurd (contrary g.met e (ap (λ (f : Ground). f.met) k ∙ q))
    go false q (inr k) rec = rec k

-- where each number is above 0, 0 is given only where no ground is met
pub refusal-none : (gs : List Ground) → Above 0 (numbers gs) → refusal gs ≡ 0 → {g : Ground} → Memᴰ g gs → g.met ≡ false
refusal-none [] up z m = absurd (Memᴰ.not-nil m)
refusal-none (h ∷ gs) up z {g} m = go h.met refl z (Memᴰ.cases_cons m) (λ y k. refusal-none gs up.1 y k)
  where
    go : (t : Bool) → h.met ≡ t → cond t h.number (refusal gs) ≡ 0 → (g ≡ h) ⊎ Memᴰ g gs → (refusal gs ≡ 0 → Memᴰ g gs → g.met ≡ false) → g.met ≡ false
    go true q y k rec = absurd (omega (arith, up.0))
    go false q y (inl k) rec = ap (λ (f : Ground). f.met) k ∙ q
    go false q y (inr k) rec = rec y k

-- where none is met, 0 is given
pub refusal-zero : (gs : List Ground) → ((g : Ground) → Memᴰ g gs → g.met ≡ false) → refusal gs ≡ 0
refusal-zero [] h = refl
refusal-zero (g ∷ gs) h = ap (λ (t : Bool). cond t g.number (refusal gs)) (h g (Memᴰ.head refl)) ∙ refusal-zero gs (λ f m. h f (Memᴰ.tail m))

-- where each number is above 0, two lists in a row give what the first gives, or, where that is 0, what the second gives
pub refusal-append : (gs hs : List Ground) {r : ℕ} → Above 0 (numbers gs) → refusal gs ≡ r → refusal (gs ++ hs) ≡ cond (eqb r 0) (refusal hs) r
refusal-append [] hs up e = rw (← e)
refusal-append (g ∷ gs) hs {r} up e = go g.met e (λ y. refusal-append gs hs up.1 y)
  where
    go : (t : Bool) → cond t g.number (refusal gs) ≡ r → (refusal gs ≡ r → refusal (gs ++ hs) ≡ cond (eqb r 0) (refusal hs) r)
        → cond t g.number (refusal (gs ++ hs)) ≡ cond (eqb r 0) (refusal hs) r
    go true y rec = rw (← y, ne_eqb g.number 0 (omega (arith, up.0)))
    go false y rec = rec y

-- none of some grounds is met, one after the other
abbrev pub Unmet : List Ground → Type 0
Unmet [] = Unit {0}
Unmet (g ∷ gs) = (g.met ≡ false) × Unmet gs

-- where each number is above 0, 0 is given for two lists in a row only where the first gives 0 and no ground of the second is met
pub refusal-unmet : (gs hs : List Ground) → Above 0 (numbers (gs ++ hs)) → refusal (gs ++ hs) ≡ 0 → (refusal gs ≡ 0) × Unmet hs
refusal-unmet [] [] up z = (refl, tt)
refusal-unmet [] (h ∷ hs) up z =
    let e : h.met ≡ false = refusal-none (h ∷ hs) up z (Memᴰ.head refl) in
    (refl, (e, (refusal-unmet [] hs up.1 (rw e at z)).1))
refusal-unmet (g ∷ gs) hs up z =
    let e : g.met ≡ false = refusal-none (g ∷ (gs ++ hs)) up z (Memᴰ.head refl) in
    rw e (refusal-unmet gs hs up.1 (rw e at z))

-- and 0 is given there
pub unmet-refusal : (gs hs : List Ground) → refusal gs ≡ 0 → Unmet hs → refusal (gs ++ hs) ≡ 0
unmet-refusal [] [] z u = refl
unmet-refusal [] (h ∷ hs) z u = rw u.0 (unmet-refusal [] hs refl u.1)
unmet-refusal (g ∷ gs) hs z u = go g.met z (λ y. unmet-refusal gs hs y u)
  where
    go : (t : Bool) → cond t g.number (refusal gs) ≡ 0 → (refusal gs ≡ 0 → refusal (gs ++ hs) ≡ 0) → cond t g.number (refusal (gs ++ hs)) ≡ 0
    go true y rec = y
    go false y rec = rec y

-- a number that bounds those of some grounds bounds the one that is given
pub refusal-most : (n : ℕ) (gs : List Ground) → all (λ i. leb i n) (numbers gs) ≡ true → refusal gs ≤ n
refusal-most n [] e = omega arith
refusal-most n (g ∷ gs) e =
    go g.met (leb-true g.number n (and_l (leb g.number n) (all (λ i. leb i n) (numbers gs)) e))
    (refusal-most n gs (and_r (leb g.number n) (all (λ i. leb i n) (numbers gs)) e))
  where
    go : (t : Bool) → g.number ≤ n → refusal gs ≤ n → cond t g.number (refusal gs) ≤ n
    go true h rec = h
    go false h rec = rec
