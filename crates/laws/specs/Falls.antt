-- From a state to the ones below it: the state that state i falls to is the longest match of fewer than i letters at the end of the
-- first i letters of w. It tells the shorter matches, so the next state is found from it where the letter is not w's own.
-- Assumes nothing.
use Rattle.std.specs.Prelude.{ℕ, zero, suc, ◌≤◌, ◌<◌, Bool, true, false, cond, ◌&&◌, [], ◌∷◌, ◌≡◌, refl, ltb, leb, eqb, length, get_or}
use Rattle.std.proofs.Common.{sym, ap, ◌∙◌, le_of_suc-le-suc, arith, leb-true, leb-false, ltb-true, lt-ltb}
use Rattle.definitions.specs.Words.{Word}
use Rattle.laws.specs.Tests.{and_l, and_r, and_i}
use Rattle.laws.specs.States.{matches, first, longest, next, matches-long, matches-all, longest-matches, longest-le, longest-above, longest-tells, longest-cong, longest-is, next_le}

module _ (w : Word) where
  -- the longest match of fewer than i letters at the end of the first i letters of w
  abbrev pub fall : ℕ → ℕ
  fall zero = zero
  fall (suc i) = longest w i (first w (suc i))

  -- a state falls to a lower one
  pub fall-le : (i : ℕ) → fall (suc i) ≤ i
  fall-le i = longest-le w i (first w (suc i))

  -- the state that a state falls to tells every shorter match
  pub matches-fall : (i l : ℕ) → l ≤ i → matches w l (first w (suc i)) ≡ matches w l (first w (fall (suc i)))
  matches-fall i l h = longest-tells w i (first w (suc i)) l h

  -- what holds of the state that state i falls to; d where i is 0, which falls no further
  abbrev pub fallen : {A : Type 0} → A → (ℕ → A) → ℕ → A
  fallen d f zero = d
  fallen d f (suc i) = f (fall (suc i))

  -- one letter more: the shorter matches are still told
  letter-fall : (i b l : ℕ) → l ≤ suc i → matches w l (b ∷ first w (suc i)) ≡ matches w l (b ∷ first w (fall (suc i)))
  letter-fall i b zero h = refl
  letter-fall i b (suc l) h = ap (λ (t : Bool). eqb b (get_or w l 0) && t) (matches-fall i l (le_of_suc-le-suc h))

  -- where the letter is not w's own, no match is longer by it
  no_longer : (i b : ℕ) → (ltb i (length w) && eqb b (get_or w i 0)) ≡ false → (l : ℕ) → i < l → l ≤ length w → matches w l (b ∷ first w i) ≡ false
  no_longer i b e l h k = go (leb l (suc i)) refl
    where
      go : (t : Bool) → leb l (suc i) ≡ t → matches w l (b ∷ first w i) ≡ false
      go true q =
          let same-l : l ≡ suc i = omega (arith, leb-true l (suc i) q) in
          ap (λ (x : ℕ). matches w x (b ∷ first w i)) same-l
          ∙ ap (λ (t : Bool). t && matches w i (first w i)) (ap (λ (t : Bool). t && eqb b (get_or w i 0)) (sym (lt-ltb i (length w) (omega arith))) ∙ e)
      go false q = matches-long w i b l (leb-false l (suc i) q)

  -- the next state is one more by w's own letter; by another it is that of the state that the state falls to
  pub next-by-fall : (i b : ℕ) → i ≤ length w → next w i b ≡ cond (ltb i (length w) && eqb b (get_or w i 0)) (suc i) (fallen 0 (λ s. next w s b) i)
  next-by-fall i b h = go (ltb i (length w) && eqb b (get_or w i 0)) refl
    where
      other : (j : ℕ) → (ltb j (length w) && eqb b (get_or w j 0)) ≡ false → next w j b ≡ fallen 0 (λ s. next w s b) j
      other zero e = longest-is w (length w) (b ∷ []) zero (omega arith) refl (no_longer zero b e)
      other (suc j) e = longest-cong w (length w) (b ∷ first w (suc j)) (b ∷ first w (fall (suc j))) (λ l k. each l k (leb l (suc j)) refl)
        where
          each : (l : ℕ) → l ≤ length w → (t : Bool) → leb l (suc j) ≡ t → matches w l (b ∷ first w (suc j)) ≡ matches w l (b ∷ first w (fall (suc j)))
          each l k true q = letter-fall j b l (leb-true l (suc j) q)
          each l k false q =
              no_longer (suc j) b e l (leb-false l (suc j) q) k
              ∙ sym (matches-long w (fall (suc j)) b l (omega (arith, fall-le j, leb-false l (suc j) q)))

      go : (t : Bool) → (ltb i (length w) && eqb b (get_or w i 0)) ≡ t → next w i b ≡ cond t (suc i) (fallen 0 (λ s. next w s b) i)
      go true e =
          longest-is w (length w) (b ∷ first w i) (suc i) (ltb-true i (length w) (and_l (ltb i (length w)) (eqb b (get_or w i 0)) e))
          (and_i (eqb b (get_or w i 0)) (matches w i (first w i)) (and_r (ltb i (length w)) (eqb b (get_or w i 0)) e) (matches-all w i))
          (λ l k j. matches-long w i b l k)
      go false e = other i e

  -- the state after i falls to what follows, by w's own letter, the state that i falls to
  pub fall-by-next : (i : ℕ) → i < length w → fall (suc i) ≡ fallen 0 (λ s. next w s (get_or w i 0)) i
  fall-by-next zero h = refl
  fall-by-next (suc j) h =
      longest-is w (suc j) (c ∷ first w (suc j)) (next w (fall (suc j)) c) small
      (letter-fall j c (next w (fall (suc j)) c) small ∙ longest-matches w (length w) (c ∷ first w (fall (suc j))))
      (λ l k i. letter-fall j c l i ∙ longest-above w (length w) (c ∷ first w (fall (suc j))) l (omega arith) k)
    where
      c : ℕ
      c = get_or w (suc j) 0

      small : next w (fall (suc j)) c ≤ suc j
      small = omega (arith, next_le w (fall (suc j)) c, fall-le j)
