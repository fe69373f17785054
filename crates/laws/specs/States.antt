-- The states of a word w: how many of the latest letters read are the first ones of w. Document 01's shared prefix of i letters is
-- state i, and its i−T+2 is the state after one more letter. What was read is kept reversed, the latest letter first.
-- Assumes nothing.
use Rattle.std.specs.Prelude.{ℕ, zero, suc, ◌≤◌, ◌<◌, Bool, true, false, cond, ◌&&◌, [], ◌∷◌, ◌≡◌, refl, eqb, leb, length, get_or}
use Rattle.std.proofs.Common.{sym, ap, ap₂, ◌∙◌, arith, not-suc-le-zero, le_of_suc-le-suc, leb-true, leb-false, eqb-true, eq-eqb}
use Rattle.definitions.specs.Words.{Word}
use Rattle.laws.specs.Tests.{and_l, and_r, and_i, and_none, contrary}

module _ (w : Word) where
  -- whether the latest l letters read are the first l of w
  abbrev pub matches : ℕ → Word → Bool
  matches zero past = true
  matches (suc l) [] = false
  matches (suc l) (b ∷ past) = eqb b (get_or w l 0) && matches l past

  -- the first i letters of w as they are once read, the latest first
  abbrev pub first : ℕ → Word
  first zero = []
  first (suc i) = get_or w i 0 ∷ first i

  -- the longest match of at most n letters
  abbrev pub longest : ℕ → Word → ℕ
  longest zero past = zero
  longest (suc n) past = cond (matches (suc n) past) (suc n) (longest n past)

  -- the state after some letters: the longest match with w
  abbrev pub state : Word → ℕ
  state past = longest (length w) past

  -- the state that follows state i by the letter b
  abbrev pub next : ℕ → ℕ → ℕ
  next i b = state (b ∷ first i)

  -- where the latest i letters are the first of w, a match of at most i letters is one of those first i letters
  pub matches-first : (i : ℕ) (past : Word) (l : ℕ) → matches i past ≡ true → l ≤ i → matches l past ≡ matches l (first i)
  matches-first i past zero e h = refl
  matches-first zero past (suc l) e h = absurd (not-suc-le-zero h)
  matches-first (suc i) [] (suc l) e h = absurd (contrary true refl (sym e))
  matches-first (suc i) (b ∷ past) (suc l) e h =
      ap₂ (λ (x : ℕ) (t : Bool). eqb x (get_or w l 0) && t) (eqb-true b (get_or w i 0) (and_l (eqb b (get_or w i 0)) (matches i past) e))
      (matches-first i past l (and_r (eqb b (get_or w i 0)) (matches i past) e) (le_of_suc-le-suc h))

  -- i letters match no more than i
  pub matches-short : (i l : ℕ) → i < l → matches l (first i) ≡ false
  matches-short i zero h = absurd (not-suc-le-zero h)
  matches-short zero (suc l) h = refl
  matches-short (suc i) (suc l) h = and_none (eqb (get_or w i 0) (get_or w l 0)) (matches l (first i)) (matches-short i l (le_of_suc-le-suc h))

  -- nor does one letter more match more than i + 1
  pub matches-long : (i b l : ℕ) → suc i < l → matches l (b ∷ first i) ≡ false
  matches-long i b zero h = absurd (not-suc-le-zero h)
  matches-long i b (suc l) h = and_none (eqb b (get_or w l 0)) (matches l (first i)) (matches-short i l (le_of_suc-le-suc h))

  -- the first i letters of w match all i
  pub matches-all : (i : ℕ) → matches i (first i) ≡ true
  matches-all zero = refl
  matches-all (suc i) = and_i (eqb (get_or w i 0) (get_or w i 0)) (matches i (first i)) (eq-eqb (get_or w i 0) (get_or w i 0) refl) (matches-all i)

  longest-matches-at : (n : ℕ) (past : Word) (t : Bool) → matches (suc n) past ≡ t → matches (longest n past) past ≡ true
      → matches (cond t (suc n) (longest n past)) past ≡ true
  longest-matches-at n past true e r = e
  longest-matches-at n past false e r = r

  -- the longest match is a match
  pub longest-matches : (n : ℕ) (past : Word) → matches (longest n past) past ≡ true
  longest-matches zero past = refl
  longest-matches (suc n) past = longest-matches-at n past (matches (suc n) past) refl (longest-matches n past)

  longest-le-at : (n k : ℕ) (t : Bool) → k ≤ n → cond t (suc n) k ≤ suc n
  longest-le-at n k true h = omega arith
  longest-le-at n k false h = omega arith

  -- and has at most n letters
  pub longest-le : (n : ℕ) (past : Word) → longest n past ≤ n
  longest-le zero past = omega arith
  longest-le (suc n) past = longest-le-at n (longest n past) (matches (suc n) past) (longest-le n past)

  longest-max-at : (n : ℕ) (past : Word) (t : Bool) → matches (suc n) past ≡ t → (l : ℕ) → l ≤ suc n → matches l past ≡ true
      → (l ≤ n → l ≤ longest n past) → l ≤ cond t (suc n) (longest n past)
  longest-max-at n past true e l h ml r = h
  longest-max-at n past false e l h ml r = go (leb l n) refl
    where
      go : (t : Bool) → leb l n ≡ t → l ≤ longest n past
      go true q = r (leb-true l n q)
      go false q =
          let same-l : l ≡ suc n = omega (arith, leb-false l n q) in
          absurd (contrary (matches l past) ml (ap (λ (x : ℕ). matches x past) same-l ∙ e))

  -- no match of at most n letters is longer
  pub longest-max : (n : ℕ) (past : Word) (l : ℕ) → l ≤ n → matches l past ≡ true → l ≤ longest n past
  longest-max zero past l h e = h
  longest-max (suc n) past l h e = longest-max-at n past (matches (suc n) past) refl l h e (λ k. longest-max n past l k e)

  -- words that match alike have one longest match
  pub longest-cong : (n : ℕ) (p q : Word) → ((l : ℕ) → l ≤ n → matches l p ≡ matches l q) → longest n p ≡ longest n q
  longest-cong zero p q h = refl
  longest-cong (suc n) p q h =
      ap₂ (λ (t : Bool) (k : ℕ). cond t (suc n) k) (h (suc n) (omega arith)) (longest-cong n p q (λ l k. h l (omega arith)))

  -- what is longer than the longest match does not match
  pub longest-above : (n : ℕ) (past : Word) (l : ℕ) → l ≤ n → longest n past < l → matches l past ≡ false
  longest-above n past l h k = go (matches l past) refl
    where
      go : (t : Bool) → matches l past ≡ t → t ≡ false
      go true e = absurd (let q : l ≤ longest n past = longest-max n past l h e in omega arith)
      go false e = refl

  -- the longest match of at most n letters tells every match of at most n letters
  pub longest-tells : (n : ℕ) (past : Word) (l : ℕ) → l ≤ n → matches l past ≡ matches l (first (longest n past))
  longest-tells n past l h = go (leb l (longest n past)) refl
    where
      go : (t : Bool) → leb l (longest n past) ≡ t → matches l past ≡ matches l (first (longest n past))
      go true q = matches-first (longest n past) past l (longest-matches n past) (leb-true l (longest n past) q)
      go false q =
          let k : longest n past < l = leb-false l (longest n past) q in
          longest-above n past l h k ∙ sym (matches-short (longest n past) l k)

  -- the state tells every match
  pub state-matches : (past : Word) (l : ℕ) → l ≤ length w → matches l past ≡ matches l (first (state past))
  state-matches past l h = longest-tells (length w) past l h

  -- the state steps by letters
  pub state-step : (b : ℕ) (past : Word) → state (b ∷ past) ≡ next (state past) b
  state-step b past = longest-cong (length w) (b ∷ past) (b ∷ first (state past)) each
    where
      each : (l : ℕ) → l ≤ length w → matches l (b ∷ past) ≡ matches l (b ∷ first (state past))
      each zero h = refl
      each (suc l) h = ap (λ (t : Bool). eqb b (get_or w l 0) && t) (state-matches past l (omega arith))

  -- a match that no longer one exceeds is the longest
  pub longest-is : (n : ℕ) (past : Word) (s : ℕ) → s ≤ n → matches s past ≡ true → ((l : ℕ) → s < l → l ≤ n → matches l past ≡ false) → longest n past ≡ s
  longest-is n past s h e high =
      let low : s ≤ longest n past = longest-max n past s h e in
      go (leb (longest n past) s) refl low
    where
      go : (t : Bool) → leb (longest n past) s ≡ t → s ≤ longest n past → longest n past ≡ s
      go true q low = omega (arith, leb-true (longest n past) s q)
      go false q low =
          absurd (contrary (matches (longest n past) past) (longest-matches n past) (high (longest n past) (leb-false (longest n past) s q) (longest-le n past)))

  -- after the first i letters of w the state is i
  pub state-first : (i : ℕ) → i ≤ length w → state (first i) ≡ i
  state-first i h = longest-is (length w) (first i) i h (matches-all i) (λ l k j. matches-short i l k)

  -- the state is at most one more than before
  pub next_le : (i b : ℕ) → next i b ≤ suc i
  next_le i b = go (leb (next i b) (suc i)) refl
    where
      go : (t : Bool) → leb (next i b) (suc i) ≡ t → next i b ≤ suc i
      go true q = leb-true (next i b) (suc i) q
      go false q =
          absurd (contrary (matches (next i b) (b ∷ first i)) (longest-matches (length w) (b ∷ first i)) (matches-long i b (next i b) (leb-false (next i b) (suc i) q)))

-- only w's own letter leads to the state above
pub next-own : (w : Word) (i b : ℕ) → next w i b ≡ suc i → b ≡ get_or w i 0
next-own w i b e =
    eqb-true b (get_or w i 0)
    (and_l (eqb b (get_or w i 0)) (matches w i (first w i))
    (ap (λ (l : ℕ). matches w l (b ∷ first w i)) (sym e) ∙ longest-matches w (length w) (b ∷ first w i)))
