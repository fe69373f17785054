-- Words that pass a test, by how many first letters they share with w (document 01 splits antemers and postmers so): the counts by
-- states, for any acceptor that steps by the states of w.
-- Assumes nothing.
use Rattle.std.specs.Prelude.{ℕ, zero, suc, ◌+◌, ◌≤◌, ◌<◌, Bool, true, false, cond, not, ◌&&◌, ◌||◌, [], ◌∷◌, map, ◌≡◌, refl, ltb, leb, eqb, length, get_or, take, drop}
use Rattle.std.proofs.Math.Bool.{and-true, and_assoc, and_comm, and-or_distrib_left}
use Rattle.std.proofs.Common.{⊎_elim, sym, ap, ap₂, ◌∙◌, zero-add, add-zero, suc-add, add-suc, add_assoc, le_of_suc-le-suc, not-suc-le-zero, arith, lt-ltb, leb-true, le-leb, eqb-true, drop_of_length-le, length-take-le, take_all}
use Rattle.std.proofs.Math.Path.{fun_ext}
use Rattle.std.proofs.lemmas.Bool.{lt-leb, eqb-false}
use Rattle.std.proofs.Math.Dec.{leb-zero, leb-suc-zero, leb-suc-suc, eqb-zero-suc, eqb-suc-zero, eqb-suc-suc}
use Rattle.definitions.specs.Lists.{total, tabulate}
use Rattle.definitions.specs.Words.{Word, Letters, Mer, letters, same}
use Rattle.laws.specs.Tests.{and_r, and_none, and-left-comm, and-cong, or_cases, test-ext, same-eq}
use Rattle.laws.specs.Filters.{tabulate-agree}
use Rattle.laws.specs.Numbers.{letters-take}
use Rattle.laws.specs.Counting.{count, count-split, count-cong, count_none, count-either, count-fixed, count-one}
use Rattle.laws.specs.Walks.{accepts, ways, ways-count}
use Rattle.laws.specs.States.{next}
use Rattle.laws.specs.Tables.{through, count-begun, count-begun-by, after-prefix}

-- the length of the longest prefix that a word shares with w
abbrev pub shared : Word → Word → ℕ
shared [] y = zero
shared (a ∷ w) [] = zero
shared (a ∷ w) (b ∷ y) = cond (eqb b a) (suc (shared w y)) zero

-- of the words of n letters that pass a test, those that share exactly i letters with w
abbrev pub sharing : Word → (Word → Bool) → ℕ → ℕ → ℕ
sharing w p i n = count (λ y. p y && eqb (shared w y) i) n

-- of the words of n letters that pass a test, those that share at least i letters with w
abbrev pub sharing_from : Word → (Word → Bool) → ℕ → ℕ → ℕ
sharing_from w p i n = count (λ y. p y && leb i (shared w y)) n

-- whether a letter is the next one of w after i letters
abbrev pub goes_on : Word → ℕ → ℕ → Bool
goes_on w i b = ltb i (length w) && eqb b (get_or w i 0)

-- inside w that is a test of its letter there
pub goes_on-at : (w : Word) (i b : ℕ) → i < length w → goes_on w i b ≡ eqb b (get_or w i 0)
goes_on-at w i b h = ap (λ (t : Bool). t && eqb b (get_or w i 0)) (lt-ltb i (length w) h)

-- whether what follows i letters of w does not begin with the next one
abbrev pub stops : Word → ℕ → Word → Bool
stops w i [] = true
stops w i (b ∷ z) = not (goes_on w i b)

-- ---- the shared prefix

-- no more than all of w is shared, and no more than all of the word
pub shared-le : (w y : Word) → (shared w y ≤ length w) × (shared w y ≤ length y)
shared-le [] y = omega arith
shared-le (a ∷ w) [] = omega arith
shared-le (a ∷ w) (b ∷ y) = go (eqb b a) (shared-le w y)
  where
    go : (t : Bool) → (shared w y ≤ length w) × (shared w y ≤ length y) → (cond t (suc (shared w y)) zero ≤ suc (length w)) × (cond t (suc (shared w y)) zero ≤ suc (length y))
    go true h = omega arith
    go false h = omega arith

-- at least i letters are shared where the first i are those of w
pub shared-from : (w y : Word) (i : ℕ) → i ≤ length w → leb i (shared w y) ≡ same (take i y) (take i w)
shared-from w y zero h = leb-zero (shared w y)
shared-from [] y (suc i) h = absurd (not-suc-le-zero h)
shared-from (a ∷ w) [] (suc i) h = leb-suc-zero i
shared-from (a ∷ w) (b ∷ y) (suc i) h = go (eqb b a) (shared-from w y i (le_of_suc-le-suc h))
  where
    go : (t : Bool) → leb i (shared w y) ≡ same (take i y) (take i w) → leb (suc i) (cond t (suc (shared w y)) zero) ≡ (t && same (take i y) (take i w))
    go true e = leb-suc-suc i (shared w y) ∙ e
    go false e = leb-suc-zero i

stops-suc : (a : ℕ) (w : Word) (i : ℕ) (z : Word) → stops (a ∷ w) (suc i) z ≡ stops w i z
stops-suc a w i [] = refl
stops-suc a w i (b ∷ z) = ap (λ (t : Bool). not (t && eqb b (get_or w i 0))) (leb-suc-suc (suc i) (length w))

stops-nil : (y : Word) → stops [] zero y ≡ true
stops-nil [] = refl
stops-nil (b ∷ y) = refl

-- exactly i letters are shared where the first i are those of w and the next one is not
pub shared-is : (w y : Word) (i : ℕ) → i ≤ length w → eqb (shared w y) i ≡ (same (take i y) (take i w) && stops w i (drop i y))
shared-is [] y zero h = sym (stops-nil y)
shared-is [] y (suc i) h = absurd (not-suc-le-zero h)
shared-is (a ∷ w) [] zero h = refl
shared-is (a ∷ w) [] (suc i) h = eqb-zero-suc i
shared-is (a ∷ w) (b ∷ y) zero h = go (eqb b a) ∙ ap (λ (t : Bool). not (t && eqb b a)) (sym (leb-suc-suc zero (length w) ∙ leb-zero (length w)))
  where
    go : (t : Bool) → eqb (cond t (suc (shared w y)) zero) zero ≡ not (true && t)
    go true = eqb-suc-zero (shared w y)
    go false = refl
shared-is (a ∷ w) (b ∷ y) (suc i) h =
    go (eqb b a) (shared-is w y i (le_of_suc-le-suc h)) ∙ ap (λ (t : Bool). eqb b a && same (take i y) (take i w) && t) (sym (stops-suc a w i (drop i y)))
  where
    go : (t : Bool) → eqb (shared w y) i ≡ (same (take i y) (take i w) && stops w i (drop i y))
        → eqb (cond t (suc (shared w y)) zero) (suc i) ≡ (t && same (take i y) (take i w) && stops w i (drop i y))
    go true e = eqb-suc-suc (shared w y) i ∙ e
    go false e = eqb-zero-suc i

-- ---- sums over the shared prefix

module _ (w : Word) (p : Word → Bool) where
  -- all words share at least no letter
  pub sharing-all : (n : ℕ) → sharing_from w p zero n ≡ count p n
  sharing-all n = count-cong _ p n (λ y h. ap (λ (t : Bool). p y && t) (leb-zero (shared w y)) ∙ and-true (p y))

  -- those that share at least i letters share i, or at least i + 1
  pub sharing-split : (i n : ℕ) → sharing_from w p i n ≡ sharing w p i n + sharing_from w p (suc i) n
  sharing-split i n =
      count-cong _ (λ y. (p y && eqb (shared w y) i) || (p y && leb (suc i) (shared w y))) n
      (λ y h. ap (λ (t : Bool). p y && t) (at_least (shared w y)) ∙ and-or_distrib_left (p y) (eqb (shared w y) i) (leb (suc i) (shared w y)))
      ∙ count-either (λ y. p y && eqb (shared w y) i) (λ y. p y && leb (suc i) (shared w y)) n
      (λ y h a b. absurd (apart (shared w y) (and_r (p y) (eqb (shared w y) i) a) (and_r (p y) (leb (suc i) (shared w y)) b)))
    where
      at_least : (s : ℕ) → leb i s ≡ (eqb s i || leb (suc i) s)
      at_least s =
          test-ext (leb i s) (eqb s i || leb (suc i) s)
          (λ e. go (eqb s i) refl (leb-true i s e))
          (λ e. ⊎_elim (λ a. le-leb i s (omega (arith, eqb-true s i a))) (λ b. le-leb i s (omega (arith, leb-true (suc i) s b))) (or_cases (eqb s i) (leb (suc i) s) e))
        where
          go : (t : Bool) → eqb s i ≡ t → i ≤ s → (t || leb (suc i) s) ≡ true
          go true a h = refl
          go false a h = le-leb (suc i) s (omega (arith, eqb-false s i a))

      apart : (s : ℕ) → eqb s i ≡ true → leb (suc i) s ≡ true → ⊥
      apart s a b = omega (arith, eqb-true s i a, leb-true (suc i) s b)

  sharing-none : (i n : ℕ) → ((y : Word) → Mer n y → shared w y < i) → sharing_from w p i n ≡ 0
  sharing-none i n h = count-cong _ (λ y. false) n (λ y k. and_none (p y) (leb i (shared w y)) (lt-leb i (shared w y) (h y k))) ∙ count_none n

  -- none shares more letters than it has
  pub sharing-short : (i n : ℕ) → n < i → sharing_from w p i n ≡ 0
  sharing-short i n h = sharing-none i n (λ y k. omega (arith, (shared-le w y).1, k.0))

  -- or than w has
  pub sharing-past : (i n : ℕ) → length w < i → sharing_from w p i n ≡ 0
  sharing-past i n h = sharing-none i n (λ y k. omega (arith, (shared-le w y).0))

  -- those that share at least i letters share i, i + 1 and so on, or at least i + j
  sharing-tail : (i j n : ℕ) → sharing_from w p i n ≡ total (tabulate (λ d. sharing w p (i + d) n) j) + sharing_from w p (i + j) n
  sharing-tail i zero n = simp (add-zero, zero-add)
  sharing-tail i (suc j) n =
      sharing-split i n
      ∙ ap₂ (λ (a b : ℕ). a + b) (ap (λ (d : ℕ). sharing w p d n) (sym (add-zero i)))
      (sharing-tail (suc i) j n
      ∙ ap₂ (λ (s r : ℕ). s + r) (ap total (tabulate-agree j (λ d h. ap (λ (e : ℕ). sharing w p e n) (suc-add i d ∙ sym (add-suc i d)))))
      (ap (λ (e : ℕ). sharing_from w p e n) (suc-add i j ∙ sym (add-suc i j))))
      ∙ sym (add_assoc (sharing w p (i + zero) n) (total (tabulate (λ d. sharing w p (i + suc d) n) j)) (sharing_from w p (i + suc j) n))

  -- the words that pass a test are those that share 0, 1 and so on up to m letters with w
  pub sharing-sum : (n : ℕ) → count p n ≡ total (tabulate (λ i. sharing w p i n) (suc (length w)))
  sharing-sum n =
      sym (sharing-all n) ∙ sharing-tail zero (suc (length w)) n
      ∙ ap₂ (λ (s r : ℕ). s + r) (ap total (tabulate-agree (suc (length w)) (λ i h. ap (λ (e : ℕ). sharing w p e n) (zero-add i))))
      (ap (λ (e : ℕ). sharing_from w p e n) (zero-add (suc (length w))) ∙ sharing-past (suc (length w)) n (omega arith))
      ∙ add-zero (total (tabulate (λ i. sharing w p i n) (suc (length w))))

  -- those of i letters that share all i: the first i of w, or none
  pub sharing-whole : (i : ℕ) → Letters w → i ≤ length w → sharing w p i i ≡ cond (p (take i w)) 1 0
  sharing-whole i hw h =
      count-cong _ (λ y. p (take i w) && same y (take i w)) i
      (λ y k. and_comm (p y) (eqb (shared w y) i) ∙ ap (λ (t : Bool). t && p y) (whole y k.0)
      ∙ and-cong (same y (take i w)) (p y) (p (take i w)) (λ e. ap p (same-eq y (take i w) e)) ∙ and_comm (same y (take i w)) (p (take i w)))
      ∙ count-fixed (p (take i w)) (λ y. same y (take i w)) i
      ∙ ap (λ (c : ℕ). cond (p (take i w)) c 0) (count-one (take i w) (length-take-le i w h, letters-take i w hw))
    where
      whole : (y : Word) → length y ≡ i → eqb (shared w y) i ≡ same y (take i w)
      whole y e =
          shared-is w y i h
          ∙ ap₂ (λ (u v : Word). same u (take i w) && stops w i v) (take_all i y (omega arith)) (drop_of_length-le y {i = i} (omega arith))
          ∙ and-true (same y (take i w))

-- ---- by states

-- whether the first i letters of w are allowed one after the other, with n letters to follow
abbrev pub clean : Word → (ℕ → ℕ → ℕ → Bool) → ℕ → ℕ → Bool
clean w ok i n = through (next w) ok zero (take i w) n

module _ (w : Word) (hw : Letters w) (ok : ℕ → ℕ → ℕ → Bool) (end : ℕ → Bool) where
  -- those that share at least i letters are the completions of state i
  pub completions : (i n : ℕ) → i ≤ length w
      → sharing_from w (accepts ok (next w) end zero) i (i + n) ≡ cond (clean w ok i n) (ways ok (next w) end i n) 0
  completions i n h =
      count-cong _ (λ z. same (take i z) (take i w) && accepts ok (next w) end zero z) (i + n)
      (λ z k. ap (λ (t : Bool). accepts ok (next w) end zero z && t) (shared-from w z i h) ∙ and_comm (accepts ok (next w) end zero z) (same (take i z) (take i w)))
      ∙ ap (λ (l : ℕ). count (λ z. same (take l z) (take i w) && accepts ok (next w) end zero z) (l + n)) (sym (length-take-le i w h))
      ∙ count-begun ok (next w) end zero (take i w) n (letters-take i w hw)
      ∙ ap (λ (s : ℕ). cond (clean w ok i n) (ways ok (next w) end s n) 0) (after-prefix w i h)

  -- one letter after i letters of w
  branch-count : (i n b : ℕ)
      → count (λ z. ok i (length z) b && accepts ok (next w) end (next w i b) z && not (goes_on w i b)) n
      ≡ cond (not (goes_on w i b) && ok i n b) (ways ok (next w) end (next w i b) n) 0
  branch-count i n b =
      count-cong _ (λ z. not (goes_on w i b) && ok i n b && accepts ok (next w) end (next w i b) z) n
      (λ z k. and_comm (ok i (length z) b && accepts ok (next w) end (next w i b) z) (not (goes_on w i b))
      ∙ sym (and_assoc (not (goes_on w i b)) (ok i (length z) b) (accepts ok (next w) end (next w i b) z))
      ∙ ap (λ (l : ℕ). not (goes_on w i b) && ok i l b && accepts ok (next w) end (next w i b) z) k.0)
      ∙ count-fixed (not (goes_on w i b) && ok i n b) (accepts ok (next w) end (next w i b)) n
      ∙ ap (λ (c : ℕ). cond (not (goes_on w i b) && ok i n b) c 0) (sym (ways-count ok (next w) end (next w i b) n))

  -- those that share exactly i letters, by the letter that follows: it does not go on with w, is allowed, and leads to its state
  pub prefix-rule : (i n : ℕ) → i ≤ length w
      → sharing w (accepts ok (next w) end zero) i (i + suc n)
      ≡ cond (clean w ok i (suc n)) (total (map (λ b. cond (not (goes_on w i b) && ok i n b) (ways ok (next w) end (next w i b) n) 0) letters)) 0
  prefix-rule i n h =
      count-cong _ (λ z. same (take i z) (take i w) && (accepts ok (next w) end zero z && stops w i (drop i z))) (i + suc n)
      (λ z k. ap (λ (t : Bool). accepts ok (next w) end zero z && t) (shared-is w z i h)
      ∙ and-left-comm (accepts ok (next w) end zero z) (same (take i z) (take i w)) (stops w i (drop i z)))
      ∙ ap (λ (l : ℕ). count (λ z. same (take l z) (take i w) && (accepts ok (next w) end zero z && stops w i (drop l z))) (l + suc n)) (sym (length-take-le i w h))
      ∙ count-begun-by ok (next w) end (stops w i) zero (take i w) (suc n) (letters-take i w hw)
      ∙ ap (λ (s : ℕ). cond (clean w ok i (suc n)) (count (λ v. accepts ok (next w) end s v && stops w i v) (suc n)) 0) (after-prefix w i h)
      ∙ ap (λ (c : ℕ). cond (clean w ok i (suc n)) c 0)
      (count-split (λ v. accepts ok (next w) end i v && stops w i v) n ∙ ap (λ (g : ℕ → ℕ). total (map g letters)) (fun_ext (branch-count i n)))
