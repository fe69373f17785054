-- When a letter is banned at a state. A letter that ranks below w's own in an m-mer that is tied so far is banned where enough letters
-- are left for that m-mer to exist: so one number for each state and letter, the fewest letters left at which it is banned, tells all
-- rows of the tables of antemers and postmers, and in which rows w itself is allowed. It is found from the state that a state falls to.
-- Assumes nothing.
use Rattle.std.specs.Prelude.{ℕ, zero, suc, ◌+◌, ◌-◌, ◌≤◌, ◌<◌, min, Bool, cond, ◌&&◌, ◌||◌, [], map, ◌≡◌, get_or, drop}
use Rattle.std.proofs.Math.Bool.{true, false, not, and-false, or-false, and_comm}
use Rattle.std.proofs.Math.Path.{refl, sym, ap, ap₂, fun_ext}
use Rattle.std.proofs.Common.{◌∙◌, add-zero, not-suc-le-zero, arith}
use borrow.Author.Tests.{ltb-true, ltb-false, leb-true, leb-false, lt-ltb, le-ltb, lt-leb}
use Rattle.std.proofs.Math.Dec.{ltb, leb}
use Rattle.std.proofs.Math.ListN.{length}
use Rattle.std.proofs.Math.Seq.{take-length}
use Rattle.definitions.specs.Lists.{total}
use Rattle.definitions.specs.Words.{Word, letters}
use Rattle.laws.specs.Tests.{and_l, and_r, and_none, not-or, leb-cong, leb-min}
use Rattle.laws.specs.Places.{any_to, any_to-cong, any_to-none, any_to-last, any_to-stop}
use Rattle.laws.specs.Orders.{Ranking}
use Rattle.laws.specs.States.{matches, first, next, matches-short, matches-all}
use Rattle.laws.specs.Falls.{fall, fallen, fall-le, matches-fall}
use Rattle.laws.specs.Threads.{caught}
use Rattle.laws.specs.Acceptors.{below_hit}
use Rattle.laws.specs.Tables.{through, all_fine, through-fine, antemer_ok, antemer_end, postmer_ok, antemer_ways, postmer_ways, word_allowed}

-- above every number of letters left
abbrev pub never : ℕ
never = 64

-- ---- the fewest letters left

module _ (w : Word) (low : ℕ → ℕ → Bool) where
  -- the fewest letters left that ban b after some letters, by the matches of fewer than n letters: the longest at which b is low decides
  abbrev pub ban_below : ℕ → Word → ℕ → ℕ
  ban_below zero past b = never
  ban_below (suc l) past b = cond (matches w l past && low l b) (length w - l) (ban_below l past b)

  -- the fewest letters left, from b on, at which b is banned at state i: an m-mer that is tied there then exists, and b ranks below w's
  -- letter in it; never where there is none
  abbrev pub ban : ℕ → ℕ → ℕ
  ban i b = ban_below (length w) (first w i) b

  -- the m-mer with l letters is tied, exists with r letters left, and has b low
  hits : Word → ℕ → ℕ → ℕ → Bool
  hits past b r l = matches w l past && (leb (length w) (l + r) && low l b)

  -- one more match: where b ranks low at it, it decides, since the shorter ones want more letters
  tells_at : (past : Word) (b r n : ℕ) → n < length w → not (any_to n (hits past b r)) ≡ ltb r (ban_below n past b) → (t : Bool)
      → (matches w n past && low n b) ≡ t → not (any_to n (hits past b r) || hits past b r n) ≡ ltb r (cond t (length w - n) (ban_below n past b))
  unfolding hits
  tells_at past b r n h rec false e =
      ap (λ (t : Bool). not (any_to n (hits past b r) || t)) (without (matches w n past) (leb (length w) (n + r)) (low n b) e)
      ∙ ap not (or-false (any_to n (hits past b r))) ∙ rec
    where
      without : (x y z : Bool) → (x && z) ≡ false → (x && (y && z)) ≡ false
      without true true z q = q
      without true false z q = refl
      without false y z q = refl
  tells_at past b r n h rec true e =
      ap₂ (λ (x y : Bool). not (any_to n (hits past b r) || (x && (leb (length w) (n + r) && y)))) (and_l (matches w n past) (low n b) e) (and_r (matches w n past) (low n b) e)
      ∙ go (leb (length w) (n + r)) refl
    where
      go : (t : Bool) → leb (length w) (n + r) ≡ t → not (any_to n (hits past b r) || (true && (t && true))) ≡ ltb r (length w - n)
      go true q = ap not (always (any_to n (hits past b r))) ∙ sym (le-ltb r (length w - n) (omega (arith, leb-true (length w) (n + r) q)))
        where
          always : (x : Bool) → (x || true) ≡ true
          always true = refl
          always false = refl
      go false q =
          let k : n + r < length w = leb-false (length w) (n + r) q in
          ap (λ (x : Bool). not (x || false))
          (any_to-none n (λ l j. and_none (matches w l past) (leb (length w) (l + r) && low l b)
          (ap (λ (x : Bool). x && low l b) (lt-leb (length w) (l + r) (omega arith)))))
          ∙ sym (lt-ltb r (length w - n) (omega arith))

  -- `ban-tells`, by the matches of fewer than n letters
  tells-to : (past : Word) (b r : ℕ) → r < never → (n : ℕ) → n ≤ length w → not (any_to n (hits past b r)) ≡ ltb r (ban_below n past b)
  tells-to past b r h zero k = sym (lt-ltb r never h)
  tells-to past b r h (suc n) k =
      ap not (any_to-last n (hits past b r)) ∙ tells_at past b r n k (tells-to past b r h n (omega arith)) (matches w n past && low n b) refl

  -- no m-mer that is tied exists and has b below w's letter exactly if fewer letters are left
  pub ban-tells : (past : Word) (b r : ℕ) → r < never
      → not (any_to (length w) (λ l. matches w l past && (leb (length w) (l + r) && low l b))) ≡ ltb r (ban_below (length w) past b)
  unfolding hits
  ban-tells past b r h = tells-to past b r h (length w) (omega arith)

  -- words that match alike ban alike
  ban_below-cong : (n : ℕ) (p q : Word) (b : ℕ) → ((l : ℕ) → l < n → matches w l p ≡ matches w l q) → ban_below n p b ≡ ban_below n q b
  ban_below-cong zero p q b h = refl
  ban_below-cong (suc n) p q b h =
      ap₂ (λ (t : Bool) (k : ℕ). cond (t && low n b) (length w - n) k) (h n (omega arith)) (ban_below-cong n p q b (λ l k. h l (omega arith)))

  -- state i has no match of more than i letters
  stop-at : (i b n : ℕ) → i < n → ban_below n (first w i) b ≡ ban_below (suc i) (first w i) b
  stop-at i b zero h = absurd (not-suc-le-zero h)
  stop-at i b (suc n) h = go (ltb i n) refl (stop-at i b n)
    where
      go : (t : Bool) → ltb i n ≡ t → (i < n → ban_below n (first w i) b ≡ ban_below (suc i) (first w i) b) → ban_below (suc n) (first w i) b ≡ ban_below (suc i) (first w i) b
      go true e rec =
          let k : i < n = ltb-true i n e in
          ap (λ (t : Bool). cond (t && low n b) (length w - n) (ban_below n (first w i) b)) (matches-short w i n k) ∙ rec k
      go false e rec = let q : n ≡ i = omega (arith, ltb-false i n e) in ap (λ (l : ℕ). ban_below (suc l) (first w i) b) q

  -- longer matches change nothing
  ban-stop : (i b n : ℕ) → i < n → n ≤ length w → ban_below n (first w i) b ≡ ban i b
  ban-stop i b n h k = stop-at i b n h ∙ sym (stop-at i b (length w) (omega arith))

  -- state i itself first, then its shorter matches
  ban-at : (i b : ℕ) → i ≤ length w → (t : Bool) → ltb i (length w) ≡ t → ban i b ≡ cond (t && low i b) (length w - i) (ban_below i (first w i) b)
  ban-at i b h true e =
      sym (ban-stop i b (suc i) (omega arith) (ltb-true i (length w) e))
      ∙ ap (λ (t : Bool). cond (t && low i b) (length w - i) (ban_below i (first w i) b)) (matches-all w i)
  ban-at i b h false e = ap (λ (n : ℕ). ban_below n (first w i) b) (let q : length w ≡ i = omega (arith, ltb-false i (length w) e) in q)

  -- a letter that ranks low at the state itself is banned as soon as the rest of w fits; another as at the state that it falls to
  pub ban-by-fall : (i b : ℕ) → i ≤ length w → ban i b ≡ cond (ltb i (length w) && low i b) (length w - i) (fallen w never (λ s. ban s b) i)
  ban-by-fall i b h = ban-at i b h (ltb i (length w)) refl ∙ ap (λ (k : ℕ). cond (ltb i (length w) && low i b) (length w - i) k) (below i h)
    where
      below : (j : ℕ) → j ≤ length w → ban_below j (first w j) b ≡ fallen w never (λ s. ban s b) j
      below zero k = refl
      below (suc j) k =
          ban_below-cong (suc j) (first w (suc j)) (first w (fall w (suc j))) b (λ l q. matches-fall w j l (omega arith))
          ∙ ban-stop (fall w (suc j)) b (suc j) (omega (arith, fall-le w j)) k

  -- shorter matches want more than the rest of w
  high-to : (past : Word) (j b n : ℕ) → length w ≤ 31 → j < length w → n ≤ j → length w - j < ban_below n past b
  high-to past j b zero m h k = omega arith
  high-to past j b (suc n) m h k = go (matches w n past && low n b) (high-to past j b n m h (omega arith))
    where
      go : (t : Bool) → length w - j < ban_below n past b → length w - j < cond t (length w - n) (ban_below n past b)
      go true rec = omega arith
      go false rec = rec

  -- w's own letter is not banned where just the rest of w is left
  pub ban-own : (j : ℕ) → length w ≤ 31 → j < length w → low j (get_or w j 0) ≡ false → length w - j < ban j (get_or w j 0)
  ban-own j m h e =
      let same-ban : ban j (get_or w j 0) ≡ ban_below j (first w j) (get_or w j 0) =
      ban-at j (get_or w j 0) (omega arith) (ltb j (length w)) refl
      ∙ ap (λ (t : Bool). cond t (length w - j) (ban_below j (first w j) (get_or w j 0))) (and_none (ltb j (length w)) (low j (get_or w j 0)) e) in
      rw same-ban (high-to (first w j) j (get_or w j 0) j m h (omega arith))

  -- `ban-le`, by the matches of fewer than n letters
  below-never : (past : Word) (b n : ℕ) → length w ≤ 31 → ban_below n past b ≤ never
  below-never past b zero m = omega arith
  below-never past b (suc n) m = go (matches w n past && low n b) (below-never past b n m)
    where
      go : (t : Bool) → ban_below n past b ≤ never → cond t (length w - n) (ban_below n past b) ≤ never
      go true rec = omega arith
      go false rec = rec

  -- no ban is above never
  pub ban-le : (i b : ℕ) → length w ≤ 31 → ban i b ≤ never
  ban-le i b m = below-never (first w i) b (length w) m

  -- `ban-most`, by the matches of fewer than n letters
  below-most : (past : Word) (b n : ℕ) → ban_below n past b < never → ban_below n past b ≤ length w
  below-most past b zero h = absurd (omega arith)
  below-most past b (suc n) h = go (matches w n past && low n b) (below-most past b n) h
    where
      go : (t : Bool) → (ban_below n past b < never → ban_below n past b ≤ length w)
          → cond t (length w - n) (ban_below n past b) < never → cond t (length w - n) (ban_below n past b) ≤ length w
      go true rec k = omega arith
      go false rec k = rec k

  -- a ban that is not never is at most all of w
  pub ban-most : (i b : ℕ) → ban i b < never → ban i b ≤ length w
  ban-most i b h = below-most (first w i) b (length w) h

  -- in how many rows w itself is allowed, by its first letters: row a of the postmers is 0 from there on
  abbrev pub lasts : ℕ → ℕ
  lasts zero = never
  lasts (suc j) = min (lasts j) (ban j (get_or w j 0) + j - length w)

-- ---- the tables

-- a letter ranks below w's letter at a place
abbrev pub low_by : Ranking → Word → ℕ → ℕ → Bool
low_by ρ w l b = ltb (ρ l b) (ρ l (get_or w l 0))

module _ (ρ : Ranking) (w : Word) where
  -- a letter of an antemer is allowed exactly if fewer letters are left, with w, than ban it
  pub antemer-ban : (i n b : ℕ) → i < length w → suc (n + length w) < never → antemer_ok ρ w i n b ≡ ltb (suc (n + length w)) (ban w (low_by ρ w) i b)
  antemer-ban i n b h k =
      ap (λ (t : Bool). not (t && true || any_to (length w) (λ l. matches w l (first w i) && below_hit ρ w l b (suc (n + length w))))) (matches-short w i (length w) h)
      ∙ ban-tells w (low_by ρ w) (first w i) b (suc (n + length w)) k

  -- a letter of a postmer is allowed exactly if fewer letters are left than ban it
  pub postmer-ban : (i n b : ℕ) → suc n < never → postmer_ok ρ w i n b ≡ ltb (suc n) (ban w (low_by ρ w) i b)
  postmer-ban i n b k =
      ap₂ (λ (t : Bool) (r : ℕ). not (t || any_to (length w) (λ l. matches w l (first w i) && below_hit ρ w l b (suc r)))) (and-false (matches w (length w) (first w i))) (add-zero n)
      ∙ ban-tells w (low_by ρ w) (first w i) b (suc n) k

  -- a row of the table of antemers from the row before, by the bans
  pub antemer-row : (i n : ℕ) → i < length w → suc (n + length w) < never
      → antemer_ways ρ w i (suc n) ≡ total (map (λ b. cond (ltb (suc (n + length w)) (ban w (low_by ρ w) i b)) (antemer_ways ρ w (next w i b) n) 0) letters)
  antemer-row i n h k =
      ap (λ (g : ℕ → ℕ). total (map g letters)) (fun_ext (λ b. ap (λ (t : Bool). cond t (antemer_ways ρ w (next w i b) n) 0) (antemer-ban i n b h k)))

  -- a row of the table of postmers from the row before, by the bans
  pub postmer-row : (i n : ℕ) → suc n < never
      → postmer_ways ρ w i (suc n) ≡ total (map (λ b. cond (ltb (suc n) (ban w (low_by ρ w) i b)) (postmer_ways ρ w (next w i b) n) 0) letters)
  postmer-row i n k =
      ap (λ (g : ℕ → ℕ). total (map g letters)) (fun_ext (λ b. ap (λ (t : Bool). cond t (postmer_ways ρ w (next w i b) n) 0) (postmer-ban i n b k)))

  -- at state 0 nothing is tied, so an antemer may end there
  pub end-start : antemer_end ρ w 0 ≡ true
  end-start = ap not (any_to-none (length w) (λ l h. refl))

  -- an antemer may end at a state exactly if it may at the one that the state falls to, and w does not catch the longest thread
  pub end-by-fall : (i : ℕ) → i < length w → antemer_end ρ w (suc i) ≡ (antemer_end ρ w (fall w (suc i)) && not (caught w (below_hit ρ w) true (suc i) (drop (suc i) w) w))
  end-by-fall i h =
      ap not
      (any_to-stop (suc i) (length w) (tied (suc i)) h (λ l k j. ap (λ (t : Bool). t && ends (suc l)) (matches-short w (suc i) (suc l) (omega arith)))
      ∙ any_to-last i (tied (suc i))
      ∙ ap₂ (λ (s t : Bool). s || t) shorter (ap (λ (t : Bool). t && ends (suc i)) (matches-all w (suc i))))
      ∙ not-or (any_to (length w) (tied (fall w (suc i)))) (ends (suc i))
    where
      ends : ℕ → Bool
      ends l = caught w (below_hit ρ w) true l (drop l w) w

      tied : ℕ → ℕ → Bool
      tied s l = matches w (suc l) (first w s) && ends (suc l)

      shorter : any_to i (tied (suc i)) ≡ any_to (length w) (tied (fall w (suc i)))
      shorter =
          any_to-cong i (λ l k. ap (λ (t : Bool). t && ends (suc l)) (matches-fall w i (suc l) k))
          ∙ sym (any_to-stop i (length w) (tied (fall w (suc i))) (omega arith)
          (λ l k j. ap (λ (t : Bool). t && ends (suc l)) (matches-short w (fall w (suc i)) (suc l) (omega (arith, fall-le w i)))))

  -- `word-allowed`, by the first i letters
  first-allowed : (a : ℕ) → a + length w < never → (i n : ℕ) → i ≤ length w → n + i ≡ a + length w
      → all_fine w (below_hit ρ w) false [] (first w i) n ≡ ltb a (lasts w (low_by ρ w) i)
  first-allowed a h zero n k e = sym (lt-ltb a never (omega arith))
  first-allowed a h (suc i) n k e =
      ap₂ (λ (s t : Bool). s && t)
      (postmer-ban i n (get_or w i 0) (omega arith)
      ∙ leb-cong (suc (suc n)) last (suc a) (last + i - length w) (λ q. omega arith) (λ q. omega arith))
      (first-allowed a h i (suc n) (omega arith) (omega arith))
      ∙ and_comm (ltb a (last + i - length w)) (ltb a (lasts w (low_by ρ w) i))
      ∙ sym (leb-min (suc a) (lasts w (low_by ρ w) i) (last + i - length w))
    where
      last : ℕ
      last = ban w (low_by ρ w) i (get_or w i 0)

  -- w itself is allowed, with a letters to follow, exactly in the rows below lasts
  pub word-allowed : (a : ℕ) → a + length w < never → word_allowed ρ w a ≡ ltb a (lasts w (low_by ρ w) (length w))
  word-allowed a h =
      ap (λ (u : Word). through (next w) (postmer_ok ρ w) zero u a) (sym (take-length w))
      ∙ through-fine w (below_hit ρ w) false [] (length w) a (omega arith)
      ∙ first-allowed a h (length w) a (omega arith) refl
