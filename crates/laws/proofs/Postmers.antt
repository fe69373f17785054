-- Document 01's rules for postmers, split by i, the length of the longest prefix shared with w: those shorter than m, those of
-- length m, and longer ones.
-- Assumes nothing.
use Rattle.std.specs.Prelude.{ℕ, suc, ◌+◌, ◌-◌, ◌*◌, ◌^◌, ◌≤◌, ◌<◌, Bool, true, false, cond, not, ◌&&◌, List, [], ◌∷◌, map, ◌≡◌, refl, leb, eqb, length, get_or, take, drop}
use Rattle.std.proofs.Math.Bool.{and-false, and_comm}
use Rattle.std.proofs.Common.{sym, ap, ap₂, ◌∙◌, add-zero, arith, le-ltb, le-leb, eqb-true, length-take-le}
use Rattle.std.proofs.Math.Path.{fun_ext}
use Rattle.std.proofs.lemmas.Bool.{lt-leb}
use Rattle.std.proofs.Math.Seq.{take-length}
use Rattle.definitions.specs.Lists.{put, filter, all, total}
use Rattle.definitions.specs.Words.{Word, Letters, letters, same}
use Rattle.definitions.specs.Vigemins.{Form, value, below}
use Rattle.definitions.specs.Shelves.{postmer, begins, postmers}
use Rattle.laws.specs.Numbers.{each-letter, letters-take, letter-lt}
use Rattle.laws.specs.Minima.{windows-none}
use Rattle.laws.specs.Counting.{count, count-cong, count_none, count-every, count-split, count-first}
use Rattle.laws.specs.Orders.{Ranking, OneToOne, ranked}
use Rattle.laws.specs.States.{matches, first}
use Rattle.laws.specs.Tables.{postmer-accepted}
use Rattle.laws.specs.Prefixes.{sharing, sharing_from, goes_on, goes_on-at, stops, shared-from, shared-is, sharing-split, sharing-past, sharing-whole}
use Rattle.laws.specs.Rules.{Σ, by_prefix}
use Rattle.laws.proofs.ByPrefix.{total-chosen, by_prefix-free, accepted-rule}

-- a test that does not look at the word
count-constant : (t : Bool) (n : ℕ) → count (λ z. t) n ≡ cond t (4 ^ n) 0
count-constant true n = count-every n
count-constant false n = count_none n

-- three letters do not go on with w
three : (w : Word) (i : ℕ) → Letters w → i < length w → length (filter (λ b. not (goes_on w i b)) letters) ≡ 3
three w i hw h =
    ap (λ (p : ℕ → Bool). length (filter (λ b. not (p b)) letters)) (fun_ext (λ b. goes_on-at w i b h))
    ∙ eqb-true (length (filter (λ b. not (eqb b (get_or w i 0))) letters)) 3
    (each-letter (λ a. eqb (length (filter (λ b. not (eqb b a)) letters)) 3) refl (letter-lt w i hw))

-- no m-mer of w itself is below w
postmer-self : (f : Form) (w : Word) → 0 < length w → postmer f w w ≡ true
postmer-self f [] pos = absurd (omega arith)
postmer-self f (a ∷ w) pos =
    ap₂ (λ (t : Bool) (l : List Word). all (λ v. not (below f (a ∷ w) v)) (put t (take (suc (length w)) (a ∷ w)) l))
    (le-leb (suc (length w)) (suc (length w)) (omega arith)) (windows-none (suc (length w)) w (omega arith))
    ∙ ap (λ (v : Word). not (below f (a ∷ w) v) && true) (take-length (a ∷ w))
    ∙ ap (λ (t : Bool). not t && true) (le-ltb (value f (a ∷ w)) (value f (a ∷ w)) (omega arith))

module _ (f : Form) (w : Word) where
  postmer-short : (z : Word) → length z < length w → postmer f w z ≡ true
  postmer-short z h = ap (all (λ v. not (below f w v))) (windows-none (length w) z h)

  -- every word shorter than m is a postmer
  pub postmers-any : (n : ℕ) → n < length w → count (postmer f w) n ≡ 4 ^ n
  postmers-any n h = count-cong (postmer f w) (λ z. true) n (λ z k. postmer-short z (omega (arith, k.0))) ∙ count-every n

  -- shorter than m: another letter than the next one of w, and then any
  pub postmers-short : Letters w → (i n : ℕ) → i < n → n < length w → sharing w (postmer f w) i n ≡ 3 * 4 ^ (n - suc i)
  postmers-short hw i n k h =
      let l : i ≡ length (take i w) = sym (length-take-le i w (omega arith)) in
      let e : n ≡ length (take i w) + suc (n - suc i) = omega arith in
      count-cong _ (λ z. same (take i z) (take i w) && stops w i (drop i z)) n
      (λ z j. ap₂ (λ (s t : Bool). s && t) (postmer-short z (omega (arith, j.0))) (shared-is w z i (omega arith)))
      ∙ ap₂ (λ (j c : ℕ). count (λ z. same (take j z) (take i w) && stops w i (drop j z)) c) l e
      ∙ count-first (take i w) (stops w i) (suc (n - suc i)) (letters-take i w hw)
      ∙ count-split (stops w i) (n - suc i)
      ∙ ap (λ (g : ℕ → ℕ). total (map g letters)) (fun_ext (λ b. count-constant (not (goes_on w i b)) (n - suc i)))
      ∙ total-chosen (λ b. not (goes_on w i b)) (4 ^ (n - suc i)) letters
      ∙ ap (λ (c : ℕ). c * 4 ^ (n - suc i)) (three w i hw (omega arith))

  whole : Letters w → (n : ℕ) → n ≤ length w → postmer f w (take n w) ≡ true → sharing w (postmer f w) n n ≡ 1
  whole hw n h e = sharing-whole w (postmer f w) n hw h ∙ ap (λ (t : Bool). cond t 1 0) e

  -- shorter than m, one shares all its letters with w
  pub postmers-short-whole : Letters w → (n : ℕ) → n < length w → sharing w (postmer f w) n n ≡ 1
  postmers-short-whole hw n h = whole hw n (omega arith) (postmer-short (take n w) (omega (arith, length-take-le n w (omega arith))))

  -- of length m, one shares all its letters with w: w itself
  pub postmers-at-whole : Letters w → 0 < length w → sharing w (postmer f w) (length w) (length w) ≡ 1
  postmers-at-whole hw pos = whole hw (length w) (omega arith) (ap (postmer f w) (take-length w) ∙ postmer-self f w pos)

  sharing-last : (n : ℕ) → sharing w (postmer f w) (length w) n ≡ sharing_from w (postmer f w) (length w) n
  sharing-last n = omega (arith, sharing-split w (postmer f w) (length w) n, sharing-past w (postmer f w) (suc (length w)) n (omega arith))

  -- row a of the worksheet counts the postmers of length m + a that share at least m letters
  pub postmers-from : (a : ℕ) → postmers f w a ≡ sharing_from w (postmer f w) (length w) (length w + a)
  postmers-from a =
      count-cong _ _ (length w + a)
      (λ z k. and_comm (begins w z) (postmer f w z)
      ∙ ap (λ (t : Bool). postmer f w z && t)
      (ap (same (take (length w) z)) (sym (take-length w)) ∙ sym (shared-from w z (length w) (omega arith))))

  -- that is, all m
  pub postmers-begun : (a : ℕ) → postmers f w a ≡ sharing w (postmer f w) (length w) (length w + a)
  postmers-begun a = postmers-from a ∙ sym (sharing-last (length w + a))

module _ (ρ : Ranking) (one : OneToOne ρ) (w : Word) (hw : Letters w) (pos : 0 < length w) where
  -- from length m on, by the letter that follows the shared ones: the m-mer that starts at j counts only if it exists
  pub postmers-rule : (i n : ℕ) → i ≤ length w → i < n → length w ≤ n
      → sharing w (postmer (ranked ρ) w) i n ≡ by_prefix ρ w (λ j. leb (length w + j) (suc n)) (sharing_from w (postmer (ranked ρ) w)) i n
  postmers-rule i n h k long =
      accepted-rule ρ one w hw false [] (postmer (ranked ρ) w) (λ z j. postmer-accepted ρ one w hw z pos j) (λ j. leb (length w + j) (suc n)) i n h k
      (and-false (matches w (length w) (first w i))) (omega arith) (λ q j. ap (λ (l : ℕ). leb (length w + suc (suc q)) (suc l)) (add-zero n))

  -- of length m, with i below m: a letter of Σ(i+1), and then any letters
  pub postmers-at : (i : ℕ) → i < length w
      → sharing w (postmer (ranked ρ) w) i (length w) ≡ length (filter (Σ ρ w (suc i)) letters) * 4 ^ (length w - suc i)
  postmers-at i h =
      postmers-rule i (length w) (omega arith) h (omega arith)
      ∙ by_prefix-free ρ w (λ j. leb (length w + j) (suc (length w))) i (postmer (ranked ρ) w) (length w) (length w - suc i)
      (λ q k. lt-leb (length w + suc (suc q)) (suc (length w)) (omega arith)) refl
      ∙ ap (λ (c : ℕ). length (filter (Σ ρ w (suc i)) letters) * c) (postmers-any (ranked ρ) w (length w - suc i) (omega arith))

  -- those that share no letter: a letter of Σ1, and a postmer one shorter
  pub postmers-none-shared : (n : ℕ) → length w ≤ suc n
      → sharing w (postmer (ranked ρ) w) 0 (suc n) ≡ length (filter (Σ ρ w 1) letters) * count (postmer (ranked ρ) w) n
  postmers-none-shared n h =
      postmers-rule 0 (suc n) (omega arith) (omega arith) h
      ∙ by_prefix-free ρ w (λ j. leb (length w + j) (suc (suc n))) 0 (postmer (ranked ρ) w) (suc n) n (λ q k. absurd (omega arith)) (omega arith)
