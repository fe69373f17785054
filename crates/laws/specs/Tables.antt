-- The acceptors by states: postmers, antemers and the words of a shelf are accepted letter by letter from a state of w alone, so each
-- count is a table over (state, letters left).
-- Assumes nothing.
use Rattle.std.specs.Prelude.{ℕ, zero, suc, ◌+◌, ◌-◌, ◌^◌, ◌≤◌, ◌<◌, Bool, true, false, cond, not, ◌&&◌, ◌||◌, [], ◌∷◌, ◌++◌, map, ◌≡◌, refl, ltb, leb, eqb, length, get_or, take, drop}
use Rattle.std.proofs.Math.Bool.{and-true, and-false, or-false, and_assoc, and_comm, or_assoc}
use Rattle.std.proofs.Common.{sym, ap, ap₂, ◌∙◌, zero-add, add-zero, not-suc-le-zero, arith, leb-true, leb-false, eqb-true, eq-eqb, ne_eqb, length-append, length-drop, take-append-drop, drop_of_length-le, take-suc, drop-cons}
use Rattle.std.proofs.Math.Path.{fun_ext}
use Rattle.std.proofs.lemmas.Bool.{lt-leb, eqb-false}
use Rattle.std.proofs.Math.Seq.{take-length, drop-length}
use Rattle.definitions.specs.Lists.{filter, total}
use Rattle.definitions.specs.Words.{Word, Letters, letters, words, same}
use Rattle.definitions.specs.Vigemins.{vigemin}
use Rattle.definitions.specs.Shelves.{shelf, antemer, postmer, begins, antemers, postmers}
use Rattle.laws.specs.Tests.{not-or, and_l, and_r, and_i, and-cong, and_none, and_mono, or_mono, test-ext, contrary, same-eq}
use Rattle.laws.specs.Counting.{count, filter-cong, count-cong, count-fixed, count-first}
use Rattle.laws.specs.Walks.{accepts, ways, ways-count, count-accepted}
use Rattle.laws.specs.Orders.{Ranking, OneToOne, ranked, vigemin-exactly}
use Rattle.laws.specs.States.{matches, first, state, next, longest-matches, longest-max, longest-le, matches-first, matches-all, matches-short, state-matches, state-step, state-first, next_le, next-own}
use Rattle.laws.specs.Places.{any_to, any_to-there, any_to-cong, any_to-none, any_to-last, any_to-mono}
use Rattle.laws.specs.Threads.{caught, old_caught, new_caught, bad, run, threads-new}
use Rattle.laws.specs.Acceptors.{below_hit, no_hit, postmer-threads, antemer-threads, holds-threads}

-- ---- beginnings

module _ {S : Type 0} (step : S → ℕ → S) where
  -- the state after the letters of u
  abbrev pub after : S → Word → S
  after s [] = s
  after s (b ∷ u) = after (step s b) u

  -- whether the letters of u are allowed one after the other, with n letters to follow
  abbrev pub through : (S → ℕ → ℕ → Bool) → S → Word → ℕ → Bool
  through ok s [] n = true
  through ok s (b ∷ u) n = ok s (length u + n) b && through ok (step s b) u n

  -- one letter more is allowed from the state after the others
  pub through-last : (ok : S → ℕ → ℕ → Bool) (s : S) (u : Word) (b n : ℕ) → through ok s (u ++ (b ∷ [])) n ≡ (through ok s u (suc n) && ok (after s u) n b)
  through-last ok s [] b n = and-true (ok s (zero + n) b) ∙ ap (λ (i : ℕ). ok s i b) (zero-add n)
  through-last ok s (a ∷ u) b n =
      ap₂ (λ (i : ℕ) (t : Bool). ok s i a && t) (let e : length (u ++ (b ∷ [])) ≡ length u + 1 = length-append u (b ∷ []) in omega arith) (through-last ok (step s a) u b n)
      ∙ sym (and_assoc (ok s (length u + suc n) a) (through ok (step s a) u (suc n)) (ok (after (step s a) u) n b))

module _ {S : Type 0} (ok : S → ℕ → ℕ → Bool) (step : S → ℕ → S) (end : S → Bool) where
  -- a word is accepted where its beginning is allowed and the rest is accepted from the state after it
  pub accepts-append : (s : S) (u z : Word) → accepts ok step end s (u ++ z) ≡ (through step ok s u (length z) && accepts ok step end (after step s u) z)
  accepts-append s [] z = refl
  accepts-append s (b ∷ u) z =
      ap₂ (λ (n : ℕ) (t : Bool). ok s n b && t) (length-append u z) (accepts-append (step s b) u z)
      ∙ sym (and_assoc (ok s (length u + length z) b) (through step ok (step s b) u (length z)) (accepts ok step end (after step (step s b) u) z))

  -- the accepted words that begin with u and go on by a test: those that follow the state after u, where u itself is allowed
  pub count-begun-by : (d : Word → Bool) (s : S) (u : Word) (n : ℕ) → Letters u
      → count (λ z. same (take (length u) z) u && (accepts ok step end s z && d (drop (length u) z))) (length u + n)
      ≡ cond (through step ok s u n) (count (λ v. accepts ok step end (after step s u) v && d v) n) 0
  count-begun-by d s u n h =
      count-cong _ (λ z. same (take (length u) z) u && rest (drop (length u) z)) (length u + n) (λ z k. and-cong (same (take (length u) z) u) _ _ (begun z))
      ∙ count-first u rest n h
      ∙ count-cong rest (λ v. through step ok s u n && (accepts ok step end (after step s u) v && d v)) n
      (λ v k. and_assoc (through step ok s u (length v)) (accepts ok step end (after step s u) v) (d v)
      ∙ ap (λ (i : ℕ). through step ok s u i && (accepts ok step end (after step s u) v && d v)) k.0)
      ∙ count-fixed (through step ok s u n) (λ v. accepts ok step end (after step s u) v && d v) n
    where
      rest : Word → Bool
      rest v = through step ok s u (length v) && accepts ok step end (after step s u) v && d v

      begun : (z : Word) → same (take (length u) z) u ≡ true → (accepts ok step end s z && d (drop (length u) z)) ≡ rest (drop (length u) z)
      begun z e =
          ap (λ (t : Bool). t && d (drop (length u) z))
          (ap (accepts ok step end s) (sym (take-append-drop (length u) z) ∙ ap (λ (v : Word). v ++ drop (length u) z) (same-eq (take (length u) z) u e))
          ∙ accepts-append s u (drop (length u) z))

  -- the accepted words that begin with u are counted by the table from the state after u, where u itself is allowed
  pub count-begun : (s : S) (u : Word) (n : ℕ) → Letters u
      → count (λ z. same (take (length u) z) u && accepts ok step end s z) (length u + n) ≡ cond (through step ok s u n) (ways ok step end (after step s u) n) 0
  count-begun s u n h =
      count-cong _ _ (length u + n) (λ z k. ap (λ (t : Bool). same (take (length u) z) u && t) (sym (and-true (accepts ok step end s z))))
      ∙ count-begun-by (λ v. true) s u n h
      ∙ ap (λ (c : ℕ). cond (through step ok s u n) c 0)
      (count-cong _ (accepts ok step end (after step s u)) n (λ v k. and-true (accepts ok step end (after step s u) v)) ∙ sym (ways-count ok step end (after step s u) n))

-- w's own letter leads from a state to the next one
pub next-first : (w : Word) (i : ℕ) → i < length w → next w i (get_or w i 0) ≡ suc i
next-first w i h = state-first w (suc i) h

-- j letters of w from state i on lead to state i + j
pub after_first : (w : Word) (i j : ℕ) → i + j ≤ length w → after (next w) i (take j (drop i w)) ≡ i + j
after_first w i zero h = sym (add-zero i)
after_first w i (suc j) h =
    ap (λ (u : Word). after (next w) i (take (suc j) u)) (drop-cons w i 0 (omega arith))
    ∙ ap (λ (s : ℕ). after (next w) s (take j (drop (suc i) w))) (next-first w i (omega arith))
    ∙ after_first w (suc i) j (omega arith)
    ∙ (omega arith)

-- the first i letters of w lead from state 0 to state i
pub after-prefix : (w : Word) (i : ℕ) → i ≤ length w → after (next w) zero (take i w) ≡ i
after-prefix w i h = after_first w zero i (omega arith) ∙ zero-add i

-- ---- threads by states

module _ (w : Word) (hit : ℕ → ℕ → ℕ → Bool) (final : Bool) (t : Word) where
  -- the letter b catches no thread, where n letters and t follow it
  abbrev pub fine : Word → ℕ → ℕ → Bool
  fine past n b = not (bad w hit final past (suc (n + length t)) b)

  -- no thread that began before t is caught in t
  abbrev pub done : Word → Bool
  done past = not (old_caught w hit final past t)

  -- at a state, the letter b catches no thread
  abbrev pub fine_at : ℕ → ℕ → ℕ → Bool
  fine_at i = fine (first w i)

  -- at a state, no thread is caught in t
  abbrev pub done_at : ℕ → Bool
  done_at i = done (first w i)

  bad-state : (past : Word) (r b : ℕ) → bad w hit final past r b ≡ bad w hit final (first w (state w past)) r b
  bad-state past r b =
      ap₂ (λ (x y : Bool). (x && final) || y) (state-matches w past (length w) (omega arith))
      (any_to-cong (length w) (λ l h. ap (λ (x : Bool). x && hit l b r) (state-matches w past l (omega arith))))

  done-state : (past : Word) → done past ≡ done_at (state w past)
  done-state past = ap not (any_to-cong (length w) (λ l h. ap (λ (x : Bool). x && caught w hit final (suc l) (drop (suc l) w) t) (state-matches w past (suc l) h)))

  -- going through y with all threads at once is accepting y from a state
  run-accepts : (past y : Word) → not (run w hit final past y t) ≡ accepts fine_at (next w) done_at (state w past) y
  run-accepts past [] = done-state past
  run-accepts past (b ∷ y) =
      not-or (bad w hit final past (suc (length y + length t)) b) (run w hit final (b ∷ past) y t)
      ∙ ap₂ (λ (x y : Bool). x && y) (ap not (bad-state past (suc (length y + length t)) b))
      (run-accepts (b ∷ past) y ∙ ap (λ (i : ℕ). accepts fine_at (next w) done_at i y) (state-step w b past))

  -- no thread that begins in y is caught exactly if y is accepted from state 0
  pub accepts-threads : (y : Word) → not (new_caught w hit final y t) ≡ accepts fine_at (next w) done_at zero y
  accepts-threads y =
      ap not (threads-new w hit final y t) ∙ run-accepts [] y ∙ ap (λ (i : ℕ). accepts fine_at (next w) done_at i y) (state-first w zero (omega arith))

  -- each letter that was read was fine, with n letters and t to follow
  abbrev pub all_fine : Word → ℕ → Bool
  all_fine [] n = true
  all_fine (b ∷ past) n = fine past n b && all_fine past (suc n)

  -- what was fine beside more letters read is fine beside the first ones of w that they end in
  fine-match : (s : ℕ) (past : Word) (n b : ℕ) → matches w s past ≡ true → fine past n b ≡ true → fine (first w s) n b ≡ true
  fine-match s past n b e f = go (bad w hit final (first w s) (suc (n + length t)) b) refl
    where
      up : (l : ℕ) → matches w l (first w s) ≡ true → matches w l past ≡ true
      up l k = at (leb l s) refl
        where
          at : (d : Bool) → leb l s ≡ d → matches w l past ≡ true
          at true q = matches-first w s past l e (leb-true l s q) ∙ k
          at false q = absurd (contrary (matches w l (first w s)) k (matches-short w s l (leb-false l s q)))

      still : bad w hit final (first w s) (suc (n + length t)) b ≡ true → bad w hit final past (suc (n + length t)) b ≡ true
      still =
          or_mono (matches w (length w) (first w s) && final) (any_to (length w) (λ l. matches w l (first w s) && hit l b (suc (n + length t)))) (matches w (length w) past && final)
          (any_to (length w) (λ l. matches w l past && hit l b (suc (n + length t))))
          (and_mono (matches w (length w) (first w s)) (matches w (length w) past) final (up (length w)))
          (any_to-mono (length w) _ _ (λ l. and_mono (matches w l (first w s)) (matches w l past) (hit l b (suc (n + length t))) (up l)))

      go : (d : Bool) → bad w hit final (first w s) (suc (n + length t)) b ≡ d → not d ≡ true
      go true k = absurd (contrary (fine past n b) f (ap not (still k)))
      go false k = refl

  -- letters that were fine are so as the first ones of w that they end in
  pub all_fine-match : (s : ℕ) (past : Word) (n : ℕ) → matches w s past ≡ true → all_fine past n ≡ true → all_fine (first w s) n ≡ true
  all_fine-match zero past n e f = refl
  all_fine-match (suc s) [] n e f = absurd (contrary false e refl)
  all_fine-match (suc s) (b ∷ past) n e f =
      let k : matches w s past ≡ true = and_r (eqb b (get_or w s 0)) (matches w s past) e in
      and_i (fine (first w s) n (get_or w s 0)) (all_fine (first w s) (suc n))
      (fine-match s past n (get_or w s 0) k
      (ap (fine past n) (sym (eqb-true b (get_or w s 0) (and_l (eqb b (get_or w s 0)) (matches w s past) e))) ∙ and_l (fine past n b) (all_fine past (suc n)) f))
      (all_fine-match s past (suc n) k (and_r (fine past n b) (all_fine past (suc n)) f))

  -- the first i letters of w are allowed one after the other exactly if each was fine
  pub through-fine : (i n : ℕ) → i ≤ length w → through (next w) fine_at zero (take i w) n ≡ all_fine (first w i) n
  through-fine zero n h = refl
  through-fine (suc i) n h =
      ap (λ (u : Word). through (next w) fine_at zero u n) (take-suc w i 0 h)
      ∙ through-last (next w) fine_at zero (take i w) (get_or w i 0) n
      ∙ ap₂ (λ (x : Bool) (s : ℕ). x && fine_at s n (get_or w i 0)) (through-fine i (suc n) (omega arith)) (after-prefix w i (omega arith))
      ∙ and_comm (all_fine (first w i) (suc n)) (fine (first w i) n (get_or w i 0))

-- ---- where no m-mer can exist any more

module _ (ρ : Ranking) (w : Word) (final : Bool) (t : Word) where
  caught-never : (l : ℕ) (u z : Word) → l + length z < length w → length z < length u → caught w (below_hit ρ w) final l u z ≡ false
  caught-never l [] z h k = absurd (not-suc-le-zero k)
  caught-never l (a ∷ u) [] h k = refl
  caught-never l (a ∷ u) (b ∷ z) h k =
      ap₂ (λ (x y : Bool). x && ltb (ρ l b) (ρ l (get_or w l 0)) || (eqb b a && y)) (lt-leb (length w) (l + suc (length z)) h)
      (caught-never (suc l) u z (omega arith) (omega arith))
      ∙ and-false (eqb b a)

  -- a test beside a match fails where the match does, or where the test fails of as many letters as can match
  matched-none : (s : ℕ) (p : ℕ → Bool) (l : ℕ) → (l ≤ s → p l ≡ false) → (matches w l (first w s) && p l) ≡ false
  matched-none s p l h = go (leb l s) refl
    where
      go : (d : Bool) → leb l s ≡ d → (matches w l (first w s) && p l) ≡ false
      go true q = and_none (matches w l (first w s)) (p l) (h (leb-true l s q))
      go false q = ap (λ (x : Bool). x && p l) (matches-short w s l (leb-false l s q))

  fine-free : (s n b : ℕ) → s + suc (n + length t) < length w → fine_at w (below_hit ρ w) final t s n b ≡ true
  fine-free s n b h =
      ap₂ (λ (x y : Bool). not (x && final || y)) (matches-short w s (length w) (omega arith))
      (any_to-none (length w)
      (λ l k. matched-none s (λ i. below_hit ρ w i b (suc (n + length t))) l
      (λ q. ap (λ (x : Bool). x && ltb (ρ l b) (ρ l (get_or w l 0))) (lt-leb (length w) (l + suc (n + length t)) (omega arith)))))

  done-free : (s : ℕ) → s + length t < length w → done_at w (below_hit ρ w) final t s ≡ true
  done-free s h =
      ap not
      (any_to-none (length w)
      (λ l k. matched-none s (λ i. caught w (below_hit ρ w) final i (drop i w) t) (suc l)
      (λ q. caught-never (suc l) (drop (suc l) w) t (omega arith) (let e : length (drop (suc l) w) ≡ length w - suc l = length-drop (suc l) w in omega arith))))

  -- where no m-mer can exist any more, all words complete a state: a power of four
  pub ways-free : (n s : ℕ) → s + n + length t < length w
      → ways (fine_at w (below_hit ρ w) final t) (next w) (done_at w (below_hit ρ w) final t) s n ≡ 4 ^ n
  ways-free zero s h = ap (λ (x : Bool). cond x 1 0) (done-free s (omega arith))
  ways-free (suc n) s h =
      ap (λ (g : ℕ → ℕ). total (map g letters))
      (fun_ext λ b. ap₂ (λ (x : Bool) (c : ℕ). cond x c 0) (fine-free s n b (omega arith))
      (ways-free n (next w s b) (let k : next w s b ≤ suc s = next_le w s b in omega arith)))
      ∙ (omega arith)

-- ---- antemers and postmers

module _ (ρ : Ranking) (w : Word) where
  -- an antemer's letters: no m-mer that begins in y, followed by w, comes out below w or equal to it
  abbrev pub antemer_ok : ℕ → ℕ → ℕ → Bool
  antemer_ok = fine_at w (below_hit ρ w) true w

  -- an antemer's end
  abbrev pub antemer_end : ℕ → Bool
  antemer_end = done_at w (below_hit ρ w) true w

  -- a postmer's letters: no m-mer comes out below w
  abbrev pub postmer_ok : ℕ → ℕ → ℕ → Bool
  postmer_ok = fine_at w (below_hit ρ w) false []

  -- a postmer's end
  abbrev pub postmer_end : ℕ → Bool
  postmer_end = done_at w (below_hit ρ w) false []

  -- the ways to complete state i to an antemer by r letters
  abbrev pub antemer_ways : ℕ → ℕ → ℕ
  antemer_ways = ways antemer_ok (next w) antemer_end

  -- the ways to complete state i to a postmer by r letters
  abbrev pub postmer_ways : ℕ → ℕ → ℕ
  postmer_ways = ways postmer_ok (next w) postmer_end

  -- whether w itself is allowed from the start, with a letters to follow
  abbrev pub word_allowed : ℕ → Bool
  word_allowed a = through (next w) postmer_ok zero w a

  -- the words of a shelf: beside the state, whether w was met before
  abbrev pub shelf_ok : Bool × ℕ → ℕ → ℕ → Bool
  shelf_ok s = postmer_ok s.1

  -- after a letter
  abbrev pub shelf_step : Bool × ℕ → ℕ → Bool × ℕ
  shelf_step s b = (s.0 || eqb s.1 (length w), next w s.1 b)

  -- w was met, or is met at the end
  abbrev pub shelf_end : Bool × ℕ → Bool
  shelf_end s = s.0 || eqb s.1 (length w)

  -- the ways to complete a state to a word of the shelf
  abbrev pub shelf_ways : Bool × ℕ → ℕ → ℕ
  shelf_ways = ways shelf_ok shelf_step shelf_end

module _ (ρ : Ranking) (one : OneToOne ρ) (w : Word) (hw : Letters w) where
  -- a word is an antemer exactly if it is accepted from state 0
  pub antemer-accepted : (y : Word) → Letters y → antemer (ranked ρ) w y ≡ accepts (antemer_ok ρ w) (next w) (antemer_end ρ w) zero y
  antemer-accepted y h = antemer-threads ρ one w hw y h ∙ accepts-threads w (below_hit ρ w) true w y

  -- a word is a postmer exactly if it is accepted from state 0
  pub postmer-accepted : (z : Word) → 0 < length w → Letters z → postmer (ranked ρ) w z ≡ accepts (postmer_ok ρ w) (next w) (postmer_end ρ w) zero z
  postmer-accepted z m h = postmer-threads ρ one w hw z m h ∙ accepts-threads w (below_hit ρ w) false [] z

  -- the antemers are counted by the table
  pub antemers-table : (a : ℕ) → antemers (ranked ρ) w a ≡ antemer_ways ρ w zero a
  antemers-table a = count-accepted (antemer_ok ρ w) (next w) (antemer_end ρ w) (antemer (ranked ρ) w) zero a antemer-accepted

  -- all postmers of length n are counted by the table
  pub postmers-all-table : 0 < length w → (n : ℕ) → count (postmer (ranked ρ) w) n ≡ postmer_ways ρ w zero n
  postmers-all-table m n = count-accepted (postmer_ok ρ w) (next w) (postmer_end ρ w) (postmer (ranked ρ) w) zero n (λ z h. postmer-accepted z m h)

  -- the postmers that begin with w are counted by the table from state m, where w itself is allowed
  pub postmers-table : 0 < length w → (a : ℕ) → postmers (ranked ρ) w a ≡ cond (word_allowed ρ w a) (postmer_ways ρ w (length w) a) 0
  postmers-table m a =
      count-cong (λ z. begins w z && postmer (ranked ρ) w z) _ (length w + a) (λ z h. ap (λ (t : Bool). begins w z && t) (postmer-accepted z m h.1))
      ∙ count-begun (postmer_ok ρ w) (next w) (postmer_end ρ w) zero w a hw
      ∙ ap (λ (i : ℕ). cond (word_allowed ρ w a) (postmer_ways ρ w i a) 0)
      (ap (after (next w) zero) (sym (take-length w)) ∙ after-prefix w (length w) (omega arith))

-- ---- the words of a shelf

-- where no letter is left, only a thread at its end is caught
old-none : (w : Word) (hit : ℕ → ℕ → ℕ → Bool) (final : Bool) (past : Word) → 0 < length w → old_caught w hit final past [] ≡ (matches w (length w) past && final)
old-none w hit final past h = go (length w) refl h
  where
    at : ℕ → Bool
    at l = matches w (suc l) past && caught w hit final (suc l) (drop (suc l) w) []

    go : (n : ℕ) → length w ≡ n → 0 < n → any_to n at ≡ (matches w n past && final)
    go zero e k = absurd (not-suc-le-zero k)
    go (suc n) e k =
        any_to-last n at
        ∙ ap₂ (λ (x y : Bool). x || y)
        (any_to-none n (λ l j. ap (λ (u : Word). matches w (suc l) past && caught w hit final (suc l) u []) (drop-cons w (suc l) 0 (omega arith)) ∙ and-false (matches w (suc l) past)))
        (ap (λ (u : Word). matches w (suc n) past && caught w hit final (suc n) u []) (ap (λ (i : ℕ). drop i w) (sym e) ∙ drop-length w))

-- state m is a match with the whole of w
pub state-full : (w past : Word) → matches w (length w) past ≡ eqb (state w past) (length w)
state-full w past =
    test-ext (matches w (length w) past) (eqb (state w past) (length w))
    (λ e. eq-eqb (state w past) (length w) (omega (arith, longest-max w (length w) past (length w) (omega arith) e, longest-le w (length w) past)))
    (λ e. ap (λ (i : ℕ). matches w i past) (sym (eqb-true (state w past) (length w) e)) ∙ longest-matches w (length w) past)

bad-no_hit : (w past : Word) (r b : ℕ) → bad w no_hit true past r b ≡ matches w (length w) past
bad-no_hit w past r b =
    ap₂ (λ (x y : Bool). x || y) (and-true (matches w (length w) past))
    (any_to-none (length w) (λ l h. and-false (matches w l past)))
    ∙ or-false (matches w (length w) past)

-- where no letter is left, a postmer is one
pub postmer-end : (ρ : Ranking) (w : Word) → 0 < length w → (i : ℕ) → postmer_end ρ w i ≡ true
postmer-end ρ w m i = ap not (old-none w (below_hit ρ w) false (first w i) m ∙ and-false (matches w (length w) (first w i)))

module _ (ρ : Ranking) (w : Word) (m : 0 < length w) where
  shelf-run : (h : Bool) (past y : Word)
      → accepts (shelf_ok ρ w) (shelf_step ρ w) (shelf_end ρ w) (h, state w past) y
      ≡ (accepts (postmer_ok ρ w) (next w) (postmer_end ρ w) (state w past) y && (h || run w no_hit true past y []))
  shelf-run h past [] =
      sym (ap₂ (λ (x y : Bool). x && (h || y)) (postmer-end ρ w m (state w past))
      (old-none w no_hit true past m ∙ and-true (matches w (length w) past) ∙ state-full w past))
  shelf-run h past (b ∷ y) =
      ap (λ (t : Bool). postmer_ok ρ w (state w past) (length y) b && t)
      (ap₂ (λ (g : Bool) (i : ℕ). accepts (shelf_ok ρ w) (shelf_step ρ w) (shelf_end ρ w) (h || g, i) y) (sym (state-full w past)) (sym (state-step w b past))
      ∙ shelf-run (h || matches w (length w) past) (b ∷ past) y)
      ∙ sym (and_assoc (postmer_ok ρ w (state w past) (length y) b) (accepts (postmer_ok ρ w) (next w) (postmer_end ρ w) (state w (b ∷ past)) y)
      (h || matches w (length w) past || run w no_hit true (b ∷ past) y []))
      ∙ ap₂ (λ (i : ℕ) (t : Bool). postmer_ok ρ w (state w past) (length y) b && accepts (postmer_ok ρ w) (next w) (postmer_end ρ w) i y && t)
      (state-step w b past)
      (or_assoc h (matches w (length w) past) (run w no_hit true (b ∷ past) y [])
      ∙ ap (λ (t : Bool). h || (t || run w no_hit true (b ∷ past) y [])) (sym (bad-no_hit w past (suc (length y + 0)) b)))

module _ (ρ : Ranking) (one : OneToOne ρ) (w : Word) (hw : Letters w) (m : 0 < length w) where
  -- a word is on the shelf exactly if it is accepted
  pub shelf-accepted : (x : Word) → Letters x → same (vigemin (ranked ρ) (length w) x) w ≡ accepts (shelf_ok ρ w) (shelf_step ρ w) (shelf_end ρ w) (false, zero) x
  shelf-accepted x h =
      vigemin-exactly ρ one w hw m x h
      ∙ ap₂ (λ (s t : Bool). s && t) (postmer-accepted ρ one w hw x m h) (holds-threads w x m ∙ threads-new w no_hit true x [])
      ∙ ap (λ (i : ℕ). accepts (postmer_ok ρ w) (next w) (postmer_end ρ w) i x && run w no_hit true [] x []) (sym start)
      ∙ sym (shelf-run ρ w m false [] x)
      ∙ ap (λ (i : ℕ). accepts (shelf_ok ρ w) (shelf_step ρ w) (shelf_end ρ w) (false, i) x) start
    where
      start : state w [] ≡ zero
      start = state-first w zero (omega arith)

  -- the shelf is what the table walks through
  pub shelf-table : (k : ℕ) → shelf (ranked ρ) k w ≡ filter (accepts (shelf_ok ρ w) (shelf_step ρ w) (shelf_end ρ w) (false, zero)) (words k)
  shelf-table k = filter-cong _ _ k (λ x h. shelf-accepted x h.1)

module _ (ρ : Ranking) (w : Word) where
  -- at state m the word is met
  pub shelf-full : (h : Bool) (i : ℕ) (z : Word) → i ≡ length w
      → accepts (shelf_ok ρ w) (shelf_step ρ w) (shelf_end ρ w) (h, i) z ≡ accepts (shelf_ok ρ w) (shelf_step ρ w) (shelf_end ρ w) (true, i) z
  shelf-full true i z e = refl
  shelf-full false i [] e = eq-eqb i (length w) e
  shelf-full false i (b ∷ z) e =
      ap (λ (t : Bool). postmer_ok ρ w i (length z) b && accepts (shelf_ok ρ w) (shelf_step ρ w) (shelf_end ρ w) (t, next w i b) z) (eq-eqb i (length w) e)

  -- fewer letters than the rest of w do not meet it
  pub shelf-short : (i : ℕ) (z : Word) → i + length z < length w → accepts (shelf_ok ρ w) (shelf_step ρ w) (shelf_end ρ w) (false, i) z ≡ false
  shelf-short i [] h = ne_eqb i (length w) (λ e. omega arith)
  shelf-short i (b ∷ z) h =
      and_none (postmer_ok ρ w i (length z) b) (accepts (shelf_ok ρ w) (shelf_step ρ w) (shelf_end ρ w) (eqb i (length w), next w i b) z)
      (ap (λ (t : Bool). accepts (shelf_ok ρ w) (shelf_step ρ w) (shelf_end ρ w) (t, next w i b) z) (ne_eqb i (length w) (λ e. omega arith))
      ∙ shelf-short (next w i b) z (omega (arith, next_le w i b)))

  -- of just as many letters, the rest of w alone meets it
  pub shelf-rest : (i : ℕ) (z : Word) → i + length z ≡ length w → accepts (shelf_ok ρ w) (shelf_step ρ w) (shelf_end ρ w) (false, i) z ≡ true → z ≡ drop i w
  shelf-rest i [] h e = sym (drop_of_length-le w {i = i} (omega arith))
  shelf-rest i (b ∷ z) h e =
      go (eqb (next w i b) (suc i)) refl
      (ap (λ (t : Bool). accepts (shelf_ok ρ w) (shelf_step ρ w) (shelf_end ρ w) (t, next w i b) z) (sym (ne_eqb i (length w) (λ q. omega arith)))
      ∙ and_r (postmer_ok ρ w i (length z) b) (accepts (shelf_ok ρ w) (shelf_step ρ w) (shelf_end ρ w) (eqb i (length w), next w i b) z) e)
      (shelf-rest (next w i b) z)
    where
      go : (t : Bool) → eqb (next w i b) (suc i) ≡ t → accepts (shelf_ok ρ w) (shelf_step ρ w) (shelf_end ρ w) (false, next w i b) z ≡ true
          → (next w i b + length z ≡ length w → accepts (shelf_ok ρ w) (shelf_step ρ w) (shelf_end ρ w) (false, next w i b) z ≡ true → z ≡ drop (next w i b) w)
          → b ∷ z ≡ drop i w
      go true q a rec =
          let up : next w i b ≡ suc i = eqb-true (next w i b) (suc i) q in
          ap₂ (λ (x : ℕ) (y : Word). x ∷ y) (next-own w i b up) (rec (omega arith) a ∙ ap (λ (j : ℕ). drop j w) up)
          ∙ sym (drop-cons w i 0 (omega arith))
      go false q a rec =
          absurd (contrary (accepts (shelf_ok ρ w) (shelf_step ρ w) (shelf_end ρ w) (false, next w i b) z) a
          (shelf-short (next w i b) z (omega (arith, next_le w i b, eqb-false (next w i b) (suc i) q))))

-- once w was met, the ways to go on are those of a postmer
pub ways-met : (ρ : Ranking) (w : Word) → 0 < length w → (i n : ℕ) → shelf_ways ρ w (true, i) n ≡ postmer_ways ρ w i n
ways-met ρ w pos i zero = ap (λ (t : Bool). cond t 1 0) (sym (postmer-end ρ w pos i))
ways-met ρ w pos i (suc n) =
    ap (λ (g : ℕ → ℕ). total (map g letters)) (fun_ext (λ b. ap (λ (c : ℕ). cond (postmer_ok ρ w i n b) c 0) (ways-met ρ w pos (next w i b) n)))

-- an antemer does not hold w: from state m there is no way on
pub antemer-stop : (ρ : Ranking) (w : Word) → 0 < length w → (n : ℕ) → antemer_ways ρ w (length w) n ≡ 0
antemer-stop ρ w pos zero =
    ap (λ (t : Bool). cond (not t) 1 0)
    (any_to-there (length w) (λ l. ended (suc l)) (length w - 1) (omega arith) (ap ended (let e : suc (length w - 1) ≡ length w = omega arith in e) ∙ at-end))
  where
    ended : ℕ → Bool
    ended l = matches w l (first w (length w)) && caught w (below_hit ρ w) true l (drop l w) w

    at-end : ended (length w) ≡ true
    at-end = ap₂ (λ (t : Bool) (u : Word). t && caught w (below_hit ρ w) true (length w) u w) (matches-all w (length w)) (drop-length w)
antemer-stop ρ w pos (suc n) = ap (λ (g : ℕ → Bool). total (map (λ b. cond (g b) (antemer_ways ρ w (next w (length w) b) n) 0) letters)) (fun_ext none-on)
  where
    none-on : (b : ℕ) → antemer_ok ρ w (length w) n b ≡ false
    none-on b =
        ap (λ (t : Bool). not (t && true || any_to (length w) (λ l. matches w l (first w (length w)) && below_hit ρ w l b (suc (n + length w))))) (matches-all w (length w))
