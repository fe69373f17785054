-- Walks: any acceptor that steps by states is counted by a table over the state and the letters left, and its r-th word, the place
-- of a word and the next word are found by walking with the table.
-- Assumes nothing.
use Rattle.std.specs.Prelude.{ℕ, zero, suc, ◌+◌, ◌-◌, ◌^◌, ◌≤◌, ◌<◌, Bool, true, false, cond, ◌&&◌, List, [], ◌∷◌, ◌++◌, map, ◌≡◌, refl, ltb, length, get_or, take, drop}
use Rattle.std.proofs.Math.Option.{Option, none, some}
use Rattle.std.proofs.Common.{sym, ap, ap₂, ◌∙◌, zero-add, arith, ltb-true, ltb-false, lt-ltb, le-ltb, get_or-append-add}
use Rattle.std.proofs.Math.Path.{subst⁻¹, fun_ext}
use Rattle.std.proofs.Math.Nat.{add-sub_cancel_left}
use Rattle.std.proofs.lemmas.List.{length-map}
use Rattle.std.proofs.Math.ListN.{get_or-append}
use Rattle.std.proofs.Math.Seq.{split_at}
use Rattle.definitions.specs.Lists.{put, filter, total}
use Rattle.definitions.specs.Words.{Word, Letters, Mer, letters, words}
use Rattle.laws.specs.Filters.{joined, at_map, filter-fixed, length-cond, length-begun, filter-split}
use Rattle.laws.specs.Numbers.{letters-at}
use Rattle.laws.specs.Counting.{count, count-cong, count-le, filter-cong}
use Rattle.laws.specs.Tests.{and_l, and_r, and_i, leb-cong}

-- ---- tests over all words

length-put : (t : Bool) → cond t 1 0 ≡ length (put {A = Word} t [] [])
length-put true = refl
length-put false = refl

get_or-put : (t : Bool) (r : ℕ) → get_or (put {A = Word} t [] []) r [] ≡ []
get_or-put true zero = refl
get_or-put true (suc r) = refl
get_or-put false r = refl

-- a place below a count that stands behind a test: the test holds
pub below-cond : (t : Bool) (n r : ℕ) → r < cond t n 0 → (t ≡ true) × (r < n)
below-cond true n r h = (refl, h)
below-cond false n r h = absurd (omega arith)

-- ---- choosing a letter by counts

-- the letter under which place r falls where letter a has c a places, the letters in order, and then what f gives for the letter and the place left
abbrev pub choose : (ℕ → ℕ) → (ℕ → ℕ → Word) → List ℕ → ℕ → Word
choose c f [] r = []
choose c f (a ∷ ls) r = cond (ltb r (c a)) (a ∷ f a r) (choose c f ls (r - c a))

-- the places of the letters before a letter
abbrev pub passed : (ℕ → ℕ) → ℕ → ℕ
passed c a = total (map c (take a letters))

-- the letters after a letter
abbrev pub later : ℕ → List ℕ
later a = drop (suc a) letters

-- a word, where a test holds
abbrev pub offer : Bool → Word → Option Word
offer true w = some w
offer false w = none

-- a letter before the next of the rest where there is one, else the first word of the later letters that have places
abbrev pub onwards : (ℕ → ℕ) → (ℕ → ℕ → Word) → List ℕ → ℕ → Option Word → Option Word
onwards c f ls a (some z) = some (a ∷ z)
onwards c f ls a none = offer (ltb 0 (total (map c ls))) (choose c f ls 0)

letters-split : (a : ℕ) → a < 4 → letters ≡ take a letters ++ a ∷ later a
letters-split a h = rw (letters-at h) at (split_at letters a 0 h)

ltb-add : (p u v : ℕ) → ltb (p + u) (p + v) ≡ ltb u v
ltb-add p u v = leb-cong (suc (p + u)) (p + v) (suc u) v (λ h. omega arith) (λ h. omega arith)

module _ (c : ℕ → ℕ) where
  total-append : (us vs : List ℕ) → total (map c (us ++ vs)) ≡ total (map c us) + total (map c vs)
  total-append [] vs = sym (zero-add (total (map c vs)))
  total-append (a ∷ us) vs = omega (arith, total-append us vs)

  -- the ways before a letter, of it, and after it
  total-split : (a : ℕ) → a < 4 → total (map c letters) ≡ passed c a + (c a + total (map c (later a)))
  total-split a h = ap (λ (ls : List ℕ). total (map c ls)) (letters-split a h) ∙ total-append (take a letters) (a ∷ later a)

  -- r falls under the entry at a place i, at the place t of that entry
  abbrev Falls : List ℕ → ℕ → Type 0
  Falls ls r = (i : ℕ) × (t : ℕ) × (i < length ls) × (t < c (get_or ls i 0)) × (total (map c (take i ls)) + t ≡ r)

  falls : (ls : List ℕ) (r : ℕ) → r < total (map c ls) → Falls ls r
  falls [] r h = absurd (omega arith)
  falls (a ∷ ls) r h = go (ltb r (c a)) refl (λ l. falls ls (r - c a) l)
    where
      go : (b : Bool) → ltb r (c a) ≡ b → (r - c a < total (map c ls) → Falls ls (r - c a)) → Falls (a ∷ ls) r
      go true e rec = (0, r, omega arith, ltb-true r (c a) e, zero-add r)
      go false e rec =
          let l : c a ≤ r = ltb-false r (c a) e in
          let q = rec (omega arith) in
          (suc q.0, q.1, omega arith, q.3, omega arith)

  falls-letter : (r : ℕ) → r < total (map c letters) → (a : ℕ) × (t : ℕ) × (a < 4) × (t < c a) × (passed c a + t ≡ r)
  falls-letter r h =
      let q = falls letters r h in
      (q.0, q.1, q.2, rw (letters-at q.2) at q.3, q.4)

  module _ (f : ℕ → ℕ → Word) where
    choose-here : (a : ℕ) (ls : List ℕ) (t : ℕ) → t < c a → choose c f (a ∷ ls) t ≡ a ∷ f a t
    choose-here a ls t h = rw (lt-ltb t (c a) h)

    choose-past : (a : ℕ) (ls : List ℕ) (t : ℕ) → choose c f (a ∷ ls) (c a + t) ≡ choose c f ls t
    choose-past a ls t = rw (le-ltb (c a + t) (c a) (omega arith), add-sub_cancel_left)

    choose-append : (us vs : List ℕ) (t : ℕ) → choose c f (us ++ vs) (total (map c us) + t) ≡ choose c f vs t
    choose-append [] vs t = ap (choose c f vs) (zero-add t)
    choose-append (a ∷ us) vs t =
        ap (choose c f (a ∷ us ++ vs)) (omega arith) ∙ choose-past a (us ++ vs) (total (map c us) + t) ∙ choose-append us vs t

    choose-split : (a t : ℕ) → a < 4 → choose c f letters (passed c a + t) ≡ choose c f (a ∷ later a) t
    choose-split a t h =
        ap (λ (ls : List ℕ). choose c f ls (passed c a + t)) (letters-split a h) ∙ choose-append (take a letters) (a ∷ later a) t

    choose-at : (a t : ℕ) → a < 4 → t < c a → choose c f letters (passed c a + t) ≡ a ∷ f a t
    choose-at a t h l = choose-split a t h ∙ choose-here a (later a) t l

    -- the entry at a place of what some letters begin is found by choosing the letter
    get_or-joined : (F : ℕ → List Word) → ((a : ℕ) → length (F a) ≡ c a) → ((a r : ℕ) → r < c a → get_or (F a) r [] ≡ f a r)
        → (ls : List ℕ) (r : ℕ) → get_or (joined (λ a. map (λ (z : Word). a ∷ z) (F a)) ls) r [] ≡ choose c f ls r
    get_or-joined F n h [] r = refl
    get_or-joined F n h (a ∷ ls) r = go (ltb r (c a)) refl (get_or-joined F n h ls (r - c a))
      where
        begun : ℕ → List Word
        begun b = map (λ (z : Word). b ∷ z) (F b)

        size : length (begun a) ≡ c a
        size = length-map (F a) (λ (z : Word). a ∷ z) ∙ n a

        go : (t : Bool) → ltb r (c a) ≡ t → get_or (joined begun ls) (r - c a) [] ≡ choose c f ls (r - c a)
            → get_or (begun a ++ joined begun ls) r [] ≡ cond t (a ∷ f a r) (choose c f ls (r - c a))
        go true e rec =
            let l : r < c a = ltb-true r (c a) e in
            get_or-append (begun a) (joined begun ls) [] r (omega (arith, size)) ∙ at_map (λ (z : Word). a ∷ z) (F a) [] [] r (omega (arith, n a)) ∙ ap (λ (z : Word). a ∷ z) (h a r l)
        go false e rec =
            let l : c a ≤ r = ltb-false r (c a) e in
            ap (λ (i : ℕ). get_or (begun a ++ joined begun ls) i []) (omega (arith, size)) ∙ get_or-append-add (begun a) (joined begun ls) (r - c a) [] ∙ rec

    -- what comes after the place t of a letter, among that letter and the later ones
    onwards-here : (a t : ℕ) (ls : List ℕ) → t < c a
        → onwards c f ls a (offer (ltb (suc t) (c a)) (f a (suc t))) ≡ offer (ltb (suc t) (total (map c (a ∷ ls)))) (choose c f (a ∷ ls) (suc t))
    onwards-here a t ls h = go (ltb (suc t) (c a)) refl
      where
        go : (b : Bool) → ltb (suc t) (c a) ≡ b
            → onwards c f ls a (offer b (f a (suc t))) ≡ offer (ltb (suc t) (total (map c (a ∷ ls)))) (choose c f (a ∷ ls) (suc t))
        go true e =
            let l : suc t < c a = ltb-true (suc t) (c a) e in
            sym (ap₂ offer (lt-ltb (suc t) (total (map c (a ∷ ls))) (omega arith)) (choose-here a ls (suc t) l))
        go false e =
            let l : suc t ≡ c a + 0 = omega (arith, ltb-false (suc t) (c a) e) in
            sym (ap (λ (i : ℕ). offer (ltb i (total (map c (a ∷ ls)))) (choose c f (a ∷ ls) i)) l ∙ ap₂ offer (ltb-add (c a) 0 (total (map c ls))) (choose-past a ls 0))

    -- what comes after the place t of a letter, among all letters
    onwards-all : (a t : ℕ) → a < 4 → t < c a
        → onwards c f (later a) a (offer (ltb (suc t) (c a)) (f a (suc t)))
        ≡ offer (ltb (passed c a + suc t) (total (map c letters))) (choose c f letters (passed c a + suc t))
    onwards-all a t h l =
        onwards-here a t (later a) l
        ∙ sym (ap₂ offer (ap (ltb (passed c a + suc t)) (total-split a h) ∙ ltb-add (passed c a) (suc t) (total (map c (a ∷ later a)))) (choose-split a (suc t) h))

-- ---- the acceptor and its table

module _ {S : Type 0} (ok : S → ℕ → ℕ → Bool) (step : S → ℕ → S) (end : S → Bool) where
  -- whether a word is accepted from a state
  abbrev pub accepts : S → Word → Bool
  accepts s [] = end s
  accepts s (a ∷ z) = ok s (length z) a && accepts (step s a) z

  -- the table: how many words of n letters are accepted from a state
  abbrev pub ways : S → ℕ → ℕ
  ways s zero = cond (end s) 1 0
  ways s (suc n) = total (map (λ a. cond (ok s n a) (ways (step s a) n) 0) letters)

  -- how many words of n + 1 letters that a letter begins are accepted from a state
  abbrev pub branch : S → ℕ → ℕ → ℕ
  branch s n a = cond (ok s n a) (ways (step s a) n) 0

  -- the rest of each accepted word of n + 1 letters that a letter begins
  abbrev pub rest : S → ℕ → ℕ → List Word
  rest s n a = cond (ok s n a) (filter (accepts (step s a)) (words n)) []

  -- the accepted words split by their first letter
  pub accepts-split : (s : S) (n : ℕ) → filter (accepts s) (words (suc n)) ≡ joined (λ a. map (λ (z : Word). a ∷ z) (rest s n a)) letters
  accepts-split s n =
      filter-split (accepts s) n ∙ ap (λ (F : ℕ → List Word). joined (λ a. map (λ (z : Word). a ∷ z) (F a)) letters) (fun_ext (λ a. one a))
    where
      one : (a : ℕ) → filter (λ z. accepts s (a ∷ z)) (words n) ≡ rest s n a
      one a =
          filter-cong (λ z. accepts s (a ∷ z)) (λ z. ok s n a && accepts (step s a) z) n (λ z m. ap (λ (i : ℕ). ok s i a && accepts (step s a) z) m.0)
          ∙ filter-fixed (ok s n a) (accepts (step s a)) (words n)

  -- there are as many as the table has
  pub rest-count : (s : S) (n a : ℕ) → ways (step s a) n ≡ length (filter (accepts (step s a)) (words n)) → length (rest s n a) ≡ branch s n a
  rest-count s n a h = length-cond (ok s n a) (filter (accepts (step s a)) (words n)) ∙ ap (λ (k : ℕ). cond (ok s n a) k 0) (sym h)

  -- the table counts the accepted words
  pub ways-count : (s : S) (n : ℕ) → ways s n ≡ length (filter (accepts s) (words n))
  ways-count s zero = length-put (end s)
  ways-count s (suc n) =
      sym (ap length (accepts-split s n) ∙ length-begun (rest s n) letters ∙ ap (λ (c : ℕ → ℕ). total (map c letters)) (fun_ext (λ a. rest-count s n a (ways-count (step s a) n))))

  -- and is at most 4 ^ n
  pub ways-le : (s : S) (n : ℕ) → ways s n ≤ 4 ^ n
  ways-le s n = rw (ways-count s n) (count-le (accepts s) n)

  -- a test that agrees with the acceptor counts what the table does
  pub count-accepted : (p : Word → Bool) (s : S) (n : ℕ) → ((y : Word) → Letters y → p y ≡ accepts s y) → count p n ≡ ways s n
  count-accepted p s n h = count-cong p (accepts s) n (λ y k. h y k.1) ∙ sym (ways-count s n)

  -- the accepted word of n letters at a place
  abbrev pub word_at : S → ℕ → ℕ → Word
  word_at s zero r = []
  word_at s (suc n) r = choose (branch s n) (λ a. word_at (step s a) n) letters r

  -- what the walk finds behind a first letter
  abbrev pub word_behind : S → ℕ → ℕ → ℕ → Word
  word_behind s n a = word_at (step s a) n

  -- the place of a word of n letters: the ways of the letters passed over, and the place of the rest
  abbrev pub place_from : S → ℕ → Word → ℕ
  place_from s zero x = 0
  place_from s (suc n) [] = 0
  place_from s (suc n) (a ∷ z) = passed (branch s n) a + place_from (step s a) n z

  -- the next accepted word after one of n letters, if there is one
  abbrev pub next_at : S → ℕ → Word → Option Word
  next_at s zero x = none
  next_at s (suc n) [] = none
  next_at s (suc n) (a ∷ z) = onwards (branch s n) (word_behind s n) (later a) a (next_at (step s a) n z)

  -- the walk finds the r-th accepted word
  pub word-at : (s : S) (n r : ℕ) → get_or (filter (accepts s) (words n)) r [] ≡ word_at s n r
  word-at s zero r = get_or-put (end s) r
  word-at s (suc n) r =
      ap (λ (l : List Word). get_or l r []) (accepts-split s n)
      ∙ get_or-joined (branch s n) (word_behind s n) (rest s n) (λ a. rest-count s n a (ways-count (step s a) n)) (λ a t l. rw (below-cond (ok s n a) (ways (step s a) n) t l).0 (word-at (step s a) n t)) letters r

  -- the first letter of the word at a place, its ways, and the place of the rest
  word-step : (s : S) (n r : ℕ) → r < ways s (suc n)
      → (a : ℕ) × (t : ℕ) × (a < 4) × (t < branch s n a) × (passed (branch s n) a + t ≡ r) × (word_at s (suc n) r ≡ a ∷ word_at (step s a) n t)
  word-step s n r h =
      let q = falls-letter (branch s n) r h in
      (q.0, q.1, q.2, q.3, q.4, ap (word_at s (suc n)) (sym q.4) ∙ choose-at (branch s n) (word_behind s n) q.0 q.1 q.2 q.3)

  -- x is an accepted word of n letters at place r
  abbrev At : S → ℕ → ℕ → Word → Type 0
  At s n r x = (accepts s x ≡ true) × Mer n x × (place_from s n x ≡ r)

  walked : (s : S) (n r : ℕ) → r < ways s n → At s n r (word_at s n r)
  walked s zero r h = let q = below-cond (end s) 1 r h in (q.0, (refl, tt), omega arith)
  walked s (suc n) r h =
      let q = word-step s n r h in
      let l = below-cond (ok s n q.0) (ways (step s q.0) n) q.1 q.3 in
      let z = walked (step s q.0) n q.1 l.1 in
      subst⁻¹ (At s (suc n) r) q.5 (and_i _ _ (ap (λ (i : ℕ). ok s i q.0) z.1.0 ∙ l.0) z.0, (ap suc z.1.0, (q.2, z.1.1)), omega (arith, z.2, q.4))

  -- the word at a place has that place
  pub place-word : (s : S) (n r : ℕ) → r < ways s n → place_from s n (word_at s n r) ≡ r
  place-word s n r h = (walked s n r h).2

  -- an accepted word has a place below the ways, and is the word at its place
  pub place_at : (s : S) (n : ℕ) (x : Word) → Mer n x → accepts s x ≡ true → (place_from s n x < ways s n) × (word_at s n (place_from s n x) ≡ x)
  place_at s zero [] m e = (rw e (omega arith), refl)
  place_at s zero (a ∷ z) m e = absurd (omega (arith, m.0))
  place_at s (suc n) [] m e = absurd (omega (arith, m.0))
  place_at s (suc n) (a ∷ z) m e =
      let l : length z ≡ n = omega (arith, m.0) in
      let q = place_at (step s a) n z (l, m.1.1) (and_r (ok s (length z) a) (accepts (step s a) z) e) in
      let o : ok s n a ≡ true = ap (λ (i : ℕ). ok s i a) (sym l) ∙ and_l (ok s (length z) a) (accepts (step s a) z) e in
      let b : place_from (step s a) n z < branch s n a = rw o q.0 in (
        omega (arith, total-split (branch s n) a m.1.0),
        choose-at (branch s n) (word_behind s n) a (place_from (step s a) n z) m.1.0 b ∙ ap (λ (y : Word). a ∷ y) q.1,
      )

  next-offer : (s : S) (n r : ℕ) → r < ways s n → next_at s n (word_at s n r) ≡ offer (ltb (suc r) (ways s n)) (word_at s n (suc r))
  next-offer s zero r h = rw ((below-cond (end s) 1 r h).0, le-ltb (suc r) 1 (omega arith))
  next-offer s (suc n) r h =
      let q = word-step s n r h in
      let l = below-cond (ok s n q.0) (ways (step s q.0) n) q.1 q.3 in
      let b : ways (step s q.0) n ≡ branch s n q.0 = rw l.0 in
      ap (next_at s (suc n)) q.5
      ∙ ap (onwards (branch s n) (word_behind s n) (later q.0) q.0) (next-offer (step s q.0) n q.1 l.1 ∙ ap (λ (k : ℕ). offer (ltb (suc q.1) k) (word_at (step s q.0) n (suc q.1))) b)
      ∙ onwards-all (branch s n) (word_behind s n) q.0 q.1 q.2 q.3
      ∙ ap (λ (i : ℕ). offer (ltb i (ways s (suc n))) (word_at s (suc n) i)) (omega (arith, q.4))

  -- after the word at a place comes the word at the next place
  pub next-at : (s : S) (n r : ℕ) → suc r < ways s n → next_at s n (word_at s n r) ≡ some (word_at s n (suc r))
  next-at s n r h = next-offer s n r (omega arith) ∙ ap (λ (t : Bool). offer t (word_at s n (suc r))) (lt-ltb (suc r) (ways s n) h)

  -- after the last word comes none
  pub next-none : (s : S) (n r : ℕ) → suc r ≡ ways s n → next_at s n (word_at s n r) ≡ none
  next-none s n r h = next-offer s n r (omega arith) ∙ ap (λ (t : Bool). offer t (word_at s n (suc r))) (le-ltb (suc r) (ways s n) (omega arith))

-- ---- any test

-- every letter is allowed
abbrev pub freely : (Word → Bool) → ℕ → ℕ → Bool
freely p n a = true

-- the test of what follows a letter
abbrev pub behind : (Word → Bool) → ℕ → Word → Bool
behind p a z = p (a ∷ z)

-- the test of the empty word
abbrev pub ended : (Word → Bool) → Bool
ended p = p []

-- the acceptor whose states are tests accepts what the test does
pub accepts-test : (p : Word → Bool) (x : Word) → accepts freely behind ended p x ≡ p x
accepts-test p [] = refl
accepts-test p (a ∷ z) = accepts-test (behind p a) z

filter-test : (p : Word → Bool) (n : ℕ) → filter (accepts freely behind ended p) (words n) ≡ filter p (words n)
filter-test p n = ap (λ (q : Word → Bool). filter q (words n)) (fun_ext (accepts-test p))

-- the table of a test counts the words that pass
pub filter-ways : (p : Word → Bool) (n : ℕ) → ways freely behind ended p n ≡ length (filter p (words n))
filter-ways p n = ways-count freely behind ended p n ∙ ap length (filter-test p n)

-- the r-th word that passes a test: the letter under whose count r falls, and behind it the word at the place that is left
pub filter-letter : (p : Word → Bool) (n r : ℕ)
    → get_or (filter p (words (suc n))) r [] ≡ choose (λ a. count (behind p a) n) (λ a t. get_or (filter (behind p a) (words n)) t []) letters r
filter-letter p n r =
    ap (λ (l : List Word). get_or l r []) (filter-split p n)
    ∙ get_or-joined (λ a. count (behind p a) n) (λ a t. get_or (filter (behind p a) (words n)) t []) (λ a. filter (behind p a) (words n)) (λ a. refl) (λ a t h. refl) letters r

-- the r-th word that passes a test is found letter by letter from the counts
pub filter-word : (p : Word → Bool) (n r : ℕ) → get_or (filter p (words n)) r [] ≡ word_at freely behind ended p n r
filter-word p n r = ap (λ (l : List Word). get_or l r []) (sym (filter-test p n)) ∙ word-at freely behind ended p n r

-- the place of a word that passes a test is found letter by letter from the counts
pub filter-place : (p : Word → Bool) (n : ℕ) (x : Word) → Mer n x → p x ≡ true
    → (place_from freely behind ended p n x < length (filter p (words n))) × (get_or (filter p (words n)) (place_from freely behind ended p n x) [] ≡ x)
filter-place p n x m e =
    let q = place_at freely behind ended p n x m (accepts-test p x ∙ e) in
    (omega (arith, q.0, filter-ways p n), filter-word p n _ ∙ q.1)

-- the r-th word that passes a test has place r
pub place-filter : (p : Word → Bool) (n r : ℕ) → r < length (filter p (words n)) → place_from freely behind ended p n (get_or (filter p (words n)) r []) ≡ r
place-filter p n r h = ap (place_from freely behind ended p n) (filter-word p n r) ∙ place-word freely behind ended p n r (omega (arith, filter-ways p n))
