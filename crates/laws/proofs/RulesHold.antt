-- Document 01's rule by shared prefix holds: what R says of the states of w, which letters may follow a shared prefix, what the shared
-- letters ban, and that T leads to the next state.
-- Assumes nothing.
use Rattle.std.specs.Prelude.{ℕ, zero, suc, ◌+◌, ◌-◌, ◌*◌, ◌≤◌, ◌<◌, Bool, true, false, cond, not, ◌&&◌, ◌||◌, [], ◌∷◌, ◌++◌, map, ◌≡◌, refl, ltb, leb, eqb, length, get_or, take, drop}
use Rattle.std.proofs.Math.Bool.{and-true, and-false, or-false, and_assoc, and_comm, not-not}
use Rattle.std.proofs.Common.{sym, ap, ap₂, ◌∙◌, zero-add, add-zero, suc-add, add-suc, not-suc-le-zero, arith, ltb-true, ltb-false, le-ltb, leb-true, leb-false, le-leb, eqb-true, eq-eqb, length-drop, drop_of_length-le, take-suc, length-take-le}
use Rattle.std.proofs.Math.Nat.{suc_inj}
use Rattle.std.proofs.lemmas.Bool.{lt-leb, not-true}
use Rattle.std.proofs.lemmas.List.{drop-append-le}
use Rattle.definitions.specs.Lists.{total}
use Rattle.definitions.specs.Words.{Word, Letters, letters, val, same}
use Rattle.definitions.specs.Vigemins.{value}
use Rattle.laws.specs.Tests.{not-or, and-left-comm, and_l, and_r, and_i, and-cong, test-ext, leb-cong, contrary, same-eq, eq-same}
use Rattle.laws.specs.Places.{any_to, any_to-cong, any_to-last, any_to-there, any_to-down, any_to-stop, first_to, first_to-le, first_to-is, first_to-none, first_to-holds, first_to-before}
use Rattle.laws.specs.Numbers.{high-at_most, number_append, letters-take, letters-drop, letter-lt}
use Rattle.laws.specs.Counting.{map-agree, letters-lt}
use Rattle.laws.specs.Orders.{Ranking, OneToOne, ranked, ranked_from, rank_same, value-one, above-neither}
use Rattle.laws.specs.States.{matches, first, next, matches-all, matches-short, matches-long, longest-matches, longest-le, longest-is}
use Rattle.laws.specs.Threads.{bad}
use Rattle.laws.specs.Acceptors.{below_hit}
use Rattle.laws.specs.Walks.{accepts, ways}
use Rattle.laws.specs.Tables.{fine, fine_at, done_at, all_fine, all_fine-match, through-fine, ways-free, through}
use Rattle.laws.specs.Prefixes.{goes_on, goes_on-at, sharing, sharing_from, completions, prefix-rule}
use Rattle.laws.specs.Rules.{Sign, less, equal, greater, sign, is_less, is_equal, own, R, Σ, banned, restrained, T, by_prefix, exists}

-- ---- R by states

sign-less : (x y : ℕ) → is_less (sign x y) ≡ ltb x y
sign-less x y = go (ltb x y) (eqb x y)
  where
    go : (s t : Bool) → is_less (cond s less (cond t equal greater)) ≡ s
    go true t = refl
    go false true = refl
    go false false = refl

-- the sign is equal exactly if the numbers are
pub sign-equal : (x y : ℕ) → is_equal (sign x y) ≡ eqb x y
sign-equal x y = go (ltb x y) (eqb x y) refl refl
  where
    go : (s t : Bool) → ltb x y ≡ s → eqb x y ≡ t → is_equal (cond s less (cond t equal greater)) ≡ t
    go true true p q = absurd (omega (arith, ltb-true x y p, eqb-true x y q))
    go true false p q = refl
    go false true p q = refl
    go false false p q = refl

same-last : (u v : Word) (x y : ℕ) → length u ≡ length v → same (u ++ (x ∷ [])) (v ++ (y ∷ [])) ≡ (same u v && eqb x y)
same-last [] [] x y e = and-true (eqb x y)
same-last [] (b ∷ v) x y e = absurd (omega (arith, e))
same-last (a ∷ u) [] x y e = absurd (omega (arith, e))
same-last (a ∷ u) (b ∷ v) x y e = ap (λ (t : Bool). eqb a b && t) (same-last u v x y (suc_inj e)) ∙ sym (and_assoc (eqb a b) (same u v) (eqb x y))

-- one letter more of a stretch of w
stretch-last : (w : Word) (p i : ℕ) → p ≤ i → i < length w → drop p (take (suc i) w) ≡ drop p (take i w) ++ (get_or w i 0 ∷ [])
stretch-last w p i h k =
    ap (drop p) (take-suc w i 0 k) ∙ drop-append-le p (take i w) (get_or w i 0 ∷ []) (let e : length (take i w) ≡ i = length-take-le i w (omega arith) in omega arith)

length-between : (w : Word) (p l i : ℕ) → p + l ≡ i → i ≤ length w → length (drop p (take i w)) ≡ l
length-between w p l i e h =
    length-drop p (take i w) ∙ ap (λ (n : ℕ). n - p) (length-take-le i w h) ∙ (omega arith)

-- the latest l of the first p + l letters of w are its first l
stretch-matches : (w : Word) (p l : ℕ) → p + l ≤ length w → same (drop p (take (p + l) w)) (take l w) ≡ matches w l (first w (p + l))
stretch-matches w p zero h =
    ap (λ (u : Word). same u []) (drop_of_length-le (take (p + zero) w) {i = p} (let e : length (take (p + zero) w) ≡ p + zero = length-take-le (p + zero) w h in omega arith))
stretch-matches w p (suc l) h =
    ap₂ same
    (ap (λ (n : ℕ). drop p (take n w)) (add-suc p l) ∙ stretch-last w p (p + l) (omega arith) (omega arith)) (take-suc w l 0 (omega arith))
    ∙ same-last (drop p (take (p + l) w)) (take l w) (get_or w (p + l) 0) (get_or w l 0)
    (length-between w p l (p + l) refl (omega arith) ∙ sym (length-take-le l w (omega arith)))
    ∙ ap (λ (t : Bool). t && eqb (get_or w (p + l) 0) (get_or w l 0)) (stretch-matches w p l (omega arith))
    ∙ and_comm (matches w l (first w (p + l))) (eqb (get_or w (p + l) 0) (get_or w l 0))
    ∙ ap (λ (n : ℕ). matches w (suc l) (first w n)) (sym (add-suc p l))

module _ (ρ : Ranking) (one : OneToOne ρ) (w : Word) (hw : Letters w) where
  value_same : (u v : Word) → Letters u → Letters v → length u ≡ length v → eqb (value (ranked ρ) u) (value (ranked ρ) v) ≡ same u v
  value_same u v hu hv e =
      test-ext (eqb (value (ranked ρ) u) (value (ranked ρ) v)) (same u v)
      (λ q. eq-same (value-one ρ one u v hu hv e (eqb-true (value (ranked ρ) u) (value (ranked ρ) v) q)))
      (λ q. eq-eqb (value (ranked ρ) u) (value (ranked ρ) v) (ap (value (ranked ρ)) (same-eq u v q)))

  ranked-last : (p : ℕ) (u : Word) (x : ℕ) → ranked_from ρ p (u ++ (x ∷ [])) ≡ ranked_from ρ p u ++ (ρ (p + length u) x ∷ [])
  ranked-last p [] x = ap (λ (n : ℕ). ρ n x ∷ []) (sym (add-zero p))
  ranked-last p (a ∷ u) x =
      ap (λ (v : Word). ρ p a ∷ v) (ranked-last (suc p) u x ∙ ap (λ (n : ℕ). ranked_from ρ (suc p) u ++ (ρ n x ∷ [])) (suc-add p (length u) ∙ sym (add-suc p (length u))))

  value-last : (u : Word) (x : ℕ) → value (ranked ρ) (u ++ (x ∷ [])) ≡ value (ranked ρ) u * 4 + ρ (length u) x
  value-last u x =
      ap val (ranked-last zero u x ∙ ap (λ (n : ℕ). ranked ρ u ++ (ρ n x ∷ [])) (zero-add (length u)))
      ∙ number_append 4 (ranked ρ u) (ρ (length u) x ∷ []) ∙ (omega arith)

  -- R(i,j) is equal exactly if the latest i−j+1 of the first i letters of w match
  pub equal-matches : (p l i : ℕ) → p + l ≡ i → i ≤ length w → is_equal (R ρ w i (suc p)) ≡ matches w l (first w i)
  equal-matches p l i e h =
      sign-equal (value (ranked ρ) (drop p (take i w))) (value (ranked ρ) (take (length (drop p (take i w))) w))
      ∙ ap (λ (n : ℕ). eqb (value (ranked ρ) (drop p (take i w))) (value (ranked ρ) (take n w))) (length-between w p l i e h)
      ∙ value_same (drop p (take i w)) (take l w) (letters-drop p (take i w) (letters-take i w hw)) (letters-take l w hw)
      (length-between w p l i e h ∙ sym (length-take-le l w (omega arith)))
      ∙ ap (λ (n : ℕ). same (drop p (take n w)) (take l w)) (sym e) ∙ stretch-matches w p l (omega arith) ∙ ap (λ (n : ℕ). matches w l (first w n)) e

  -- R(i+1,j) is below where R(i,j) is, or is equal and the next letter of w ranks below the one it is held against
  pub less-last : (p l i : ℕ) → p + l ≡ i → i < length w
      → is_less (R ρ w (suc i) (suc p)) ≡ (is_less (R ρ w i (suc p)) || (is_equal (R ρ w i (suc p)) && ltb (ρ l (get_or w i 0)) (ρ l (get_or w l 0))))
  less-last p l i e h =
      sign-less (value (ranked ρ) (drop p (take (suc i) w))) (value (ranked ρ) (take (length (drop p (take (suc i) w))) w))
      ∙ ap₂ (λ (u v : Word). ltb (value (ranked ρ) u) (value (ranked ρ) v)) (stretch-last w p i (omega arith) h)
      (ap (λ (n : ℕ). take n w) (length-between w p (suc l) (suc i) (omega arith) h) ∙ take-suc w l 0 (omega arith))
      ∙ ap₂ ltb (value-last S (get_or w i 0)) (value-last (take l w) (get_or w l 0))
      ∙ ap₂ (λ (m n : ℕ). ltb (value (ranked ρ) S * 4 + ρ m (get_or w i 0)) (value (ranked ρ) (take l w) * 4 + ρ n (get_or w l 0))) (length-between w p l i e (omega arith))
      (length-take-le l w (omega arith))
      ∙ high-at_most false 4 (value (ranked ρ) S) (value (ranked ρ) (take l w)) (ρ l (get_or w i 0)) (ρ l (get_or w l 0)) (one.small l (get_or w i 0) (letter-lt w i hw))
      (one.small l (get_or w l 0) (letter-lt w l hw))
      ∙ ap₂ (λ (x y : Bool). x || (y && ltb (ρ l (get_or w i 0)) (ρ l (get_or w l 0)))) (sym (against is_less ltb sign-less)) (sym (against is_equal eqb sign-equal))
    where
      S : Word
      S = drop p (take i w)

      against : (f : Sign → Bool) (g : ℕ → ℕ → Bool) → ((x y : ℕ) → f (sign x y) ≡ g x y) → f (R ρ w i (suc p)) ≡ g (value (ranked ρ) S) (value (ranked ρ) (take l w))
      against f g k =
          k (value (ranked ρ) S) (value (ranked ρ) (take (length S) w))
          ∙ ap (λ (n : ℕ). g (value (ranked ρ) S) (value (ranked ρ) (take n w))) (length-between w p l i e (omega arith))

-- ---- the letter that follows a shared prefix

-- at state i the letter b, with r letters and t behind it, hits the m-mer of which l letters are tied
abbrev hit_at : Ranking → Word → Word → ℕ → ℕ → ℕ → ℕ → Bool
hit_at ρ w t i r b l = matches w l (first w i) && below_hit ρ w l b (suc (r + length t))

module _ (ρ : Ranking) (one : OneToOne ρ) (w : Word) (hw : Letters w) where
  -- at a place of w a letter that is not w's and does not rank below it ranks above it
  rank-above : (l b : ℕ) → l < length w → b < 4 → Σ ρ w (suc l) b ≡ (not (goes_on w l b) && not (ltb (ρ l b) (ρ l (get_or w l 0))))
  rank-above l b h hb =
      ap (λ (t : Bool). t || ltb (ρ l (get_or w l 0)) (ρ l b)) (lt-leb (length w) l h)
      ∙ above-neither (ρ l b) (ρ l (get_or w l 0))
      ∙ ap (λ (t : Bool). not t && not (ltb (ρ l b) (ρ l (get_or w l 0)))) (rank_same ρ one l b (get_or w l 0) hb (letter-lt w l hw) ∙ sym (goes_on-at w l b h))

  -- and one that ranks above w's or is it does not rank below it
  rank-not-below : (l b : ℕ) → l < length w → b < 4 → (Σ ρ w (suc l) b || own w (suc l) b) ≡ not (ltb (ρ l b) (ρ l (get_or w l 0)))
  rank-not-below l b h hb =
      ap (λ (t : Bool). t || goes_on w l b) (rank-above l b h hb) ∙ go (ltb (ρ l b) (ρ l (get_or w l 0))) (goes_on w l b) refl refl
    where
      go : (x y : Bool) → ltb (ρ l b) (ρ l (get_or w l 0)) ≡ x → goes_on w l b ≡ y → (not y && not x || y) ≡ not x
      go true true p q =
          let e : ρ l b ≡ ρ l (get_or w l 0) = ap (ρ l) (eqb-true b (get_or w l 0) (sym (goes_on-at w l b h) ∙ q)) in
          absurd (omega (arith, ltb-true (ρ l b) (ρ l (get_or w l 0)) p))
      go true false p q = refl
      go false true p q = refl
      go false false p q = refl

  tied-matches : (i b q : ℕ) → i ≤ length w → q < i → (is_equal (R ρ w i (suc (suc q))) && own w (i - q) b) ≡ matches w (i - q) (b ∷ first w i)
  tied-matches i b q h k = at (i - suc q) (omega arith) ∙ ap (λ (n : ℕ). matches w n (b ∷ first w i)) (sym up)
    where
      up : i - q ≡ suc (i - suc q)
      up = omega arith

      at : (l : ℕ) → suc q + l ≡ i → (is_equal (R ρ w i (suc (suc q))) && own w (i - q) b) ≡ matches w (suc l) (b ∷ first w i)
      at l e =
          ap₂ (λ (x : Bool) (n : ℕ). x && own w n b) (equal-matches ρ one w hw (suc q) l i e h) (let d : i - q ≡ suc l = omega arith in d)
          ∙ ap (λ (x : Bool). matches w l (first w i) && x) (goes_on-at w l b (omega arith))
          ∙ and_comm (matches w l (first w i)) (eqb b (get_or w l 0))

  -- the state after i letters of w and one that does not go on is i−T+2, where every m-mer counts
  pub next-tied : (i b : ℕ) → i ≤ length w → goes_on w i b ≡ false → next w i b ≡ suc (suc i) - T ρ w (λ j. true) i b
  next-tied i b h off =
      let e : i - start ≡ suc (suc i) - suc (suc start) = omega arith in
      longest-is w (length w) (b ∷ first w i) (i - start) (omega arith) (tie (ltb start i) refl) high ∙ e
    where
      tied : ℕ → Bool
      tied q = is_equal (R ρ w i (suc (suc q))) && own w (i - q) b

      start : ℕ
      start = first_to i tied

      tie : (d : Bool) → ltb start i ≡ d → matches w (i - start) (b ∷ first w i) ≡ true
      tie true p = sym (tied-matches i b start h (ltb-true start i p)) ∙ first_to-holds i tied (ltb-true start i p)
      tie false p = ap (λ (n : ℕ). matches w n (b ∷ first w i)) (let e : i - start ≡ zero = omega (arith, ltb-false start i p) in e)

      later : (l : ℕ) → i ≤ l → l < length w → (d : Bool) → leb l i ≡ d → matches w (suc l) (b ∷ first w i) ≡ false
      later l k m true p =
          let e : l ≡ i = omega (arith, leb-true l i p) in
          ap (λ (x : Bool). x && matches w l (first w i)) (ap (λ (n : ℕ). eqb b (get_or w n 0)) e ∙ sym (goes_on-at w i b (omega arith)) ∙ off)
      later l k m false p = matches-long w i b (suc l) (omega (arith, leb-false l i p))

      earlier : (l : ℕ) → i - start < l → l ≤ i → matches w l (b ∷ first w i) ≡ false
      earlier l k m =
          ap (λ (n : ℕ). matches w n (b ∷ first w i)) (let e : l ≡ i - (i - l) = omega arith in e)
          ∙ sym (tied-matches i b (i - l) h (omega arith)) ∙ first_to-before i tied (i - l) (omega arith)

      high : (l : ℕ) → i - start < l → l ≤ length w → matches w l (b ∷ first w i) ≡ false
      high zero k m = absurd (not-suc-le-zero k)
      high (suc l) k m = go (leb (suc l) i) refl
        where
          go : (d : Bool) → leb (suc l) i ≡ d → matches w (suc l) (b ∷ first w i) ≡ false
          go true p = earlier (suc l) k (leb-true (suc l) i p)
          go false p = later l (omega (arith, leb-false (suc l) i p)) m (leb l i) refl

  module _ (final : Bool) (t : Word) where
    -- at state i the letter b hits the tied m-mers that began after the first place, or the one that began there
    bad-places : (i r b : ℕ) → i ≤ length w → (matches w (length w) (first w i) && final) ≡ false → length w ≤ i + suc (r + length t)
        → bad w (below_hit ρ w) final (first w i) (suc (r + length t)) b
        ≡ (any_to i (hit_at ρ w t i r b) || (ltb i (length w) && ltb (ρ i b) (ρ i (get_or w i 0))))
    bad-places i r b h off long =
        ap (λ (x : Bool). x || any_to (length w) (hit_at ρ w t i r b)) off ∙ go (ltb i (length w)) refl
      where
        past : (l : ℕ) → i < l → hit_at ρ w t i r b l ≡ false
        past l k = ap (λ (x : Bool). x && below_hit ρ w l b (suc (r + length t))) (matches-short w i l k)

        here : hit_at ρ w t i r b i ≡ ltb (ρ i b) (ρ i (get_or w i 0))
        here = ap₂ (λ (x y : Bool). x && (y && ltb (ρ i b) (ρ i (get_or w i 0)))) (matches-all w i) (le-leb (length w) (i + suc (r + length t)) long)

        go : (d : Bool) → ltb i (length w) ≡ d → any_to (length w) (hit_at ρ w t i r b) ≡ (any_to i (hit_at ρ w t i r b) || (d && ltb (ρ i b) (ρ i (get_or w i 0))))
        go true q =
            any_to-stop (suc i) (length w) (hit_at ρ w t i r b) (ltb-true i (length w) q) (λ l k j. past l k)
            ∙ any_to-last i (hit_at ρ w t i r b) ∙ ap (λ (x : Bool). any_to i (hit_at ρ w t i r b) || x) here
        go false q =
            any_to-stop i (length w) (hit_at ρ w t i r b) h (λ l k j. absurd (omega (arith, ltb-false i (length w) q)))
            ∙ sym (or-false (any_to i (hit_at ρ w t i r b)))

    -- the same, by the place j at which each m-mer starts
    hits-starts : (i r b : ℕ) → i ≤ length w → b < 4
        → any_to i (hit_at ρ w t i r b)
        ≡ any_to i (λ q. exists w t (i + suc r) (suc (suc q)) && is_equal (R ρ w i (suc (suc q)))
        && not (Σ ρ w (i - q) b || own w (i - q) b))
    hits-starts i r b h hb = sym (any_to-down i (hit_at ρ w t i r b)) ∙ any_to-cong i each
      where
        at : (q l : ℕ) → suc q + l ≡ i → hit_at ρ w t i r b l
            ≡ (exists w t (i + suc r) (suc (suc q)) && is_equal (R ρ w i (suc (suc q))) && not (Σ ρ w (suc l) b || own w (suc l) b))
        at q l e =
            and-left-comm (matches w l (first w i)) (leb (length w) (l + suc (r + length t))) (ltb (ρ l b) (ρ l (get_or w l 0)))
            ∙ sym (and_assoc (leb (length w) (l + suc (r + length t))) (matches w l (first w i)) (ltb (ρ l b) (ρ l (get_or w l 0))))
            ∙ ap₂ (λ (x y : Bool). x && y && ltb (ρ l b) (ρ l (get_or w l 0)))
            (leb-cong (length w) (l + suc (r + length t)) (length w + suc (suc q)) (suc (i + suc r + length t)) (λ k. omega arith) (λ k. omega arith))
            (sym (equal-matches ρ one w hw (suc q) l i e h))
            ∙ ap (λ (x : Bool). exists w t (i + suc r) (suc (suc q)) && is_equal (R ρ w i (suc (suc q))) && x)
            (sym (not-not (ltb (ρ l b) (ρ l (get_or w l 0)))) ∙ ap not (sym (rank-not-below l b (omega arith) hb)))

        each : (q : ℕ) → q < i → hit_at ρ w t i r b (i - suc q)
            ≡ (exists w t (i + suc r) (suc (suc q)) && is_equal (R ρ w i (suc (suc q))) && not (Σ ρ w (i - q) b || own w (i - q) b))
        each q k =
            at q (i - suc q) (omega arith)
            ∙ ap (λ (n : ℕ). exists w t (i + suc r) (suc (suc q)) && is_equal (R ρ w i (suc (suc q))) && not (Σ ρ w n b || own w n b))
            (let e : suc (i - suc q) ≡ i - q = omega arith in e)

    -- a letter that does not go on with w is fine exactly if it is restrained so
    fine-restrained : (i r b : ℕ) → i ≤ length w → b < 4 → (matches w (length w) (first w i) && final) ≡ false → length w ≤ i + suc (r + length t)
        → (not (goes_on w i b) && fine_at w (below_hit ρ w) final t i r b)
        ≡ restrained ρ w (exists w t (i + suc r)) i b
    fine-restrained i r b h hb off long =
        ap (λ (x : Bool). not (goes_on w i b) && not x) (bad-places i r b h off long)
        ∙ gather (goes_on w i b) (any_to i (hit_at ρ w t i r b)) (ltb i (length w) && ltb (ρ i b) (ρ i (get_or w i 0)))
        ∙ ap₂ (λ (x y : Bool). x && not y) (sym at-end) (hits-starts i r b h hb)
      where
        gather : (g a u : Bool) → (not g && not (a || u)) ≡ (not g && not u && not a)
        gather true a u = refl
        gather false true true = refl
        gather false true false = refl
        gather false false true = refl
        gather false false false = refl

        go : (d : Bool) → ltb i (length w) ≡ d → Σ ρ w (suc i) b ≡ (not (goes_on w i b) && not (d && ltb (ρ i b) (ρ i (get_or w i 0))))
        go true q = rank-above i b (ltb-true i (length w) q) hb
        go false q =
            ap (λ (x : Bool). x || ltb (ρ i (get_or w i 0)) (ρ i b)) (le-leb (length w) i (ltb-false i (length w) q))
            ∙ ap (λ (x : Bool). not (x && eqb b (get_or w i 0)) && true) (sym q)

        at-end : Σ ρ w (suc i) b ≡ (not (goes_on w i b) && not (ltb i (length w) && ltb (ρ i b) (ρ i (get_or w i 0))))
        at-end = go (ltb i (length w)) refl

-- ---- what the shared letters ban

less-not-equal : (s : Sign) → is_less s ≡ true → is_equal s ≡ true → ⊥
less-not-equal less p q = contrary false q refl
less-not-equal equal p q = contrary false p refl
less-not-equal greater p q = contrary false p refl

module _ (ρ : Ranking) (one : OneToOne ρ) (w : Word) (hw : Letters w) (final : Bool) (t : Word) where
  unbanned : (i n q : ℕ) → q < suc i → suc i ≤ length w → banned ρ w (exists w t n) (suc i) ≡ false
      → (exists w t n (suc (suc q)) && is_less (R ρ w (suc i) (suc (suc q)))) ≡ false
  unbanned i n q k h free = go (exists w t n (suc (suc q)) && is_less (R ρ w (suc i) (suc (suc q)))) refl (ltb q i) refl
    where
      go : (x : Bool) → (exists w t n (suc (suc q)) && is_less (R ρ w (suc i) (suc (suc q)))) ≡ x → (d : Bool) → ltb q i ≡ d → x ≡ false
      go false e d p = refl
      go true e true p =
          absurd (contrary (banned ρ w (exists w t n) (suc i))
          (any_to-there (suc i) (λ i'. any_to i' (λ j. exists w t n (suc (suc j)) && is_less (R ρ w (suc i') (suc (suc j))))) i (omega arith)
          (any_to-there i (λ j. exists w t n (suc (suc j)) && is_less (R ρ w (suc i) (suc (suc j)))) q (ltb-true q i p) e)) free)
      go true e false p =
          absurd (less-not-equal (R ρ w (suc i) (suc (suc q))) (and_r (exists w t n (suc (suc q))) (is_less (R ρ w (suc i) (suc (suc q)))) e)
          (equal-matches ρ one w hw (suc q) zero (suc i) (omega (arith, ltb-false q i p)) h))

  -- where the letters up to i do not ban, those up to i+1 do exactly if w's own next letter hits
  row-hits : (i r : ℕ) → i < length w → banned ρ w (exists w t (i + suc r)) i ≡ false
      → any_to i (λ q. exists w t (i + suc r) (suc (suc q)) && is_less (R ρ w (suc i) (suc (suc q)))) ≡ any_to i (hit_at ρ w t i r (get_or w i 0))
  row-hits zero r h free = refl
  row-hits (suc i) r h free =
      any_to-cong (suc i) (λ q k. at q (suc i - suc q) (omega arith) (unbanned i (suc i + suc r) q k (omega arith) free))
      ∙ any_to-down (suc i) (hit_at ρ w t (suc i) r (get_or w (suc i) 0))
    where
      alone : (e x y l : Bool) → (e && x) ≡ false → (e && (x || (y && l))) ≡ (y && (e && l))
      alone true true y l p = absurd (contrary true refl p)
      alone true false y l p = refl
      alone false x true l p = refl
      alone false x false l p = refl

      at : (q l : ℕ) → suc q + l ≡ suc i → (exists w t (suc i + suc r) (suc (suc q)) && is_less (R ρ w (suc i) (suc (suc q)))) ≡ false
          → (exists w t (suc i + suc r) (suc (suc q)) && is_less (R ρ w (suc (suc i)) (suc (suc q)))) ≡ hit_at ρ w t (suc i) r (get_or w (suc i) 0) l
      at q l e off =
          ap (λ (x : Bool). exists w t (suc i + suc r) (suc (suc q)) && x) (less-last ρ one w hw (suc q) l (suc i) e h)
          ∙ alone (exists w t (suc i + suc r) (suc (suc q))) (is_less (R ρ w (suc i) (suc (suc q)))) (is_equal (R ρ w (suc i) (suc (suc q))))
          (ltb (ρ l (get_or w (suc i) 0)) (ρ l (get_or w l 0))) off
          ∙ ap₂ (λ (x y : Bool). x && (y && ltb (ρ l (get_or w (suc i) 0)) (ρ l (get_or w l 0)))) (equal-matches ρ one w hw (suc q) l (suc i) e (omega arith))
          (leb-cong (length w + suc (suc q)) (suc (suc i + suc r + length t)) (length w) (l + suc (r + length t)) (λ k. omega arith) (λ k. omega arith))

  -- the first i letters of w are fine one after the other exactly if they do not ban
  pub fine-banned : (i r : ℕ) → i ≤ length w → length w ≤ i + r + length t
      → all_fine w (below_hit ρ w) final t (first w i) r ≡ not (banned ρ w (exists w t (i + r)) i)
  fine-banned zero r h long = refl
  fine-banned (suc i) r h long =
      ap (λ (x : Bool). fine w (below_hit ρ w) final t (first w i) r (get_or w i 0) && x) (fine-banned i (suc r) (omega arith) (omega arith))
      ∙ and_comm (fine w (below_hit ρ w) final t (first w i) r (get_or w i 0)) (not (banned ρ w (exists w t (i + suc r)) i))
      ∙ and-cong (not (banned ρ w (exists w t (i + suc r)) i)) _ _ (λ e. ap not (next_row (not-true (banned ρ w (exists w t (i + suc r)) i) e)))
      ∙ sym (not-or (banned ρ w (exists w t (i + suc r)) i) (row (i + suc r)))
      ∙ ap not (sym (any_to-last i (λ i'. any_to i' (λ q. exists w t (i + suc r) (suc (suc q)) && is_less (R ρ w (suc i') (suc (suc q)))))))
      ∙ ap (λ (n : ℕ). not (banned ρ w (exists w t n) (suc i))) (let e : i + suc r ≡ suc i + r = omega arith in e)
    where
      row : ℕ → Bool
      row n = any_to i (λ q. exists w t n (suc (suc q)) && is_less (R ρ w (suc i) (suc (suc q))))

      next_row : banned ρ w (exists w t (i + suc r)) i ≡ false → bad w (below_hit ρ w) final (first w i) (suc (r + length t)) (get_or w i 0) ≡ row (i + suc r)
      next_row free =
          bad-places ρ one w hw final t i r (get_or w i 0) (omega arith) (ap (λ (x : Bool). x && final) (matches-short w i (length w) h)) (omega arith)
          ∙ ap₂ (λ (x y : Bool). x || (ltb i (length w) && y)) (sym (row-hits i r h free)) (le-ltb (ρ i (get_or w i 0)) (ρ i (get_or w i 0)) (omega arith))
          ∙ ap (λ (x : Bool). row (i + suc r) || x) (and-false (ltb i (length w))) ∙ or-false (row (i + suc r))

-- functions that agree at the letters have one sum over them
pub total-letters : (f g : ℕ → ℕ) → ((b : ℕ) → b < 4 → f b ≡ g b) → total (map f letters) ≡ total (map g letters)
total-letters f g h = ap total (map-agree f g letters (λ b m. h b (letters-lt m)))

-- ---- the rule

-- the words that no thread catches
abbrev pub uncaught : Ranking → Word → Bool → Word → Word → Bool
uncaught ρ w final t = accepts (fine_at w (below_hit ρ w) final t) (next w) (done_at w (below_hit ρ w) final t) zero

module _ (ρ : Ranking) (one : OneToOne ρ) (w : Word) (hw : Letters w) (final : Bool) (t : Word) where
  -- the ways to complete a state
  abbrev completing : ℕ → ℕ → ℕ
  completing = ways (fine_at w (below_hit ρ w) final t) (next w) (done_at w (below_hit ρ w) final t)

  -- those that share at least s letters complete state s, where these letters were fine
  shared-complete : (s r : ℕ) → s ≤ length w → all_fine w (below_hit ρ w) final t (first w s) r ≡ true → sharing_from w (uncaught ρ w final t) s (s + r) ≡ completing s r
  shared-complete s r h e =
      completions w hw (fine_at w (below_hit ρ w) final t) (done_at w (below_hit ρ w) final t) s r h
      ∙ ap (λ (x : Bool). cond x (completing s r) 0) (through-fine w (below_hit ρ w) final t s r h ∙ e)

  module _ (i r b : ℕ) (h : i ≤ length w) (off : goes_on w i b ≡ false) (ok : fine_at w (below_hit ρ w) final t i r b ≡ true)
      (kept : all_fine w (below_hit ρ w) final t (first w i) (suc r) ≡ true) where
    abbrev tied : ℕ → Bool
    tied q = is_equal (R ρ w i (suc (suc q))) && own w (i - q) b

    abbrev counted : ℕ → Bool
    counted q = exists w t (i + suc r) (suc (suc q)) && is_equal (R ρ w i (suc (suc q))) && own w (i - q) b

    counted-tied : (q : ℕ) (x y : Bool) → exists w t (i + suc r) (suc (suc q)) ≡ x → tied q ≡ y → counted q ≡ (x && y)
    counted-tied q x y p e =
        and_assoc (exists w t (i + suc r) (suc (suc q))) (is_equal (R ρ w i (suc (suc q)))) (own w (i - q) b) ∙ ap₂ (λ (u v : Bool). u && v) p e

    untied : (q : ℕ) → tied q ≡ false → counted q ≡ false
    untied q e = counted-tied q (exists w t (i + suc r) (suc (suc q))) false refl e ∙ and-false (exists w t (i + suc r) (suc (suc q)))

    uncounted : (q : ℕ) → exists w t (i + suc r) (suc (suc q)) ≡ false → counted q ≡ false
    uncounted q p = counted-tied q false (tied q) p refl

    -- after the letter b the rest completes the next state
    to-next : sharing_from w (uncaught ρ w final t) (next w i b) (next w i b + r) ≡ completing (next w i b) r
    to-next =
        shared-complete (next w i b) r (longest-le w (length w) (b ∷ first w i))
        (all_fine-match w (below_hit ρ w) final t (next w i b) (b ∷ first w i) r (longest-matches w (length w) (b ∷ first w i))
        (and_i (fine_at w (below_hit ρ w) final t i r b) (all_fine w (below_hit ρ w) final t (first w i) (suc r)) ok kept))

    -- T leads to the next state; where there is none, all that begins with nothing completes as many
    after-letter : completing (next w i b) r ≡ sharing_from w (uncaught ρ w final t) (suc (suc i) - suc (suc (first_to i counted))) (suc (i + suc r) - suc (suc (first_to i counted)))
    after-letter = go (ltb (first_to i tied) i) refl (exists w t (i + suc r) (suc (suc (first_to i tied)))) refl
      where
        state-is : next w i b ≡ i - first_to i tied
        state-is = omega (arith, next-tied ρ one w hw i b h off)

        within : first_to i tied ≤ i
        within = first_to-le i tied

        same_start : first_to i counted ≡ first_to i tied → completing (next w i b) r ≡ sharing_from w (uncaught ρ w final t) (suc (suc i) - suc (suc (first_to i counted))) (suc (i + suc r) - suc (suc (first_to i counted)))
        same_start e =
            let u : next w i b ≡ suc (suc i) - suc (suc (first_to i counted)) = omega (arith, state-is, e) in
            let v : next w i b + r ≡ suc (i + suc r) - suc (suc (first_to i counted)) = omega (arith, state-is, e, within) in
            sym to-next ∙ ap₂ (sharing_from w (uncaught ρ w final t)) u v

        no_start : first_to i counted ≡ i → next w i b + r + length t < length w
            → completing (next w i b) r ≡ sharing_from w (uncaught ρ w final t) (suc (suc i) - suc (suc (first_to i counted))) (suc (i + suc r) - suc (suc (first_to i counted)))
        no_start e k =
            let u : zero ≡ suc (suc i) - suc (suc (first_to i counted)) = omega arith in
            let v : zero + r ≡ suc (i + suc r) - suc (suc (first_to i counted)) = omega arith in
            ways-free ρ w final t r (next w i b) k ∙ sym (ways-free ρ w final t r zero (omega arith))
            ∙ sym (shared-complete zero r (omega arith) refl) ∙ ap₂ (sharing_from w (uncaught ρ w final t)) u v

        go : (d : Bool) → ltb (first_to i tied) i ≡ d → (x : Bool) → exists w t (i + suc r) (suc (suc (first_to i tied))) ≡ x
            → completing (next w i b) r ≡ sharing_from w (uncaught ρ w final t) (suc (suc i) - suc (suc (first_to i counted))) (suc (i + suc r) - suc (suc (first_to i counted)))
        go false p x q =
            let e : first_to i tied ≡ i = omega (arith, ltb-false (first_to i tied) i p, within) in
            same_start (first_to-none i counted (λ l k. untied l (first_to-before i tied l (omega (arith, e)))) ∙ sym e)
        go true p true q =
            same_start (first_to-is i counted (first_to i tied) (ltb-true (first_to i tied) i p)
            (counted-tied (first_to i tied) true true q (first_to-holds i tied (ltb-true (first_to i tied) i p))) (λ l k. untied l (first_to-before i tied l k)))
        go true p false q =
            let gone : suc (i + suc r + length t) < length w + suc (suc (first_to i tied)) = leb-false (length w + suc (suc (first_to i tied))) (suc (i + suc r + length t)) q in
            no_start (first_to-none i counted (λ l k. none l (ltb l (first_to i tied)) refl gone)) (omega (arith, state-is, within))
          where
            none : (l : ℕ) (d : Bool) → ltb l (first_to i tied) ≡ d → suc (i + suc r + length t) < length w + suc (suc (first_to i tied)) → counted l ≡ false
            none l true k gone = untied l (first_to-before i tied l (ltb-true l (first_to i tied) k))
            none l false k gone =
                uncounted l (lt-leb (length w + suc (suc l)) (suc (i + suc r + length t)) (omega (arith, ltb-false l (first_to i tied) k)))

  -- the rule of document 01 for words that share exactly i letters with w
  pub sharing-rule : (i r : ℕ) → i ≤ length w → (matches w (length w) (first w i) && final) ≡ false → length w ≤ i + suc (r + length t)
      → sharing w (uncaught ρ w final t) i (i + suc r) ≡ by_prefix ρ w (exists w t (i + suc r)) (sharing_from w (uncaught ρ w final t)) i (i + suc r)
  sharing-rule i r h off long =
      prefix-rule w hw (fine_at w (below_hit ρ w) final t) (done_at w (below_hit ρ w) final t) i r h
      ∙ ap (λ (x : Bool). cond x (total (map (λ b. cond (allowed b) (completing (next w i b) r) 0) letters)) 0) unbanned_fine
      ∙ go (banned ρ w counts i) refl
    where
      counts : ℕ → Bool
      counts = exists w t (i + suc r)

      allowed : ℕ → Bool
      allowed b = not (goes_on w i b) && fine_at w (below_hit ρ w) final t i r b

      behind : ℕ → ℕ
      behind b = sharing_from w (uncaught ρ w final t) (suc (suc i) - T ρ w counts i b) (suc (i + suc r) - T ρ w counts i b)

      fine_is : all_fine w (below_hit ρ w) final t (first w i) (suc r) ≡ not (banned ρ w counts i)
      fine_is = fine-banned ρ one w hw final t i (suc r) h (omega arith)

      unbanned_fine : through (next w) (fine_at w (below_hit ρ w) final t) zero (take i w) (suc r) ≡ not (banned ρ w counts i)
      unbanned_fine = through-fine w (below_hit ρ w) final t i (suc r) h ∙ fine_is

      letter : banned ρ w counts i ≡ false → (b : ℕ) (x : Bool) → allowed b ≡ x → cond x (completing (next w i b) r) 0 ≡ cond x (behind b) 0
      letter free b true e =
          after-letter i r b h (not-true (goes_on w i b) (and_l (not (goes_on w i b)) (fine_at w (below_hit ρ w) final t i r b) e))
          (and_r (not (goes_on w i b)) (fine_at w (below_hit ρ w) final t i r b) e) (fine_is ∙ ap not free)
      letter free b false e = refl

      go : (x : Bool) → banned ρ w counts i ≡ x
          → cond (not x) (total (map (λ b. cond (allowed b) (completing (next w i b) r) 0) letters)) 0
          ≡ cond x 0 (total (map (λ b. cond (restrained ρ w counts i b) (behind b) 0) letters))
      go true e = refl
      go false e =
          total-letters _ _
          (λ b hb. letter e b (allowed b) refl ∙ ap (λ (x : Bool). cond x (behind b) 0) (fine-restrained ρ one w hw final t i r b h hb off long))
