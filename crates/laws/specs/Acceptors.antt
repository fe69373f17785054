-- Postmers, antemers and words that hold w, as threads: what their definitions say of all m-mers is what reading letter by letter
-- beside w finds.
-- Assumes nothing.
use Rattle.std.specs.Prelude.{ℕ, zero, suc, ◌+◌, ◌≤◌, ◌<◌, Bool, true, false, not, ◌&&◌, ◌||◌, List, [], ◌∷◌, ◌++◌, ◌≡◌, refl, ltb, leb, eqb, length, get_or, take, drop}
use Rattle.std.proofs.Math.Bool.{and-false}
use Rattle.std.proofs.Common.{append-nil, sym, ap, ap₂, ◌∙◌, zero-add, add-zero, add-one, arith, leb-true, leb-false, le-leb, length-take, length-append, length-take-le, get_or-drop, drop-drop}
use Rattle.std.proofs.lemmas.Bool.{lt-leb}
use Rattle.std.proofs.Math.Dec.{leb-zero, leb-suc-zero, leb-suc-suc}
use Rattle.definitions.specs.Lists.{put, all}
use Rattle.definitions.specs.Words.{Word, Letters, val, same}
use Rattle.definitions.specs.Vigemins.{value, below, above, windows}
use Rattle.definitions.specs.Shelves.{antemer, postmer}
use Rattle.laws.specs.Tests.{and_r, and_i, not-or, not-and, test-ext, same-eq}
use Rattle.laws.specs.Numbers.{at_most, letters-take, letters-append}
use Rattle.laws.specs.Filters.{any}
use Rattle.laws.specs.Minima.{windows-none}
use Rattle.laws.specs.Orders.{Ranking, OneToOne, ranked, ranked_from, ranked-at_most, above-not}
use Rattle.laws.specs.Threads.{caught, new_caught}

all-put : {A : Type 0} (p : A → Bool) (t : Bool) (a : A) (l : List A) → all p (put t a l) ≡ ((not t || p a) && all p l)
all-put p true a l = refl
all-put p false a l = refl

any-put : {A : Type 0} (p : A → Bool) (t : Bool) (a : A) (l : List A) → any p (put t a l) ≡ ((t && p a) || any p l)
any-put p true a l = refl
any-put p false a l = refl

drop_head : (l : ℕ) (w : Word) {a : ℕ} {u : Word} → drop l w ≡ a ∷ u → get_or w l 0 ≡ a
drop_head l w e = sym (ap (λ (i : ℕ). get_or w i 0) (add-zero l)) ∙ sym (get_or-drop l w 0 0) ∙ ap (λ (x : Word). get_or x 0 0) e

drop-tail : (l : ℕ) (w : Word) {a : ℕ} {u : Word} → drop l w ≡ a ∷ u → drop (suc l) w ≡ u
drop-tail l w e = ap (λ (i : ℕ). drop i w) (sym (add-one l)) ∙ sym (drop-drop 1 l w) ∙ ap (drop 1) e

at_most-zero : (final : Bool) → at_most final 0 0 ≡ final
at_most-zero false = refl
at_most-zero true = refl

-- a letter hits at place l, with r letters left from it on, where the m-mer exists and the letter ranks below w's
abbrev pub below_hit : Ranking → Word → ℕ → ℕ → ℕ → Bool
below_hit ρ w l b r = leb (length w) (l + r) && ltb (ρ l b) (ρ l (get_or w l 0))

module _ (ρ : Ranking) (one : OneToOne ρ) (w : Word) (final : Bool) where
  caught-letter : (l a b : ℕ) (u z : Word) → get_or w l 0 ≡ a → Letters (a ∷ u) → Letters (b ∷ z) → l + suc (length u) ≡ length w → (t : Bool)
      → leb (length u) (length z) ≡ t
      → (below_hit ρ w l b (suc (length z)) || (eqb b a && (t && at_most final (val (ranked_from ρ (suc l) (take (length u) z))) (val (ranked_from ρ (suc l) u)))))
      ≡ (t && at_most final (val (ranked_from ρ l (b ∷ take (length u) z))) (val (ranked_from ρ l (a ∷ u))))
  caught-letter l a b u z e hu hz n true q =
      let k : length u ≤ length z = leb-true (length u) (length z) q in
      ap₂ (λ (s : Bool) (x : ℕ). (s && ltb (ρ l b) (ρ l x)) || (eqb b a && at_most final (val (ranked_from ρ (suc l) (take (length u) z))) (val (ranked_from ρ (suc l) u))))
      (le-leb (length w) (l + suc (length z)) (omega arith)) e
      ∙ sym (ranked-at_most ρ one final l a b u (take (length u) z) hu (hz.0, letters-take (length u) z hz.1) (sym (length-take-le (length u) z k)))
  caught-letter l a b u z e hu hz n false q =
      ap (λ (s : Bool). (s && ltb (ρ l b) (ρ l (get_or w l 0))) || (eqb b a && false)) (lt-leb (length w) (l + suc (length z)) (omega (arith, leb-false (length u) (length z) q)))
      ∙ and-false (eqb b a)

  -- a thread is caught where it exists and what is read of it is at most what of w is left
  pub caught-value : (l : ℕ) (u z : Word) → drop l w ≡ u → Letters u → Letters z → l + length u ≡ length w
      → caught w (below_hit ρ w) final l u z
      ≡ (leb (length u) (length z) && at_most final (val (ranked_from ρ l (take (length u) z))) (val (ranked_from ρ l u)))
  caught-value l [] z e hu hz n = sym (ap (λ (t : Bool). t && at_most final 0 0) (leb-zero (length z)) ∙ at_most-zero final)
  caught-value l (a ∷ u) [] e hu hz n = sym (ap (λ (t : Bool). t && at_most final 0 (val (ranked_from ρ l (a ∷ u)))) (leb-suc-zero (length u)))
  caught-value l (a ∷ u) (b ∷ z) e hu hz n =
      ap (λ (t : Bool). below_hit ρ w l b (suc (length z)) || (eqb b a && t)) (caught-value (suc l) u z (drop-tail l w e) hu.1 hz.1 (omega arith))
      ∙ caught-letter l a b u z (drop_head l w e) hu hz n (leb (length u) (length z)) refl
      ∙ ap (λ (t : Bool). t && at_most final (val (ranked_from ρ l (b ∷ take (length u) z))) (val (ranked_from ρ l (a ∷ u)))) (sym (leb-suc-suc (length u) (length z)))

-- ---- the three cases

-- no letter hits: only ties are asked for
abbrev pub no_hit : ℕ → ℕ → ℕ → Bool
no_hit l b r = false

-- a thread of ties is caught at its end where w itself is read
pub caught-same : (w : Word) (l : ℕ) (u z : Word) → caught w no_hit true l u z ≡ same (take (length u) z) u
caught-same w l [] z = refl
caught-same w l (a ∷ u) [] = refl
caught-same w l (a ∷ u) (b ∷ z) = ap (λ (t : Bool). eqb b a && t) (caught-same w (suc l) u z)

-- the words that hold w among their windows
pub holds-threads : (w z : Word) → 0 < length w → any (λ v. same v w) (windows (length w) z) ≡ new_caught w no_hit true z []
holds-threads w [] h = ap (any (λ v. same v w)) (windows-none (length w) [] h)
holds-threads w (b ∷ z) h =
    any-put (λ v. same v w) (leb (length w) (suc (length z))) (take (length w) (b ∷ z)) (windows (length w) z)
    ∙ ap₂ (λ (s t : Bool). s || t) (long-enough ∙ sym (ap (λ (y : Word). caught w no_hit true zero w (b ∷ y)) (append-nil z) ∙ caught-same w zero w (b ∷ z)))
    (holds-threads w z h)
  where
    long-enough : (leb (length w) (suc (length z)) && same (take (length w) (b ∷ z)) w) ≡ same (take (length w) (b ∷ z)) w
    long-enough =
        test-ext (leb (length w) (suc (length z)) && same (take (length w) (b ∷ z)) w) (same (take (length w) (b ∷ z)) w)
        (λ q. and_r (leb (length w) (suc (length z))) (same (take (length w) (b ∷ z)) w) q)
        (λ q. and_i (leb (length w) (suc (length z))) (same (take (length w) (b ∷ z)) w)
        (le-leb (length w) (suc (length z))
        (omega (arith, ap length (same-eq (take (length w) (b ∷ z)) w q), length-take (length w) (b ∷ z)))) q)

module _ (ρ : Ranking) (one : OneToOne ρ) (w : Word) (hw : Letters w) where
  -- the postmers: no thread that begins in z is caught below w
  pub postmer-threads : (z : Word) → 0 < length w → Letters z → postmer (ranked ρ) w z ≡ not (new_caught w (below_hit ρ w) false z [])
  postmer-threads [] h hz = ap (all (λ v. not (below (ranked ρ) w v))) (windows-none (length w) [] h)
  postmer-threads (b ∷ z) h hz =
      all-put (λ v. not (below (ranked ρ) w v)) (leb (length w) (suc (length z))) (take (length w) (b ∷ z)) (windows (length w) z)
      ∙ ap₂ (λ (s t : Bool). s && t) here (postmer-threads z h hz.1)
      ∙ sym (not-or (caught w (below_hit ρ w) false zero w (b ∷ (z ++ []))) (new_caught w (below_hit ρ w) false z []))
    where
      here : (not (leb (length w) (suc (length z))) || not (below (ranked ρ) w (take (length w) (b ∷ z))))
          ≡ not (caught w (below_hit ρ w) false zero w (b ∷ (z ++ [])))
      here =
          sym (ap not
          (ap (λ (y : Word). caught w (below_hit ρ w) false zero w (b ∷ y)) (append-nil z) ∙ caught-value ρ one w false zero w (b ∷ z) refl hw hz (zero-add (length w)))
          ∙ not-and (leb (length w) (suc (length z))) (below (ranked ρ) w (take (length w) (b ∷ z))))

  -- the antemers: no thread that begins in y is caught, below w or equal to it, in y followed by w
  pub antemer-threads : (y : Word) → Letters y → antemer (ranked ρ) w y ≡ not (new_caught w (below_hit ρ w) true y w)
  antemer-threads [] hy = refl
  antemer-threads (b ∷ y) hy =
      ap (λ (t : Bool). all (above (ranked ρ) w) (take (suc (length y)) (put t (take (length w) (b ∷ (y ++ w))) (windows (length w) (y ++ w))))) long
      ∙ ap₂ (λ (s t : Bool). s && t) here (antemer-threads y hy.1)
      ∙ sym (not-or (caught w (below_hit ρ w) true zero w (b ∷ (y ++ w))) (new_caught w (below_hit ρ w) true y w))
    where
      long : leb (length w) (suc (length (y ++ w))) ≡ true
      long = le-leb (length w) (suc (length (y ++ w))) (omega (arith, length-append y w))

      here : above (ranked ρ) w (take (length w) (b ∷ (y ++ w))) ≡ not (caught w (below_hit ρ w) true zero w (b ∷ (y ++ w)))
      here =
          above-not (value (ranked ρ) (take (length w) (b ∷ (y ++ w)))) (value (ranked ρ) w)
          ∙ sym (ap not
          (caught-value ρ one w true zero w (b ∷ (y ++ w)) refl hw (hy.0, letters-append y w hy.1 hw) (zero-add (length w))
          ∙ ap (λ (t : Bool). t && at_most true (value (ranked ρ) (take (length w) (b ∷ (y ++ w)))) (value (ranked ρ) w)) long))
