-- Forms that go letter by letter, by a ranking for each place: the keyed form is one, and under such a form words are compared
-- letter by letter. The split, the tables and document 01's rules are proved over these.
-- Assumes nothing.
use Rattle.std.specs.Prelude.{ℕ, zero, suc, ◌<◌, Bool, true, false, not, ◌&&◌, ◌||◌, ◌≡◌, refl, ltb, leb, eqb, length, get_or}
use mathlib.Core.List.{[], ◌∷◌, nil≢cons, head-eq_of_cons-eq, tail-eq_of_cons-eq}
use Rattle.std.proofs.Common.{subst, sym, ap, ap₂, ◌∙◌, arith, eqb-true, eq-eqb, ltb-true, ltb-false, leb-true, leb-false, lt-ltb, le-ltb}
use Rattle.std.proofs.Math.Path.{fun_ext}
use Rattle.std.proofs.lemmas.Bool.{eqb-false}
use Rattle.definitions.specs.Words.{Word, Letters, same, sum, ◌⊕◌, val}
use Rattle.definitions.specs.Vigemins.{Form, keyed, value, windows, vigemin}
use Rattle.definitions.specs.Shelves.{postmer}
use Rattle.laws.specs.Tests.{test-ext}
use Rattle.laws.specs.Filters.{any}
use Rattle.laws.specs.Minima.{windows-mer, vigemin-is}
use Rattle.laws.specs.Numbers.{at_most, number-at_most, number-inj, letter-lt, sum_lt, sum-cancel, sum-zero}

-- for each place the rank of each letter
abbrev pub Ranking : Type 0
Ranking = ℕ → ℕ → ℕ

-- the ranks of a word's letters, the first one standing at place p
abbrev pub ranked_from : Ranking → ℕ → Form
ranked_from ρ p [] = []
ranked_from ρ p (a ∷ v) = ρ p a ∷ ranked_from ρ (suc p) v

-- the form that goes letter by letter, by a ranking for each place
abbrev pub ranked : Ranking → Form
ranked ρ = ranked_from ρ zero

-- the four letters have four ranks at each place, none twice
pub record OneToOne (ρ : Ranking) : Type 0 where
  pub small : (p a : ℕ) → a < 4 → ρ p a < 4
  pub apart : (p a b : ℕ) → a < 4 → b < 4 → ρ p a ≡ ρ p b → a ≡ b

-- ---- the keyed form

-- a key's ranking: the sum with the key's letter at that place
abbrev pub key_ranking : Word → Ranking
key_ranking key p a = sum a (get_or key p zero)

-- past the key's end a letter is its own rank
unkeyed : (p : ℕ) (v : Word) → ranked_from (key_ranking []) p v ≡ v
unkeyed p [] = refl
unkeyed p (a ∷ v) = ap₂ (λ (x : ℕ) (y : Word). x ∷ y) (sum-zero a) (unkeyed (suc p) v)

keyed-shift : (c : ℕ) (key : Word) (p : ℕ) (v : Word) → ranked_from (key_ranking (c ∷ key)) (suc p) v ≡ ranked_from (key_ranking key) p v
keyed-shift c key p [] = refl
keyed-shift c key p (a ∷ v) = ap (λ (y : Word). sum a (get_or key p zero) ∷ y) (keyed-shift c key (suc p) v)

keyed-at : (key v : Word) → v ⊕ key ≡ ranked (key_ranking key) v
keyed-at key [] = refl
keyed-at [] (a ∷ v) = sym (unkeyed zero (a ∷ v))
keyed-at (c ∷ key) (a ∷ v) = ap (λ (y : Word). sum a c ∷ y) (keyed-at key v ∙ sym (keyed-shift c key zero v))

-- the keyed form goes letter by letter
pub keyed-ranked : (key : Word) → keyed key ≡ ranked (key_ranking key)
keyed-ranked key = fun_ext (keyed-at key)

-- and is one-to-one at each place
pub keyed-one-to-one : (key : Word) → Letters key → OneToOne (key_ranking key)
keyed-one-to-one key h = record {
  small = λ p a ha. sum_lt ha (letter-lt key p h);
  apart = λ p a b ha hb e. sum-cancel ha hb (letter-lt key p h) e;
}

-- what holds of every form that goes letter by letter by one-to-one rankings holds of the keyed form
pub keyed-law : (P : Ranking → Form → Type 0) → ((ρ : Ranking) → OneToOne ρ → P ρ (ranked ρ)) → (key : Word) → Letters key → P (key_ranking key) (keyed key)
keyed-law P h key hk = subst (P (key_ranking key)) (sym (keyed-ranked key)) (h (key_ranking key) (keyed-one-to-one key hk))

-- ---- the order, letter by letter

-- above is not at most
pub above-not : (x y : ℕ) → ltb y x ≡ not (leb x y)
above-not x y = go (leb x y) refl
  where
    go : (t : Bool) → leb x y ≡ t → ltb y x ≡ not t
    go true e = le-ltb y x (leb-true x y e)
    go false e = lt-ltb y x (leb-false x y e)

-- above is neither equal nor below
pub above-neither : (x y : ℕ) → ltb y x ≡ (not (eqb x y) && not (ltb x y))
above-neither x y = go (eqb x y) (ltb x y) refl refl
  where
    go : (s t : Bool) → eqb x y ≡ s → ltb x y ≡ t → ltb y x ≡ (not s && not t)
    go true t p q = le-ltb y x (omega (arith, eqb-true x y p))
    go false true p q = le-ltb y x (omega (arith, ltb-true x y q))
    go false false p q = lt-ltb y x (omega (arith, eqb-false x y p, ltb-false x y q))

module _ (ρ : Ranking) (one : OneToOne ρ) where
  -- the ranks of letters are letters
  pub ranked-letters : (p : ℕ) (v : Word) → Letters v → Letters (ranked_from ρ p v)
  ranked-letters p [] h = tt
  ranked-letters p (a ∷ v) h = (one.small p a h.0, ranked-letters (suc p) v h.1)

  -- and as many
  pub length-ranked : (p : ℕ) (v : Word) → length (ranked_from ρ p v) ≡ length v
  length-ranked p [] = refl
  length-ranked p (a ∷ v) = ap suc (length-ranked (suc p) v)

  ranked-lengths : (p : ℕ) (u v : Word) → length u ≡ length v → length (ranked_from ρ p u) ≡ length (ranked_from ρ p v)
  ranked-lengths p u v e = length-ranked p u ∙ e ∙ sym (length-ranked p v)

  -- one letter has one rank
  pub rank_same : (p a b : ℕ) → a < 4 → b < 4 → eqb (ρ p a) (ρ p b) ≡ eqb a b
  rank_same p a b ha hb =
      test-ext (eqb (ρ p a) (ρ p b)) (eqb a b) (λ e. eq-eqb a b (one.apart p a b ha hb (eqb-true (ρ p a) (ρ p b) e)))
      (λ e. eq-eqb (ρ p a) (ρ p b) (ap (ρ p) (eqb-true a b e)))

  -- words of one length are compared by the ranks of their first letters first
  pub ranked-at_most : (final : Bool) (p a b : ℕ) (u v : Word) → Letters (a ∷ u) → Letters (b ∷ v) → length u ≡ length v
      → at_most final (val (ranked_from ρ p (b ∷ v))) (val (ranked_from ρ p (a ∷ u)))
      ≡ (ltb (ρ p b) (ρ p a) || (eqb b a && at_most final (val (ranked_from ρ (suc p) v)) (val (ranked_from ρ (suc p) u))))
  ranked-at_most final p a b u v hu hv e =
      number-at_most final 4 (ρ p b) (ρ p a) (ranked_from ρ (suc p) v) (ranked_from ρ (suc p) u) (ranked-letters (suc p) v hv.1)
      (ranked-letters (suc p) u hu.1) (ranked-lengths (suc p) v u (sym e))
      ∙ ap (λ (t : Bool). ltb (ρ p b) (ρ p a) || (t && at_most final (val (ranked_from ρ (suc p) v)) (val (ranked_from ρ (suc p) u)))) (rank_same p b a hv.0 hu.0)

  ranked-inj : (p : ℕ) (v w : Word) → Letters v → Letters w → ranked_from ρ p v ≡ ranked_from ρ p w → v ≡ w
  ranked-inj p [] [] hv hw q = refl
  ranked-inj p [] (b ∷ w) hv hw q = absurd (nil≢cons q)
  ranked-inj p (a ∷ v) [] hv hw q = absurd (nil≢cons (sym q))
  ranked-inj p (a ∷ v) (b ∷ w) hv hw q =
      ap₂ (λ (x : ℕ) (y : Word). x ∷ y) (one.apart p a b hv.0 hw.0 (head-eq_of_cons-eq q)) (ranked-inj (suc p) v w hv.1 hw.1 (tail-eq_of_cons-eq q))

  -- words of one length that are compared by one number are one word
  pub value-one : (v w : Word) → Letters v → Letters w → length v ≡ length w → value (ranked ρ) v ≡ value (ranked ρ) w → v ≡ w
  value-one v w hv hw e q =
      ranked-inj zero v w hv hw (number-inj 4 (ranked ρ v) (ranked ρ w) (ranked-letters zero v hv) (ranked-letters zero w hw) (ranked-lengths zero v w e) q)

  -- the vigemin of a k-mer is w exactly if no m-mer of it is below w and w is among them
  pub vigemin-exactly : (w : Word) → Letters w → 0 < length w → (x : Word) → Letters x
      → same (vigemin (ranked ρ) (length w) x) w ≡ (postmer (ranked ρ) w x && any (λ v. same v w) (windows (length w) x))
  vigemin-exactly w hw pos x h =
      vigemin-is (ranked ρ) (windows (length w) x) w pos (λ u k e. let d = windows-mer (length w) x h k in value-one u w d.1 hw d.0 e)
