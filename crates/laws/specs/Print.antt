-- The four places where the printed rules of document 000 err: each rule as printed, with the true counts on its right side, and one
-- computed case in which it differs from the count that it stands for. Places are counted from 1, as there.
-- Assumes nothing.
use Rattle.std.specs.Prelude.{ℕ, zero, suc, ◌+◌, ◌-◌, ◌*◌, ◌^◌, Bool, true, cond, not, [], ◌∷◌, map, ◌≡◌, refl, leb, eqb, length, get_or}
use Rattle.definitions.specs.Lists.{filter, all, tabulate, total}
use Rattle.definitions.specs.Words.{Word, letters, words}
use Rattle.definitions.specs.Vigemins.{keyed}
use Rattle.definitions.specs.Shelves.{size, antemers, postmer, postmers}
use Rattle.definitions.specs.Cases.{printed_row}
use Rattle.laws.specs.Counting.{count}
use Rattle.laws.specs.Orders.{key_ranking}
use Rattle.laws.specs.Prefixes.{sharing}
use Rattle.laws.specs.Rules.{less, R, Σ, own, T as least_tie, restrained, exists}

-- f first and so on up to f last
abbrev pub sum_over : ℕ → ℕ → (ℕ → ℕ) → ℕ
sum_over first last f = total (tabulate (λ d. f (first + d)) (suc last - first))

-- what a letter adds to a sum: one count where its T is 0, and another, which depends on T, where it is not
abbrev pub added : ℕ → ℕ → (ℕ → ℕ) → ℕ
added zero free held = free
added (suc t) free held = held (suc t)

module _ (key w : Word) where
  -- Pi(β): the postmers of length β that share exactly i letters with w
  abbrev pub P : ℕ → ℕ → ℕ
  P = sharing w (postmer (keyed key) w)

  -- P(β): all postmers of length β
  abbrev pub Pall : ℕ → ℕ
  Pall = count (postmer (keyed key) w)

  -- Definition 6, Ti(b): the T of Rules where every m-mer counts, and 0 where there is none
  abbrev pub T : ℕ → ℕ → ℕ
  T i b = let t = least_tie (key_ranking key) w (λ j. true) i b in cond (leb t (suc i)) t 0

  -- equation (3): T, or 0 where the m-mer that starts there does not exist
  abbrev pub Tfit : ℕ → ℕ → ℕ → ℕ
  Tfit i β b = cond (exists w [] β (T i b)) (T i b) 0

  -- what Lemma 5 and Proposition 3 share: over an alphabet, the sum of P(β−(i+1)) where T is 0, else of Pi'(next T) for i' from i−T+2 to last T
  abbrev pub right_side : (ℕ → Bool) → (ℕ → ℕ) → (ℕ → ℕ) → (ℕ → ℕ) → ℕ → ℕ → ℕ
  right_side alphabet T last next i β =
      total (map (λ b. added (T b) (Pall (β - suc i)) (λ t. sum_over (2 + i - t) (last t) (λ i'. P i' (next t)))) (filter alphabet letters))

  -- Lemma 5 for 0 < i < β < m, over the length at which the inner sum counts
  abbrev pub lemma5 : (ℕ → ℕ) → ℕ → ℕ → ℕ
  lemma5 next i β = right_side (λ b. not (own w (suc i) b)) (T i) (λ t. suc β - t) next i β

  -- with the minus
  abbrev pub lemma5_mended : ℕ → ℕ → ℕ
  lemma5_mended i β = lemma5 (λ t. suc β - t) i β

  -- the print counts at the length β + T + 1: the plus should be a minus
  abbrev pub lemma5_printed : ℕ → ℕ → ℕ
  lemma5_printed i β = lemma5 (λ t. β + t + 1) i β

  -- P(m) by Lemma 6, from the first i on: |Σ(i+1)|·4^(m−i−1) for i below m, and 1 for i = m
  abbrev pub lemma6 : ℕ → ℕ
  lemma6 first = sum_over first (length w - 1) (λ i. length (filter (Σ (key_ranking key) w (suc i)) letters) * 4 ^ (length w - suc i)) + 1

  -- the print has the rule from i = 1 on: i = 0 is left out
  abbrev pub lemma6_printed : ℕ
  lemma6_printed = lemma6 1

  -- Proposition 3 over the letters that may follow where a test says which starts restrain (Lemma 8's alphabet)
  abbrev pub prop3 : (ℕ → Bool) → ℕ → ℕ → ℕ
  prop3 restrains i β = right_side (restrained (key_ranking key) w restrains i) (Tfit i β) (λ t. length w) (λ t. suc β - t) i β

  -- the print takes a start as a restraint where the letter a(i−j+2) has some usable T: the m-mer that starts at j itself need not exist
  abbrev pub lemma8_printed : ℕ → ℕ → ℕ
  lemma8_printed i β = prop3 (λ j. not (eqb (Tfit i β (get_or w (1 + i - j) 0)) 0)) i β

  -- the print, Lemma 8 mended: it has no test whether R(i,j) is below, and so counts on where that m-mer exists and bans the word
  abbrev pub prop3_printed : ℕ → ℕ → ℕ
  prop3_printed i β = prop3 (exists w [] β) i β

-- ---- the cases, spelled out

abbrev aaa : Word
aaa = 0 ∷ 0 ∷ 0 ∷ []

abbrev aca : Word
aca = 0 ∷ 1 ∷ 0 ∷ []

abbrev taa : Word
taa = 3 ∷ 0 ∷ 0 ∷ []

-- key AAA, word ACA: Lemma 5 as printed gives 122 for P1(2); with the minus it gives 3, which is right
pub lemma5-wrong : (lemma5_printed aaa aca 1 2 ≡ 122) × (lemma5_mended aaa aca 1 2 ≡ 3) × (P aaa aca 1 2 ≡ 3)
lemma5-wrong = (refl, refl, refl)

-- key AAA, word ACA: Lemma 6 as printed gives 12 for P(3); with i = 0 it gives 60, which is right
pub lemma6-wrong : (lemma6_printed aaa aca ≡ 12) × (lemma6 aaa aca 0 ≡ 60) × (Pall aaa aca 3 ≡ 60)
lemma6-wrong = (refl, refl, refl)

-- key TAA, word AAA (case W3): Lemma 8 as printed gives 1 for P3(4); with restraints from m-mers that exist it gives 4, which is right
pub lemma8-wrong : (lemma8_printed taa aaa 3 4 ≡ 1) × (prop3 taa aaa (exists aaa [] 4) 3 4 ≡ 4) × (P taa aaa 3 4 ≡ 4)
lemma8-wrong = (refl, refl, refl)

-- what the table of `definitions` has of Lemma 8 as printed is this rule, for Pm(m+1): under every key for every word of one and of two letters, and under TAA
-- for every word of three
pub lemma8-row : (all (λ m. all (λ key. all (λ w. eqb (printed_row key w) (lemma8_printed key w m (suc m))) (words m)) (words m)) (1 ∷ 2 ∷ []) ≡ true)
    × (all (λ w. eqb (printed_row taa w) (lemma8_printed taa w 3 4)) (words 3) ≡ true)
lemma8-row = (refl, refl)

-- in that case the size for k = 4, by Proposition 1 over Lemma 8 as printed, is 1, where 4 is right
pub lemma8-size-wrong : (antemers (keyed taa) aaa 1 * P taa aaa 3 3 + antemers (keyed taa) aaa 0 * lemma8_printed taa aaa 3 4 ≡ 1)
    × (size (keyed taa) 4 aaa ≡ 4)
lemma8-size-wrong = (refl, refl)

-- key AAA, word TAA: R(3,2) is below, so rows above 0 are past the bound, and in row 1 Proposition 3 gives 4 for P3(4), which is 0
pub prop3-wrong : (R (key_ranking aaa) taa 3 2 ≡ less) × (prop3_printed aaa taa 3 4 ≡ 4) × (P aaa taa 3 4 ≡ 0) × (postmers (keyed aaa) taa 1 ≡ 0)
prop3-wrong = (refl, refl, refl, refl)
