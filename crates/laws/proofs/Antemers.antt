-- Document 01's rules for antemers, split by i, the length of the longest prefix shared with w. That the antemers of length n are
-- those that share at least no letter, and those that share at least i letters share i or at least i + 1, are sharing-all and
-- sharing-split of Prefixes.
-- Assumes nothing.
use Rattle.std.specs.Prelude.{ℕ, suc, ◌+◌, ◌-◌, ◌*◌, ◌≤◌, ◌<◌, Bool, true, false, cond, not, ◌&&◌, [], ◌∷◌, ◌++◌, ◌≡◌, refl, leb, eqb, length, take}
use Rattle.std.proofs.Math.Bool.{and-false}
use Rattle.std.proofs.Common.{sym, ap, ap₂, ◌∙◌, arith, le-ltb, le-leb, leb-true, leb-false, eqb-true, length-append}
use Rattle.std.proofs.Math.Seq.{take-length}
use Rattle.std.proofs.lemmas.List.{take-append-le}
use Rattle.definitions.specs.Lists.{put, filter, all}
use Rattle.definitions.specs.Words.{Word, Letters, letters}
use Rattle.definitions.specs.Vigemins.{Form, value, above, windows}
use Rattle.definitions.specs.Shelves.{antemer, antemers}
use Rattle.laws.specs.Tests.{same-eq}
use Rattle.laws.specs.Counting.{count-cong, count_none}
use Rattle.laws.specs.Orders.{Ranking, OneToOne, ranked}
use Rattle.laws.specs.States.{matches-short}
use Rattle.laws.specs.Acceptors.{below_hit}
use Rattle.laws.specs.Tables.{through-fine, antemer_ok, antemer_end, antemer_ways, antemer-accepted}
use Rattle.laws.specs.Prefixes.{shared, sharing, sharing_from, shared-le, shared-from, sharing-split, sharing-short, sharing-whole, completions}
use Rattle.laws.specs.Rules.{Σ, banned, by_prefix, exists}
use Rattle.laws.proofs.RulesHold.{uncaught, fine-banned}
use Rattle.laws.proofs.ByPrefix.{banned-cong, sharing_from-cong, by_prefix-free, accepted-rule}

-- no antemer shares all m letters with w
pub antemers-full : (f : Form) (w : Word) (n : ℕ) → 0 < length w → sharing w (antemer f w) (length w) n ≡ 0
antemers-full f w n pos = count-cong _ (λ y. false) n (λ y k. go y (eqb (shared w y) (length w)) refl) ∙ count_none n
  where
    -- its first m-mer would be w itself
    begun : (y : Word) → length w ≤ length y → take (length w) y ≡ w → antemer f w y ≡ false
    begun [] h e = absurd (omega arith)
    begun (a ∷ y) h e =
        ap₂ (λ (t : Bool) (v : Word). all (above f w) (take (suc (length y)) (put t v (windows (length w) (y ++ w)))))
        (le-leb (length w) (suc (length (y ++ w))) (let l : length (y ++ w) ≡ length y + length w = length-append y w in omega arith))
        (take-append-le (length w) (a ∷ y) w h ∙ e)
        ∙ ap (λ (t : Bool). t && all (above f w) (take (length y) (windows (length w) (y ++ w)))) (le-ltb (value f w) (value f w) (omega arith))

    go : (y : Word) (t : Bool) → eqb (shared w y) (length w) ≡ t → (antemer f w y && t) ≡ false
    go y true e =
        let s : shared w y ≡ length w = eqb-true (shared w y) (length w) e in
        ap (λ (t : Bool). t && true)
        (begun y (omega (arith, (shared-le w y).1))
        (same-eq (take (length w) y) (take (length w) w) (sym (shared-from w y (length w) (omega arith)) ∙ le-leb (length w) (shared w y) (omega arith)) ∙ take-length w))
    go y false e = and-false (antemer f w y)

-- those of length i that share all i letters: one or none, tested directly
pub antemers-whole : (f : Form) (w : Word) → Letters w → (i : ℕ) → i ≤ length w → sharing w (antemer f w) i i ≡ cond (antemer f w (take i w)) 1 0
antemers-whole f w hw i h = sharing-whole w (antemer f w) i hw h

module _ (ρ : Ranking) (one : OneToOne ρ) (w : Word) (hw : Letters w) where
  -- where some R(i',j) with 2 ≤ j ≤ i' ≤ i is below, no antemer shares i letters with w
  pub antemers-banned : (i n : ℕ) → i ≤ length w → banned ρ w (λ j. true) i ≡ true → sharing w (antemer (ranked ρ) w) i n ≡ 0
  antemers-banned i n h e = omega (arith, sharing-split w (antemer (ranked ρ) w) i n, go (leb i n) refl)
    where
      go : (t : Bool) → leb i n ≡ t → sharing_from w (antemer (ranked ρ) w) i n ≡ 0
      go true k =
          let l : i + (n - i) ≡ n = omega (arith, leb-true i n k) in
          sharing_from-cong w (antemer (ranked ρ) w) (uncaught ρ w true w) (antemer-accepted ρ one w hw) i n
          ∙ ap (sharing_from w (uncaught ρ w true w) i) (sym l)
          ∙ completions w hw (antemer_ok ρ w) (antemer_end ρ w) i (n - i) h
          ∙ ap (λ (x : Bool). cond x (antemer_ways ρ w i (n - i)) 0)
          (through-fine w (below_hit ρ w) true w i (n - i) h ∙ fine-banned ρ one w hw true w i (n - i) h (omega arith)
          ∙ ap not (banned-cong ρ w (exists w w (i + (n - i))) i (λ j. true) (λ q j. le-leb (length w + suc (suc q)) (suc (i + (n - i) + length w)) (omega arith)) ∙ e))
      go false k = sharing-short w (antemer (ranked ρ) w) i n (leb-false i n k)

  -- otherwise, by the letter that follows the shared ones
  pub antemers-rule : (i n : ℕ) → i < length w → i < n
      → sharing w (antemer (ranked ρ) w) i n ≡ by_prefix ρ w (λ j. true) (sharing_from w (antemer (ranked ρ) w)) i n
  antemers-rule i n h k =
      accepted-rule ρ one w hw true w (antemer (ranked ρ) w) (antemer-accepted ρ one w hw) (λ j. true) i n (omega arith) k
      (ap (λ (t : Bool). t && true) (matches-short w i (length w) h)) (omega arith)
      (λ q l. le-leb (length w + suc (suc q)) (suc (n + length w)) (omega arith))

  -- those that share no letter: a letter of Σ1, and an antemer one shorter
  pub antemers-none-shared : (n : ℕ) → 0 < length w
      → sharing w (antemer (ranked ρ) w) 0 (suc n) ≡ length (filter (Σ ρ w 1) letters) * antemers (ranked ρ) w n
  antemers-none-shared n pos =
      antemers-rule 0 (suc n) pos (omega arith) ∙ by_prefix-free ρ w (λ j. true) 0 (antemer (ranked ρ) w) (suc n) n (λ q l. absurd (omega arith)) (omega arith)
