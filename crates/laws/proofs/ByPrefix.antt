-- The rule by prefix for any test that agrees with an acceptor on words of letters, and what it comes to where no m-mer that starts
-- in the shared letters counts. Antemers and postmers both take their rules from here.
-- Assumes nothing.
use Rattle.std.specs.Prelude.{ℕ, suc, ◌+◌, ◌-◌, ◌*◌, ◌≤◌, ◌<◌, Bool, true, false, cond, not, ◌&&◌, ◌||◌, List, [], ◌∷◌, map, ◌≡◌, refl, leb, eqb, length}
use Rattle.std.proofs.Math.Bool.{and-true}
use Rattle.std.proofs.Common.{sym, ap, ap₂, ◌∙◌, zero-mul, suc-mul, arith}
use Rattle.std.proofs.Math.Path.{fun_ext}
use Rattle.definitions.specs.Lists.{put, filter, total}
use Rattle.definitions.specs.Words.{Word, Letters, letters}
use Rattle.laws.specs.Counting.{count, count-cong}
use Rattle.laws.specs.Orders.{Ranking, OneToOne}
use Rattle.laws.specs.States.{matches, first}
use Rattle.laws.specs.Places.{any_to-cong, any_to-none, first_to-none, first_to-cong}
use Rattle.laws.specs.Prefixes.{shared, sharing, sharing_from, sharing-all}
use Rattle.laws.specs.Rules.{is_less, is_equal, R, Σ, own, banned, restrained, T, by_prefix, exists}
use Rattle.laws.proofs.RulesHold.{uncaught, sharing-rule}

-- one number for each entry that a test chooses
pub total-chosen : (p : ℕ → Bool) (c : ℕ) (l : List ℕ) → total (map (λ b. cond (p b) c 0) l) ≡ length (filter p l) * c
total-chosen p c [] = sym (zero-mul c)
total-chosen p c (b ∷ l) = go (p b) (total-chosen p c l)
  where
    go : (t : Bool) → total (map (λ a. cond (p a) c 0) l) ≡ length (filter p l) * c
        → cond t c 0 + total (map (λ a. cond (p a) c 0) l) ≡ length (put t b (filter p l)) * c
    go true e = omega (arith, suc-mul (length (filter p l)) c)
    go false e = omega arith

module _ (w : Word) (p q : Word → Bool) (h : (y : Word) → Letters y → p y ≡ q y) where
  -- tests that agree on words of letters count the same for each shared prefix
  pub sharing-cong : (i n : ℕ) → sharing w p i n ≡ sharing w q i n
  sharing-cong i n = count-cong _ _ n (λ y k. ap (λ (t : Bool). t && eqb (shared w y) i) (h y k.1))

  -- and from each shared prefix on
  pub sharing_from-cong : (i n : ℕ) → sharing_from w p i n ≡ sharing_from w q i n
  sharing_from-cong i n = count-cong _ _ n (λ y k. ap (λ (t : Bool). t && leb i (shared w y)) (h y k.1))

module _ (ρ : Ranking) (w : Word) (c : ℕ → Bool) (i : ℕ) where
  -- the rule from its three parts
  parts : (t : Bool) (r : ℕ → Bool) (s : ℕ → ℕ) → banned ρ w c i ≡ t → ((b : ℕ) → restrained ρ w c i b ≡ r b) → ((b : ℕ) → T ρ w c i b ≡ s b)
      → (from : ℕ → ℕ → ℕ) (n : ℕ)
      → by_prefix ρ w c from i n ≡ cond t 0 (total (map (λ b. cond (r b) (from (suc (suc i) - s b) (suc n - s b)) 0) letters))
  parts t r s e f g from n =
      ap₂ (λ (x : Bool) (y : ℕ → ℕ). cond x 0 (total (map y letters))) e
      (fun_ext (λ b. ap₂ (λ (x : Bool) (y : ℕ). cond x (from (suc (suc i) - y) (suc n - y)) 0) (f b) (g b)))

  -- tests of what counts that agree on the places from 2 to i + 1 ban the same
  pub banned-cong : (d : ℕ → Bool) → ((q : ℕ) → q < i → c (suc (suc q)) ≡ d (suc (suc q))) → banned ρ w c i ≡ banned ρ w d i
  banned-cong d h = any_to-cong i (λ i' k. any_to-cong i' (λ q l. ap (λ (t : Bool). t && is_less (R ρ w (suc i') (suc (suc q)))) (h q (omega arith))))

  -- and give one rule
  pub by_prefix-cong : (d : ℕ → Bool) → ((q : ℕ) → q < i → c (suc (suc q)) ≡ d (suc (suc q)))
      → (from : ℕ → ℕ → ℕ) (n : ℕ) → by_prefix ρ w c from i n ≡ by_prefix ρ w d from i n
  by_prefix-cong d h =
      parts (banned ρ w d i) (restrained ρ w d i) (T ρ w d i) (banned-cong d h)
      (λ b. ap (λ (t : Bool). Σ ρ w (suc i) b && not t)
      (any_to-cong i (λ q k. ap (λ (t : Bool). t && is_equal (R ρ w i (suc (suc q))) && not (Σ ρ w (i - q) b || own w (i - q) b)) (h q k))))
      (λ b. ap (λ (n : ℕ). suc (suc n)) (first_to-cong i _ _ (λ q k. ap (λ (t : Bool). t && is_equal (R ρ w i (suc (suc q))) && own w (i - q) b) (h q k))))

module _ (ρ : Ranking) (w : Word) (c : ℕ → Bool) (i : ℕ) where
  -- where no m-mer that starts at a place from 2 to i + 1 counts, a letter of Σ(i+1) follows, and then any word that passes
  pub by_prefix-free : (p : Word → Bool) (n r : ℕ) → ((q : ℕ) → q < i → c (suc (suc q)) ≡ false) → n - suc i ≡ r
      → by_prefix ρ w c (sharing_from w p) i n ≡ length (filter (Σ ρ w (suc i)) letters) * count p r
  by_prefix-free p n r h e =
      let u : suc (suc i) - suc (suc i) ≡ 0 = omega arith in
      let v : suc n - suc (suc i) ≡ r = omega arith in
      by_prefix-cong ρ w c i (λ j. false) h (sharing_from w p) n
      ∙ parts ρ w (λ j. false) i false (Σ ρ w (suc i)) (λ b. suc (suc i)) (any_to-none i (λ i' k. any_to-none i' (λ q l. refl)))
      (λ b. ap (λ (t : Bool). Σ ρ w (suc i) b && not t) (any_to-none i (λ q k. refl)) ∙ and-true (Σ ρ w (suc i) b))
      (λ b. ap (λ (l : ℕ). suc (suc l)) (first_to-none i (λ q. false) (λ l k. refl))) (sharing_from w p) n
      ∙ total-chosen (Σ ρ w (suc i)) (sharing_from w p (suc (suc i) - suc (suc i)) (suc n - suc (suc i))) letters
      ∙ ap (λ (x : ℕ). length (filter (Σ ρ w (suc i)) letters) * x) (ap₂ (sharing_from w p) u v ∙ sharing-all w p r)

module _ (ρ : Ranking) (one : OneToOne ρ) (w : Word) (hw : Letters w) (final : Bool) (t : Word) (p : Word → Bool)
    (agree : (y : Word) → Letters y → p y ≡ uncaught ρ w final t y) where
  -- the rule for the words that pass such a test and share exactly i letters with w
  pub accepted-rule : (counts : ℕ → Bool) (i n : ℕ) → i ≤ length w → i < n → (matches w (length w) (first w i) && final) ≡ false → length w ≤ n + length t
      → ((q : ℕ) → q < i → exists w t n (suc (suc q)) ≡ counts (suc (suc q)))
      → sharing w p i n ≡ by_prefix ρ w counts (sharing_from w p) i n
  accepted-rule counts i n h k off long same =
      let e : i + suc (n - suc i) ≡ n = omega arith in
      sharing-cong w p (uncaught ρ w final t) agree i n
      ∙ ap (sharing w (uncaught ρ w final t) i) (sym e)
      ∙ sharing-rule ρ one w hw final t i (n - suc i) h off (omega arith)
      ∙ ap₂ (λ (l : ℕ) (from : ℕ → ℕ → ℕ). by_prefix ρ w (exists w t l) from i l) e
      (fun_ext (λ s. fun_ext (λ l. sym (sharing_from-cong w p (uncaught ρ w final t) agree s l))))
      ∙ by_prefix-cong ρ w (exists w t n) i counts same (sharing_from w p) n
