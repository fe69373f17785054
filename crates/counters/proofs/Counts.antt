-- Counts of antemers by shared prefix, as the code sums them up: over the shared lengths, and over the letters that may follow.
-- Assumes nothing.
use Prim.Native.Nat.{ℕ, zero, suc, ◌+◌, ◌-◌, ◌*◌, ◌^◌, ◌≤◌, ◌<◌, min}
use mathlib.Core.Bool.{Bool, true, false, cond, ◌&&◌}
use mathlib.Core.List.{List, [], ◌∷◌, map}
use mathlib.Core.Path.{◌≡◌, refl, sym, ap, ap₂, ◌∙◌}
use native.Mathlib.Nat.{zero-add, add-zero, add_assoc, not-suc-le-zero, le_of_suc-le-suc, pow-le-pow_right, le_trans, mul-le-mul}
use native.Mathlib.Numerals.{add-one}
use native.Mathlib.Omega.{arith}
use mir.Val.{bool_byte}
use borrow.Author.Tests.{leb-true, leb-false}
use lib.Dec.{leb}
use lib.ListN.{length, get_or, take}
use Rattle.definitions.specs.Lists.{filter, total}
use Rattle.definitions.specs.Words.{Word, letters, word as word_of}
use Rattle.definitions.specs.Vigemins.{keyed}
use Rattle.definitions.specs.Shelves.{antemer}
use Rattle.laws.specs.Filters.{filter-le}
use Rattle.laws.specs.Places.{first_to-le}
use Rattle.laws.specs.Numbers.{four-pos, length_digits, digits-below, letters-at}
use Rattle.laws.specs.Counting.{count, count-le}
use Rattle.laws.specs.Orders.{Ranking, key_ranking, keyed-law}
use Rattle.laws.specs.Prefixes.{sharing, sharing_from, sharing-all, sharing-split, sharing-short, sharing-past}
use Rattle.laws.specs.Rules.{is_equal, own, R, Σ, banned, restrained, T, by_prefix}
use Rattle.laws.proofs.Antemers.{antemers-full, antemers-whole, antemers-banned, antemers-rule, antemers-none-shared}
use Rattle.counters.specs.Settings.{SetTo}

-- a count of words of at most ten letters is at most 4^10
pub from-small : (w : Word) (p : Word → Bool) (i n : ℕ) → n ≤ 10 → sharing_from w p i n ≤ 4 ^ 10
from-small w p i n h = le_trans (count-le _ n) (pow-le-pow_right four-pos {j = 10} h)

-- ---- over the shared lengths

-- a sum over the shared lengths from i on that has come to a length: with those that share so many letters or more it is all that share at least i
pub record Summed (w : Word) (p : Word → Bool) (i n sum shared : ℕ) : Type 0 where
  pub part : sum + sharing_from w p shared n ≡ sharing_from w p i n

module _ {w : Word} {p : Word → Bool} {i n : ℕ} where
  -- one length more
  pub summed-more : {sum shared one : ℕ} → Summed w p i n sum shared → one ≡ sharing w p shared n → Summed w p i n (sum + one) (shared + 1)
  summed-more {sum} {shared} {one} s e =
      record {
        part =
            rw (add-one shared, e)
            (add_assoc sum (sharing w p shared n) (sharing_from w p (suc shared) n)
            ∙ ap (λ (k : ℕ). sum + k) (sym (sharing-split w p shared n)) ∙ s.part);
      }

  -- the sum is small
  pub summed-small : {sum shared one : ℕ} → Summed w p i n sum shared → one ≡ sharing w p shared n → n ≤ 10 → sum + one ≤ 4 ^ 10
  summed-small {sum} {shared} {one} s e h =
      omega (arith, s.part, sharing-split w p shared n, from-small w p i n h)

  -- past w's length or past n all is summed up
  pub summed-all : {sum shared : ℕ} → Summed w p i n sum shared → min (length w) n < shared → sum ≡ sharing_from w p i n
  summed-all {sum} {shared} s h = sym (add-zero sum) ∙ ap (λ (k : ℕ). sum + k) (sym (go (leb shared n) refl)) ∙ s.part
    where
      go : (t : Bool) → leb shared n ≡ t → sharing_from w p shared n ≡ 0
      go true k = sharing-past w p shared n (omega (arith, leb-true shared n k))
      go false k = sharing-short w p shared n (leb-false shared n k)

-- ---- over the letters that may follow

-- one entry more of a sum
total-more : (f : ℕ → ℕ) (l : List ℕ) (k : ℕ) → k < length l → total (map f (take (suc k) l)) ≡ total (map f (take k l)) + f (get_or l k 0)
total-more f [] k h = absurd (not-suc-le-zero h)
total-more f (a ∷ l) zero h = add-zero (f a) ∙ sym (zero-add (f a))
total-more f (a ∷ l) (suc k) h = ap (λ (n : ℕ). f a + n) (total-more f l k (le_of_suc-le-suc h)) ∙ sym (add_assoc (f a) (total (map f (take k l))) (f (get_or l k 0)))

-- what a letter adds: where it may follow, those T−1 shorter that share at least i−T+2 letters
abbrev pub following : Ranking → Word → (ℕ → ℕ → ℕ) → ℕ → ℕ → ℕ → ℕ
following ρ w from i n b = cond (restrained ρ w (λ j. true) i b) (from (suc (suc i) - T ρ w (λ j. true) i b) (suc n - T ρ w (λ j. true) i b)) 0

-- T lies between 2 and i + 2, so that what follows is shorter
pub T-between : (ρ : Ranking) (w : Word) {i n : ℕ} (b : ℕ) {t : ℕ} → t ≡ T ρ w (λ j. true) i b → i < n → (t ≤ i + 2) × (t ≤ n + 1) × (n + 1 - t < n)
T-between ρ w {i} b e h = omega (arith, first_to-le i (λ q. true && is_equal (R ρ w i (suc (suc q))) && own w (i - q) b))

-- a sum over the letters that has come to a letter
pub record Gathered (ρ : Ranking) (w : Word) (p : Word → Bool) (i n sum letter : ℕ) : Type 0 where
  pub upto : letter ≤ 4
  pub part : sum ≡ total (map (following ρ w (sharing_from w p) i n) (take letter letters))
  pub small : sum ≤ letter * 4 ^ 10

module _ {ρ : Ranking} {w : Word} {p : Word → Bool} {i n : ℕ} where
  module _ {sum letter : ℕ} (g : Gathered ρ w p i n sum letter) (h : letter < 4) where
    -- one letter more, by what it adds
    gathered-by : {one : ℕ} → one ≡ following ρ w (sharing_from w p) i n letter → one ≤ 4 ^ 10 → Gathered ρ w p i n (sum + one) (letter + 1)
    gathered-by {one} e k =
        let f : ℕ → ℕ = following ρ w (sharing_from w p) i n in
        record {
          upto = omega arith;
          part =
              ap₂ (λ (a b : ℕ). a + b) g.part (e ∙ ap f (sym (letters-at h)))
              ∙ sym (total-more f letters letter h)
              ∙ ap (λ (l : ℕ). total (map f (take l letters))) (sym (add-one letter));
          small = omega (arith, g.small);
        }

    -- one that may follow
    pub gathered-more : {t one : ℕ} → n ≤ 10 → i < n → true ≡ restrained ρ w (λ j. true) i letter → t ≡ T ρ w (λ j. true) i letter
        → one ≡ sharing_from w p (i + 2 - t) (n + 1 - t) → Gathered ρ w p i n (sum + one) (letter + 1)
    gathered-more {t} {one} few k e q r =
        gathered-by
        (r
        ∙ (let a : i + 2 - t ≡ suc (suc i) - t = omega arith in
        let b : n + 1 - t ≡ suc n - t = omega arith in
        ap₂ (sharing_from w p) (a ∙ ap (λ (d : ℕ). suc (suc i) - d) q) (b ∙ ap (λ (d : ℕ). suc n - d) q))
        ∙ ap (λ (x : Bool). cond x (sharing_from w p (suc (suc i) - T ρ w (λ j. true) i letter) (suc n - T ρ w (λ j. true) i letter)) 0) e)
        (rw r (from-small w p (i + 2 - t) (n + 1 - t) (omega (arith, T-between ρ w letter q k))))

    -- and one that may not
    pub gathered-skip : false ≡ restrained ρ w (λ j. true) i letter → Gathered ρ w p i n sum (letter + 1)
    gathered-skip e =
        rw add-zero at
        (gathered-by {one = 0} (ap (λ (x : Bool). cond x (sharing_from w p (suc (suc i) - T ρ w (λ j. true) i letter) (suc n - T ρ w (λ j. true) i letter)) 0) e) (omega arith))

    -- the sum is small
    pub gathered-small : {t one : ℕ} → n ≤ 10 → i < n → t ≡ T ρ w (λ j. true) i letter → one ≡ sharing_from w p (i + 2 - t) (n + 1 - t) → sum + one ≤ 4 * 4 ^ 10
    gathered-small {t} {one} few k q r =
        let small : one ≤ 4 ^ 10 = rw r (from-small w p (i + 2 - t) (n + 1 - t) (omega (arith, T-between ρ w letter q k))) in
        omega (arith, g.small)

-- a test as a number
as_number : (t : Bool) → bool_byte t ≡ cond t 1 0
as_number true = refl
as_number false = refl

-- ---- document 01's rules for the keyed form

module _ {m key word : ℕ} (s : SetTo m key word) where
  -- the key's letters
  abbrev key_word : Word
  key_word = word_of m key

  -- the word's letters
  abbrev own_word : Word
  own_word = word_of m word

  -- the antemers
  abbrev is_antemer : Word → Bool
  is_antemer = antemer (keyed key_word) own_word

  -- the word has m letters
  long : length own_word ≡ m
  long = length_digits 4 m word

  -- no antemer shares all of them
  pub full-none : {i : ℕ} (n : ℕ) → i ≡ m → 0 ≡ sharing own_word is_antemer i n
  full-none {i} n e =
      sym (ap (λ (k : ℕ). sharing own_word is_antemer k n) (e ∙ sym long) ∙ antemers-full (keyed key_word) own_word n (rw long s.some))

  -- none shares letters that ban it
  pub banned-none : (i n : ℕ) → i ≤ m → true ≡ banned (key_ranking key_word) own_word (λ j. true) i → 0 ≡ sharing own_word is_antemer i n
  banned-none i n h e =
      sym
      (keyed-law (λ ρ f. banned ρ own_word (λ j. true) i ≡ true → sharing own_word (antemer f own_word) i n ≡ 0)
      (λ ρ one. antemers-banned ρ one own_word (digits-below four-pos m word) i n (rw long h)) key_word (digits-below four-pos m key) (sym e))

  -- one or none has no letter behind the shared ones
  pub whole-one : {i n r : ℕ} {t : Bool} → i ≤ m → i ≡ n → t ≡ is_antemer (take i own_word) → r ≡ bool_byte t → r ≡ sharing own_word is_antemer i n
  whole-one {i} {t = t} h e q k =
      k
      ∙ as_number t
      ∙ ap (λ (b : Bool). cond b 1 0) q
      ∙ sym (antemers-whole (keyed key_word) own_word (digits-below four-pos m word) i (rw long h))
      ∙ ap (sharing own_word is_antemer i) e

  -- those that share no letter
  pub none-shared : {i n first rest : ℕ} → i ≡ 0 → 0 < n → first ≡ length (filter (Σ (key_ranking key_word) own_word 1) letters) → rest ≡ sharing_from own_word is_antemer 0 (n - 1)
      → first * rest ≡ sharing own_word is_antemer i n
  none-shared {i} {n} z h e q =
      let k : suc (n - 1) ≡ n = omega arith in
      ap₂ (λ (a b : ℕ). a * b) e (q ∙ sharing-all own_word is_antemer (n - 1))
      ∙ sym
      (keyed-law (λ ρ f. sharing own_word (antemer f own_word) 0 (suc (n - 1)) ≡ length (filter (Σ ρ own_word 1) letters) * count (antemer f own_word) (n - 1))
      (λ ρ one. antemers-none-shared ρ one own_word (digits-below four-pos m word) (n - 1) (rw long s.some)) key_word (digits-below four-pos m key))
      ∙ ap₂ (sharing own_word is_antemer) (sym z) k

  -- their product is small
  pub none-shared-small : {first rest : ℕ} (n : ℕ) → n ≤ 10 → first ≡ length (filter (Σ (key_ranking key_word) own_word 1) letters) → rest ≡ sharing_from own_word is_antemer 0 n
      → first * rest ≤ 4 * 4 ^ 10
  none-shared-small n h e q =
      rw (e, q) (mul-le-mul (filter-le (Σ (key_ranking key_word) own_word 1) letters) (from-small own_word is_antemer 0 n h))

  -- else by the letter that follows the shared ones
  pub gathered-all : {i n sum letter : ℕ} → i < m → i < n → false ≡ banned (key_ranking key_word) own_word (λ j. true) i
      → Gathered (key_ranking key_word) own_word is_antemer i n sum letter → 4 ≤ letter → sum ≡ sharing own_word is_antemer i n
  gathered-all {i} {n} {sum} {letter} h k e g l =
      let four : letter ≡ 4 = omega (arith, g.upto) in
      g.part
      ∙ ap (λ (d : ℕ). total (map (following (key_ranking key_word) own_word (sharing_from own_word is_antemer) i n) (take d letters))) four
      ∙ ap (λ (x : Bool). cond x 0 (total (map (following (key_ranking key_word) own_word (sharing_from own_word is_antemer) i n) letters))) e
      ∙ sym
      (keyed-law (λ ρ f. sharing own_word (antemer f own_word) i n ≡ by_prefix ρ own_word (λ j. true) (sharing_from own_word (antemer f own_word)) i n)
      (λ ρ one. antemers-rule ρ one own_word (digits-below four-pos m word) i n (rw long h) k) key_word (digits-below four-pos m key))
