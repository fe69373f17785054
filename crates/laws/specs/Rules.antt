-- Document 01's rules that link the counts, in its own notions: R(i,j), the special alphabets Σ, and T; and the rule by shared prefix
-- that they make. Places are counted from 1 here, as there: a1 is the first letter of w. RulesHold proves the rule.
-- Assumes nothing.
use Rattle.std.specs.Prelude.{ℕ, zero, suc, ◌+◌, ◌-◌, Bool, true, false, cond, not, ◌&&◌, ◌||◌, [], ◌∷◌, map, ◌≡◌, refl, ltb, leb, eqb, length, get_or, take, drop}
use Rattle.definitions.specs.Lists.{total}
use Rattle.definitions.specs.Words.{Word, letters}
use Rattle.definitions.specs.Vigemins.{keyed, value}
use Rattle.laws.specs.Places.{any_to, first_to}
use Rattle.laws.specs.Orders.{key_ranking, Ranking, ranked}
use Rattle.laws.specs.Prefixes.{goes_on, sharing_from}
use Rattle.definitions.specs.Shelves.{antemer, postmer}

-- below, equal or above
pub data Sign : Type 0 where
  less equal greater : Sign

-- the sign of one number against another
abbrev pub sign : ℕ → ℕ → Sign
sign x y = cond (ltb x y) less (cond (eqb x y) equal greater)

-- the sign is below
abbrev pub is_less : Sign → Bool
is_less less = true
is_less equal = false
is_less greater = false

-- the sign is equal
abbrev pub is_equal : Sign → Bool
is_equal less = false
is_equal equal = true
is_equal greater = false

-- the letters aj..ai of w
abbrev pub stretch : Word → ℕ → ℕ → Word
stretch w i zero = []
stretch w i (suc p) = drop p (take i w)

-- whether a letter is ai, w's own there
abbrev pub own : Word → ℕ → ℕ → Bool
own w zero b = false
own w (suc l) b = goes_on w l b

module _ (ρ : Ranking) (w : Word) where
  -- R(i,j): the sign of aj..ai against the letters of w from a1 on, both keyed by c1 and so on
  abbrev pub R : ℕ → ℕ → Sign
  R i j = sign (value (ranked ρ) (stretch w i j)) (value (ranked ρ) (take (length (stretch w i j)) w))

  -- whether a letter lies in the special alphabet Σi: it ranks above ai there. Σ(m+1) has all four letters
  abbrev pub Σ : ℕ → ℕ → Bool
  Σ zero b = false
  Σ (suc l) b = leb (length w) l || ltb (ρ l (get_or w l 0)) (ρ l b)

  -- counts j tells whether the m-mer that starts at j counts
  module _ (counts : ℕ → Bool) where
    -- whether i shared letters ban a word: some R(i',j) with 2 ≤ j ≤ i' ≤ i is below
    abbrev pub banned : ℕ → Bool
    banned i = any_to i (λ i'. any_to i' (λ q. counts (suc (suc q)) && is_less (R (suc i') (suc (suc q)))))

    -- whether the letter b may follow i shared letters: it lies in Σ(i+1), and for every j from 2 to i+1 with R(i,j) equal it lies in
    -- Σ(i−j+2) or is a(i−j+2). At j = i+1 no letters are compared, which counts as equal, and that letter is a1
    abbrev pub restrained : ℕ → ℕ → Bool
    restrained i b = Σ (suc i) b && not (any_to i (λ q. counts (suc (suc q)) && is_equal (R i (suc (suc q))) && not (Σ (i - q) b || own w (i - q) b)))

    -- T: the least j from 2 to i+1 with R(i,j) equal and b = a(i−j+2); i+2 where there is none
    abbrev pub T : ℕ → ℕ → ℕ
    T i b = suc (suc (first_to i (λ q. counts (suc (suc q)) && is_equal (R i (suc (suc q))) && own w (i - q) b)))

    -- the rule for words of n letters that share exactly i with w, from the number of those that share at least so many: none where
    -- the shared letters ban them; else, for each letter that may follow, those T−1 shorter that share at least i−T+2 letters
    abbrev pub by_prefix : (ℕ → ℕ → ℕ) → ℕ → ℕ → ℕ
    by_prefix from i n = cond (banned i) 0 (total (map (λ b. cond (restrained i b) (from (suc (suc i) - T i b) (suc n - T i b)) 0) letters))

-- whether the m-mer of w that starts at j exists in a word of n letters that t follows
abbrev pub exists : Word → Word → ℕ → ℕ → Bool
exists w t n j = leb (length w + j) (suc (n + length t))

-- ---- four cases, computed

-- the rule for antemers under a key, with the true counts of shorter ones
abbrev antemers_by : Word → Word → ℕ → ℕ → ℕ
antemers_by key w i n = by_prefix (key_ranking key) w (λ j. true) (sharing_from w (antemer (keyed key) w)) i n

-- and for postmers
abbrev postmers_by : Word → Word → ℕ → ℕ → ℕ
postmers_by key w i n = by_prefix (key_ranking key) w (exists w [] n) (sharing_from w (postmer (keyed key) w)) i n

-- each number was counted by going through all words: key AA with CA, where R(2,2) is below; with CG, where the m-mer at C does not exist;
-- with AA, whose own letter may follow; and key AAC with AAC, where two shared prefixes go on with A
pub rule-cases : (postmers_by (0 ∷ 0 ∷ []) (1 ∷ 0 ∷ []) 2 3 ≡ 0) × (postmers_by (0 ∷ 0 ∷ []) (1 ∷ 2 ∷ []) 2 3 ≡ 4)
    × (postmers_by (0 ∷ 0 ∷ []) (0 ∷ 0 ∷ []) 2 3 ≡ 4) × (antemers_by (0 ∷ 0 ∷ 1 ∷ []) (0 ∷ 0 ∷ 1 ∷ []) 2 4 ≡ 11)
rule-cases = (refl, refl, refl, refl)
