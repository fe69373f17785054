-- What the functions behind a page ask and give. What is said of a word and a ranking is said of every one that the tables belong to.
-- Assumes nothing.
use Rattle.std.specs.Prelude.{ℕ, suc, Result, ◌+◌, ◌-◌, ◌*◌, ◌%◌, ◌^◌, ◌≤◌, ◌<◌, Bool, cond, List, [], ◌∷◌, map, ◌⊎◌, ◌≡◌, ltb, leb, eqb, length, get_or, take, drop}
use Rattle.std.specs.Coded.{le_prop, ×_prop, Π_prop}
use Rattle.std.proofs.Common.{inl, inr, ap, ap₂, arith}
use Rattle.definitions.specs.Lists.{filter, tabulate, over}
use Rattle.definitions.specs.Words.{Word, words, val}
use Rattle.definitions.specs.Shelves.{size}
use Rattle.definitions.specs.Refusals.{refusal, bad_start}
use Rattle.definitions.specs.Outcomes.{page_answer}
use Rattle.laws.specs.Orders.{Ranking, OneToOne, ranked}
use Rattle.laws.specs.Walks.{accepts, ways, branch}
use Rattle.powers.specs.Powers.{PowersAre}
use Rattle.states.specs.Tables.{own_of, LettersOf, LinksOf}
use Rattle.shelves.specs.Answers.{paged}
use Rattle.refusals.specs.declared.Refusal.{Refusal}

-- ---- the acceptor that the tables make

-- whether a letter is allowed at a state, where so many letters follow it
abbrev pub allowed : List ℕ → ℕ → ℕ → ℕ → Bool
allowed ban s n b = ltb (suc n) (get_or ban ((4 * s + b) % 128) 0)

-- where a letter leads from a state
abbrev pub leads : List ℕ → ℕ → ℕ → ℕ
leads moves s b = get_or moves (4 * s + b) 0

-- whether the word was met: the states from 32 on
abbrev pub met : ℕ → Bool
met s = leb 32 s

-- how many words of n letters complete a state
abbrev pub ways_from : List ℕ → List ℕ → ℕ → ℕ → ℕ
ways_from moves ban = ways (allowed ban) (leads moves) met

-- how many of these begin with a letter, where n letters follow it
abbrev pub ways_below : List ℕ → List ℕ → ℕ → ℕ → ℕ → ℕ
ways_below moves ban = branch (allowed ban) (leads moves) met

-- the words of n letters that complete a state, in alphabet order
abbrev pub completing : List ℕ → List ℕ → ℕ → ℕ → List Word
completing moves ban s n = filter (accepts (allowed ban) (leads moves) met s) (words n)

-- the states of a word of m letters: those below m where it was not met, and from 32 on those up to m where it was
abbrev pub Live : ℕ → ℕ → Type 0
Live m s = (s < m) ⊎ ((32 ≤ s) × (s ≤ 32 + m))

-- ---- the table of moves

-- no state is above 31
pub record NextsSmall (next : List ℕ) : Type 0 where
  pub small : (c : ℕ) → c < 128 → get_or next c 0 ≤ 31

-- where letters lead, by the next states: behind the first 128 places the word was met before
pub record MovesOf (m : ℕ) (next moves : List ℕ) : Type 0 where
  pub long : length moves ≡ 256
  pub unmet : (c : ℕ) → c < 128 → get_or moves c 0 ≡ cond (eqb (get_or next c 0) m) (get_or next c 0 + 32) (get_or next c 0)
  pub after : (c : ℕ) → c < 128 → get_or moves (128 + c) 0 ≡ get_or next c 0 + 32

-- ---- the table of ways

-- tables that lead from each state of a word of m letters to another
pub record Tables (m : ℕ) (moves ban : List ℕ) : Type 0 where
  pub few : m ≤ 31
  pub lead : (s b : ℕ) → Live m s → b < 4 → Live m (leads moves s b)

-- a word of at most 31 letters has a state in one way only: where it was met, or where it was not
pub Live-prop : {m s : ℕ} → m ≤ 31 → IsProp (Live m s)
Live-prop h (inl a) (inl b) = ap inl (le_prop a b)
Live-prop h (inl a) (inr b) = absurd (omega arith)
Live-prop h (inr a) (inl b) = absurd (omega arith)
Live-prop h (inr a) (inr b) = ap inr (×_prop le_prop le_prop a b)

-- so that tables lead from state to state is a fact that a type may keep
pub Tables-prop : (m : ℕ) (moves ban : List ℕ) → IsProp (Tables m moves ban)
Tables-prop m moves ban x y =
    ap₂ (λ (f : m ≤ 31) (l : (s b : ℕ) → Live m s → b < 4 → Live m (leads moves s b)). record { few = f; lead = l }) (le_prop x.few y.few)
    (Π_prop (λ s. Π_prop (λ b. Π_prop (λ h. Π_prop (λ k. Live-prop x.few)))) x.lead y.lead)

-- a table of ways of which the first n rows are right: row r has the ways by r letters, that of state s at place 64·r+s
pub record WaysTo (m n : ℕ) (moves ban ways : List ℕ) : Type 0 where
  pub long : length ways ≡ 2048
  pub right : (r s : ℕ) → r < n → Live m s → get_or ways (64 * r + s) 0 ≡ ways_from moves ban s r

-- a table of which the row of no letter is right: one way from each state in which the word was met
pub record Ended (ways : List ℕ) : Type 0 where
  pub long : length ways ≡ 2048
  pub each : (s : ℕ) → s < 64 → get_or ways s 0 ≡ cond (met s) 1 0

-- what reading the ways from a state asks, where so many letters are left: the rows of fewer letters are right
pub record Ready (m left state : ℕ) (moves ban ways : List ℕ) : Type 0 where
  pub known : WaysTo m left moves ban ways
  pub live : Live m state
  pub some : 0 < left
  pub few : left ≤ 31

-- what writing a row of ways asks, for the states from lo to below hi
pub record RowReady (m lo hi left : ℕ) (moves ban ways : List ℕ) : Type 0 where
  pub known : WaysTo m left moves ban ways
  pub live : (s : ℕ) → lo ≤ s → s < hi → Live m s
  pub ordered : lo ≤ hi
  pub high : hi ≤ 64
  pub some : 0 < left
  pub few : left ≤ 31

-- ---- a page

-- the numbers of some words of n letters behind letters of which the number is `begun`
abbrev pub numbered : ℕ → ℕ → List Word → List ℕ
numbered begun n l = map (λ z. begun * 4 ^ n + val z) l

-- the numbers of the k-mers under a beginning: its letters have the number `begun`, it ends in a state, and so many letters are left
abbrev pub under : List ℕ → List ℕ → ℕ → ℕ → ℕ → List ℕ
under moves ban left state begun = numbered begun left (completing moves ban state left)

-- room into which entries of a list were written: those from a place on, as many as there are and the room takes; and how many
pub record Listed (from : List ℕ) (skip : ℕ) (old room : List ℕ) (written : ℕ) : Type 0 where
  pub count : written ≡ length (take (length old) (drop skip from))
  pub fills : room ≡ over (take (length old) (drop skip from)) old

-- where the word was not met and just the rest of it is left, nothing else completes a beginning
abbrev pub RestAlone : ℕ → ℕ → List ℕ → List ℕ → Type 0
RestAlone m word moves ban =
    (i n : ℕ) → i + n ≡ m → 0 < n → 0 < ways_from moves ban i n → map val (completing moves ban i n) ≡ word % 4 ^ n ∷ []

-- the tables for going down to the words of k letters: the ways by up to k letters, the powers of 4, and that the rest of the word is alone
pub record Complete (k m word : ℕ) (moves ban ways powers : List ℕ) : Type 0 where
  pub few : k ≤ 31
  pub known : WaysTo m (suc k) moves ban ways
  pub powers_are : PowersAre powers
  pub rest : RestAlone m word moves ban

-- a beginning that stands in the tables of up to k letters, and with more k-mers under it than are to be passed over
pub record Reached (k m left state begun skip : ℕ) (moves ban : List ℕ) : Type 0 where
  pub live : Live m state
  pub few : left ≤ k
  pub small : begun < 4 ^ (31 - left)
  pub behind : skip < ways_from moves ban state left

-- numbers that follow one another, `count` from `first` on, are the entries of a list from place `skip` on
pub record AtOnce (from : List ℕ) (skip first count : ℕ) : Type 0 where
  pub all : drop skip from ≡ tabulate (λ i. first + i) count
  pub fits : first + count ≤ 4 ^ 31

-- what going one letter further down asks
pub record Longer (m left state begun letter : ℕ) : Type 0 where
  pub live : Live m state
  pub letter_bound : letter < 4
  pub some : 0 < left
  pub small : 4 * begun + letter < 4 ^ 31

-- the next states and bans of a word of m letters and its number, under a ranking
pub record ShelfOf (ρ : Ranking) (w : Word) (m word : ℕ) (next ban : List ℕ) : Type 0 where
  pub one : OneToOne ρ
  pub letters : LettersOf w m (own_of w)
  pub links : LinksOf ρ w next ban
  pub number : val w ≡ word

-- an answer and the room are those of a page
abbrev pub PageIs : Ranking → Word → ℕ → ℕ → List ℕ → List ℕ → Result ℕ Refusal → Type 0
PageIs ρ w k start old room r = paged r room ≡ page_answer (refusal (bad_start (size (ranked ρ) k w) start ∷ [])) (ranked ρ) k w start old
