-- What the functions behind a worksheet ask and give. What is said of a word and a ranking is said of every one that the tables belong to.
-- Assumes nothing.
use Rattle.std.specs.Prelude.{ℕ, suc, ◌+◌, ◌-◌, ◌*◌, ◌^◌, ◌≤◌, ◌<◌, min, Bool, true, cond, not, ◌&&◌, List, map, ◌⊎◌, ◌≡◌, ltb, eqb, length, get_or, drop}
use Rattle.definitions.specs.Lists.{total}
use Rattle.definitions.specs.Words.{Word, letters}
use Rattle.definitions.specs.Shelves.{antemers, postmers, column}
use Rattle.laws.specs.Orders.{Ranking, ranked}
use Rattle.laws.specs.Threads.{caught}
use Rattle.laws.specs.Acceptors.{below_hit}
use Rattle.laws.specs.Tables.{antemer_end}
use Rattle.laws.specs.Bans.{never, ban, lasts, low_by}
use Rattle.states.specs.Tables.{AlphabetsOf, LinksOf}
use Rattle.states.specs.declared.States.{States}

-- ---- words and rankings that the tables belong to

-- the states of a word of m letters
pub record StatesOf (ρ : Ranking) (w : Word) (m : ℕ) (s : States) : Type 0 where
  pub alphabets : AlphabetsOf ρ w m s.own s.marks
  pub links : LinksOf ρ w s.next s.ban

-- an entry of a table at row i, by w's own letter at place p, is the one given, whatever would stand past the end
abbrev pub EntryIs : {E : Type 0} → ℕ → ℕ → States → List E → E → Type 0
EntryIs {E} i p s table r = (d : E) → r ≡ get_or table (4 * i + get_or s.own p 0) d

-- ---- lists of numbers

-- a list of n numbers: those below `to` are given, the others are 0
pub record UpTo (n to : ℕ) (given : ℕ → ℕ) (list : List ℕ) : Type 0 where
  pub long : length list ≡ n
  pub below : (i : ℕ) → i < to → get_or list i 0 ≡ given i
  pub above : (i : ℕ) → to ≤ i → get_or list i 0 ≡ 0

-- ---- where antemers end

-- whether the m-mer that has the first i letters of w and then w's first letters again comes out below w, or is w
abbrev pub CaughtIs : Ranking → Word → ℕ → Bool → Type 0
CaughtIs ρ w i r = r ≡ caught w (below_hit ρ w) true i (drop i w) w

-- the ways to end at state i, by those at the state that it falls to
abbrev pub EndIs : Ranking → Word → ℕ → ℕ → ℕ → Type 0
EndIs ρ w i fallen r = r ≡ cond (not (eqb fallen 0) && not (caught w (below_hit ρ w) true i (drop i w) w)) 1 0

-- below which state antemers stay: it is m, or w's own letter at the state below it is banned
pub record ReachIs (ρ : Ranking) (w : Word) (live : ℕ) : Type 0 where
  pub some : 0 < live
  pub most : live ≤ length w
  pub stops : live < length w → ban w (low_by ρ w) (live - 1) (get_or w (live - 1) 0) ≤ length w

-- the ways to end an antemer at a state
abbrev pub end_ways : Ranking → Word → ℕ → ℕ
end_ways ρ w i = cond (antemer_end ρ w i) 1 0

-- for each state below `live` the ways to end an antemer there
abbrev pub EndsAre : Ranking → Word → ℕ → List ℕ → Type 0
EndsAre ρ w live ends = UpTo 64 live (end_ways ρ w) ends

-- in how many rows w itself is allowed
abbrev pub LastsIs : Ranking → Word → ℕ → Type 0
LastsIs ρ w r = r ≡ lasts w (low_by ρ w) (length w)

-- ---- a row of ways

-- the state that a letter leads to; 32, above all states, where it is banned with so many letters left
abbrev pub led_to : ℕ → ℕ → ℕ → ℕ
led_to left ban next = cond (ltb left ban) next 32

-- a table that holds, for each state and letter, the state that the letter leads to
pub record AllowedBy (left : ℕ) (next ban allowed : List ℕ) : Type 0 where
  pub long : length allowed ≡ 128
  pub each : (c : ℕ) → c < 128 → get_or allowed c 0 ≡ led_to left (get_or ban c 0) (get_or next c 0)

-- the ways on by the letter at place c, where so many letters are done
abbrev pub way_of : ℕ → ℕ → List ℕ → List ℕ → ℕ
way_of c done allowed ways = get_or ways (done + get_or allowed c 0) 0

-- the ways on from a state
abbrev pub sum_of : ℕ → ℕ → List ℕ → List ℕ → ℕ
sum_of i done allowed ways = total (map (λ b. way_of (4 * i + b) done allowed ways) letters)

-- what reading one way asks
pub record WayReady (c done : ℕ) (allowed ways : List ℕ) : Type 0 where
  pub inside : c < 128
  pub leads : done + get_or allowed c 0 < 64

-- what summing up the ways on from a state asks: no way passes 4^30
pub record SumReady (i done : ℕ) (allowed ways : List ℕ) : Type 0 where
  pub ready : (b : ℕ) → b < 4 → WayReady (4 * i + b) done allowed ways
  pub small : (b : ℕ) → b < 4 → way_of (4 * i + b) done allowed ways ≤ 4 ^ 30

-- what writing a row asks: what is written stands below place 32, no letter leads past the next state but to 32, and no sum passes 4^31
pub record RowReady (lo hi done : ℕ) (allowed ways : List ℕ) : Type 0 where
  pub long_allowed : length allowed ≡ 128
  pub long_ways : length ways ≡ 64
  pub ordered : lo ≤ hi
  pub high : suc done + hi ≤ 32
  pub most : (i b : ℕ) → i < hi → b < 4 → get_or allowed (4 * i + b) 0 ≤ 32
  pub leads : (i b : ℕ) → i < hi → b < 4 → get_or allowed (4 * i + b) 0 < 32 → get_or allowed (4 * i + b) 0 ≤ suc i
  pub small : (i b : ℕ) → lo ≤ i → i < hi → b < 4 → way_of (4 * i + b) done allowed ways ≤ 4 ^ 30

-- ---- a column

-- W i n is the ways to complete state i by n letters, as a column is counted: from those by no letter, by the next states and the bans
pub record Counts (W : ℕ → ℕ → ℕ) (m rows start follow live : ℕ) (first next ban : List ℕ) : Type 0 where
  pub some : 0 < m
  pub few : m + rows ≤ 31
  pub whole : start + follow ≡ m
  pub within : start < live
  pub alive : live ≤ suc m
  pub bans : (i b : ℕ) → i < live → b < 4 → (get_or ban (4 * i + b) 0 ≤ m) ⊎ (get_or ban (4 * i + b) 0 ≡ never)
  pub leads : (i b : ℕ) → i < live → b < 4 → (get_or next (4 * i + b) 0 ≤ suc i) × (get_or next (4 * i + b) 0 ≤ m)
  pub begins : UpTo 64 live (λ i. W i 0) first
  pub dead : (i n : ℕ) → live ≤ i → i ≤ m → W i n ≡ 0
  pub step : (i n : ℕ) → i < live → suc n ≤ rows
      → W i (suc n) ≡ total (map (λ b. cond (ltb (suc n + follow) (get_or ban (4 * i + b) 0)) (W (get_or next (4 * i + b) 0) n) 0) letters)
  pub free : (i n : ℕ) → i + (suc n + follow) < m → W i (suc n) ≡ 4 ^ suc n
  pub small : (i n : ℕ) → W i n ≤ 4 ^ n

-- some ways are counted so
abbrev pub Countable : (m rows start follow live : ℕ) → List ℕ → List ℕ → List ℕ → Type 0
Countable m rows start follow live first next ban = (W : ℕ → ℕ → ℕ) × Counts W m rows start follow live first next ban

-- whatever ways are counted so, the column holds those from the start
abbrev pub CountedBy : (m rows start follow live : ℕ) → List ℕ → List ℕ → List ℕ → List ℕ → Type 0
CountedBy m rows start follow live first next ban r =
    (W : ℕ → ℕ → ℕ) → Counts W m rows start follow live first next ban → UpTo 31 (suc rows) (W start) r

-- what the ways hold after n letters: state i at place n + i, and 0 beyond the states that live
pub record Filled (W : ℕ → ℕ → ℕ) (rows start live n : ℕ) (ways : List ℕ) : Type 0 where
  pub long : length ways ≡ 64
  pub right : (i : ℕ) → i < live → i + n ≤ start + rows → get_or ways (n + i) 0 ≡ W i n
  pub rest : (p : ℕ) → n + live ≤ p → get_or ways p 0 ≡ 0

-- what stands where the next row is to be written, after n letters
pub record Turn (W : ℕ → ℕ → ℕ) (first next ban : List ℕ) (m rows start follow live n : ℕ) (allowed ways : List ℕ) : Type 0 where
  pub counts : Counts W m rows start follow live first next ban
  pub lets : AllowedBy (min (suc n + follow) m) next ban allowed
  pub filled : Filled W rows start live n ways
  pub more : suc n ≤ rows

-- it stands so for some ways
abbrev pub TurnReady : (m rows start follow live n : ℕ) → List ℕ → List ℕ → Type 0
TurnReady m rows start follow live n allowed ways =
    (W : ℕ → ℕ → ℕ) × (first : List ℕ) × (next : List ℕ) × (ban : List ℕ) × Turn W first next ban m rows start follow live n allowed ways

-- the next row is written, and a number is the start's ways in it
pub record TurnDone (W : ℕ → ℕ → ℕ) (rows start live n : ℕ) (ways : List ℕ) (r : ℕ) : Type 0 where
  pub filled : Filled W rows start live (suc n) ways
  pub begun : r ≡ W start (suc n)

-- it is so for whatever ways it stood before the next row
abbrev pub Turned : (m rows start follow live n : ℕ) → List ℕ → List ℕ → List ℕ → ℕ → Type 0
Turned m rows start follow live n allowed ways after r =
    (W : ℕ → ℕ → ℕ) (first next ban : List ℕ) → Turn W first next ban m rows start follow live n allowed ways → TurnDone W rows start live n after r

-- ---- a worksheet

-- a list is a column of the worksheet
pub record ColumnIs (k m : ℕ) (count : ℕ → ℕ) (list : List ℕ) : Type 0 where
  pub is : list ≡ column k m count

-- it is that of the antemers
abbrev pub AntemersAre : Ranking → Word → ℕ → ℕ → List ℕ → Type 0
AntemersAre ρ w k m list = ColumnIs k m (antemers (ranked ρ) w) list

-- or that of the postmers
abbrev pub PostmersAre : Ranking → Word → ℕ → ℕ → List ℕ → Type 0
PostmersAre ρ w k m list = ColumnIs k m (postmers (ranked ρ) w) list
