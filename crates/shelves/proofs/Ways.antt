-- The table of moves, and the table of ways row by row.
-- Assumes nothing.
use Prim.Native.Nat.{ℕ, suc, ◌+◌, ◌-◌, ◌*◌, ◌/◌, ◌^◌, ◌≤◌, ◌<◌}
use mathlib.Core.Bool.{Bool, true, false, cond}
use mathlib.Core.List.{List}
use mathlib.Core.Logic.{inl, ⊎_elim}
use mathlib.Core.Path.{◌≡◌, refl, ap, ◌∙◌}
use native.Mathlib.Nat.{pow-le-pow_right}
use native.Mathlib.Omega.{arith}
use borrow.Author.Tests.{leb-true, leb-false}
use lib.Dec.{eqb, leb}
use lib.ListN.{length, get_or, take, drop, length-append, length-take, length-drop, get_or-append}
use lib.Seq.{get_or-append_right}
use Rattle.std.proofs.Common.{◌++◌, take_at}
use Rattle.laws.specs.Numbers.{four-pos}
use Rattle.laws.specs.Rooms.{Written}
use Rattle.laws.specs.Walks.{ways-le}
use Rattle.shelves.specs.Descents.{allowed, leads, met, ways_from, ways_below, Live, Tables, WaysTo, Ended, Ready, RowReady}

-- ---- the table of moves

-- a table of moves of which the entries of the first `to` places are right, where the word was not met and where it was
pub record MovesTo (m to : ℕ) (next moves : List ℕ) : Type 0 where
  pub long : length moves ≡ 256
  pub unmet : (c : ℕ) → c < to → get_or moves c 0 ≡ cond (eqb (get_or next c 0) m) (get_or next c 0 + 32) (get_or next c 0)
  pub after : (c : ℕ) → c < to → get_or moves (128 + c) 0 ≡ get_or next c 0 + 32

-- ---- states

-- a state is below 64
pub live-lt : {m s : ℕ} → m ≤ 31 → Live m s → s < 64
live-lt h l = ⊎_elim (λ k. omega arith) (λ k. omega arith) l

-- the highest bit of a state says whether the word was met
pub met-bit : (s : ℕ) → s < 64 → s / 32 ≡ cond (met s) 1 0
met-bit s h = go (leb 32 s) refl
  where
    go : (t : Bool) → leb 32 s ≡ t → s / 32 ≡ cond t 1 0
    go true q = omega (arith, leb-true 32 s q)
    go false q = omega (arith, leb-false 32 s q)

-- ---- the ways from a state

module _ {m left state : ℕ} {moves ban ways : List ℕ} (t : Tables m moves ban) (q : Ready m left state moves ban ways) where
  -- the ways under the four letters are all, and few enough
  pub four-ways : {a c g u : ℕ} → a ≡ ways_below moves ban state (left - 1) 0 → c ≡ ways_below moves ban state (left - 1) 1
      → g ≡ ways_below moves ban state (left - 1) 2 → u ≡ ways_below moves ban state (left - 1) 3
      → (a + c + g + u ≡ ways_from moves ban state left) × (a + c + g + u ≤ 4 ^ 31)
  four-ways {a} {c} {g} {u} ea ec eg et =
      let whole : suc (left - 1) ≡ left = omega (arith, q.some) in
      let sum : a + c + g + u ≡ ways_from moves ban state (suc (left - 1)) = omega (arith, ea, ec, eg, et) in
      let most : 4 ^ left ≤ 4 ^ 31 = pow-le-pow_right four-pos q.few in
      let is : a + c + g + u ≡ ways_from moves ban state left = sum ∙ ap (ways_from moves ban state) whole in
      (is, omega (arith, is, most, ways-le (allowed ban) (leads moves) met state left))

-- ---- the rows of the table of ways

-- writing into a row keeps those before it
pub rows-kept : {m n lo hi left : ℕ} {new : ℕ → ℕ} {moves ban old ways : List ℕ} → m ≤ 31 → WaysTo m n moves ban old → Written lo hi (64 * left) new old ways → n ≤ left
    → WaysTo m n moves ban ways
rows-kept f k s h =
    record {
      long = s.long ∙ k.long;
      right = λ r t u l. let low : t < 64 = live-lt f l in s.outside (64 * r + t) (inl (omega arith)) ∙ k.right r t u l;
    }

-- a row that is written up to a state
module _ {m lo hi left state : ℕ} {moves ban old ways : List ℕ} (t : Tables m moves ban) (q : RowReady m lo hi left moves ban old) (s : Written lo state (64 * left) (λ i. ways_from moves ban i left) old ways) (h : lo ≤ state) (k : state < hi) where
  -- the ways from the state can be read
  pub row-ready : Ready m left state moves ban ways
  row-ready =
      record {
        known = rows-kept t.few q.known s (omega arith);
        live = q.live state h k;
        some = q.some;
        few = q.few;
      }

-- a table whose first 32 numbers are set to 0, and the next 32 to 1, has the row of no letter
module _ (front ones old : List ℕ) (l : length old ≡ 2048) (f : length front ≡ length (take 32 old)) where
  -- what lies behind the first 32
  abbrev behind : List ℕ
  behind = drop 32 (front ++ drop 32 old)

  module _ (o : length ones ≡ length (take 32 behind)) where
    -- so long is each part
    front-long : length front ≡ 32
    front-long = omega (arith, l, f, length-take 32 old)

    behind-long : length behind ≡ 2016
    behind-long = omega (arith, l, front-long, length-drop 32 (front ++ drop 32 old), length-append front (drop 32 old), length-drop 32 old)

    ones-long : length ones ≡ 32
    ones-long = omega (arith, o, behind-long, length-take 32 behind)

    -- the 0s and the 1s are the ways from the states in which the word was not met, and was
    pub ends : ((i : ℕ) → i < length (take 32 old) → get_or front i 0 ≡ 0) → ((i : ℕ) → i < length (take 32 behind) → get_or ones i 0 ≡ 1)
        → Ended (take 32 (front ++ drop 32 old) ++ (ones ++ drop 32 behind))
    ends zero_each one_each =
        rw (take_at front (drop 32 old) 32 front-long)
        (record {
          long = omega (arith, front-long, ones-long, behind-long, length-append front (ones ++ drop 32 behind), length-append ones (drop 32 behind), length-drop 32 behind);
          each = λ s h. at s h (leb 32 s) refl;
        })
      where
        at : (s : ℕ) → s < 64 → (t : Bool) → leb 32 s ≡ t → get_or (front ++ (ones ++ drop 32 behind)) s 0 ≡ cond t 1 0
        at s h true q =
            let past : 32 ≤ s = leb-true 32 s q in
            get_or-append_right front (ones ++ drop 32 behind) s 0 (omega (arith, front-long))
            ∙ get_or-append ones (drop 32 behind) 0 (s - length front) (omega (arith, front-long, ones-long))
            ∙ one_each (s - length front) (omega (arith, front-long, ones-long, o))
        at s h false q =
            let low : s < 32 = leb-false 32 s q in
            get_or-append front (ones ++ drop 32 behind) 0 s (omega (arith, front-long)) ∙ zero_each s (omega (arith, front-long, f))
