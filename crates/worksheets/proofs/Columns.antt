-- A column that is counted row by row: what the ways hold after n letters, and the next row.
-- Assumes nothing.
use Prim.Native.Nat.{ℕ, suc, ◌+◌, ◌-◌, ◌*◌, ◌^◌, ◌≤◌, ◌<◌, min}
use mathlib.Core.Bool.{Bool, true, false, cond}
use mathlib.Core.List.{List}
use mathlib.Core.Logic.{inr, ⊎_elim}
use mathlib.Core.Path.{◌≡◌, refl, sym, ap, ◌∙◌}
use native.Mathlib.Nat.{zero-add, pow-le-pow_right}
use native.Mathlib.Numerals.{add-one}
use native.Mathlib.Omega.{arith}
use borrow.Author.Tests.{ltb-true, ltb-false}
use lib.Dec.{ltb}
use lib.ListN.{get_or, set}
use Rattle.definitions.specs.Lists.{tabulate}
use Rattle.laws.specs.Tests.{leb-cong}
use Rattle.laws.specs.Numbers.{four-pos}
use Rattle.laws.specs.Bans.{never}
use Rattle.laws.specs.Rooms.{Written}
use Rattle.powers.specs.Powers.{PowersAre}
use Rattle.worksheets.specs.Columns.{UpTo, led_to, AllowedBy, way_of, sum_of, RowReady, Counts, Countable, CountedBy, Filled, Turn, TurnReady, TurnDone, Turned}
use Rattle.laws.proofs.RulesHold.{total-letters}
use Rattle.worksheets.proofs.Rows.{up_to-more, up_to-none}

module _ {W : ℕ → ℕ → ℕ} {m rows start follow live : ℕ} {first next ban : List ℕ} (q : Counts W m rows start follow live first next ban) where
  -- which letters are allowed changes no more once as many letters are left as w has
  bans-last : (i b left : ℕ) → i < live → b < 4 → left < never → ltb (min left m) (get_or ban (4 * i + b) 0) ≡ ltb left (get_or ban (4 * i + b) 0)
  bans-last i b left h f k =
      leb-cong (suc (min left m)) (get_or ban (4 * i + b) 0) (suc left) (get_or ban (4 * i + b) 0)
      (λ x. ⊎_elim (λ l. omega arith) (λ e. omega arith) (q.bans i b h f))
      (λ x. ⊎_elim (λ l. omega arith) (λ e. omega arith) (q.bans i b h f))

  module _ {n : ℕ} {ways allowed : List ℕ} (s : Filled W rows start live n ways) (h : suc n ≤ rows) (a : AllowedBy (min (suc n + follow) m) next ban allowed) where
    -- the states from which no m-mer can exist any more
    abbrev free : ℕ
    free = m - (suc n + follow)

    -- the states that live and that the start can still reach
    abbrev needed : ℕ
    needed = min live (start + rows - n)

    -- where a letter leads
    leads-is : (i b : ℕ) → i < live → b < 4 → get_or allowed (4 * i + b) 0 ≡ led_to (suc n + follow) (get_or ban (4 * i + b) 0) (get_or next (4 * i + b) 0)
    leads-is i b k f =
        a.each (4 * i + b) (omega (arith, q.alive, q.few))
        ∙ ap (λ (t : Bool). cond t (get_or next (4 * i + b) 0) 32) (bans-last i b (suc n + follow) k f (omega (arith, q.whole, q.few)))

    -- the ways of a next state
    read : (i b : ℕ) → i < needed → b < 4 → get_or ways (n + get_or next (4 * i + b) 0) 0 ≡ W (get_or next (4 * i + b) 0) n
    read i b k f = go (ltb (get_or next (4 * i + b) 0) live) refl
      where
        go : (t : Bool) → ltb (get_or next (4 * i + b) 0) live ≡ t → get_or ways (n + get_or next (4 * i + b) 0) 0 ≡ W (get_or next (4 * i + b) 0) n
        go true e = s.right (get_or next (4 * i + b) 0) (ltb-true (get_or next (4 * i + b) 0) live e) (omega (arith, (q.leads i b (omega arith) f).0))
        go false e =
            let u : live ≤ get_or next (4 * i + b) 0 = ltb-false (get_or next (4 * i + b) 0) live e in
            s.rest (n + get_or next (4 * i + b) 0) (omega arith)
            ∙ sym (q.dead (get_or next (4 * i + b) 0) n u (q.leads i b (omega arith) f).1)

    -- one way on
    way-is : (i b : ℕ) → i < needed → b < 4 → way_of (4 * i + b) n allowed ways
        ≡ cond (ltb (suc n + follow) (get_or ban (4 * i + b) 0)) (W (get_or next (4 * i + b) 0) n) 0
    way-is i b k f =
        ap (λ (t : ℕ). get_or ways (n + t) 0) (leads-is i b (omega arith) f) ∙ go (ltb (suc n + follow) (get_or ban (4 * i + b) 0))
      where
        go : (t : Bool) → get_or ways (n + cond t (get_or next (4 * i + b) 0) 32) 0 ≡ cond t (W (get_or next (4 * i + b) 0) n) 0
        go true = read i b k f
        go false = s.rest (n + 32) (omega (arith, q.alive, q.few))

    -- it is small
    way-small : (i b : ℕ) → i < needed → b < 4 → way_of (4 * i + b) n allowed ways ≤ 4 ^ 30
    way-small i b k f = rw (way-is i b k f) (go (ltb (suc n + follow) (get_or ban (4 * i + b) 0)))
      where
        go : (t : Bool) → cond t (W (get_or next (4 * i + b) 0) n) 0 ≤ 4 ^ 30
        go true =
            let fewer : n ≤ 30 = omega (arith, q.few) in
            let most : 4 ^ n ≤ 4 ^ 30 = pow-le-pow_right four-pos fewer in
            omega (arith, q.small (get_or next (4 * i + b) 0) n)
        go false = omega arith

    -- a letter leads to state 32 at most, which is nowhere
    leads-most : (i b : ℕ) → i < needed → b < 4 → get_or allowed (4 * i + b) 0 ≤ 32
    leads-most i b k f = rw (leads-is i b (omega arith) f) (go (ltb (suc n + follow) (get_or ban (4 * i + b) 0)))
      where
        go : (t : Bool) → cond t (get_or next (4 * i + b) 0) 32 ≤ 32
        go true = omega (arith, (q.leads i b (omega arith) f).1, q.few)
        go false = omega arith

    -- and else to the next state at most
    leads-low : (i b : ℕ) → i < needed → b < 4 → get_or allowed (4 * i + b) 0 < 32 → get_or allowed (4 * i + b) 0 ≤ suc i
    leads-low i b k f = rw (leads-is i b (omega arith) f) (go (ltb (suc n + follow) (get_or ban (4 * i + b) 0)))
      where
        go : (t : Bool) → cond t (get_or next (4 * i + b) 0) 32 < 32 → cond t (get_or next (4 * i + b) 0) 32 ≤ suc i
        go true h = (q.leads i b (omega arith) f).0
        go false h = absurd (omega arith)

    -- the next row can be written
    row-ready : RowReady free needed n allowed ways
    row-ready =
        record {
          long_allowed = a.long;
          long_ways = s.long;
          ordered = omega (arith, q.whole, q.within);
          high = omega (arith, q.whole, q.few);
          most = leads-most;
          leads = leads-low;
          small = λ i b l k f. way-small i b k f;
        }

    module _ {mid : List ℕ} (u : Written free needed (suc n) (λ i. sum_of i n allowed ways) ways mid) where
      module _ {after : List ℕ} (v : Written 0 free (suc n) (λ i. 4 ^ suc n) mid after) where
        -- the state i in the next row
        next-right : (i : ℕ) → i < live → i + suc n ≤ start + rows → get_or after (suc n + i) 0 ≡ W i (suc n)
        next-right i k l = go (ltb i free) refl
          where
            go : (t : Bool) → ltb i free ≡ t → get_or after (suc n + i) 0 ≡ W i (suc n)
            go true e = v.inside i (omega arith) (ltb-true i free e) ∙ sym (q.free i n (omega (arith, ltb-true i free e)))
            go false e =
                let o : free ≤ i = ltb-false i free e in
                let x : i < needed = omega arith in
                v.outside (suc n + i) (inr (omega arith)) ∙ u.inside i o x
                ∙ total-letters (λ b. way_of (4 * i + b) n allowed ways) _ (λ b f. way-is i b x f)
                ∙ sym (q.step i n k h)

        -- the next row is filled
        filled_next : Filled W rows start live (suc n) after
        filled_next =
            record {
              long = v.long ∙ u.long ∙ s.long;
              right = next-right;
              rest = λ p k. v.outside p (inr (omega (arith, q.whole, q.within))) ∙ u.outside p (inr (omega arith)) ∙ s.rest p (omega arith);
            }

-- ---- one turn

module _ {W : ℕ → ℕ → ℕ} {first next ban : List ℕ} {m rows start follow live n : ℕ} {allowed ways : List ℕ} (t : Turn W first next ban m rows start follow live n allowed ways) where
  module _ {free needed : ℕ} (e : free ≡ m - (n + 1 + follow)) (f : needed ≡ min live (start + rows - n)) where
    -- the row can be written
    pub turn-ready : RowReady free needed n allowed ways
    turn-ready = rw (e, f, add-one) (row-ready t.counts t.filled t.more t.lets)

    module _ {mid : List ℕ} (u : Written free needed (suc n) (λ i. sum_of i n allowed ways) ways mid) where
      module _ {powers after : List ℕ} (p : PowersAre powers) (v : Written 0 free (n + 1) (λ i. get_or powers (n + 1) 0) mid after) where
        -- then it is written
        turn-filled : Filled W rows start live (suc n) after
        turn-filled =
            filled_next t.counts t.filled t.more t.lets (rw (e, f, add-one) at u) (rw (e, add-one, p.each (suc n) (omega (arith, t.counts.few, t.more))) at v)

        -- and the start's ways can be read
        pub turn-done : {r : ℕ} → r ≡ get_or after (n + 1 + start) 0 → TurnDone W rows start live n after r
        turn-done q =
            record {
              filled = turn-filled;
              begun = q ∙ ap (λ (x : ℕ). get_or after (x + start) 0) (add-one n) ∙ turn-filled.right start t.counts.within (omega (arith, t.more));
            }

-- ---- the rows that are written

-- after n letters: the ways, and the rows up to n
pub record Reached (W : ℕ → ℕ → ℕ) (rows start live n : ℕ) (ways column : List ℕ) : Type 0 where
  pub filled : Filled W rows start live n ways
  pub written : UpTo 31 (suc n) (W start) column

-- after n of the rows: which letters are allowed in the next one, and what is reached, whatever ways are counted
pub record Going (m rows start follow live : ℕ) (first next ban : List ℕ) (n : ℕ) (ways column allowed : List ℕ) : Type 0 where
  pub most : n ≤ rows
  pub lets : AllowedBy (min (suc n + follow) m) next ban allowed
  pub reached : (W : ℕ → ℕ → ℕ) → Counts W m rows start follow live first next ban → Reached W rows start live n ways column

module _ {m rows start follow live : ℕ} {first next ban : List ℕ} where
  -- at first the ways are those by no letter, and the first row is written
  pub going-first : {allowed : List ℕ} → AllowedBy (min (1 + follow) m) next ban allowed
      → Going m rows start follow live first next ban 0 first (set (tabulate (λ a. 0) 31) 0 (get_or first start 0)) allowed
  going-first a =
      record {
        most = omega arith;
        lets = a;
        reached =
            λ W q. record {
              filled = record { long = q.begins.long; right = λ i h k. rw zero-add (q.begins.below i h); rest = λ p h. q.begins.above p (omega arith) };
              written = up_to-more (up_to-none 31 (W start)) (omega arith) (q.begins.below start q.within);
            };
      }

  module _ {n : ℕ} {ways column allowed : List ℕ} (g : Going m rows start follow live first next ban n ways column allowed) where
    -- the table of allowed letters is made anew
    pub lets-anew : {now : List ℕ} → AllowedBy (min (n + 1 + follow + 1) m) next ban now → AllowedBy (min (suc (suc n) + follow) m) next ban now
    lets-anew a = let same : suc (suc n) + follow ≡ n + 1 + follow + 1 = omega arith in rw same a

    -- or kept
    pub lets-kept : m ≤ n + 1 + follow → AllowedBy (min (suc (suc n) + follow) m) next ban allowed
    lets-kept h = let still : min (suc (suc n) + follow) m ≡ min (suc n + follow) m = omega arith in rw still g.lets

    module _ (h : n < rows) where
      -- the next row is to be written
      turn-of : (W : ℕ → ℕ → ℕ) → Counts W m rows start follow live first next ban → Turn W first next ban m rows start follow live n allowed ways
      turn-of W q = record { counts = q; lets = g.lets; filled = (g.reached W q).filled; more = h }

      -- for some ways it is
      pub going-turn : Countable m rows start follow live first next ban → TurnReady m rows start follow live n allowed ways
      going-turn known = (known.0, first, next, ban, turn-of known.0 known.1)

      -- one row more is written
      pub going_next : {after now : List ℕ} {r : ℕ} → Turned m rows start follow live n allowed ways after r → AllowedBy (min (suc (suc n) + follow) m) next ban now
          → Going m rows start follow live first next ban (n + 1) after (set column (n + 1) r) now
      going_next t a =
          rw add-one (record {
            most = h;
            lets = a;
            reached =
                λ W q.
                let done = t W first next ban (turn-of W q) in
                record { filled = done.filled; written = up_to-more (g.reached W q).written (omega (arith, q.few, q.some)) done.begun };
          })

    -- all rows are written
    pub going-all : rows ≤ n → CountedBy m rows start follow live first next ban column
    going-all h W q = let e : n ≡ rows = omega (arith, g.most) in rw e at (g.reached W q).written
