-- The two sides of a worksheet: the ways to complete a state to an antemer, and to a postmer, are counted as `column` counts, and what it counts
-- are the columns of the worksheet.
-- Assumes nothing.
use Prim.Native.Nat.{ℕ, zero, suc, ◌+◌, ◌-◌, ◌*◌, ◌^◌, ◌≤◌, ◌<◌, min}
use mathlib.Core.Bool.{Bool, true, false, cond, ◌&&◌}
use mathlib.Core.List.{List, [], ◌∷◌, map}
use mathlib.Core.Logic.{◌⊎◌, inl, inr}
use mathlib.Core.Path.{◌≡◌, refl, sym, ap, ap₂, fun_ext, ◌∙◌}
use native.Mathlib.Nat.{add-zero}
use native.Mathlib.Omega.{arith}
use borrow.Author.Tests.{ltb-true, ltb-false, lt-ltb, le-ltb}
use lib.Dec.{ltb, leb}
use lib.ListN.{length, get_or}
use Rattle.definitions.specs.Lists.{total}
use Rattle.definitions.specs.Words.{Word, letters}
use Rattle.definitions.specs.Shelves.{row, antemers, postmers}
use Rattle.laws.specs.Tests.{leb-cong, leb-min}
use Rattle.laws.specs.Walks.{ways-le}
use Rattle.laws.specs.Orders.{Ranking, OneToOne, ranked}
use Rattle.laws.specs.States.{first, next, longest-le, next_le, next-own}
use Rattle.laws.specs.Tables.{antemer_ok, antemer_end, antemer_ways, postmer_ok, postmer_end, postmer_ways, ways-free, antemers-table, postmers-table, postmer-end, antemer-stop}
use Rattle.laws.specs.Bans.{never, ban, ban-le, ban-most, low_by, lasts, antemer-row, postmer-row, word-allowed}
use Rattle.states.specs.Tables.{LettersOf, LinksOf, next-entry, ban-entry}
use Rattle.worksheets.specs.Columns.{UpTo, ReachIs, EndsAre, LastsIs, end_ways, Counts, AntemersAre, PostmersAre}
use Rattle.laws.proofs.RulesHold.{total-letters}
use Rattle.worksheets.proofs.Laws.{own-later}
use Rattle.worksheets.proofs.Rows.{up_to-column}

-- the ways to complete a state below so many to an antemer by n letters; from the others there are none
abbrev pub live_ways : Ranking → Word → ℕ → ℕ → ℕ → ℕ
live_ways ρ w live i n = cond (ltb i live) (antemer_ways ρ w i n) 0

-- ---- rows

-- a row whose count is behind a test
row-behind : (s t : Bool) (f g : ℕ → ℕ) (a : ℕ) → g a ≡ cond t (f a) 0 → row (s && t) f a ≡ row s g a
row-behind true true f g a e = sym e
row-behind true false f g a e = sym e
row-behind false t f g a e = refl

-- the rows up to k − m
row-test : (k m a : ℕ) → m ≤ k → leb a (k - m) ≡ leb (m + a) k
row-test k m a h = leb-cong a (k - m) (m + a) k (λ q. omega arith) (λ q. omega arith)

-- the rows up to some row, and below another
row_last : (a x last : ℕ) → 0 < last → leb a (min x (last - 1)) ≡ (leb a x && ltb a last)
row_last a x last h =
    leb-min a x (last - 1)
    ∙ ap (λ (t : Bool). leb a x && t) (leb-cong a (last - 1) (suc a) last (λ q. omega arith) (λ q. omega arith))

-- ---- states

module _ {ρ : Ranking} {w : Word} {live : ℕ} (c : ReachIs ρ w live) where
  -- a letter that is allowed with w and more to follow leads below `live`, or to state m, which has no way on
  stays : (i n b : ℕ) → i < live → length w < ban w (low_by ρ w) i b → antemer_ways ρ w (next w i b) n ≡ live_ways ρ w live (next w i b) n
  stays i n b h k = below (ltb (next w i b) live) refl
    where
      full : live ≡ next w i b → (t : Bool) → ltb live (length w) ≡ t → antemer_ways ρ w (next w i b) n ≡ 0
      full e true q =
          let back : live - 1 ≡ i = omega (arith, next_le w i b) in
          let up : next w i b ≡ suc i = omega (arith, next_le w i b) in
          let same-ban : ban w (low_by ρ w) (live - 1) (get_or w (live - 1) 0) ≡ ban w (low_by ρ w) i b =
          ap (λ (j : ℕ). ban w (low_by ρ w) j (get_or w j 0)) back ∙ ap (ban w (low_by ρ w) i) (sym (next-own w i b up)) in
          absurd (omega (arith, same-ban, c.stops (ltb-true live (length w) q)))
      full e false q =
          let at : next w i b ≡ length w = omega (arith, c.most, ltb-false live (length w) q) in
          ap (λ (x : ℕ). antemer_ways ρ w x n) at ∙ antemer-stop ρ w (omega (arith, c.some, c.most)) n

      below : (t : Bool) → ltb (next w i b) live ≡ t → antemer_ways ρ w (next w i b) n ≡ cond t (antemer_ways ρ w (next w i b) n) 0
      below true q = refl
      below false q = full (omega (arith, next_le w i b, ltb-false (next w i b) live q)) (ltb live (length w)) refl

  -- a row from the row before, by the bans and the ways below `live`
  live-row : (i n : ℕ) → i < live → suc (n + length w) < never
      → live_ways ρ w live i (suc n) ≡ total (map (λ b. cond (ltb (suc (n + length w)) (ban w (low_by ρ w) i b)) (live_ways ρ w live (next w i b) n) 0) letters)
  live-row i n h k =
      ap (λ (t : Bool). cond t (antemer_ways ρ w i (suc n)) 0) (lt-ltb i live h)
      ∙ antemer-row ρ w i n (omega (arith, c.most)) k
      ∙ total-letters (λ b. cond (ltb left (ban w (low_by ρ w) i b)) (antemer_ways ρ w (next w i b) n) 0)
      (λ b. cond (ltb left (ban w (low_by ρ w) i b)) (live_ways ρ w live (next w i b) n) 0) (λ b p. each b (ltb left (ban w (low_by ρ w) i b)) refl)
    where
      left : ℕ
      left = suc (n + length w)

      each : (b : ℕ) (t : Bool) → ltb left (ban w (low_by ρ w) i b) ≡ t → cond t (antemer_ways ρ w (next w i b) n) 0 ≡ cond t (live_ways ρ w live (next w i b) n) 0
      each b true q = stays i n b h (omega (arith, ltb-true left (ban w (low_by ρ w) i b) q))
      each b false q = refl

-- the ways from a state are at most all words
live_small : (ρ : Ranking) (w : Word) (live i n : ℕ) → live_ways ρ w live i n ≤ 4 ^ n
live_small ρ w live i n = go (ltb i live)
  where
    go : (t : Bool) → cond t (antemer_ways ρ w i n) 0 ≤ 4 ^ n
    go true = ways-le (antemer_ok ρ w) (next w) (antemer_end ρ w) i n
    go false = omega arith

-- the ends are the ways by no letter
live-begins : (ρ : Ranking) (w : Word) (live i : ℕ) → i < live → end_ways ρ w i ≡ live_ways ρ w live i 0
live-begins ρ w live i h = sym (ap (λ (t : Bool). cond t (antemer_ways ρ w i 0) 0) (lt-ltb i live h))

-- ---- counting

module _ (ρ : Ranking) {w : Word} {m : ℕ} {own : List ℕ} (l : LettersOf w m own) where
  -- the first letters of w are allowed in some row
  first_some : (j : ℕ) → j ≤ m → 0 < lasts w (low_by ρ w) j
  first_some zero h = omega arith
  first_some (suc j) h = omega (arith, first_some j (omega arith), own-later ρ l j h, l.long)

  -- w is allowed in some row
  pub lasts-some : {last : ℕ} → LastsIs ρ w last → 0 < last
  lasts-some e = omega (arith, e, first_some (length w) (omega (arith, l.long)))

module _ {ρ : Ranking} {w : Word} {m : ℕ} {own nexts bans : List ℕ} (one : OneToOne ρ) (l : LettersOf w m own) (s : LinksOf ρ w nexts bans) where
  -- a next state is at most one more, and at most m
  next_low : (i b : ℕ) → i ≤ m → b < 4 → (get_or nexts (4 * i + b) 0 ≤ suc i) × (get_or nexts (4 * i + b) 0 ≤ m)
  next_low i b h k =
      let e = next-entry l s.nexts i b h k in
      (omega (arith, e, next_le w i b), omega (arith, e, l.long, longest-le w (length w) (b ∷ first w i)))

  -- a ban is at most m, or never
  ban-low : (i b : ℕ) → i ≤ m → b < 4 → (get_or bans (4 * i + b) 0 ≤ m) ⊎ (get_or bans (4 * i + b) 0 ≡ never)
  ban-low i b h k = rw (ban-entry l ρ s.bans i b h k) (go (ltb (ban w (low_by ρ w) i b) never) refl)
    where
      go : (t : Bool) → ltb (ban w (low_by ρ w) i b) never ≡ t → (ban w (low_by ρ w) i b ≤ m) ⊎ (ban w (low_by ρ w) i b ≡ never)
      go true e = inl (omega (arith, l.long, ban-most w (low_by ρ w) i b (ltb-true (ban w (low_by ρ w) i b) never e)))
      go false e =
          inr (omega (arith, ltb-false (ban w (low_by ρ w) i b) never e, ban-le w (low_by ρ w) i b (omega (arith, l.long, l.few))))

  -- a sum over the letters, by the tables
  by-tables : (W : ℕ → ℕ → ℕ) (i n left left' : ℕ) → i ≤ m → left ≡ left'
      → total (map (λ b. cond (ltb left (ban w (low_by ρ w) i b)) (W (next w i b) n) 0) letters)
      ≡ total (map (λ b. cond (ltb left' (get_or bans (4 * i + b) 0)) (W (get_or nexts (4 * i + b) 0) n) 0) letters)
  by-tables W i n left left' h e =
      total-letters (λ b. cond (ltb left (ban w (low_by ρ w) i b)) (W (next w i b) n) 0) (λ b. cond (ltb left' (get_or bans (4 * i + b) 0)) (W (get_or nexts (4 * i + b) 0) n) 0)
      (λ b k. rw (ban-entry l ρ s.bans i b h k, next-entry l s.nexts i b h k, e))

  module _ (k : ℕ) (h : m ≤ k) (f : k ≤ 31) where
    -- the antemers are counted from state 0, with w to follow; from the states from `live` on there is no way
    pub antemer-side : {live : ℕ} {ends : List ℕ} → ReachIs ρ w live → EndsAre ρ w live ends → Counts (live_ways ρ w live) m (k - m) 0 m live ends nexts bans
    antemer-side {live} c e =
        record {
          some = a.some;
          few = omega arith;
          whole = omega arith;
          within = c.some;
          alive = omega (arith, low);
          bans = λ i b q p. ban-low i b (omega (arith, low)) p;
          leads = λ i b q p. next_low i b (omega (arith, low)) p;
          begins = record { long = e.long; below = λ i q. e.below i q ∙ live-begins ρ w live i q; above = e.above };
          dead = λ i n p q. ap (λ (t : Bool). cond t (antemer_ways ρ w i n) 0) (le-ltb i live p);
          step =
              λ i n p q. live-row c i n p (omega (arith, a.long))
              ∙ by-tables (live_ways ρ w live) i n (suc (n + length w)) (suc n + m) (omega (arith, low)) (omega (arith, a.long));
          free = λ i n p. absurd (omega arith);
          small = live_small ρ w live;
        }
      where
        a : LettersOf w m own
        a = l

        low : live ≤ m
        low = omega (arith, c.most, a.long)

    -- the postmers are counted from state m, with nothing to follow, in the rows in which w is allowed
    pub postmer-side : {rows last : ℕ} {ones : List ℕ} → rows ≡ min (k - m) (last - 1) → LastsIs ρ w last → UpTo 64 (m + 1) (λ i. 1) ones
        → Counts (postmer_ways ρ w) m rows m 0 (m + 1) ones nexts bans
    postmer-side r e o =
        record {
          some = a.some;
          few = omega arith;
          whole = omega arith;
          within = omega arith;
          alive = omega arith;
          bans = λ i b q p. ban-low i b (omega arith) p;
          leads = λ i b q p. next_low i b (omega arith) p;
          begins =
              record {
                long = o.long;
                below = λ i q. o.below i q ∙ sym (ap (λ (t : Bool). cond t 1 0) (postmer-end ρ w (omega (arith, a.long, a.some)) i));
                above = o.above;
              };
          dead = λ i n p q. absurd (omega arith);
          step = λ i n p q. postmer-row ρ w i n (omega arith) ∙ by-tables (postmer_ways ρ w) i n (suc n) (suc n + 0) (omega arith) (sym (add-zero (suc n)));
          free = λ i n p. ways-free ρ w false [] (suc n) i (omega (arith, a.long));
          small = ways-le (postmer_ok ρ w) (next w) (postmer_end ρ w);
        }
      where
        a : LettersOf w m own
        a = l

    -- the column of the antemers
    pub antemer-column : {live : ℕ} {r : List ℕ} → ReachIs ρ w live → UpTo 31 (suc (k - m)) (live_ways ρ w live 0) r → AntemersAre ρ w k m r
    antemer-column {live} c u = up_to-column u (λ a p. ap₂ (λ (t : Bool) (g : ℕ → ℕ). row t g a) (row-test k m a h) all_live)
      where
        all_live : live_ways ρ w live 0 ≡ antemers (ranked ρ) w
        all_live =
            fun_ext (λ a. ap (λ (t : Bool). cond t (antemer_ways ρ w 0 a) 0) (lt-ltb 0 live c.some) ∙ sym (antemers-table ρ one w l.letters a))

    -- the column of the postmers
    pub postmer-column : {rows last : ℕ} {r : List ℕ} → rows ≡ min (k - m) (last - 1) → LastsIs ρ w last → UpTo 31 (suc rows) (postmer_ways ρ w m) r → PostmersAre ρ w k m r
    postmer-column {rows} {last} e q u = up_to-column u each
      where
        each : (a : ℕ) → a < 31 → row (leb a rows) (postmer_ways ρ w m) a ≡ row (leb (m + a) k) (postmers (ranked ρ) w) a
        each a p =
            ap (λ (t : Bool). row t (postmer_ways ρ w m) a) (ap (leb a) e ∙ row_last a (k - m) last (lasts-some ρ l q))
            ∙ row-behind (leb a (k - m)) (ltb a last) (postmer_ways ρ w m) (postmers (ranked ρ) w) a
            (postmers-table ρ one w l.letters (omega (arith, l.long, l.some)) a
            ∙ ap₂ (λ (t : Bool) (i : ℕ). cond t (postmer_ways ρ w i a) 0) (word-allowed ρ w a (omega (arith, l.long)) ∙ ap (ltb a) (sym q)) l.long)
            ∙ ap (λ (t : Bool). row t (postmers (ranked ρ) w) a) (row-test k m a h)
