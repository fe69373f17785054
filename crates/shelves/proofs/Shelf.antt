-- The acceptor that the tables of moves and bans make accepts just the k-mers of the shelf: so what it counts is the size, and what it lists is a page.
-- Assumes nothing.
use Prim.Native.Nat.{ℕ, suc, ◌+◌, ◌-◌, ◌*◌, ◌/◌, ◌%◌, ◌^◌, ◌≤◌, ◌<◌}
use mathlib.Core.Bool.{Bool, true, false, cond, ◌&&◌}
use mathlib.Core.List.{List, [], ◌∷◌, map, Memᴰ}
use mathlib.Core.Logic.{inl, inr}
use mathlib.Core.Path.{◌≡◌, refl, sym, ap, ap₂, ◌∙◌}
use native.Mathlib.Nat.{zero-mul, zero-add, add-zero, one-le-pow}
use native.Mathlib.Omega.{arith}
use borrow.Author.Tests.{lt-ltb, le-ltb, eqb-true, eqb-false, ne_eqb, le-leb, lt-leb}
use lib.Dec.{ltb, leb, eqb}
use lib.ListN.{length, get_or, take, drop, drop_of_length-le}
use lib.Seq.{take-nil}
use Rattle.definitions.specs.Lists.{filter}
use Rattle.definitions.specs.Words.{Word, Letters, words, val}
use Rattle.definitions.specs.Shelves.{shelf, size}
use Rattle.definitions.specs.Refusals.{refusal, bad_start}
use Rattle.definitions.specs.Outcomes.{page_answer}
use Rattle.laws.specs.Filters.{take-map, drop-map}
use Rattle.laws.specs.Numbers.{four-pos, val-drop}
use Rattle.laws.specs.Counting.{filter-words, filter-cong, increasing-alone, filter-increasing, words-increasing}
use Rattle.laws.specs.Walks.{accepts, ways-count}
use Rattle.laws.specs.Orders.{Ranking, ranked}
use Rattle.laws.specs.States.{first, next, longest-le}
use Rattle.laws.specs.Tables.{postmer_ok, shelf_ok, shelf_step, shelf_end, shelf-table, shelf-full, shelf-rest}
use Rattle.laws.specs.Bans.{postmer-ban}
use Rattle.powers.specs.Powers.{PowersAre}
use Rattle.states.specs.Grids.{grid-at}
use Rattle.states.specs.Tables.{next_at, next-entry, ban-entry}
use Rattle.shelves.specs.Descents.{allowed, leads, met, ways_from, completing, Live, NextsSmall, MovesOf, Tables, WaysTo, under, Listed, Complete, Reached, ShelfOf}

-- ---- the tables

module _ {ρ : Ranking} {w : Word} {m word : ℕ} {nexts bans : List ℕ} (s : ShelfOf ρ w m word nexts bans) where
  -- a next state is at most m
  next_low : (i b : ℕ) → next w i b ≤ m
  next_low i b = omega (arith, s.letters.long, longest-le w (length w) (b ∷ first w i))

  -- no next state is above 31
  pub nexts-small : NextsSmall nexts
  nexts-small = record { small = small }
    where
      low : (i b : ℕ) (t : Bool) → cond t (next w i b) 0 ≤ 31
      low i b true = omega (arith, next_low i b, s.letters.few)
      low i b false = omega arith

      small : (c : ℕ) → c < 128 → get_or nexts c 0 ≤ 31
      small c h =
          let place : c ≡ 4 * (c / 4) + c % 4 = omega arith in
          let e : get_or nexts c 0 ≡ next_at w (c / 4) (c % 4) =
          ap₂ (λ (x : List ℕ) (p : ℕ). get_or x p 0) s.links.nexts place ∙ grid-at (next_at w) (c / 4) (c % 4) (omega arith) (omega arith) in
          rw e (low (c / 4) (c % 4) (leb (c / 4) (length w)))

  -- a letter is allowed as a postmer's is
  allowed_at : (q i n b : ℕ) → (4 * q + b) % 128 ≡ 4 * i + b → i ≤ m → b < 4 → suc n ≤ 31 → allowed bans q n b ≡ postmer_ok ρ w i n b
  allowed_at q i n b e h k l =
      ap (λ (p : ℕ). ltb (suc n) (get_or bans p 0)) e
      ∙ ap (ltb (suc n)) (ban-entry s.letters ρ s.links.bans i b h k)
      ∙ sym (postmer-ban ρ w i n b (omega arith))

module _ {ρ : Ranking} {w : Word} {m word : ℕ} {nexts bans moves : List ℕ} (s : ShelfOf ρ w m word nexts bans) (v : MovesOf m nexts moves) where
  -- where a letter leads where the word was not met
  lead-unmet : (i b : ℕ) → i < m → b < 4 → leads moves i b ≡ cond (eqb (next w i b) m) (32 + next w i b) (next w i b)
  lead-unmet i b h k =
      v.unmet (4 * i + b) (omega (arith, s.letters.few))
      ∙ ap (λ (x : ℕ). cond (eqb x m) (x + 32) x) (next-entry s.letters s.links.nexts i b (omega arith) k)
      ∙ ap (λ (x : ℕ). cond (eqb (next w i b) m) x (next w i b)) (omega arith)

  -- where it leads after the word was met
  lead-met : (i b : ℕ) → i ≤ m → b < 4 → leads moves (32 + i) b ≡ 32 + next w i b
  lead-met i b h k =
      ap (λ (p : ℕ). get_or moves p 0) (omega arith)
      ∙ v.after (4 * i + b) (omega (arith, s.letters.few))
      ∙ ap (λ (x : ℕ). x + 32) (next-entry s.letters s.links.nexts i b h k)
      ∙ omega arith

  -- the tables lead from each state of the word to another
  pub tables : Tables m moves bans
  tables =
      record {
        few = s.letters.few;
        lead = λ q b h k. lead q b k h;
      }
    where
      up : (i b : ℕ) (t : Bool) → eqb (next w i b) m ≡ t → Live m (cond t (32 + next w i b) (next w i b))
      up i b true e = inr (omega arith, omega (arith, next_low s i b))
      up i b false e = inl (omega (arith, next_low s i b, eqb-false (next w i b) m e))

      lead : (q b : ℕ) → b < 4 → Live m q → Live m (leads moves q b)
      lead q b k (inl h) = rw (lead-unmet q b h k) (up q b (eqb (next w q b) m) refl)
      lead q b k (inr h) =
          let e : leads moves q b ≡ 32 + next w (q - 32) b = ap (λ (p : ℕ). leads moves p b) (omega arith) ∙ lead-met (q - 32) b (omega arith) k in
          inr (omega (arith, e), omega (arith, e, next_low s (q - 32) b))

  -- after the word was met, the tables accept as the shelf's acceptor does
  pub accepts-met : (i : ℕ) (z : Word) → i ≤ m → Letters z → length z ≤ 31
      → accepts (allowed bans) (leads moves) met (32 + i) z ≡ accepts (shelf_ok ρ w) (shelf_step ρ w) (shelf_end ρ w) (true, i) z
  accepts-met i [] h l n = le-leb 32 (32 + i) (omega arith)
  accepts-met i (b ∷ z) h l n =
      ap₂ (λ (x y : Bool). x && y) (allowed_at s (32 + i) i (length z) b (omega (arith, s.letters.few)) h l.0 n)
      (ap (λ (q : ℕ). accepts (allowed bans) (leads moves) met q z) (lead-met i b h l.0)
      ∙ accepts-met (next w i b) z (next_low s i b) l.1 (omega arith))

  -- and before it
  pub accepts-unmet : (i : ℕ) (z : Word) → i < m → Letters z → length z ≤ 31
      → accepts (allowed bans) (leads moves) met i z ≡ accepts (shelf_ok ρ w) (shelf_step ρ w) (shelf_end ρ w) (false, i) z
  accepts-unmet i [] h l n =
      lt-leb 32 i (omega (arith, s.letters.few)) ∙ sym (ne_eqb i (length w) (λ e. omega (arith, s.letters.long)))
  accepts-unmet i (b ∷ z) h l n =
      ap₂ (λ (x y : Bool). x && y) (allowed_at s i i (length z) b (omega (arith, s.letters.few)) (omega arith) l.0 n)
      (ap (λ (q : ℕ). accepts (allowed bans) (leads moves) met q z) (lead-unmet i b h l.0)
      ∙ go (eqb (next w i b) m) refl (λ k. accepts-unmet (next w i b) z k l.1 (omega arith))
      ∙ ap (λ (t : Bool). accepts (shelf_ok ρ w) (shelf_step ρ w) (shelf_end ρ w) (t, next w i b) z) (sym (ne_eqb i (length w) (λ e. omega (arith, s.letters.long)))))
    where
      go : (t : Bool) → eqb (next w i b) m ≡ t
          → (next w i b < m → accepts (allowed bans) (leads moves) met (next w i b) z ≡ accepts (shelf_ok ρ w) (shelf_step ρ w) (shelf_end ρ w) (false, next w i b) z)
          → accepts (allowed bans) (leads moves) met (cond t (32 + next w i b) (next w i b)) z
          ≡ accepts (shelf_ok ρ w) (shelf_step ρ w) (shelf_end ρ w) (false, next w i b) z
      go true e rec =
          accepts-met (next w i b) z (next_low s i b) l.1 (omega arith)
          ∙ sym (shelf-full ρ w false (next w i b) z (eqb-true (next w i b) m e ∙ sym s.letters.long))
      go false e rec = rec (omega (arith, next_low s i b, eqb-false (next w i b) m e))

  -- what completes a state before the word was met
  completing-unmet : (i n : ℕ) → i < m → n ≤ 31
      → completing moves bans i n ≡ filter (accepts (shelf_ok ρ w) (shelf_step ρ w) (shelf_end ρ w) (false, i)) (words n)
  completing-unmet i n h k =
      filter-cong (accepts (allowed bans) (leads moves) met i) (accepts (shelf_ok ρ w) (shelf_step ρ w) (shelf_end ρ w) (false, i)) n
      (λ z e. accepts-unmet i z h e.1 (omega (arith, e.0)))

  -- what completes the empty beginning is the shelf
  pub completing-shelf : (k : ℕ) → k ≤ 31 → completing moves bans 0 k ≡ shelf (ranked ρ) k w
  completing-shelf k h =
      completing-unmet 0 k s.letters.some h
      ∙ sym (shelf-table ρ s.one w s.letters.letters (omega (arith, s.letters.long, s.letters.some)) k)

  -- the ways from the empty beginning are the size
  pub ways-size : (k : ℕ) → k ≤ 31 → ways_from moves bans 0 k ≡ size (ranked ρ) k w
  ways-size k h = ways-count (allowed bans) (leads moves) met 0 k ∙ ap length (completing-shelf k h)

  -- where just the rest of the word is left, it alone can complete a beginning
  pub rest-only : (i n : ℕ) → i + n ≡ m → 0 < n → 0 < ways_from moves bans i n → map val (completing moves bans i n) ≡ word % 4 ^ n ∷ []
  rest-only i n e p q =
      let one : completing moves bans i n ≡ drop i w ∷ [] =
      increasing-alone val (drop i w) (completing moves bans i n) (λ z h. each z (rw (completing-unmet i n (omega arith) (omega (arith, s.letters.few))) at h))
      (filter-increasing val (accepts (allowed bans) (leads moves) met i) (words n) (words-increasing n))
      (omega (arith, ways-count (allowed bans) (leads moves) met i n)) in
      ap (map val) one
      ∙ ap (λ (x : ℕ). x ∷ []) (val-drop w i n s.letters.letters (omega (arith, s.letters.long)) ∙ ap (λ (x : ℕ). x % 4 ^ n) s.number)
    where
      each : (z : Word) → Memᴰ z (filter (accepts (shelf_ok ρ w) (shelf_step ρ w) (shelf_end ρ w) (false, i)) (words n)) → z ≡ drop i w
      each z h =
          let r = (filter-words (accepts (shelf_ok ρ w) (shelf_step ρ w) (shelf_end ρ w) (false, i)) n z).0 h in
          shelf-rest ρ w i z (omega (arith, r.0.0, s.letters.long)) r.1

-- ---- the page

module _ (ρ : Ranking) (w : Word) (k start : ℕ) where
  -- a page that starts above the size is refused
  pub page-refused : {old : List ℕ} → size (ranked ρ) k w < start
      → record { refusal = 8; written = 0; room = old } ≡ page_answer (refusal (bad_start (size (ranked ρ) k w) start ∷ [])) (ranked ρ) k w start old
  unfolding page_answer
  page-refused {old} h = ap (λ (t : Bool). page_answer (cond t 8 0) (ranked ρ) k w start old) (sym (lt-ltb (size (ranked ρ) k w) start h))

  -- one that does not is accepted
  page-accepted : (old : List ℕ) → start ≤ size (ranked ρ) k w
      → page_answer 0 (ranked ρ) k w start old ≡ page_answer (refusal (bad_start (size (ranked ρ) k w) start ∷ [])) (ranked ρ) k w start old
  page-accepted old h = ap (λ (t : Bool). page_answer (cond t 8 0) (ranked ρ) k w start old) (sym (le-ltb (size (ranked ρ) k w) start h))

  -- where nothing is left, nothing is written
  page-empty : {old : List ℕ} → start ≡ size (ranked ρ) k w → record { refusal = 0; written = 0; room = old } ≡ page_answer 0 (ranked ρ) k w start old
  unfolding page_answer
  page-empty {old} e =
      let none : map val (take (length old) (drop start (shelf (ranked ρ) k w))) ≡ [] =
      ap (λ (l : List Word). map val (take (length old) l)) (drop_of_length-le (shelf (ranked ρ) k w) {i = start} (omega arith)) ∙ ap (map val) (take-nil (length old)) in
      rw none

  -- a page that starts at the size is empty
  pub page-none : {old : List ℕ} → start ≡ size (ranked ρ) k w
      → record { refusal = 0; written = 0; room = old } ≡ page_answer (refusal (bad_start (size (ranked ρ) k w) start ∷ [])) (ranked ρ) k w start old
  page-none {old} e = page-empty e ∙ page-accepted old (omega arith)

module _ {ρ : Ranking} {w : Word} {m word : ℕ} {nexts bans moves : List ℕ} (s : ShelfOf ρ w m word nexts bans) (v : MovesOf m nexts moves) {k : ℕ} (few : k ≤ 31) where
  module _ {ways : List ℕ} (t : WaysTo m (suc k) moves bans ways) where
    -- the size stands in the last row
    pub size-read : get_or ways (64 * k) 0 ≡ size (ranked ρ) k w
    size-read = ap (λ (p : ℕ). get_or ways p 0) (sym (add-zero (64 * k))) ∙ t.right k 0 (omega arith) (inl s.letters.some) ∙ ways-size s v k few

    -- the tables are those for going down
    pub complete : {powers : List ℕ} → PowersAre powers → Complete k m word moves bans ways powers
    complete p = record { few = few; known = t; powers_are = p; rest = rest-only s v }

    -- a page is listed under the empty beginning
    pub reached : {start : ℕ} → start < size (ranked ρ) k w → Reached k m k 0 0 start moves bans
    reached h =
        record {
          live = inl s.letters.some;
          few = omega arith;
          small = one-le-pow (31 - k) 4 four-pos;
          behind = rw (ways-size s v k few) h;
        }

  module _ {start written : ℕ} {old room : List ℕ} (l : Listed (under moves bans k 0 0) start old room written) where
    -- what is listed under the empty beginning is a part of the shelf
    page-filled : record { refusal = 0; written = written; room = room } ≡ page_answer 0 (ranked ρ) k w start old
    unfolding page_answer
    page-filled =
        let all : under moves bans k 0 0 ≡ map val (shelf (ranked ρ) k w) = simp (zero-mul, zero-add) (ap (map val) (completing-shelf s v k few)) in
        let part : take (length old) (drop start (under moves bans k 0 0)) ≡ map val (take (length old) (drop start (shelf (ranked ρ) k w))) =
        ap (λ (x : List ℕ). take (length old) (drop start x)) all
        ∙ ap (take (length old)) (drop-map val start (shelf (ranked ρ) k w)) ∙ take-map val (length old) (drop start (shelf (ranked ρ) k w)) in
        rw (l.count, l.fills, part)

    -- it is the page
    pub page-listed : start ≤ size (ranked ρ) k w
        → record { refusal = 0; written = written; room = room } ≡ page_answer (refusal (bad_start (size (ranked ρ) k w) start ∷ [])) (ranked ρ) k w start old
    page-listed h = page-filled ∙ page-accepted ρ w k start old h
