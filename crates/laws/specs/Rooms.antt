-- Room that is written entry by entry, from its start on or behind a place, and positions as bytes.
-- Assumes nothing.
use Rattle.std.specs.Prelude.{ℕ, suc, ◌+◌, ◌-◌, ◌*◌, ◌≤◌, ◌<◌, Bool, true, false, List, [], ◌∷◌, ◌++◌, ◌⊎◌, ◌≡◌, refl, eqb, length, get_or, set, take, drop}
use Rattle.std.proofs.Common.{append_assoc, inl, inr, ⊎_elim, sym, ap, ◌∙◌, add-one, arith, eqb-true, length-set, length-append, length-drop, drop_of_length-le, length-take-le, drop-cons, drop-drop, take-add, take_at, drop_at, take_all, get_or-set_same, get_or-set_other}
use Rattle.std.proofs.lemmas.Bool.{eqb-false}
use Rattle.std.proofs.Math.Seq.{take-append_seam, drop-append_seam, take-length, length_front}
use Rattle.std.proofs.lemmas.List.Edits.{sets, sets-eq}
use Rattle.definitions.specs.Lists.{over}
use Rattle.definitions.specs.Words.{bytes}
use Rattle.definitions.specs.Outcomes.{as_bytes}
use Rattle.laws.specs.Filters.{joined, length-joined-even, joined_at}
use Rattle.laws.specs.Numbers.{length_digits}

module _ {A : Type 0} where
  -- two lists are written one after the other
  pub over-append : (u v old : List A) → over (u ++ v) old ≡ take (length u) (over u old) ++ over v (drop (length u) (over u old))
  over-append u v old =
      rw (take-append_seam, drop-append_seam, append_assoc, length-append, ← drop-drop (length v) (length u) old)

  -- writing keeps the length
  pub length_over : (u old : List A) → length u ≤ length old → length (over u old) ≡ length old
  length_over u old h = rw (length-append, length-drop) (omega arith)

  -- what lies behind a place, taken to its end, and nothing behind that
  pub rest-whole : (n : ℕ) (l : List A) → (take (length l - n) (drop n l) ≡ drop n l) × (drop (length l - n) (drop n l) ≡ [])
  rest-whole n l =
      let long : length (drop n l) ≤ length l - n = omega (arith, length-drop n l) in
      (take_all (length l - n) (drop n l) long, drop_of_length-le (drop n l) long)

  -- room of which the first i entries are written
  abbrev pub over_to : ℕ → List A → List A → List A
  over_to i new old = take i new ++ drop i old

  module _ (new old : List A) where
    -- writing keeps the length
    pub length-over_to : {i : ℕ} {room : List A} → room ≡ over_to i new old → i ≤ length new → i ≤ length old → length room ≡ length old
    length-over_to {i = i} e h k = rw e (length_front old (take i new) i (length-take-le i new h ∙ sym (length-take-le i old k)))

    -- some more entries are written, one after the other
    pub over_to-sets : (i : ℕ) {room : List A} (more : List A) → room ≡ over_to i new old → take (length more) (drop i new) ≡ more
        → i + length more ≤ length new → i + length more ≤ length old → sets room i more ≡ over_to (i + length more) new old
    over_to-sets i {room} more e q h k =
        sets-eq more room i (rw (length-over_to {i = i} e (omega arith) (omega arith)) k)
        ∙ rw (e, take_at (take i new) (drop i old) i front, ← drop-drop (length more) i (take i new ++ drop i old), drop_at (take i new) (drop i old) i front, drop-drop, take-add i (length more) new, q)
      where
        front : length (take i new) ≡ i
        front = length-take-le i new (omega arith)

    -- one more entry is written
    pub over_to-more : {i : ℕ} {room : List A} {a : A} (d : A) → room ≡ over_to i new old → a ≡ get_or new i d → i < length new → i < length old
        → set room i a ≡ over_to (suc i) new old
    over_to-more {i} {room} {a} d e q h k = rw add-one at (over_to-sets i (a ∷ []) e (rw (drop-cons new i d h, q)) (rw add-one h) (rw add-one k))

    -- all is written
    pub over_to-all : {i : ℕ} {room : List A} → room ≡ over_to i new old → i ≡ length new → room ≡ over new old
    over_to-all e q = rw (q, take-length) at e

-- after a store there is at its place what was stored, and at every other what was there
pub set_holds : (list : List ℕ) (i p : ℕ) {v x : ℕ} → i < length list → (p ≡ i → v ≡ x) → ((p ≡ i → ⊥) → get_or list p 0 ≡ x) → get_or (set list i v) p 0 ≡ x
set_holds list i p {v} {x} h e o = go (eqb p i) refl
  where
    go : (t : Bool) → eqb p i ≡ t → get_or (set list i v) p 0 ≡ x
    go true q =
        let same : p ≡ i = eqb-true p i q in
        ap (λ (n : ℕ). get_or (set list i v) n 0) same ∙ get_or-set_same list i v 0 h ∙ e same
    go false q = get_or-set_other list i p v 0 (eqb-false p i q) ∙ o (eqb-false p i q)

-- ---- numbers written behind a place

-- behind `to`, the entries from lo to below hi are written and no other is
pub record Written (lo hi to : ℕ) (new : ℕ → ℕ) (old room : List ℕ) : Type 0 where
  pub long : length room ≡ length old
  pub inside : (i : ℕ) → lo ≤ i → i < hi → get_or room (to + i) 0 ≡ new i
  pub outside : (p : ℕ) → (p < to + lo) ⊎ (to + hi ≤ p) → get_or room p 0 ≡ get_or old p 0

module _ {to : ℕ} {new : ℕ → ℕ} where
  -- nothing is written yet
  pub written_none : (lo : ℕ) (room : List ℕ) → Written lo lo to new room room
  written_none lo room = record { long = refl; inside = λ i h k. absurd (omega arith); outside = λ p h. refl }

  module _ {lo hi i v : ℕ} {old room : List ℕ} (s : Written lo hi to new old room) (k : to + i < length room) (e : v ≡ new i) where
    -- the new entry is there, and the others that were written
    set-inside : (j : ℕ) → ((j ≡ i → ⊥) → get_or room (to + j) 0 ≡ new j) → get_or (set room (to + i) v) (to + j) 0 ≡ new j
    set-inside j h = set_holds room (to + i) (to + j) k (λ r. let same : j ≡ i = omega arith in rw same e) (λ n. h (λ q. n (ap (λ (l : ℕ). to + l) q)))

    -- one more entry is written, after the others
    pub written-up : hi ≡ i → lo ≤ i → Written lo (suc i) to new old (set room (to + i) v)
    written-up q h =
        record {
          long = length-set room (to + i) v ∙ s.long;
          inside = λ j l u. set-inside j (λ n. s.inside j l (omega (arith, n)));
          outside = λ p o. get_or-set_other room (to + i) p v 0 (λ r. ⊎_elim (λ l. omega arith) (λ l. omega arith) o)
              ∙ s.outside p (⊎_elim (λ l. inl l) (λ l. inr (omega arith)) o);
        }

    -- or before them
    pub written-down : lo ≡ suc i → i < hi → Written i hi to new old (set room (to + i) v)
    written-down q h =
        record {
          long = length-set room (to + i) v ∙ s.long;
          inside = λ j l u. set-inside j (λ n. s.inside j (omega (arith, n)) u);
          outside = λ p o. get_or-set_other room (to + i) p v 0 (λ r. ⊎_elim (λ l. omega arith) (λ l. omega arith) o)
              ∙ s.outside p (⊎_elim (λ l. inl (omega arith)) (λ l. inr l) o);
        }

-- ---- numbers as bytes

-- the positions as bytes are their bytes in a row
as_bytes-joined : (ps : List ℕ) → as_bytes ps ≡ joined (bytes 4) ps
as_bytes-joined [] = refl
as_bytes-joined (p ∷ ps) = ap (λ (l : List ℕ). bytes 4 p ++ l) (as_bytes-joined ps)

-- four bytes for each position
pub length-as_bytes : (ps : List ℕ) → length (as_bytes ps) ≡ 4 * length ps
length-as_bytes ps = ap length (as_bytes-joined ps) ∙ length-joined-even (bytes 4) 4 (length_digits 256 4) ps

-- the bytes of a position stand at four times its place
pub as_bytes-at : (ps : List ℕ) (i : ℕ) → i < length ps → take 4 (drop (4 * i) (as_bytes ps)) ≡ bytes 4 (get_or ps i 0)
as_bytes-at ps i h = ap (λ (l : List ℕ). take 4 (drop (4 * i) l)) (as_bytes-joined ps) ∙ joined_at (bytes 4) 4 (length_digits 256 4) ps 0 i h
