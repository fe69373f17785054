-- Laws of listing: the k-mers under a beginning, by their next letter, and room into which they are written.
-- Assumes nothing.
use Prim.Native.Nat.{ℕ, zero, suc, ◌+◌, ◌-◌, ◌*◌, ◌%◌, ◌^◌, ◌≤◌, ◌<◌, min}
use mathlib.Core.Bool.{Bool, true, false, cond}
use mathlib.Core.List.Memᴰ
use mathlib.Core.List.{List, [], ◌∷◌, ◌++◌, map, map-map, append-nil, Memᴰ}
use mathlib.Core.Logic.{⊎_elim}
use mathlib.Core.Path.{◌≡◌, sym, ap, ap₂, fun_ext, ◌∙◌}
use native.Mathlib.Nat.{add_assoc, suc-mul, add-mul, mul_assoc, mul_left_comm, mul-le-mul_right, pow-succ', pow-le-pow_right, one-le-pow, mod-lt, zero-lt-suc}
use native.Mathlib.Numerals.{add-one}
use native.Mathlib.Omega.{arith}
use lib.ListN.{length, get_or, take, drop, set, length-append, length-take, length-drop, length-map, drop_of_length-le}
use lib.Pow.{pow-add}
use lib.Seq.{take-nil, take-suc}
use Rattle.definitions.specs.Lists.{filter, tabulate, over}
use Rattle.definitions.specs.Words.{Word, letters, words, val}
use Rattle.laws.specs.Numbers.{letters-at, four-pos}
use Rattle.laws.specs.Filters.{filter-full, take-least, part-append, joined, joined-append, map-joined, length-tabulate, tabulate-at, tabulate-agree, drop-tabulate, map-tabulate}
use Rattle.laws.specs.Counting.{map-agree, filter-words, length-words, words-numbers}
use Rattle.laws.specs.Walks.{below-cond, accepts, rest, accepts-split, rest-count, ways-count, ways-le}
use Rattle.laws.specs.Rooms.{over-append, length_over, over_to, over_to-more, rest-whole}
use Rattle.shelves.specs.Descents.{allowed, leads, met, ways_from, ways_below, completing, Tables, numbered, under, Listed, Complete, Reached, AtOnce, Longer}

-- ---- room that is listed into

-- of a list, as many entries are written as there are and the room takes
listed-front : (new old : List ℕ) {room : List ℕ} {n : ℕ} → n ≡ min (length new) (length old) → room ≡ over_to n new old → Listed new 0 old room n
listed-front new old {room} {n} e q =
    let size : n ≡ length (take (length old) new) = omega (arith, length-take (length old) new) in
    let part : take n new ≡ take (length old) new = ap (λ (i : ℕ). take i new) e ∙ take-least new (length old) in
    record { count = size; fills = q ∙ ap₂ (λ (u : List ℕ) (i : ℕ). u ++ drop i old) part size }

module _ {from : List ℕ} (more : List ℕ) {old room : List ℕ} {skip written : ℕ} (l : Listed from skip old room written) where
  -- behind what is written of a list, what follows it is written
  listed_more : {after : List ℕ} {n : ℕ} → Listed more (skip - length from) (drop written room) after n
      → Listed (from ++ more) skip old (take written room ++ after) (written + n)
  listed_more {after} {n} k =
      let u : List ℕ = take (length old) (drop skip from) in
      let v : List ℕ = take (length (drop written room)) (drop (skip - length from) more) in
      let fit : length u ≤ length old = omega (arith, length-take (length old) (drop skip from)) in
      let left : length old - length u ≡ length (drop written room) =
      omega (arith, length-drop written room, ap length l.fills ∙ length_over u old fit, l.count) in
      let whole : take (length old) (drop skip (from ++ more)) ≡ u ++ v =
      part-append (length old) skip from more ∙ ap (λ (i : ℕ). u ++ take i (drop (skip - length from) more)) left in
      let front : take written room ≡ take (length u) (over u old) = ap₂ take l.count l.fills in
      let back : after ≡ over v (drop (length u) (over u old)) = k.fills ∙ ap (over v) (ap₂ drop l.count l.fills) in
      record {
        count = omega (arith, ap length whole, length-append u v, l.count, k.count);
        fills = ap₂ (λ (r a : List ℕ). r ++ a) front back ∙ sym (over-append u v old) ∙ ap (λ (r : List ℕ). over r old) (sym whole);
      }

  -- what is passed over is not written
  listed-past : length more ≤ skip - length from → Listed (from ++ more) skip old room written
  listed-past h =
      let u : List ℕ = take (length old) (drop skip from) in
      let same : take (length old) (drop skip (from ++ more)) ≡ u =
      part-append (length old) skip from more
      ∙ rw (drop_of_length-le more h, take-nil (length old - length u), append-nil) in
      record { count = l.count ∙ ap length (sym same); fills = l.fills ∙ ap (λ (r : List ℕ). over r old) (sym same) }

-- of the numbers from `first` on, `count` of them, i are written, and n are to be
pub record Running (first count n : ℕ) (old room : List ℕ) (i : ℕ) : Type 0 where
  pub least : n ≡ min count (length old)
  pub within : i ≤ n
  pub writes : room ≡ over_to i (tabulate (λ j. first + j) count) old

module _ {first count n : ℕ} {old room : List ℕ} {i : ℕ} (r : Running first count n old room i) where
  -- one more is written
  pub running_more : i < n → {j : ℕ} → j ≡ suc i → Running first count n old (set room i (first + i)) j
  running_more h e =
      record {
        least = r.least;
        within = omega arith;
        writes = over_to-more (tabulate (λ j. first + j) count) old 0 r.writes (sym (tabulate-at (λ j. first + j) count i 0 (omega (arith, r.least))))
            (rw length-tabulate (omega (arith, r.least))) (omega (arith, r.least))
            ∙ ap (λ (k : ℕ). over_to k (tabulate (λ j. first + j) count) old) (sym e);
      }

  -- all are written
  pub running-all : n ≤ i → Listed (tabulate (λ j. first + j) count) 0 old room n
  running-all h =
      let all : i ≡ n = omega (arith, r.within) in
      listed-front (tabulate (λ j. first + j) count) old (r.least ∙ ap (λ (k : ℕ). min k (length old)) (sym (length-tabulate (λ j. first + j) count)))
      (r.writes ∙ ap (λ (k : ℕ). over_to k (tabulate (λ j. first + j) count) old) all)

-- ---- the k-mers under a beginning

-- what completes a state behind a letter has the letters that are left
rest-length : (t : Bool) (p : Word → Bool) (n : ℕ) {z : Word} → Memᴰ z (cond t (filter p (words n)) []) → length z ≡ n
rest-length true p n {z} m = ((filter-words p n z).0 m).0.0
rest-length false p n m = absurd (Memᴰ.not-nil m)

-- a letter moves from what is left to what is begun
begun_more : (begun b n v : ℕ) → begun * 4 ^ suc n + (b * 4 ^ n + v) ≡ (4 * begun + b) * 4 ^ n + v
begun_more begun b n v = rw (pow-succ', add-mul, mul_assoc, mul_left_comm begun 4 (4 ^ n), add_assoc)

module _ (moves ban : List ℕ) (n s begun : ℕ) where
  -- the numbers of the k-mers under a beginning whose next letter is b, where n letters follow it
  abbrev pub under_letter : ℕ → List ℕ
  under_letter b = numbered (4 * begun + b) n (rest (allowed ban) (leads moves) met s n b)

  -- the k-mers under a beginning are those under each next letter
  under-letters : under moves ban (suc n) s begun ≡ joined under_letter letters
  under-letters =
      ap (map number) (accepts-split (allowed ban) (leads moves) met s n)
      ∙ map-joined number (λ b. map (λ (z : Word). b ∷ z) (behind b)) letters
      ∙ ap (λ (f : ℕ → List ℕ). joined f letters) (fun_ext (λ b. one b))
    where
      number : Word → ℕ
      number z = begun * 4 ^ suc n + val z

      behind : ℕ → List Word
      behind b = rest (allowed ban) (leads moves) met s n b

      one : (b : ℕ) → map number (map (λ (z : Word). b ∷ z) (behind b)) ≡ under_letter b
      one b =
          map-map number (λ (z : Word). b ∷ z) (behind b)
          ∙ map-agree (λ z. number (b ∷ z)) (λ z. (4 * begun + b) * 4 ^ n + val z) (behind b)
          (λ z m. rw (rest-length (allowed ban s n b) (accepts (allowed ban) (leads moves) met (leads moves s b)) n m) (begun_more begun b n (val z)))

  -- there are as many under a letter as ways
  letter-count : (b : ℕ) → length (under_letter b) ≡ ways_below moves ban s n b
  letter-count b =
      length-map (rest (allowed ban) (leads moves) met s n b) (λ z. (4 * begun + b) * 4 ^ n + val z)
      ∙ rest-count (allowed ban) (leads moves) met s n b (ways-count (allowed ban) (leads moves) met (leads moves s b) n)

  -- under a letter with a way they are those under the beginning that is longer by the letter
  letter-under : (b p : ℕ) → p < ways_below moves ban s n b
      → (under_letter b ≡ under moves ban n (leads moves s b) (4 * begun + b)) × (p < ways_from moves ban (leads moves s b) n)
  letter-under b p h =
      let q = below-cond (allowed ban s n b) (ways_from moves ban (leads moves s b) n) p h in
      (ap (λ (t : Bool). numbered (4 * begun + b) n (cond t (completing moves ban (leads moves s b) n) [])) q.0, q.1)

  -- where every word completes the state, they are numbers in a row
  under-free : ways_from moves ban s n ≡ 4 ^ n → under moves ban n s begun ≡ tabulate (λ i. begun * 4 ^ n + i) (4 ^ n)
  under-free e =
      ap (map (λ z. begun * 4 ^ n + val z)) (filter-full (accepts (allowed ban) (leads moves) met s) (words n) (sym (ways-count (allowed ban) (leads moves) met s n) ∙ e ∙ sym (length-words n)))
      ∙ sym (map-map (λ i. begun * 4 ^ n + i) val (words n))
      ∙ ap (map (λ i. begun * 4 ^ n + i)) (words-numbers n)
      ∙ map-tabulate (λ i. begun * 4 ^ n + i) (λ i. i) (4 ^ n)

  -- where a single word completes the state, there is one
  under_one : {v : ℕ} → map val (completing moves ban s n) ≡ v ∷ [] → under moves ban n s begun ≡ (begun * 4 ^ n + v) ∷ []
  under_one e = sym (map-map (λ i. begun * 4 ^ n + i) val (completing moves ban s n)) ∙ ap (map (λ i. begun * 4 ^ n + i)) e

-- ---- what the letters before one give

module _ (moves ban : List ℕ) (left s begun : ℕ) where
  -- the numbers of the k-mers under a beginning whose next letter lies before a letter
  abbrev pub before : ℕ → List ℕ
  before b = joined (under_letter moves ban (left - 1) s begun) (take b letters)

  -- one letter more
  before_more : {b : ℕ} → b < 4 → before (suc b) ≡ before b ++ under_letter moves ban (left - 1) s begun b
  before_more {b} h =
      ap (joined F) (take-suc letters b 0 h ∙ ap (λ (i : ℕ). take b letters ++ (i ∷ [])) (letters-at h))
      ∙ joined-append F (take b letters) (b ∷ [])
      ∙ ap (λ (l : List ℕ). before b ++ l) (append-nil (F b))
    where
      F : ℕ → List ℕ
      F = under_letter moves ban (left - 1) s begun

  -- all letters
  before-all : {b : ℕ} → 0 < left → b ≡ 4 → before b ≡ under moves ban left s begun
  before-all {b} h e =
      let more : suc (left - 1) ≡ left = omega arith in
      ap before e ∙ sym (under-letters moves ban (left - 1) s begun) ∙ ap (λ (i : ℕ). under moves ban i s begun) more

-- the k-mers under a beginning are listed up to a letter: so many of the start are still to be passed over, so many are written
pub record Going (moves ban : List ℕ) (left s begun skip : ℕ) (old room : List ℕ) (passed written letter : ℕ) : Type 0 where
  pub few : letter ≤ 4
  pub passes : passed ≡ skip - length (before moves ban left s begun letter)
  pub lists : Listed (before moves ban left s begun letter) skip old room written

module _ {moves ban : List ℕ} {left s begun skip : ℕ} {old room : List ℕ} {passed written letter : ℕ}
    (g : Going moves ban left s begun skip old room passed written letter) where
  module _ {ways : ℕ} (few : letter < 4) (known : ways ≡ ways_below moves ban s (left - 1) letter) where
    -- those under a letter
    abbrev here : List ℕ
    here = under_letter moves ban (left - 1) s begun letter

    -- so many more are looked at
    length_more : length (before moves ban left s begun (letter + 1)) ≡ length (before moves ban left s begun letter) + ways
    length_more =
        ap (λ (i : ℕ). length (before moves ban left s begun i)) (add-one letter)
        ∙ ap length (before_more moves ban left s begun few)
        ∙ length-append (before moves ban left s begun letter) here
        ∙ ap (λ (i : ℕ). length (before moves ban left s begun letter) + i) (letter-count moves ban (left - 1) s begun letter ∙ sym known)

    -- the k-mers under a letter are listed behind what is written
    pub going-into : {after room' : List ℕ} {n passed' written' : ℕ} → passed < ways
        → Listed (under moves ban (left - 1) (leads moves s letter) (4 * begun + letter)) passed (take (length room - written) (drop written room)) after n
        → room' ≡ take written room ++ (after ++ drop (length room - written) (drop written room)) → passed' ≡ 0 → written' ≡ written + n
        → Going moves ban left s begun skip old room' passed' written' (letter + 1)
    going-into {after} {room'} {n} h l e p q =
        let under-here = (letter-under moves ban (left - 1) s begun letter passed (omega arith)).0 in
        let lists-here : Listed here (skip - length (before moves ban left s begun letter)) (drop written room) after n =
        rw (under-here, ← g.passes, ← (rest-whole written room).0) l in
        let room-is : room' ≡ take written room ++ after = e ∙ rw ((rest-whole written room).1, append-nil) in
        record {
          few = omega arith;
          passes = omega (arith, g.passes, length_more);
          lists = rw (add-one, before_more moves ban left s begun few, room-is, q) (listed_more here g.lists lists-here);
        }

    -- the k-mers under a letter are passed over
    pub going-past : {room' : List ℕ} {passed' written' : ℕ} → ways ≤ passed → room' ≡ room → passed' ≡ passed - ways → written' ≡ written
        → Going moves ban left s begun skip old room' passed' written' (letter + 1)
    going-past h e p q =
        let enough : length here ≤ skip - length (before moves ban left s begun letter) =
        omega (arith, g.passes, letter-count moves ban (left - 1) s begun letter) in
        record {
          few = omega arith;
          passes = omega (arith, g.passes, length_more);
          lists = rw (add-one, before_more moves ban left s begun few, e, q) (listed-past here g.lists enough);
        }

  -- all letters were looked at
  pub going-all : 0 < left → 4 ≤ letter → Listed (under moves ban left s begun) skip old room written
  going-all h k = rw (← before-all moves ban left s begun {b = letter} h (omega (arith, g.few))) g.lists

-- ---- descending

-- the numbers under a beginning stay below 4^31
begun-fits : (left begun : ℕ) → left ≤ 31 → begun < 4 ^ (31 - left) → begun * 4 ^ left + 4 ^ left ≤ 4 ^ 31
begun-fits left begun h k =
    let up : suc begun * 4 ^ left ≤ 4 ^ (31 - left) * 4 ^ left = mul-le-mul_right (4 ^ left) k in
    let sum : 31 - left + left ≡ 31 = omega arith in
    let all : 4 ^ (31 - left) * 4 ^ left ≡ 4 ^ 31 = sym (pow-add 4 (31 - left) left) ∙ ap (λ (i : ℕ). 4 ^ i) sum in
    omega (arith, suc-mul begun (4 ^ left))

-- one letter more is begun
begun-small : (left begun b : ℕ) → 0 < left → left ≤ 31 → begun < 4 ^ (31 - left) → b < 4 → 4 * begun + b < 4 ^ (31 - (left - 1))
begun-small left begun b o h k l =
    let up : 4 ^ (31 - (left - 1)) ≡ 4 * 4 ^ (31 - left) = ap (λ (i : ℕ). 4 ^ i) (omega arith) ∙ pow-succ' 4 (31 - left) in
    omega arith

-- and stays below 4^31
begun-low : (left begun b : ℕ) → 0 < left → left ≤ 31 → begun < 4 ^ (31 - left) → b < 4 → 4 * begun + b < 4 ^ 31
begun-low left begun b o h k l =
    let most : 4 ^ (31 - (left - 1)) ≤ 4 ^ 31 = pow-le-pow_right four-pos {j = 31} (omega arith) in
    omega (arith, most, begun-small left begun b o h k l)

-- where some way is left, and not all, some letter is left
some_left : (moves ban : List ℕ) (s left skip : ℕ) → skip < ways_from moves ban s left → (ways_from moves ban s left ≡ 4 ^ left → ⊥) → 0 < left
some_left moves ban s zero skip h n = absurd (n (omega (arith, ways-le (allowed ban) (leads moves) met s 0)))
some_left moves ban s (suc left) skip h n = zero-lt-suc left

module _ {k m word left state begun skip : ℕ} {moves ban ways powers : List ℕ} (t : Tables m moves ban) (d : Complete k m word moves ban ways powers)
    (q : Reached k m left state begun skip moves ban) where
  -- so many letters are few
  left-few : left ≤ 31
  left-few = omega (arith, d.few, q.few)

  -- the power that is read
  pub power-is : get_or powers left 0 ≡ 4 ^ left
  power-is = d.powers_are.each left (omega (arith, left-few))

  -- it is not 0
  pub power-some : 0 < get_or powers left 0
  power-some = rw power-is (one-le-pow left 4 four-pos)

  -- the ways that are read
  count-is : get_or ways (64 * left + state) 0 ≡ ways_from moves ban state left
  count-is = d.known.right left state (omega (arith, q.few)) q.live

  -- one lies behind those to be passed over
  pub count-more : skip < get_or ways (64 * left + state) 0
  count-more = rw count-is q.behind

  -- the numbers under the beginning stay below 4^31
  numbers_fit : begun * 4 ^ left + 4 ^ left ≤ 4 ^ 31
  numbers_fit = begun-fits left begun left-few q.small

  -- so does the number with which those that are listed start
  pub start-lt : begun * get_or powers left 0 + skip < 4 ^ 31
  start-lt = rw power-is (omega (arith, numbers_fit, q.behind, ways-le (allowed ban) (leads moves) met state left))

  -- where not every word completes the beginning, some letter is left
  pub once-none : (get_or ways (64 * left + state) 0 ≡ get_or powers left 0 → ⊥) → 0 < left
  once-none n = some_left moves ban state left skip q.behind (λ r. n (count-is ∙ r ∙ sym power-is))

  -- where every word completes it, its numbers follow one another
  pub once-free : get_or ways (64 * left + state) 0 ≡ get_or powers left 0
      → AtOnce (under moves ban left state begun) skip (begun * get_or powers left 0 + skip) (get_or ways (64 * left + state) 0 - skip)
  once-free e =
      let all : get_or ways (64 * left + state) 0 ≡ 4 ^ left = e ∙ power-is in
      let same : drop skip (under moves ban left state begun) ≡ tabulate (λ i. (begun * 4 ^ left + skip) + i) (4 ^ left - skip) =
      ap (drop skip) (under-free moves ban left state begun (sym count-is ∙ all))
      ∙ drop-tabulate (λ i. begun * 4 ^ left + i) (4 ^ left) skip
      ∙ tabulate-agree (4 ^ left - skip) (λ i h. sym (add_assoc (begun * 4 ^ left) skip i)) in
      record { all = rw (all, power-is) same; fits = rw power-is (omega (arith, all, count-more, numbers_fit)) }

  -- where just the rest of the word is left
  module _ (e : state + left ≡ m) where
    -- it alone completes the beginning
    rest-alone : (map val (completing moves ban state left) ≡ word % 4 ^ left ∷ []) × (skip ≡ 0)
    rest-alone =
        let some : 0 < left = ⊎_elim (λ l. omega arith) (λ l. omega (arith, t.few)) q.live in
        let one = d.rest state left e some (omega (arith, q.behind)) in
        (one, omega (arith, q.behind, ways-count (allowed ban) (leads moves) met state left, length-map (completing moves ban state left) val, ap length one))

    -- its number is below 4^31
    pub rest_lt : begun * get_or powers left 0 + skip + word % get_or powers left 0 < 4 ^ 31
    rest_lt = rw power-is (omega (arith, rest-alone.1, numbers_fit, mod-lt word {m = 4 ^ left} (one-le-pow left 4 four-pos)))

    -- it is one number
    pub once-rest : AtOnce (under moves ban left state begun) skip (begun * get_or powers left 0 + skip + word % get_or powers left 0) 1
    once-rest =
        let start : begun * get_or powers left 0 + skip + word % get_or powers left 0 + 0 ≡ begun * 4 ^ left + word % 4 ^ left =
        rw power-is (omega (arith, rest-alone.1)) in
        let none_passed : drop skip (under moves ban left state begun) ≡ under moves ban left state begun = ap (λ (i : ℕ). drop i (under moves ban left state begun)) rest-alone.1 in
        record {
          all = none_passed ∙ under_one moves ban left state begun rest-alone.0 ∙ ap (λ (x : ℕ). x ∷ []) (sym start);
          fits = omega (arith, rest_lt);
        }

  -- what going one letter further down asks
  pub longer-ready : {b : ℕ} → 0 < left → b < 4 → Longer m left state begun b
  longer-ready {b} o h =
      record {
        live = q.live;
        letter_bound = h;
        some = o;
        small = begun-low left begun b o left-few q.small h;
      }

  -- one letter further down
  pub descend : {b passed count : ℕ} → 0 < left → b < 4 → count ≡ ways_below moves ban state (left - 1) b → passed < count
      → Reached k m (left - 1) (leads moves state b) (4 * begun + b) passed moves ban
  descend {b} {passed} o h e u =
      record {
        live = t.lead state b q.live h;
        few = omega (arith, q.few);
        small = begun-small left begun b o left-few q.small h;
        behind = (letter-under moves ban (left - 1) state begun b passed (omega arith)).1;
      }
