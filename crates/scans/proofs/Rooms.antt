-- Room that two runs write side by side, each behind a place of its own. What both write there is the same.
-- Assumes nothing.
use Rattle.std.specs.Prelude.{ℕ, suc, ◌+◌, ◌-◌, ◌*◌, ◌≤◌, ◌<◌, Bool, true, false, List, [], ◌∷◌, ◌⊎◌, ◌≡◌, refl, eqb, ltb, length, get_or, set, take, drop}
use Rattle.std.proofs.Common.{inl, inr, ⊎_elim, sym, ap, ◌∙◌, add-zero, add-suc, add-one, mul-zero, mul-suc, mul-le-mul_left, arith, ltb-true, ltb-false, eqb-true, length-set, get_or-take, get_or-drop, get_or-set_same, get_or-set_other, ext_get_or}
use Rattle.std.proofs.lemmas.Bool.{eqb-false}
use lib.ListN.{get_or-append}
use lib.Seq.{get_or-append-add, length-sets}
use Rattle.std.proofs.lemmas.List.Edits.{sets}
use Rattle.definitions.specs.Lists.{over}
use Rattle.laws.specs.Filters.{joined, length-joined-even, joined_at}
use Rattle.laws.specs.Rooms.{length_over}

-- what holds of a place where it is i, and where it is not, holds of it
which : {X : Type 0} (p i : ℕ) → (p ≡ i → X) → ((p ≡ i → ⊥) → X) → X
which {X} p i same other = go (eqb p i) refl
  where
    go : (t : Bool) → eqb p i ≡ t → X
    go true q = same (eqb-true p i q)
    go false q = other (eqb-false p i q)

module _ {A : Type 0} where
  -- an entry of the room is as it is to be
  abbrev pub Right : List A → List A → ℕ → Type 0
  Right goal room p = (d : A) → get_or room p d ≡ get_or goal p d

  -- some entries are those of a list from a place on
  abbrev pub Part : List A → ℕ → List A → Type 0
  Part goal i more = (q : ℕ) → q < length more → (d : A) → get_or more q d ≡ get_or goal (i + q) d

-- the room is as it is to be before `near`, from `from` to before `far`, and from `end` on
pub record Placed {A : Type 0} (goal : List A) (near from far end : ℕ) (room : List A) : Type 0 where
  pub long : length room ≡ length goal
  pub first : (p : ℕ) → p < near → Right goal room p
  pub second : (p : ℕ) → from ≤ p → p < far → Right goal room p
  pub beyond : (p : ℕ) → end ≤ p → Right goal room p

module _ {A : Type 0} where
  -- where entries are put in a row that are to be there, they are right, and so is every other that was
  sets-right : (goal room : List A) (i : ℕ) (more : List A) → i + length more ≤ length room → Part goal i more
      → (p : ℕ) → ((p < i) ⊎ (i + length more ≤ p) → Right goal room p) → Right goal (sets room i more) p
  sets-right goal room i [] h e p o = o (go (ltb p i) refl)
    where
      go : (t : Bool) → ltb p i ≡ t → (p < i) ⊎ (i + 0 ≤ p)
      go true q = inl (ltb-true p i q)
      go false q = inr (omega (arith, ltb-false p i q))
  sets-right goal room i (v ∷ more) h e p o =
      sets-right goal (set room i v) (suc i) more (rw length-set (omega arith)) (λ q l d. e (suc q) (omega arith) d ∙ place q d) p
      (λ l. which p i (λ s d. rw s (get_or-set_same room i v d (omega arith) ∙ e 0 (omega arith) d ∙ ap (λ (n : ℕ). get_or goal n d) (add-zero i)))
      (λ n d. get_or-set_other room i p v d n ∙ o (⊎_elim (λ b. inl (omega (arith, n))) (λ b. inr (omega arith)) l) d))
    where
      place : (q : ℕ) (d : A) → get_or goal (i + suc q) d ≡ get_or goal (suc i + q) d
      place q d = let same : i + suc q ≡ suc i + q = omega arith in rw same

  -- a part of what is written over the room
  pub over-part : (new old : List A) (i : ℕ) (more : List A) → i + length more ≤ length new → take (length more) (drop i new) ≡ more → Part (over new old) i more
  over-part new old i more h e q l d =
      ap (λ (m : List A). get_or m q d) (sym e)
      ∙ get_or-take (length more) (drop i new) q d l
      ∙ get_or-drop i new q d
      ∙ sym (get_or-append new (drop (length new) old) d (i + q) (omega arith))

  -- before anything is written, the room beyond is as it is to be
  pub placed-none : (new old : List A) {from end : ℕ} → length new ≤ length old → end ≡ length new → Placed (over new old) 0 from from end old
  placed-none new old {end = end} h e =
      record {
        long = sym (length_over new old h);
        first = λ p l. absurd (omega arith);
        second = λ p l k. absurd (omega arith);
        beyond = λ p l. behind p (rw e at l);
      }
    where
      behind : (p : ℕ) → length new ≤ p → Right (over new old) old p
      behind p l d =
          let q = p - length new in
          let place : length new + q ≡ p = omega arith in
          sym (rw place at (get_or-append-add new (drop (length new) old) q d) ∙ rw place at (get_or-drop (length new) old q d))

  -- each run writes some entries more
  pub placed-more : {goal room : List A} {near from far end : ℕ} → Placed goal near from far end room → (a b : List A) {near' far' : ℕ}
      → Part goal near a → Part goal far b → near + length a ≤ length goal → far + length b ≤ length goal → near' ≡ near + length a → far' ≡ far + length b
      → Placed goal near' from far' end (sets (sets room near a) far b)
  placed-more {goal} {room} {near} {from} {far} {end} s a b {near'} {far'} x y h k n f =
      record {
        long = length-sets (sets room near a) far b ∙ length-sets room near a ∙ s.long;
        first = λ p l. other p (λ o. one p (λ q. s.first p (⊎_elim (λ c. c) (λ c. absurd (omega arith)) q)));
        second = λ p l m. other p (λ o. one p (λ q. s.second p l (⊎_elim (λ c. c) (λ c. absurd (omega arith)) o)));
        beyond = λ p l. other p (λ o. one p (λ q. s.beyond p l));
      }
    where
      one : (p : ℕ) → ((p < near) ⊎ (near + length a ≤ p) → Right goal room p) → Right goal (sets room near a) p
      one = sets-right goal room near a (rw s.long h) x

      other : (p : ℕ) → ((p < far) ⊎ (far + length b ≤ p) → Right goal (sets room near a) p) → Right goal (sets (sets room near a) far b) p
      other = sets-right goal (sets room near a) far b (rw (length-sets room near a, s.long) k) y

  -- two lists of one length are equal whose entries are
  same-entries : (room goal : List A) → length room ≡ length goal → ((p : ℕ) → p < length room → Right goal room p) → room ≡ goal
  same-entries [] [] e f = refl
  same-entries [] (y ∷ goal) e f = absurd (omega (arith, e))
  same-entries (x ∷ room) goal e f = ext_get_or x (x ∷ room) goal e (λ p l. f p l x)

  -- where the runs have met, all is written
  pub placed-all : {goal room : List A} {near from far end : ℕ} → Placed goal near from far end room → from ≤ near → end ≤ far → room ≡ goal
  placed-all {goal} {room} {near} {from} {far} s h k = same-entries room goal s.long (λ p l. go p (ltb p near) refl (ltb p far) refl)
    where
      go : (p : ℕ) (t : Bool) → ltb p near ≡ t → (u : Bool) → ltb p far ≡ u → Right goal room p
      go p true e u f = s.first p (ltb-true p near e)
      go p false e true f = s.second p (omega (arith, ltb-false p near e)) (ltb-true p far f)
      go p false e false f = s.beyond p (omega (arith, ltb-false p far f))

-- ---- some entries for each position

-- each run has written the entries of i positions, the right one behind those of its own start
pub record Laid {A : Type 0} (goal : List A) (each count from i : ℕ) (room : List A) : Type 0 where
  pub placed : Placed goal (each * i) (each * from) (each * (from + i)) (each * count) room

module _ {A : Type 0} (entries : ℕ → List A) {each : ℕ} (even : (p : ℕ) → length (entries p) ≡ each) (ps : List ℕ) (old : List A)
    (fits : each * length ps ≤ length old) where
  -- there are so many
  long : length (joined entries ps) ≡ each * length ps
  long = length-joined-even entries each even ps

  -- nothing is written yet
  pub laid_none : (from : ℕ) → Laid (over (joined entries ps) old) each (length ps) from 0 old
  laid_none from = record { placed = rw (mul-zero, add-zero) (placed-none (joined entries ps) old (rw long fits) (sym long)) }

  -- the entries of a position are to be there
  entries-part : (i : ℕ) → i < length ps
      → (let more = entries (get_or ps i 0) in Part (over (joined entries ps) old) (each * i) more × (each * i + length more ≤ length (over (joined entries ps) old)))
  entries-part i h =
      let room : each * i + each ≤ each * length ps = rw (← mul-suc each i) (mul-le-mul_left each h) in (
        over-part (joined entries ps) old (each * i) (entries (get_or ps i 0)) (rw (even (get_or ps i 0), long) room)
            (rw (even (get_or ps i 0)) (joined_at entries each even ps 0 i h)),
        rw (length_over (joined entries ps) old (rw long fits), even (get_or ps i 0)) (omega arith),
      )

  -- each run writes those of one position more
  pub laid_more : {from i : ℕ} {room now : List A} → Laid (over (joined entries ps) old) each (length ps) from i room → from + i < length ps
      → now ≡ sets (sets room (each * i) (entries (get_or ps i 0))) (each * (from + i)) (entries (get_or ps (from + i) 0))
      → Laid (over (joined entries ps) old) each (length ps) from (i + 1) now
  laid_more {from} {i} p h e =
      let one = entries-part i (omega arith) in
      let other = entries-part (from + i) h in
      let near : each * (i + 1) ≡ each * i + length (entries (get_or ps i 0)) = rw (even (get_or ps i 0), add-one, mul-suc) in
      let far : each * (from + (i + 1)) ≡ each * (from + i) + length (entries (get_or ps (from + i) 0)) = rw (even (get_or ps (from + i) 0), add-one, add-suc, mul-suc) in
      record { placed = rw e (placed-more p.placed (entries (get_or ps i 0)) (entries (get_or ps (from + i) 0)) one.0 other.0 one.1 other.1 near far) }

  -- where the runs have met, all is written
  pub laid-all : {from i : ℕ} {room : List A} → Laid (over (joined entries ps) old) each (length ps) from i room → from ≤ i → length ps ≤ from + i → room ≡ over (joined entries ps) old
  laid-all p h k = placed-all p.placed (mul-le-mul_left each h) (mul-le-mul_left each k)
