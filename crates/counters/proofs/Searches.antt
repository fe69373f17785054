-- Chains that go through a range and stop at the first number at which a test holds. The range has n places, and at place k stands number at k.
-- Assumes nothing.
use Rattle.std.specs.Prelude.{ℕ, ◌+◌, ◌<◌, Bool, true, false, not, ◌≡◌, Option, None, Some, IsTrue, IsSomeAnd, IfSome, MatchOption, unwrap_or}
use Rattle.std.specs.Bool.{MatchBool}
use Rattle.std.specs.Option.{option_map}
use Rattle.std.specs.Fn.{Called, CalledAt}
use Rattle.std.specs.Iterator.Runs.{Run, SomeRun, CallKeepsClosure, AllItemsGive, AnyItemGives, NoItemPasses, EndsAtFirstPassing}
use Rattle.std.specs.declared.ops.Range.{Range}
use Rattle.std.proofs.Common.{sym, ap, subst, ◌∙◌, arith}
use Rattle.std.proofs.iter.Yields.{nat_range_steps}
use Rattle.std.proofs.iter.runs.Sources.{range_runs}
use denote.Param.Members.{Mut}
use denote.Ref.{Bor}
use Rattle.laws.specs.Places.{any_to, any_to-none, any_to-there, first_to, first_to-is, first_to-none}

-- an item that is read as it is
as_read : (o : Option ℕ) {x : ℕ} → option_map (λ y. y) o ≡ Some x → o ≡ Some x
as_read None e = e
as_read (Some y) e = e

module _ {n : ℕ} (number : ℕ → ℕ) {s : Range ℕ} (from : (k : ℕ) → s.start + k ≡ number k) (to : s.start + n ≡ s.end) (p : ℕ → Bool) where
  module _ (u : Run nat_range_steps) (here : u.from ≡ s) where
    -- a place that the run has come to is one of the range, and its number stands there
    item : (k : ℕ) → k < u.len → (k < n) × (u.at k ≡ Some (number k))
    item k h =
        let up = range_runs u u.seen in
        let first : u.from.start ≡ s.start = ap (λ (t : Range ℕ). t.start) here in
        let last : u.from.end ≡ s.end = ap (λ (t : Range ℕ). t.end) here in
        (omega (arith, up.0), as_read (u.at k) (up.3 k h ∙ ap Some (ap (λ (i : ℕ). i + k) first ∙ from k)))

    -- a run to the end goes through all of them
    all_places : u.whole ≡ true → u.len ≡ n
    all_places w =
        let first : u.from.start ≡ s.start = ap (λ (t : Range ℕ). t.start) here in
        let last : u.from.end ≡ s.end = ap (λ (t : Range ℕ). t.end) here in
        omega (arith, (range_runs u u.seen).1 w)

    module _ {F : Type 0} {g : Mut F (ℕ × Unit {0}) Bool} {f : F} (keeps : CallKeepsClosure g f) {t : Bool} where
      -- the closure gives t at some place
      gives-some : ((k : ℕ) → k < n → Called g f (number k, tt) t f → p k ≡ true) → AnyItemGives u g f t → any_to n p ≡ true
      gives-some h m =
          let r = m keeps in
          let i = item r.0 r.1 in
          any_to-there n p r.0 i.0 (h r.0 i.0 (subst (λ o. IsSomeAnd o (λ x. Called g f (x, tt) t f)) i.1 r.2))

      -- and at every place
      gives-all : ((k : ℕ) → k < n → Called g f (number k, tt) t f → p k ≡ false) → u.whole ≡ true → AllItemsGive u g f t → any_to n p ≡ false
      gives-all h w m =
          any_to-none n
          (λ k l. h k l (subst (λ o. IfSome o (λ x. Called g f (x, tt) t f)) (item k (omega (arith, all_places w))).1 (m keeps k)))

  module _ {F : Type 0} {g : Mut F (ℕ × Unit {0}) Bool} {f : F} (keeps : CallKeepsClosure g f) where
    -- `any` tells whether the test holds at some place
    pub any-searched : (r : Bool) → ((k : ℕ) → k < n → (t : Bool) → Called g f (number k, tt) t f → t ≡ p k)
        → SomeRun nat_range_steps s (λ u. MatchBool r (AnyItemGives u g f true) (IsTrue u.whole × AllItemsGive u g f false)) → r ≡ any_to n p
    any-searched true h m = sym (gives-some m.0 m.1 keeps (λ k l c. sym (h k l true c)) m.2)
    any-searched false h m = sym (gives-all m.0 m.1 keeps (λ k l c. sym (h k l false c)) m.2.0 m.2.1)

    -- `all` tells whether it holds at none, where the closure tests the contrary
    pub all-searched : (r : Bool) → ((k : ℕ) → k < n → (t : Bool) → Called g f (number k, tt) t f → not t ≡ p k)
        → SomeRun nat_range_steps s (λ u. MatchBool r (IsTrue u.whole × AllItemsGive u g f true) (AnyItemGives u g f false)) → r ≡ not (any_to n p)
    all-searched true h m = sym (ap not (gives-all m.0 m.1 keeps (λ k l c. sym (h k l true c)) m.2.0 m.2.1))
    all-searched false h m = sym (ap not (gives-some m.0 m.1 keeps (λ k l c. sym (h k l false c)) m.2))

  -- `find` gives the first number at which it holds; the one behind the last place stands for none
  pub find-searched : {F : Type 0} {g : Mut F (Bor ℕ × Unit {0}) Bool} {f : F} → CallKeepsClosure g f → (r : Option ℕ)
      → ((k : ℕ) → k < n → (t : Bool) → CalledAt g f (number k) t f → t ≡ p k)
      → SomeRun nat_range_steps s (λ u. MatchOption r (IsTrue u.whole × NoItemPasses u g f) (EndsAtFirstPassing u g f))
      → unwrap_or r (number n) ≡ number (first_to n p)
  find-searched {g = g} {f} keeps None h m =
      let u = m.0 in
      ap number
      (sym (first_to-none n p
      (λ k l. sym (h k l false (subst (λ o. IfSome o (λ x. CalledAt g f x false f)) (item u m.1 k (omega (arith, all_places u m.1 m.2.0))).1 (m.2.1 keeps k))))))
  find-searched {g = g} {f} keeps (Some x) h m =
      let u = m.0 in
      let i = m.2.0 in
      let last = m.2.1 in
      let here = item u m.1 i (omega arith) in
      let before : u.at i ≡ Some x = m.2.2 in
      let is : number i ≡ x = cc (here.1, before) in
      let told = m.2.3 keeps in
      let passed : (k : ℕ) → k < i → p k ≡ false = λ k l.
      let at = item u m.1 k (omega (arith, last)) in
      sym (h k at.0 false (subst (λ o. IsSomeAnd o (λ y. CalledAt g f y false f)) at.1 (told.1 k l)))
      in
      let first : first_to n p ≡ i = first_to-is n p i here.0 (sym (h i here.0 true (subst (λ y. CalledAt g f y true f) (sym is) told.0))) passed in
      sym is ∙ ap number (sym first)
