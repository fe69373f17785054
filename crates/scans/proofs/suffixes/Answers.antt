-- `scans::suffixes` meets its contract.
-- Assumes nothing.
use Prim.Native.Nat.{ℕ, suc, ◌-◌, ◌<◌, min}
use mathlib.Core.List.{List}
use mathlib.Core.Logic.{inl, inr, ⊎_elim}
use mathlib.Core.Path.{◌≡◌, refl, sym, ◌∙◌}
use native.Mathlib.Omega.{arith}
use native.Mathlib.Nat.{min-eq_left}
use lib.ListN.{get_or, set, take, drop, length-set}
use lib.Seq.{drop-cons, get_or-set_other}
use Rattle.laws.specs.Rooms.{set_holds}
use Rattle.laws.specs.Stamps.{lowest}
use Rattle.scans.specs.Readings.{top, Entries, Suffixes}
use Rattle.scans.proofs.suffixes.Invariants.{From}
use Rattle.scans.proofs.suffixes.Goals as goal

module _ (width : ℕ) (old : List ℕ) (given : Entries width old) where
  -- the least from a place on, with the entry there
  least_first : (q : ℕ) → q < width
      → lowest top (take (width - q) (drop q old)) ≡ min (get_or old q 0) (lowest top (take (width - suc q) (drop (suc q) old)))
  least_first q h =
      let n : width - q ≡ suc (width - suc q) = omega arith in
      rw (n, drop-cons old q 0 (omega (arith, given.full, given.few)))

  -- the last entry is the least of itself
  begun : From width old old (width - 1) (get_or old (width - 1) 0)
  begun =
      record {
        inside = omega (arith, given.some);
        now = last (width - 1) (omega (arith, given.some));
        turned = λ q h k. let l : suc q ≡ width = omega arith in last q l;
        others = λ q h. refl;
        full = given.full;
      }
    where
      last : (q : ℕ) → suc q ≡ width → get_or old q 0 ≡ lowest top (take (width - q) (drop q old))
      last q l =
          let none : width - suc q ≡ 0 = omega arith in
          sym (least_first q (omega arith) ∙ rw none (min-eq_left (given.below q (omega arith))))

  -- one entry more is turned
  more : {ring : List ℕ} {i j least v : ℕ} → suc i ≡ j → From width old ring j least → v ≡ min (get_or ring i 0) least
      → From width old (set ring i v) i v
  more {ring} {i} {j} {least} {v} n f e =
      record {
        inside = omega (arith, f.inside);
        now = there;
        turned = λ q h k. set_holds ring i q (omega (arith, f.full, f.inside, given.few)) (λ l. rw l there) (λ o. f.turned q (omega (arith, o)) k);
        others = λ q h. get_or-set_other ring i q v 0 (λ l. ⊎_elim (λ a. omega arith) (λ a. omega (arith, f.inside)) h)
            ∙ f.others q (⊎_elim (λ a. inl (omega arith)) inr h);
        full = length-set ring i v ∙ f.full;
      }
    where
      there : v ≡ lowest top (take (width - i) (drop i old))
      there = e ∙ rw (f.others i (inl (omega arith)), f.now, ← n) (sym (least_first i (omega (arith, f.inside))))

  -- all are turned
  done : {ring : List ℕ} {least : ℕ} → From width old ring 0 least → Suffixes width old ring
  done f = record { full = f.full; least = λ q h. f.turned q (omega arith) h; others = λ q h. f.others q (inr h) }

pub loop-i-init : goal.loop-i-init
loop-i-init c =
    (begun c.args.width c.args.left.now c.requires.0, begun c.args.width c.args.right.now c.requires.1)

pub loop-i-preserved : goal.loop-i-preserved
loop-i-preserved c =
    let at = c.loop-i in
    let next : suc (at.i - 1) ≡ at.i = omega arith in (
      more c.args.width c.args.left.now c.requires.0 next at.invariant.0 c.lesser-least.ensures,
      more c.args.width c.args.right.now c.requires.1 next at.invariant.1 c.lesser-other.ensures,
    )
