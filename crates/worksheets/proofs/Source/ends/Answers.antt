-- `worksheets::Source::ends` meets its contract.
-- Assumes nothing.
use Rattle.std.proofs.Common.{ℕ, zero, suc, ◌+◌, ◌<◌, Bool, true, false, not, cond, ◌&&◌, List, ◌≡◌, refl, sym, ap, ◌∙◌, add-one, arith, eqb, length, get_or, drop}
use native.Mathlib.Nat.{not-suc-le-zero}
use lib.ListN.{set}
use Rattle.definitions.specs.Lists.{tabulate}
use Rattle.definitions.specs.Words.{Word}
use Rattle.laws.specs.Orders.{Ranking}
use Rattle.laws.specs.States.{next}
use Rattle.laws.specs.Falls.{fall, fall-le, fall-by-next}
use Rattle.laws.specs.Threads.{caught}
use Rattle.laws.specs.Acceptors.{below_hit}
use Rattle.laws.specs.Tables.{antemer_end}
use Rattle.laws.specs.Bans.{end-start, end-by-fall}
use Rattle.states.specs.declared.States.{States}
use Rattle.worksheets.specs.Columns.{StatesOf, EntryIs, EndIs, end_ways}
use Rattle.worksheets.proofs.Laws.{known-lt, own-next}
use Rattle.worksheets.proofs.Rows.{up_to-more, up_to-none}
use Rattle.worksheets.proofs.Source.ends.Invariants.{Ended}
use Rattle.worksheets.proofs.Source.ends.Goals as goal

-- ---- states

-- a state falls to a lower one
fall-lt : (w : Word) (i : ℕ) → 0 < i → fall w i < i
fall-lt w zero h = absurd (not-suc-le-zero h)
fall-lt w (suc i) h = omega (arith, fall-le w i)

-- from the state that i falls to, w's own letter leads to the state that the next one falls to
fall-on : (w : Word) (i : ℕ) → 0 < i → i < length w → next w (fall w i) (get_or w i 0) ≡ fall w (suc i)
fall-on w zero h k = absurd (not-suc-le-zero h)
fall-on w (suc i) h k = sym (fall-by-next w (suc i) k)

module _ (ρ : Ranking) (w : Word) where
  -- an antemer may end at state 0
  end_none : 1 ≡ end_ways ρ w 0
  end_none = sym (ap (λ (t : Bool). cond t 1 0) (end-start ρ w))

  -- the ways to end at a state, by those at the one that it falls to
  end_more : (i : ℕ) {fallen r : ℕ} → 0 < i → i < length w → fallen ≡ end_ways ρ w (fall w i) → EndIs ρ w i fallen r → r ≡ end_ways ρ w i
  end_more zero h k e q = absurd (not-suc-le-zero h)
  end_more (suc i) {fallen} h k e q =
      q
      ∙ ap (λ (t : Bool). cond (t && free) 1 0) (ap (λ (x : ℕ). not (eqb x 0)) e ∙ some (antemer_end ρ w (fall w (suc i))))
      ∙ sym (ap (λ (t : Bool). cond t 1 0) (end-by-fall ρ w i (omega arith)))
    where
      free : Bool
      free = not (caught w (below_hit ρ w) true (suc i) (drop (suc i) w) w)

      some : (t : Bool) → not (eqb (cond t 1 0) 0) ≡ t
      some true = refl
      some false = refl

-- ---- the loop

-- that state is below i
low-lt : {ρ : Ranking} {w : Word} {i low : ℕ} {ends : List ℕ} → Ended ρ w i ends low → low < i
low-lt {w = w} {i = i} e = omega (arith, e.falls, fall-lt w i e.some)

-- where the loop begins, state 0 is written
begun : (ρ : Ranking) (w : Word) → Ended ρ w 1 (set (tabulate (λ i. 0) 64) 0 1) 0
begun ρ w = record { some = omega arith; written = up_to-more (up_to-none 64 (end_ways ρ w)) (omega arith) (end_none ρ w); falls = refl }

module _ {ρ : Ranking} {w : Word} {m : ℕ} {s : States} (t : StatesOf ρ w m s) {i low : ℕ} {ends : List ℕ} (e : Ended ρ w i ends low) (h : i < m) where
  -- w's own letter leads from that state to the one that the next state falls to
  low-on : {r : ℕ} → EntryIs low i s s.next r → r ≡ fall w (i + 1)
  low-on q =
      own-next s t.alphabets.word t.links.nexts low i (omega (arith, low-lt e)) h q ∙ ap (λ (x : ℕ). next w x (get_or w i 0)) e.falls
      ∙ fall-on w i e.some (omega (arith, t.alphabets.word.long)) ∙ ap (fall w) (sym (add-one i))

  -- one state more is written
  one_more : {v r : ℕ} → EndIs ρ w i (get_or ends low 0) v → EntryIs low i s s.next r → Ended ρ w (i + 1) (set ends i v) r
  one_more p q =
      record {
        some = omega arith;
        written =
            rw add-one (up_to-more e.written (omega (arith, t.alphabets.word.few))
            (end_more ρ w i e.some (omega (arith, t.alphabets.word.long)) (e.written.below low (low-lt e) ∙ ap (end_ways ρ w) e.falls) p));
        falls = low-on q;
      }

pub loop-i-init : goal.loop-i-init
loop-i-init c = (omega arith, λ ρ w t. rw c.requires.zeros (begun ρ w))

pub loop-i-preserved : goal.loop-i-preserved
loop-i-preserved c =
    let at = c.loop-i in
    let h : at.i < c.args.self.now.m = omega arith in
    let more : (ρ : Ranking) (w : Word) → StatesOf ρ w c.args.self.now.m c.args.self.now.states.now → _ =
    λ ρ w t. one_more t (at.invariant.1 ρ w t) h (c.end_at.ensures ρ w t) c.own_entry-fall.ensures in
    (known-lt c.args.self.now.known (λ ρ w t. low-lt (more ρ w t)), more)
