-- `worksheets::Source::caught` meets its contract.
-- Assumes nothing.
use Rattle.std.proofs.Common.{ℕ, suc, ◌+◌, ◌<◌, Bool, true, false, cond, ◌&&◌, ◌||◌, Ordering, ◌≡◌, refl, sym, ap, ap₂, ◌∙◌, add-one, arith, le-leb, ltb, eqb, length, get_or, drop, length-drop, drop-cons}
use Rattle.std.specs.Ordering.{match_ordering}
use lib.Seq.{drop-length}
use Rattle.definitions.specs.Words.{Word}
use Rattle.laws.specs.Numbers.{letter-lt}
use Rattle.laws.specs.Orders.{Ranking, rank_same}
use Rattle.laws.specs.Threads.{caught}
use Rattle.laws.specs.Rules.{less, equal, greater}
use Rattle.laws.specs.Acceptors.{below_hit}
use Rattle.powers.specs.Signs.{signed}
use Rattle.states.specs.declared.States.{States}
use Rattle.worksheets.specs.Columns.{StatesOf, EntryIs}
use Rattle.worksheets.proofs.Laws.{own-mark}
use Rattle.worksheets.proofs.Source.caught.Invariants.{tied_to}
use Rattle.worksheets.proofs.Source.caught.Goals as goal

module _ {ρ : Ranking} {w : Word} {m : ℕ} {s : States} (t : StatesOf ρ w m s) (i j : ℕ) (h : i + j < m) where
  -- one letter more: it ranks below w's letter, or is that letter and the thread is caught further on
  letter-read : tied_to ρ w (i + j) j ≡ (ltb (ρ (i + j) (get_or w j 0)) (ρ (i + j) (get_or w (i + j) 0)) || (eqb (get_or w j 0) (get_or w (i + j) 0) && tied_to ρ w (suc (i + j)) (suc j)))
  letter-read =
      ap₂ (λ (u z : Word). caught w (below_hit ρ w) true (i + j) u z) (drop-cons w (i + j) 0 (omega (arith, t.alphabets.word.long))) (drop-cons w j 0 (omega (arith, t.alphabets.word.long)))
      ∙ ap (λ (b : Bool). b && ltb (ρ (i + j) (get_or w j 0)) (ρ (i + j) (get_or w (i + j) 0)) || (eqb (get_or w j 0) (get_or w (i + j) 0) && tied_to ρ w (suc (i + j)) (suc j)))
      (le-leb (length w) (i + j + suc (length (drop (suc j) w))) (omega (arith, length-drop (suc j) w, t.alphabets.word.long)))

  -- so the letter's mark decides, or the rest does
  mark-tells : {mark : Ordering} → tied_to ρ w i 0 ≡ tied_to ρ w (i + j) j → EntryIs (i + j) j s s.marks mark
      → tied_to ρ w i 0 ≡ match_ordering mark true (tied_to ρ w (suc (i + j)) (suc j)) false
  mark-tells q e =
      q
      ∙ letter-read
      ∙ sym (ap (λ (b : Bool). ltb rank beside || (b && rest))
      (rank_same ρ t.alphabets.one (i + j) (get_or w j 0) (get_or w (i + j) 0) (letter-lt w j t.alphabets.word.letters) (letter-lt w (i + j) t.alphabets.word.letters)))
      ∙ go (ltb rank beside) (eqb rank beside)
      ∙ sym (ap (λ (o : Ordering). match_ordering o true rest false) (own-mark t i j h e))
    where
      rank : ℕ
      rank = ρ (i + j) (get_or w j 0)

      beside : ℕ
      beside = ρ (i + j) (get_or w (i + j) 0)

      rest : Bool
      rest = tied_to ρ w (suc (i + j)) (suc j)

      go : (a b : Bool) → (a || (b && rest)) ≡ match_ordering (signed (cond a less (cond b equal greater))) true rest false
      go true b = refl
      go false true = refl
      go false false = refl

-- at the end of w all is tied
all-tied : (ρ : Ranking) (w : Word) (i l j : ℕ) → tied_to ρ w i 0 ≡ tied_to ρ w l j → l ≡ length w → true ≡ tied_to ρ w i 0
all-tied ρ w i l j q e = sym (q ∙ ap (λ (u : Word). caught w (below_hit ρ w) true l u (drop j w)) (ap (λ (n : ℕ). drop n w) e ∙ drop-length w))

pub returns-in-Less : goal.returns-in-Less
returns-in-Less c =
    let at = c.loop-j in
    λ ρ w t. sym (mark-tells t c.args.i at.j (omega arith) (at.invariant ρ w t) c.in-Less.ensures)

pub returns-in-Greater : goal.returns-in-Greater
returns-in-Greater c =
    let at = c.loop-j in
    λ ρ w t. sym (mark-tells t c.args.i at.j (omega arith) (at.invariant ρ w t) c.in-Greater.ensures)

pub loop-j-preserved : goal.loop-j-preserved
loop-j-preserved c =
    let at = c.loop-j in
    let i = c.args.i in
    let on : suc (i + at.j) ≡ i + (at.j + 1) = omega arith in
    λ ρ w t. mark-tells t i at.j (omega arith) (at.invariant ρ w t) c.in-Equal.ensures ∙ ap₂ (λ (l p : ℕ). tied_to ρ w l p) on (sym (add-one at.j))

pub returns : goal.returns
returns c =
    let at = c.loop-j in
    let i = c.args.i in
    λ ρ w t. all-tied ρ w i (i + at.j) at.j (at.invariant ρ w t) (omega (arith, t.alphabets.word.long))
