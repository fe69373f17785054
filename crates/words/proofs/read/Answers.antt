-- `words::read` meets its contract.
-- Assumes nothing.
use Rattle.std.proofs.Common.{ℕ, suc, ◌+◌, ◌*◌, ◌^◌, ◌<◌, List, length, get_or, take, ◌≡◌, sym, ◌∙◌, add-one, arith}
use Rattle.std.proofs.Math.Nat.{pow-le-pow_right, lt_of_lt_of_le}
use Rattle.std.proofs.lemmas.List.{length-map}
use Rattle.std.proofs.lemmas.Option.{cond_some}
use lib.Seq.{length-take-le, take-length}
use Rattle.definitions.specs.Words.{val, letter_of, spelled}
use Rattle.laws.specs.Accepted.{PackAccepted}
use Rattle.laws.specs.Filters.{at_map}
use Rattle.laws.specs.Numbers.{four-pos, number_lt, letter-lt, letters-take, spelled-letters}
use Rattle.laws.specs.Rolls.{number-front}
use Rattle.words.proofs.read.Goals as goal

module _ (t : List ℕ) (a : PackAccepted t) (i : ℕ) (h : i < length t) where
  -- one letter more is read
  one_more : val (take i (spelled t)) * 4 + letter_of (get_or t i 0) ≡ val (take (suc i) (spelled t))
  one_more = rw (← at_map letter_of t 0 0 i h) (sym (number-front 4 (spelled t) i (rw length-map h)))

  -- it is one of the four
  read-lt : letter_of (get_or t i 0) < 4
  read-lt = rw (← at_map letter_of t 0 0 i h) (letter-lt (spelled t) i (spelled-letters t a.all_letters))

  -- before it fewer than 31 letters were read
  small : val (take i (spelled t)) < 4 ^ 30
  small =
      lt_of_lt_of_le
      (number_lt 4 (take i (spelled t)) (letters-take i (spelled t) (spelled-letters t a.all_letters)))
      (rw (length-take-le i (spelled t) (rw length-map (omega arith))) (pow-le-pow_right four-pos {j = 30} (omega (arith, a.few))))

pub overflow_mul-word : goal.overflow_mul-word
overflow_mul-word c = omega (arith, c.loop-i.invariant, small c.args.text.now c.requires c.loop-i.i c.loop-i-test.true)

pub overflow_add-word : goal.overflow_add-word
overflow_add-word c =
    let text = c.args.text.now in
    let at = c.loop-i in
    let h = c.loop-i-test.true in
    let good = cond_some _ _ _ (sym c.letter.ensures ∙ c.unwrap.ensures) in
    omega (arith, at.invariant, small text c.requires at.i h, read-lt text c.requires at.i h, good.1)

pub loop-i-preserved : goal.loop-i-preserved
loop-i-preserved c =
    let at = c.loop-i in
    let good = cond_some _ _ _ (sym c.letter.ensures ∙ c.unwrap.ensures) in
    rw (← good.1, at.invariant, add-one) (one_more c.args.text.now c.requires at.i c.loop-i-test.true)

pub returns : goal.returns
returns c =
    let end : c.loop-i.i ≡ length (spelled c.args.text.now) = rw length-map (omega arith) in
    c.loop-i.invariant ∙ rw (end, take-length)
