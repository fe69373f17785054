-- `vigemins::least_mer` meets its contract.
-- Assumes nothing.
use Prim.Native.Nat.{ℕ, suc, ◌+◌, ◌-◌, ◌*◌, ◌/◌, ◌^◌, ◌≤◌, ◌<◌}
use mathlib.Core.Bool.{Bool, true, false, cond}
use mathlib.Core.Path.{◌≡◌, sym, ap, ◌∙◌}
use native.Mathlib.Nat.{one-le-pow, sub-zero}
use native.Mathlib.Numerals.{add-one}
use native.Mathlib.Omega.{arith}
use borrow.Author.Tests.{le-leb, lt-leb}
use lib.Bits.{bit_and, bit_xor}
use lib.Dec.{leb}
use lib.ListN.{length, get_or, take, drop}
use lib.Seq.{take_all, take-suc}
use Rattle.definitions.specs.Words.{Word, val, word as word_of}
use Rattle.definitions.specs.Vigemins.{keyed, least_place, vigemin, vigemin_at}
use Rattle.definitions.specs.Outcomes.{vigemin_answer}
use Rattle.laws.specs.Numbers.{four-pos, length_digits, digits-below, window-cut}
use Rattle.laws.specs.Minima.{length-values, least_more, vigemin-word}
use Rattle.laws.specs.Rolls.{values, value-mer}
use Rattle.laws.specs.Accepted.{VigeminAccepted}
use Rattle.powers.specs.Powers.{power_outcome, power-four}
use Rattle.vigemins.proofs.least_mer.Invariants.{Passed}
use Rattle.vigemins.proofs.least_mer.Goals as goal
use Rattle.vigemins.proofs.least_mer.Goals.{then-other-least, else-other-least}

module _ {k m key kmer power : ℕ} (a : VigeminAccepted k m key kmer) (e : power ≡ power_outcome m) where
  -- the k-mer's letters
  abbrev x : Word
  x = word_of k kmer

  -- there are k of them
  long : length x ≡ k
  long = length_digits 4 k kmer

  -- the power that the mask is made of
  power-is : power ≡ 4 ^ m
  power-is = e ∙ power-four m (omega arith)

  -- the m-mer at a place as the code cuts it out
  abbrev cut_at : ℕ → ℕ
  cut_at p = bit_and (kmer / 2 ^ (2 * (k - m - p))) (power - 1)

  module _ (p : ℕ) (h : p + m ≤ k) where
    -- it is the m letters from there on
    cut-mer : cut_at p ≡ val (take m (drop p x))
    cut-mer = rw power-is (window-cut p m k kmer h)

    -- its value is the one at that place
    cut-value : bit_xor (cut_at p) key ≡ get_or (values m key x) p 0
    cut-value = rw cut-mer (sym (value-mer m key x a.order.key_small (digits-below four-pos k kmer) p (rw long h)))

    -- the place is one of those of the values
    among : p < length (values m key x)
    among = rw (length-values, long) (omega arith)

    module _ {word least position : ℕ} (s : Passed m key x p word least position) where
      -- the position of the least, with one m-mer more
      next : (t : Bool) → leb least (bit_xor (cut_at p) key) ≡ t → cond t position p ≡ least_place (take (suc p) (values m key x))
      next t test = rw (← test, s.lowest, cut-value, s.place) (sym (least_more (values m key x) p s.some among))

      -- the least stays where the m-mer is not below it
      passed-stays : least ≤ bit_xor (cut_at p) key → Passed m key x (suc p) word least position
      passed-stays l =
          record {
            some = omega arith;
            inside = rw long (omega arith);
            place = next true (le-leb least (bit_xor (cut_at p) key) l);
            mer = s.mer;
            lowest = s.lowest;
          }

      -- and else the m-mer takes its place
      passed-moves : bit_xor (cut_at p) key < least → Passed m key x (suc p) (cut_at p) (bit_xor (cut_at p) key) p
      passed-moves l =
          record {
            some = omega arith;
            inside = rw long (omega arith);
            place = next false (lt-leb least (bit_xor (cut_at p) key) l);
            mer = cut-mer;
            lowest = cut-value;
          }

  -- of one m-mer, it is the least
  passed_first : Passed m key x 1 (cut_at 0) (bit_xor (cut_at 0) key) 0
  passed_first =
      let h : 0 + m ≤ k = omega arith in
      record {
        some = omega arith;
        inside = rw long (omega arith);
        place = rw (take-suc (values m key x) 0 0 (among 0 h));
        mer = cut-mer 0 h;
        lowest = cut-value 0 h;
      }

  -- of all m-mers, the least is the vigemin
  passed-all : {p word least position : ℕ} → Passed m key x p word least position → k < p + m
      → let f = keyed (word_of m key) in (word ≡ val (vigemin f m x)) × (position ≡ vigemin_at f m x)
  passed-all {p} s h =
      let place = s.place ∙ ap least_place (take_all p (values m key x) (rw (length-values, long) (omega arith))) in
      (rw (vigemin-word (keyed (word_of m key)) m x (rw long (omega arith)), ← place) s.mer, place)

pub overflow_sub-mask : goal.overflow_sub-mask
overflow_sub-mask c = rw (power-is c.requires c.power-mask.ensures) (one-le-pow c.args.m 4 four-pos)

pub loop-p-init : goal.loop-p-init
loop-p-init c = rw c.value-least.ensures (rw sub-zero at (passed_first c.requires c.power-mask.ensures))

pub loop-p-preserved : goal.loop-p-preserved
loop-p-preserved c =
    let at = c.loop-p in
    let h : at.p + c.args.m ≤ c.args.k = omega arith in
    let other = c.value-other.ensures in
    rw add-one
    elim c.if-other-least.branch [
      | then-other-least w ↦ rw (w.word-is, w.least-is, w.position-is, other)
          (passed-moves c.requires c.power-mask.ensures at.p h at.invariant (rw other at w.if-other-least.true))
      | else-other-least w ↦ rw (w.word-is, w.least-is, w.position-is)
          (passed-stays c.requires c.power-mask.ensures at.p h at.invariant (rw other at w.if-other-least.false))
    ]

pub returns : goal.returns
unfolding vigemin_answer
returns c =
    let all = passed-all c.requires c.power-mask.ensures c.loop-p.invariant (omega arith) in
    rw (all.0, all.1)
