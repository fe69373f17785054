-- `states::special_alphabets` meets its contract.
-- Assumes nothing.
use Rattle.std.proofs.Common.{ℕ, suc, ◌+◌, ◌-◌, ◌*◌, ◌≤◌, ◌<◌, List, [], ◌∷◌, map, ◌≡◌, ap, ◌∙◌, Ordering, Greater, add-one, arith, lt-ltb, le-ltb, bit_xor, length, get_or}
use mathlib.Core.Path.{fun_ext}
use lib.ListN.{set, get_or-eq_default}
use lib.Seq.{sets}
use Rattle.definitions.specs.Lists.{tabulate}
use Rattle.definitions.specs.Words.{Word, letters, word as word_of}
use Rattle.laws.specs.Numbers.{four-pos, length_digits, digits-below, letter-cut}
use Rattle.laws.specs.Orders.{Ranking, key_ranking, keyed-one-to-one}
use Rattle.states.specs.Grids.{grid}
use Rattle.states.specs.Tables.{mark_of, own_of, mark_at}
use Rattle.states.proofs.Rows.{written_all, write-entry, write-row}
use Rattle.states.proofs.special_alphabets.Invariants.{Marked}
use Rattle.states.proofs.special_alphabets.Goals as goal

module _ {ρ : Ranking} {w : Word} {p : ℕ} {own : List ℕ} {marks : List Ordering} (d : Marked ρ w p own marks) where
  -- one row more
  marked_more : p < 32 → {letter : ℕ} {row marks' : List Ordering} → get_or w p 0 ≡ letter → row ≡ map (mark_at ρ w p) letters → marks' ≡ sets marks (4 * p) row
      → Marked ρ w (suc p) (set own p letter) marks'
  marked_more h e q s = record {
    owns = rw (← e, d.owns) (write-entry 0 (λ q. get_or w q 0) 32 p h);
    ranks = s ∙ write-row (λ b. Greater) (mark_at ρ w) p h d.ranks q;
  }

  -- with all letters read, the table of w's letters is whole
  owns-all : length w ≤ p → own ≡ own_of w
  owns-all h = d.owns ∙ ap (λ (f : ℕ → ℕ). tabulate f 32) (written_all 0 (λ q. get_or w q 0) p (λ q k. get_or-eq_default w 0 (omega arith)))

  -- and so is that of the marks
  ranks-all : length w ≤ p → marks ≡ grid (mark_at ρ w)
  ranks-all h = d.ranks ∙ ap grid (written_all (λ b. Greater) (mark_at ρ w) p (λ q k. fun_ext (λ b. rw (le-ltb q (length w) (omega arith)))))

-- the marks at a place, by the two letters that stand there
marks-at : (m key x p : ℕ) → p < m → {letter key_letter : ℕ} {a c g t : Ordering} → get_or (word_of m x) p 0 ≡ letter → get_or (word_of m key) p 0 ≡ key_letter
    → a ≡ mark_of (bit_xor 0 key_letter) (bit_xor letter key_letter) → c ≡ mark_of (bit_xor 1 key_letter) (bit_xor letter key_letter)
    → g ≡ mark_of (bit_xor 2 key_letter) (bit_xor letter key_letter) → t ≡ mark_of (bit_xor 3 key_letter) (bit_xor letter key_letter)
    → a ∷ c ∷ g ∷ t ∷ [] ≡ map (mark_at (key_ranking (word_of m key)) (word_of m x) p) letters
marks-at m key x p h e q ea ec eg et = rw (ea, ec, eg, et, lt-ltb p (length (word_of m x)) (rw length_digits h), e, q)

pub loop-p-preserved : goal.loop-p-preserved
loop-p-preserved c =
    let at = c.loop-p in
    let m = c.args.m in
    let whole : suc (at.p + (m - 1 - at.p)) ≡ m = omega arith in
    let row = marks-at m c.args.key c.args.word at.p c.loop-p-test.true (letter-cut m c.args.word at.p (m - 1 - at.p) whole)
    (letter-cut m c.args.key at.p (m - 1 - at.p) whole) c.sign.ensures c.sign-in-loop-p.ensures c.sign-in-loop-p-2.ensures
    c.sign-in-loop-p-3.ensures in
    (rw add-one (marked_more at.invariant.0 (omega arith) (letter-cut m c.args.word at.p (m - 1 - at.p) whole) row c.put.ensures), at.invariant.1)

pub returns : goal.returns
returns c =
    let at = c.loop-p in
    let m = c.args.m in
    let end : length (word_of m c.args.word) ≤ at.p = rw length_digits (omega arith) in (
      record {
        word =
            record {
              letters = digits-below four-pos m c.args.word;
              long = length_digits 4 m c.args.word;
              some = c.requires.0;
              few = c.requires.1;
              owns = owns-all at.invariant.0 end;
            };
        one = keyed-one-to-one (word_of m c.args.key) (digits-below four-pos m c.args.key);
        ranks = ranks-all at.invariant.0 end;
      },
      at.invariant.1,
    )
