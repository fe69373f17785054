-- `cards::Text::list` meets its contract.
-- Assumes nothing.
use Rattle.std.proofs.Common.{List, [], ◌∷◌, ◌++◌, ℕ, map, take, get_or, sym, ap, ◌∙◌, append_assoc, arith}
use Rattle.definitions.specs.Words.{word}
use Rattle.definitions.specs.Cards.{entries}
use Rattle.cards.proofs.Laying.{entries-more}
use Rattle.cards.proofs.Text.list.Goals as goal

pub loop-place-preserved : goal.loop-place-preserved
loop-place-preserved c =
    let k = c.args.k in
    let kmers = c.args.kmers.now in
    let i = c.loop-place.place in
    let line = entries i (word k (get_or kmers i 0) ∷ []) in
    record {
      text = c.entry.ensures.text ∙ ap (λ (l : List ℕ). l ++ line) c.loop-place.invariant.text
          ∙ append_assoc c.args.self.now (entries 0 (map (word k) (take i kmers))) line
          ∙ ap (λ (l : List ℕ). c.args.self.now ++ l) (sym (entries-more k kmers i c.loop-place-test.true));
      grows = omega arith;
    }
