-- `letters::letter` meets its contract: the arithmetic reads each of the four letters right, which is computed.
-- Assumes nothing.
use Rattle.std.proofs.Common.{Bool, Some, None, cond, sym, ap, ◌∙◌}
use Rattle.definitions.specs.Words.{letter_of}
use Rattle.letters.proofs.Codes.{code, code-letter}
use Rattle.letters.proofs.letter.Goals as goal

pub returns-then-is_letter : goal.returns-then-is_letter
returns-then-is_letter c =
    let byte = c.args.byte in
    let test = sym c.is_letter.ensures ∙ c.if-is_letter.true in
    ap Some (ap code c.from.ensures ∙ code-letter byte test) ∙ sym (ap (λ (t : Bool). cond t (Some (letter_of byte)) None) test)
