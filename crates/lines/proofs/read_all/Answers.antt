-- `lines::read_all` meets its contract.
-- Assumes nothing.
use Rattle.std.proofs.Common.{sym, ◌∙◌, eqb-true, length}
use Rattle.std.proofs.lemmas.Bool.{eqb-false}
use Rattle.lines.proofs.Cuts.{uncut-second, uncut-third, cut-more, cut-whole}
use Rattle.lines.proofs.read_all.Goals as goal

pub returns-in_err-key : goal.returns-in_err-key
returns-in_err-key c = rw c.from_residual-in_err-key.ensures (sym (uncut-second c.in_ok-k.ensures c.in_err-key.ensures))

pub returns-in_err-word : goal.returns-in_err-word
returns-in_err-word c = rw c.from_residual-in_err-word.ensures (sym (uncut-third c.in_ok-k.ensures c.in_ok-key.ensures c.in_err-word.ensures))

pub returns-then-is_empty : goal.returns-then-is_empty
returns-then-is_empty c =
    c.read_parts.ensures
    ∙ sym (cut-whole c.in_ok-k.ensures c.in_ok-key.ensures c.in_ok-word.ensures (eqb-true (length c.in_ok-word.end.now) 0 (sym c.if-is_empty.ensures)))

pub returns-else-is_empty : goal.returns-else-is_empty
returns-else-is_empty c =
    sym (cut-more c.in_ok-k.ensures c.in_ok-key.ensures c.in_ok-word.ensures (eqb-false (length c.in_ok-word.end.now) 0 (sym c.if-is_empty.ensures)))
