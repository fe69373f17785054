-- `lines::read_parts` meets its contract.
-- Assumes nothing.
use Rattle.std.proofs.Common.{sym, ◌∙◌}
use Rattle.std.proofs.lemmas.Option.{cond_some}
use Rattle.lines.proofs.Parts.{cond-none, some-asked, text-word}
use Rattle.lines.proofs.read_parts.Goals as goal

pub returns-in_err-ok : goal.returns-in_err-ok
returns-in_err-ok c =
    let k = cond_some _ _ _ (sym c.number.ensures ∙ c.in_ok-number.was) in
    let key = cond-none _ _ (sym (text-word _ _ c.pack.ensures) ∙ sym c.ok.ensures.value ∙ c.in_err-ok.was) in
    rw (c.from_residual-in_err-ok.ensures, k.0, key)

pub returns-in_err-ok-2 : goal.returns-in_err-ok-2
returns-in_err-ok-2 c =
    let k = cond_some _ _ _ (sym c.number.ensures ∙ c.in_ok-number.was) in
    let key = cond_some _ _ _ (sym (text-word _ _ c.pack.ensures) ∙ sym c.ok.ensures.value ∙ c.in_ok-ok.was) in
    let word = cond-none _ _ (sym (text-word _ _ c.pack-2.ensures) ∙ sym c.ok-2.ensures.value ∙ c.in_err-ok-2.was) in
    rw (c.from_residual-in_err-ok-2.ensures, k.0, key.0, word)

pub returns : goal.returns
returns c =
    let k = cond_some _ _ _ (sym c.number.ensures ∙ c.in_ok-number.was) in
    let key = cond_some _ _ _ (sym (text-word _ _ c.pack.ensures) ∙ sym c.ok.ensures.value ∙ c.in_ok-ok.was) in
    let word = cond_some _ _ _ (sym (text-word _ _ c.pack-2.ensures) ∙ sym c.ok-2.ensures.value ∙ c.in_ok-ok-2.was) in
    rw (c.then_some.ensures, k.0, key.0, word.0, k.1, key.1, word.1) (some-asked _ _)
