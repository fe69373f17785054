-- `lines::read` meets its contract.
-- Assumes nothing.
use Rattle.std.proofs.Common.{ℕ, Option, Some, None, List, ◌≡◌, sym}
use Rattle.std.specs.Option.{ok_or}
use Rattle.std.proofs.lemmas.Option.{cond_some}
use Rattle.definitions.specs.Cards.{well_formed, asks, parts, read_answer, read_outcome}
use Rattle.refusals.specs.declared.Refusal.{Refusal}
use Rattle.lines.specs.declared.Line.{Line}
use Rattle.lines.specs.Answers.{lined, asked_in, asked_for}
use Rattle.lines.proofs.Parts.{cond-none}
use Rattle.lines.proofs.read.Goals as goal

-- what is asked for is answered, and a malformed line is refused
answered : (s : List ℕ) (o : Option Line) → asked_in o ≡ asked_for s → lined (ok_or o Refusal.Line) ≡ read_outcome s
unfolding read_outcome read_answer
answered s (Some l) e =
    let some = cond_some (well_formed s) (asks (parts s)) _ (sym e) in
    rw (some.0, some.1)
answered s None e = rw (cond-none (well_formed s) (asks (parts s)) (sym e))

pub returns : goal.returns
returns c = rw c.ok_or.ensures.value (answered c.args.input.now c.read_all.result c.read_all.ensures)
