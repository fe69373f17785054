-- `cards::shown` meets its contract.
-- Assumes nothing.
use Rattle.std.proofs.Common.{ℕ, ◌≤◌, List, ◌++◌, map, take, refl, sym, ap, ◌∙◌, length-take-le, arith}
use Rattle.std.proofs.lemmas.Result.{err_from_is_err_and}
use Rattle.definitions.specs.Words.{word}
use Rattle.definitions.specs.Cards.{entries, settings}
use Rattle.lines.specs.Answers.{asked_of}
use Rattle.cards.proofs.Answering.{line-refused, size-refused, is-asked, page-unrefused, page-few, are-kmers, card-shown}
use Rattle.cards.proofs.shown.Goals as goal
use Rattle.cards.proofs.shown.Goals.{In_ok-n}

pub returns-in_err-line : goal.returns-in_err-line
returns-in_err-line c =
    let p = err_from_is_err_and c.from_residual.result c.from_residual.ensures.1 in
    rw (p.1, p.2) (line-refused c.args.input.now c.in_err-line.field-0.0 c.in_err-line.ensures)

pub returns-in_err-size : goal.returns-in_err-size
returns-in_err-size c =
    let p = err_from_is_err_and c.from_residual-in_err-size.result c.from_residual-in_err-size.ensures.1 in
    rw (p.1, p.2) (size-refused c.args.input.now c.in_ok-line.line c.in_ok-line.ensures c.in_err-size.field-0.0 c.in_err-size.ensures)

pub returns-in_err-n : goal.returns-in_err-n
returns-in_err-n c =
    absurd (page-unrefused c.args.input.now c.in_ok-line.line c.in_ok-line.ensures c.in_ok-size.size c.in_ok-size.ensures c.in_err-n.field-0.0 _ c.in_err-n.ensures)

pub head-requires-clause-is_asked : goal.head-requires-clause-is_asked
head-requires-clause-is_asked c = is-asked c.args.input.now c.in_ok-line.line c.in_ok-line.ensures c.in_ok-size.size c.in_ok-size.ensures

-- the first page wrote at most 16 k-mers
few : (c : In_ok-n) → c.in_ok-n.n ≤ 16
few c =
    page-few c.args.input.now c.in_ok-line.line c.in_ok-line.ensures c.in_ok-size.size c.in_ok-size.ensures c.in_ok-n.n _ refl c.in_ok-n.ensures

pub slice_bounds-kmers-end : goal.slice_bounds-kmers-end
slice_bounds-kmers-end c = omega (arith, few (goal.at.slice_bounds-kmers-end c).In_ok-n, c.page.auto.room)

pub slice_bounds-list-end : goal.slice_bounds-list-end
slice_bounds-list-end c =
    sym (length-take-le c.in_ok-n.n c.page.new.room (omega (arith, few (goal.at.slice_bounds-list-end c).In_ok-n, c.page.auto.room)))

pub list-requires-clause-are_kmers : goal.list-requires-clause-are_kmers
list-requires-clause-are_kmers c =
    let most = few (goal.at.list-requires-clause-are_kmers c).In_ok-n in
    are-kmers c.args.input.now c.in_ok-line.line c.in_ok-line.ensures c.in_ok-size.size c.in_ok-size.ensures c.in_ok-n.n _ refl c.in_ok-n.ensures
    (omega (arith, most, length-take-le c.in_ok-n.n c.page.new.room (omega (arith, most, c.page.auto.room))))

pub returns : goal.returns
returns c =
    let l = c.in_ok-line.line in
    let lines = entries 0 (map (word l.k) (take c.in_ok-n.n c.page.new.room)) in
    card-shown c.args.input.now l c.in_ok-line.ensures c.in_ok-size.size c.in_ok-size.ensures c.in_ok-n.n _ refl c.in_ok-n.ensures
    (c.list.ensures ∙ ap (λ (t : List ℕ). t ++ lines) (c.head.ensures.text ∙ ap (λ (t : List ℕ). t ++ settings (asked_of l) c.in_ok-size.size) c.new-text.ensures))
