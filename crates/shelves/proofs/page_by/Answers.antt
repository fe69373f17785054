-- `shelves::page_by` meets its contract: the table of ways holds the size, and what is listed under the empty beginning is the page.
-- Assumes nothing.
use Rattle.std.proofs.Common.{arith}
use Rattle.powers.specs.Powers.{powers-are}
use Rattle.shelves.proofs.Shelf.{nexts-small, tables, size-read, complete, reached, page-refused, page-none, page-listed}
use Rattle.shelves.proofs.page_by.Goals as goal

pub moves_of-requires : goal.moves_of-requires
moves_of-requires c = nexts-small c.requires.known.2

pub invariant_of-acceptor : goal.invariant_of-acceptor
invariant_of-acceptor c = record { tables = tables c.requires.known.2 c.moves_of.ensures }

pub returns-then-size-start : goal.returns-then-size-start
returns-then-size-start c ρ w s =
    let sized = size-read s c.moves_of.ensures c.requires.in_range.1 c.ways_table.ensures in
    page-refused ρ w c.args.k c.args.start (omega (arith, sized))

pub returns-then-size-start-2 : goal.returns-then-size-start-2
returns-then-size-start-2 c ρ w s =
    let sized = size-read s c.moves_of.ensures c.requires.in_range.1 c.ways_table.ensures in
    page-none ρ w c.args.k c.args.start (omega (arith, sized))

pub invariant_of-descent : goal.invariant_of-descent
invariant_of-descent c =
    record { complete = complete c.requires.known.2 c.moves_of.ensures c.requires.in_range.1 c.ways_table.ensures (powers-are c.powers-powers.ensures) }

pub fill-written-requires : goal.fill-written-requires
fill-written-requires c =
    let s = c.requires.known.2 in
    let moves = c.moves_of.ensures in
    reached s moves c.requires.in_range.1 c.ways_table.ensures (omega (arith, size-read s moves c.requires.in_range.1 c.ways_table.ensures))

pub returns : goal.returns
returns c ρ w s =
    let moves = c.moves_of.ensures in
    let sized = size-read s moves c.requires.in_range.1 c.ways_table.ensures in
    page-listed s moves c.requires.in_range.1 c.fill-written.ensures (omega (arith, sized))
