-- Laws that several proofs cite.
--
-- Ways          the table of moves and the table of ways, row by row
-- Shelf         the tables' acceptor accepts just the k-mers of the shelf
-- Listing       the k-mers under a beginning, by their next letter, and room into which they are written
-- Determined    the contracts take every input and determine the outcomes
pub mod Ways
pub mod Shelf
pub mod Listing
pub mod Determined
