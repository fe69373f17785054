-- Laws that several proofs cite, in the order in which one builds on another.
--
-- Laws          known states, and what is read out of their tables
-- Rows          a row of ways, and lists that are given up to a place
-- Columns       a column that is counted row by row
-- Sides         antemers and postmers as ways that a column counts
-- Determined    the contracts take every input and determine the outcomes
pub mod Laws
pub mod Rows
pub mod Columns
pub mod Sides
pub mod Determined
