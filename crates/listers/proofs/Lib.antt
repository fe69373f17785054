-- Laws that several proofs cite.
--
-- Rows          pages that are written one after the other into one room
-- Determined    the contracts take every input and determine the outcomes
pub mod Rows
pub mod Determined
