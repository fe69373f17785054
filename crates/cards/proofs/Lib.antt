-- Laws that several proofs cite.
--
-- Digits        decimal digits
-- Laid          texts that are laid in a lent room
-- Laying        texts that are written one after the other
-- Answering     the answer to an input, from its line, the size and the first page
-- Determined    the contracts take every input and determine the outcomes
pub mod Digits
pub mod Laid
pub mod Laying
pub mod Answering
pub mod Determined
