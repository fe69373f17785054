-- Laws that several proofs cite.
--
-- Cuts          the parts of an input, and when these are a line
-- Parts         what the parts of a line spell
-- Numerals      the number that one or two digits spell
-- Determined    the contracts take every input and determine the outcomes
pub mod Cuts
pub mod Parts
pub mod Numerals
pub mod Determined
