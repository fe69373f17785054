-- Laws that several proofs cite.
--
-- Determined    the contracts take every input and determine the outcomes
pub mod Determined
