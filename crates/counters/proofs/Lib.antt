-- Laws that several proofs cite, in the order in which one builds on another.
--
-- Signs         signs by numbers: R(i,j), the sign of a letter against ai, and how many letters Σ1 has
-- Searches      searches that stop at the first place at which a test holds
-- Tests         the tests of document 01's rules at a place, by the numbers of the signs
-- Direct        the first letters of the word tested directly
-- Counts        counts of antemers by shared prefix, as they are summed up
-- Determined    the contracts take every input and determine the outcomes
pub mod Signs
pub mod Searches
pub mod Tests
pub mod Direct
pub mod Counts
pub mod Determined
