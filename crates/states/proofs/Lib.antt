-- Laws that several proofs cite, or that stand apart from the places of the code, in the order in which one builds on another.
--
-- Rows          tables that are written row by row
-- Marks         what the marks of a state tell: the next states and the bans
-- Below         the next states and the bans of the states below one, and one state more
-- Determined    the contracts take every input and determine the outcomes
pub mod Rows
pub mod Marks
pub mod Below
pub mod Determined
