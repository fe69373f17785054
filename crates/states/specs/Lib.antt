-- What the contract of `states` speaks of, beside `definitions` and `laws`.
--
-- Grids         tables of a row for each state and a place in it for each letter
-- Tables        what each table of the states of a word holds
-- Answers       the outcome of preparing, and what it answered as such
pub mod Grids
pub mod Tables
pub mod Answers
