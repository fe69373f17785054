-- What the contracts of `counters` speak of, beside `definitions` and `laws`.
--
-- Settings      a key and a word of m letters, and the tests of document 01's rules at one place
-- Readings      what a setting stands for
-- Answers       what the plain counter answered, as an outcome
pub mod Settings
pub mod Readings
pub mod Answers
