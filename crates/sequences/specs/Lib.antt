-- What the contracts of `sequences` speak of, beside `definitions`.
--
-- Answers       the outcome of examining a sequence, and what it answered as such
pub mod Answers
