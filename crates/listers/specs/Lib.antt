-- What the contracts of `listers` speak of, beside `definitions` and `laws`.
--
-- Answers       the outcome of listing a whole shelf, and what it answered as such
pub mod Answers
