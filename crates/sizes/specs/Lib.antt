-- What the contracts of `sizes` speak of, beside `definitions` and `laws`.
--
-- Answers       what the size answered, as an outcome
pub mod Answers
