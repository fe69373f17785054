-- What the contracts of `words` speak of, beside `definitions` and `laws`.
--
-- Answers       what packing and unpacking answered, as outcomes
pub mod Answers
