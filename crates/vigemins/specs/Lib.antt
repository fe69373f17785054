-- What the contracts of `vigemins` speak of, beside `definitions` and `laws`.
--
-- Answers       what the vigemin answered, as an outcome
pub mod Answers
