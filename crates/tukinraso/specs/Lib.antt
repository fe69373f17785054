-- What the contracts of the foreign forms speak of, beside `definitions`.
--
-- Answers       what the foreign forms answered: one number, and of the scan an outcome
pub mod Answers
