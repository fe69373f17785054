-- What the contracts of `worksheets` speak of, beside `definitions`, `laws` and `states`.
--
-- Columns       what the private functions ask and give: ends, rows of ways, columns, sheets
-- Sources       what holds of every ranking and word that the states belong to
-- Answers       what the worksheet answered, as an outcome
pub mod Columns
pub mod Sources
pub mod Answers
