-- What the contracts of `lines` speak of, beside `definitions` and `laws`.
--
-- Answers       what reading a line answered, as the outcome that `definitions` speaks of; the parts of a text; what a byte, a text, three
--               texts and an input spell or ask for
pub mod Answers
