-- What the contracts of `cards` speak of, beside `definitions` and `laws`.
--
-- Texts         a text among its bytes; what writing its parts asks; when a text is that of an input, or of a refusal
-- Answers       the card as the outcome that `definitions` speaks of
pub mod Texts
pub mod Answers
