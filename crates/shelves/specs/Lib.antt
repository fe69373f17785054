-- What the contracts of `shelves` speak of, beside `definitions`, `laws`, `refusals`, `powers` and `states`.
--
-- Answers       what a page answered, as an outcome
-- Descents      what the private functions ask and give: the tables of moves and ways, and the k-mers under a beginning
-- Going         the same, of an acceptor and of a descent
pub mod Answers
pub mod Descents
pub mod Going
