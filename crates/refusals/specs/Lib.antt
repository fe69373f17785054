-- What the contracts of `refusals` speak of.
--
-- Numbers       the number of each refusal, and the place beside it
pub mod Numbers
