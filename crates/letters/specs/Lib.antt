-- What the contracts of `letters` speak of, beside `definitions`.
--
-- Readings      what a byte is read as, and the place of a bad letter in a text
pub mod Readings
