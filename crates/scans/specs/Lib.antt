-- What the contracts of `scans` speak of, beside `definitions` and `laws`.
--
-- Answers       what the scans answered, as outcomes
-- Readings      what the private functions ask and give: settings, words that roll, stamps, the ring of a block, a window that was read
pub mod Answers
pub mod Readings
