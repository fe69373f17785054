-- Codes         the arithmetic that reads a letter
-- Determined    the contracts take every input and determine the outcomes
pub mod Codes
pub mod Determined
