-- Determined    the contracts of the exports take every input and determine the outcomes
pub mod Determined
