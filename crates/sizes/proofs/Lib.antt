-- Determined    the contract takes every input and determines the outcome
pub mod Determined
