-- Laws that several proofs cite, in the order in which one builds on another.
--
-- Blocks        minima by blocks, over any values
-- Keys          keyed words, and what a letter brings into one
-- Letters       a sequence that is read: its values, the m-mer that ends in a letter, the position for a window
-- Windows       a window that was read, and the next one
-- Rooms         room that two runs write side by side
-- Writes        two runs that write the entries for their windows
-- Scans         the answer of a scan, for any entries that stand for the positions
-- Determined    the contracts take every input and determine the outcomes
pub mod Blocks
pub mod Keys
pub mod Letters
pub mod Windows
pub mod Rooms
pub mod Writes
pub mod Scans
pub mod Determined
