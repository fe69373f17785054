-- The laws that rest on a definition, or on a law, that an edit of must-fail/ changes, in the order in which one builds on another.
--
-- Scans                     the positions of a scan never go back
-- Split                     the size is the sum of antemers times postmers
-- RulesHold                 that document 01's rule holds
-- ByPrefix, Antemers, Postmers   each of document 01's rules, by name
-- RoundTrips                a scan agrees with the vigemin of each window, and the size with the worksheet
pub mod Scans
pub mod Split
pub mod RulesHold
pub mod ByPrefix
pub mod Antemers
pub mod Postmers
pub mod RoundTrips
