-- What is proved of the definitions, once. docs/LAWS.md lists the main theorems; here is what each file is about, in the order in
-- which one builds on another. ρ is a ranking of the letters for each place, one-to-one at each; the keyed form goes by such a one. What rests on a
-- definition that an edit of must-fail/ changes stands in proofs/: RulesHold, ByPrefix, Antemers, Postmers, and parts of Scans, Split and RoundTrips.
--
-- Tests, Filters, Places    tests joined; what is chosen from lists and from all words of n + 1 letters; tests at the places below n
-- Numbers                   words and numbers: one-to-one, in order, ⊕ as XOR, the m-mer at a place, letters and bytes
-- Minima, Scans             the leftmost least of any values; windows; the vigemin's position; the positions of a scan
-- Rooms                     room that is written entry by entry, from its start on or behind a place
-- Stamps                    values with their places behind them: the least of two stretches is the lesser of two numbers
-- Rolls                     words that roll, one letter out and one in; the scan by the values of all m-mers
-- Counting, Walks           how many words pass a test; tables by states; the r-th word, the place of a word, the next word
-- Catalogue                 shelves: increasing, no word twice, each k-mer on exactly one; pages in a row
-- Orders                    forms that go letter by letter; the keyed form; the vigemin is w exactly if
-- Split                     the size is the sum of antemers times postmers
-- States, Threads           the states of a word w; reading a word beside w with all m-mers at once
-- Acceptors, Tables, Pages  postmers, antemers and shelf words accepted by states; their tables; walking a shelf
-- Falls, Bans               the next state by the one that a state falls to; the fewest letters left that ban a letter at a state
-- Prefixes                  counts by shared prefix
-- Rules, RulesHold          document 01's R, Σ and T, and that its rule holds
-- ByPrefix, Antemers, Postmers   each of document 01's rules, by name
-- Print                     four errors of the printed rules, each with a computed case
-- Refusals                  the refusal given is met, and the lowest where no number is below one before it
-- Accepted                  what holds of the inputs of an operation exactly if it refuses nothing
-- RoundTrips                packing and unpacking lead back to each other; a scan agrees with the vigemin of each window, and the plain
--                           counter and the size with the worksheet
-- Listings                  pages taken one after the other are the shelf
-- Promises                  when a contract takes every input, what it allows, and when it determines the outcome
-- Cards                     when a line is well formed, and how long it is then; the k-mers that are printed
pub mod Tests
pub mod Filters
pub mod Places
pub mod Numbers
pub mod Minima
pub mod Scans
pub mod Rooms
pub mod Stamps
pub mod Rolls
pub mod Counting
pub mod Walks
pub mod Catalogue
pub mod Orders
pub mod Split
pub mod States
pub mod Threads
pub mod Acceptors
pub mod Tables
pub mod Pages
pub mod Falls
pub mod Bans
pub mod Prefixes
pub mod Rules
pub mod Print
pub mod Refusals
pub mod Accepted
pub mod RoundTrips
pub mod Listings
pub mod Cards
pub mod Promises
