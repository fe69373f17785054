-- What the house catalogues. Each notion that an outcome speaks of is defined here once; read the files in this order. The rules that
-- link the counts are in the crate `laws`.
--
-- Lists         put, filter, all, first_place, tabulate, over, total
--   of the kit      length, take, drop, map; replicate n a is n times a; get_or l i d is entry i of l, or d beyond its end;
--                   cond t a b is a where t holds, else b; ltb, leb and eqb test <, ≤ and =; a - b is 0 where b is the larger
--   for the checker abbrev, unfoldable and unfolding only say what it may compute; "Assumes nothing" says that there is no axiom
-- Words         letters A, C, G, T are 0, 1, 2, 3; a word is the list of its letters
--   words n         all words of n letters, in alphabet order
--   Mer k x         x is a k-mer: k letters, each one of the four
--   val, word n     a word's number in base four, first letter highest; the word of n letters that has a number
--   bytes n         a number as n bytes, high first
--   sum, ⊕          the XOR of two letters; of two words, letter by letter
--   letter_of       the letter that a byte is read as; is_letter_byte, whether it is one
--   spelled, text   the word that a text spells; a word's text, in capitals
-- Vigemins      the m-mer v of a k-mer with the least v⊕key, the leftmost of equals
--   Form, keyed     what a word is turned into before words are compared; under a key, v⊕key
--   below, above    v against w, both keyed
--   windows n       the parts of n letters of a word, from left to right; with n = m, its m-mers
--   vigemin         of a k-mer the word, and vigemin_at its position, from 0
--   scan            for each window of k letters of a sequence, the position of its vigemin in the whole sequence
-- Shelves       all k-mers with one vigemin
--   shelf, size     the shelf of w in increasing order, and how many k-mers it holds
--   page            from a start, at most so many k-mers of the shelf
--   antemer         y: each m-mer of y followed by w, except the last, is strictly above w once keyed
--   postmer         z: no m-mer of z is below w once keyed
--   antemers a      the number of antemers of length a
--   postmers a      the number of postmers of length m + a that begin with w
--   column          31 rows of a worksheet; those above k − m hold 0
-- Refusals      each ground of refusal with its number, once; refusal, the number of the first of a list that is met
-- Outcomes      of each operation, from all its inputs to its answer and the last contents of its room: pack_outcome, unpack_outcome,
--               vigemin_outcome, size_outcome, worksheet_outcome, counter_outcome, page_outcome, scan_outcome, scan_bytes_outcome,
--               foreign_size_outcome, foreign_scan_outcome
-- Cards         the shelf printer: the line that it reads, and the text that it prints
--   parts, line_of  the three texts of an input, cut at spaces and a line feed; the line of three texts
--   well_formed     the input is the line of its parts: k, and a key and a word equally long
--   asks            what a line asks for: k, m, and the numbers of the key and the word
--   decimal         a number's digits; settings and entries, the lines that are printed
--   read_outcome, card_outcome
-- Cases         W1 to W12 of document 01, proved under one claim; then cases of what these do not ask
--   printed_row     Lemma 8 of source 000 as printed, for W3
pub mod Lists
pub mod Words
pub mod Vigemins
pub mod Shelves
pub mod Refusals
pub mod Outcomes
pub mod Cards
pub mod Cases
