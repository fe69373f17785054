-- The three demands on the operations, stated of their contracts and proved from them, and that every contract takes every input and determines the outcome. A
-- contract is cited as it stands in the source, never copied: what is said here holds of whatever it allows, and so of what the function answers. Read the
-- files in this order; whoever wants the claims alone reads the lines with `pub`, the lines `module _` above them, whose facts they take, and the
-- comments.
--
-- Promises      what each operation may answer and leave in its room: its contract, at plain arguments
-- Meanings      a vigemin, an antemer, a postmer and a number of words, in document 01's sentences, beside the definitions that compute them
-- First         demand 1: the lists of refusals; the number given is the first met and the lowest; what stands beside it; room as it was, and
--                   beyond what is written
--                   pack-refuses, unpack-refuses, vigemin-refuses, size-refuses, worksheet-refuses, counter-refuses, page-refuses, list-refuses,
--                   scan-refuses, scan-bytes-refuses, examine-refuses, prepare-refuses, read-refuses, card-refuses, foreign-size-refuses,
--                   foreign-scan-refuses, foreign-size-told, foreign-scan-told; unpack-spare, page-spare, list-spare
-- Second        demand 2: sizes, worksheets, the plain counter, the vigemin and the scan are what the notions say
--                   size-right, worksheet-right, size-worksheet, counter-right, counter-worksheet, vigemin-right, scan-right, scan-bytes-right,
--                   foreign-size-right, foreign-scan-right; pack-right, unpack-right; W3 as a case, size-case
-- Third         demand 3: pages in a row hold the shelf, and every k-mer stands on exactly one shelf of a key
--                   pages-accepted, pages-end, pages-enough, pages-right, exactly-one-shelf, through-shelf, one-shelf; page-right, list_right
--                   Of these and of demands 1 and 2, what rests on the meaning of the vigemin or on the list of a scan stands in proofs/, in the file of that
--                   name: vigemin-one; foreign-scan-told; size-means, size-right, foreign-size-right, vigemin-right; shelf-means, pages-right, one-shelf,
--                   list_right, exactly-one-shelf
-- Determined    for every public function: its contract asks nothing, and any two outcomes that it allows are equal
--                   every-input, every-contract
pub mod Promises
pub mod Meanings
pub mod First
pub mod Second
pub mod Third
pub mod Determined
