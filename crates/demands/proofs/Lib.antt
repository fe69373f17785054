-- The theorems that rest on the meaning of the vigemin, or on the list of what a scan tests. Their notions are in specs/, in the file of the same name.
--
-- Meanings      vigemin-one
-- First         demand 1: foreign-scan-told
-- Second        demand 2: size-means, size-right, foreign-size-right, vigemin-right
-- Third         demand 3: shelf-means, pages-right, one-shelf, list_right, exactly-one-shelf
pub mod Meanings
pub mod First
pub mod Second
pub mod Third
