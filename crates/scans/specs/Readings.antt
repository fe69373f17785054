-- What a scan has read: the ring of stamps, and the least of each window by the suffixes of one block and the running least of the next.
-- Assumes nothing.
use Rattle.std.specs.Prelude.{ℕ, suc, ◌+◌, ◌-◌, ◌*◌, ◌%◌, ◌^◌, ◌≤◌, ◌<◌, true, List, ◌≡◌, length, get_or, take, drop}
use Rattle.std.specs.Int.Bits.{bit_and, bit_xor}
use Rattle.definitions.specs.Lists.{all}
use Rattle.definitions.specs.Words.{capitals, letter_of, is_letter_byte, spelled, word as word_of}
use Rattle.definitions.specs.Vigemins.{keyed, scan}
use Rattle.laws.specs.Rolls.{rolled, values}
use Rattle.laws.specs.Stamps.{lowest, least_from}
use Rattle.scans.specs.declared.Settings.{Settings}
use Rattle.scans.specs.declared.Run.{Run}
use Rattle.scans.specs.declared.Runs.{Runs}

-- the largest number of 64 bits
abbrev pub top : ℕ
top = 18446744073709551615

-- a ring of 32 entries, of which the first ones, below the top, are read
pub record Entries (width : ℕ) (ring : List ℕ) : Type 0 where
  pub some : 0 < width
  pub few : width ≤ 31
  pub full : length ring ≡ 32
  pub below : (q : ℕ) → q < width → get_or ring q 0 ≤ top

-- the first entries of a ring as the least of those from their place on, and the others as they were
pub record Suffixes (width : ℕ) (old new : List ℕ) : Type 0 where
  pub full : length new ≡ 32
  pub least : (q : ℕ) → q < width → get_or new q 0 ≡ lowest top (take (width - q) (drop q old))
  pub others : (q : ℕ) → width ≤ q → get_or new q 0 ≡ get_or old q 0

-- settings that serve a scan
pub record Prepared (s : Settings) : Type 0 where
  pub m_some : 0 < s.m
  pub wide : 0 < s.width
  pub k_is : s.width + s.m ≡ suc s.k
  pub k_few : s.k ≤ 31
  pub key_small : s.key < 4 ^ s.m
  pub stamps_fit : 4 ^ s.m * s.side ≡ suc top
  pub places_fit : s.width + s.width ≤ s.side
  pub side_few : s.side ≤ 4 ^ 31
  pub places_are : (n : ℕ) → bit_and n (s.side - 1) ≡ n % s.side
  pub high_is : s.high ≡ s.key * s.side
  pub scales : (a b : ℕ) → bit_xor (a * s.side) (b * s.side) ≡ bit_xor a b * s.side

-- the settings of a scan by some k, m and key
pub record SetTo (k m key : ℕ) (s : Settings) : Type 0 where
  pub prepared : Prepared s
  pub k_is : s.k ≡ k
  pub m_is : s.m ≡ m
  pub key_is : s.key ≡ key

-- the word of some m letters as it is kept: its sum with the key, times the side
abbrev pub keyed_word : Settings → ℕ → ℕ
keyed_word s v = bit_xor v s.key * s.side

-- what a letter brings into a kept word, once that is shifted: its own sum with the key, and what undoes the shifted key
abbrev pub brings : Settings → ℕ → ℕ
brings s letter = bit_xor (bit_xor (letter * s.side) s.high) (s.high * 4 % suc top)

-- for the byte of each letter what it brings
pub record Tabled (s : Settings) (table : List ℕ) : Type 0 where
  pub prepared : Prepared s
  pub full : length table ≡ 85
  pub entries : (a : ℕ) → a < 4 → get_or table (get_or capitals a 0) 0 ≡ brings s a

-- the word of some m letters after one goes out and a byte's comes in
abbrev pub roll_on : Settings → ℕ → ℕ → ℕ
roll_on s v byte = (v * 4 + letter_of byte) % 4 ^ s.m

-- a word rolled on by a byte, whatever its letters
abbrev pub Rolled : Settings → ℕ → ℕ → ℕ → Type 0
Rolled s word byte r = (v : ℕ) → word ≡ keyed_word s v → r ≡ keyed_word s (roll_on s v byte)

-- a sequence that a scan reads: k to 65,536 letters
pub record Readable (s : Settings) (seq : List ℕ) : Type 0 where
  pub prepared : Prepared s
  pub all_letters : all is_letter_byte seq ≡ true
  pub short : length seq ≤ 65536
  pub long : s.k ≤ length seq

-- the scan of a sequence by some settings
abbrev pub positions_of : Settings → List ℕ → List ℕ
positions_of s seq = scan (keyed (word_of s.m s.key)) s.k s.m (spelled seq)

-- a ring without stamps, with the top at its end
pub record Fresh (width : ℕ) (ring : List ℕ) : Type 0 where
  pub full : length ring ≡ 32
  pub end : get_or ring width 0 ≡ top

-- a ring with the stamps of the first n of the values from a place on, and the top at its end
pub record Filled (side width : ℕ) (vs : List ℕ) (block n : ℕ) (ring : List ℕ) : Type 0 where
  pub full : length ring ≡ 32
  pub stamps : (q : ℕ) → q < n → get_or ring q 0 ≡ get_or vs (block + q) 0 * side + q
  pub end : get_or ring width 0 ≡ top

-- of the values after a block, so many were read: the running least of these; and in the ring their stamps, and behind them what is left of the
-- least stamps from each place of the block on
pub record Minima (side width : ℕ) (vs : List ℕ) (block at run : ℕ) (ring : List ℕ) : Type 0 where
  pub full : length ring ≡ 32
  pub within : at ≤ width
  pub read : block + width + at ≤ length vs
  pub runs : run ≡ least_from top side vs width (block + width) at
  pub stamps : (q : ℕ) → q < at → get_or ring q 0 ≡ get_or vs (block + width + q) 0 * side + q
  pub left : (q : ℕ) → at ≤ q → q ≤ width → get_or ring q 0 ≡ least_from top side vs q (block + q) (width - q)

-- of the window at a place so many m-mers were read: the word of the letters read from there on, and the stamps in the ring
pub record Begun (s : Settings) (seq : List ℕ) (from word at : ℕ) (ring : List ℕ) : Type 0 where
  pub within : at ≤ s.width
  pub rolls : word ≡ keyed_word s (rolled s.m (drop from (spelled seq)) (s.m - 1 + at))
  pub filled : Filled s.side s.width (values s.m s.key (spelled seq)) from at ring

-- a window was read, of which the first m-mer is so far behind the start of a block: the word is that of the letters read last
pub record Read (s : Settings) (seq : List ℕ) (block at : ℕ) (r : Run) (ring : List ℕ) : Type 0 where
  pub minima : Minima s.side s.width (values s.m s.key (spelled seq)) block at r.least ring
  pub word : r.word ≡ keyed_word s (rolled s.m (spelled seq) (block + at + s.k))

-- a window was read whose last letter stands before a place
pub record ReadTo (s : Settings) (seq : List ℕ) (place at : ℕ) (r : Run) (ring : List ℕ) : Type 0 where
  pub block : ℕ
  pub there : block + at + s.k ≡ place
  pub read : Read s seq block at r ring

-- a window of each run was read
pub record ReadBoth (s : Settings) (seq : List ℕ) (r : Runs) (left right : List ℕ) : Type 0 where
  pub one : Read s seq r.block r.at r.left left
  pub other : Read s seq (r.block + r.from) r.at r.right right

-- a sequence with some windows, and room of some length that has so many entries for each
pub record Writable (s : Settings) (seq : List ℕ) (windows each room : ℕ) : Type 0 where
  pub readable : Readable s seq
  pub some : 0 < windows
  pub all : windows + s.k ≡ suc (length seq)
  pub fits : each * windows ≤ room
