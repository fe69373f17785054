-- What a setting stands for: the ranking by its key, its word, and which words are antemers of these.
-- Assumes nothing.
use Rattle.std.specs.Prelude.{Bool}
use Rattle.definitions.specs.Words.{Word, word as word_of}
use Rattle.definitions.specs.Vigemins.{keyed}
use Rattle.definitions.specs.Shelves.{antemer}
use Rattle.laws.specs.Orders.{Ranking, key_ranking}
use Rattle.counters.specs.declared.Setting.{Setting}

-- the letters of the key
abbrev pub key_word : Setting → Word
key_word s = word_of s.m s.key

-- the ranking of letters by the key
abbrev pub ranking : Setting → Ranking
ranking s = key_ranking (key_word s)

-- the letters of the word
abbrev pub own_word : Setting → Word
own_word s = word_of s.m s.word

-- whether a word is an antemer
abbrev pub is_antemer : Setting → Word → Bool
is_antemer s = antemer (keyed (key_word s)) (own_word s)
