-- Texts that are written part by part, and what writing a part asks.
-- Assumes nothing.
use Rattle.std.specs.Prelude.{ℕ, ◌-◌, ◌^◌, ◌≤◌, ◌<◌, List, ◌++◌, ◌≡◌, length, get_or, drop, replicate}
use Rattle.definitions.specs.Refusals.{refusal}
use Rattle.definitions.specs.Cards.{Asked, ascii, decimal, card_grounds, text_for}
use Rattle.refusals.specs.Numbers.{number_of}
use Rattle.refusals.specs.declared.Refusal.{Refusal}

-- so many of 664 bytes are a text, and zeros lie behind it
pub record IsText (n : ℕ) (bytes : List ℕ) : Type 0 where
  pub inside : n ≤ 664
  pub zeros : drop n bytes ≡ replicate (664 - n) 0

-- a number is that of a word of n letters, of which there are 1 to 31
pub record IsWord (n word : ℕ) : Type 0 where
  pub some : 0 < n
  pub few : n ≤ 31
  pub small : word < 4 ^ n

-- k is at most 31, and key and word are words of m letters
pub record IsAsked (a : Asked) : Type 0 where
  pub k_few : a.k ≤ 31
  pub key : IsWord a.m a.key
  pub word : IsWord a.m a.word

-- some numbers are those of k-mers, of which there are at most 16
pub record AreKmers (k : ℕ) (kmers : List ℕ) : Type 0 where
  pub few : length kmers ≤ 16
  pub each : (i : ℕ) → i < length kmers → IsWord k (get_or kmers i 0)

-- the text of a refusal
abbrev pub refused_text : ℕ → List ℕ
refused_text n = (ascii "refused " ++ decimal n) ++ ascii "\n"

-- an input is not refused, and this is its text
pub record IsShown (s text : List ℕ) : Type 0 where
  pub accepted : refusal (card_grounds s) ≡ 0
  pub text_is : text ≡ text_for s

-- an input is refused
abbrev pub IsRefused : List ℕ → Refusal → Type 0
IsRefused s r = number_of r ≡ refusal (card_grounds s)
