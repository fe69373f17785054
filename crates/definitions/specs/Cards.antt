-- The shelf printer: the line that it reads, and its whole answer (document 01, "The shelf printer"). A text is the list of its bytes.
-- Assumes nothing.
use Rattle.std.specs.Prelude.{ℕ, zero, suc, ◌+◌, ◌-◌, ◌/◌, ◌%◌, Bool, false, cond, not, ◌&&◌, List, [], ◌∷◌, ◌++◌, map, ltb, leb, eqb, length, take, drop, replicate}
use Prim.Native.Char.{code}
use Prim.Native.String.{String, [] as ε, ◌∷◌ as ◌▷◌}
use Rattle.definitions.specs.Lists.{first_place, over}
use Rattle.definitions.specs.Words.{Word, same, number, val, word, spelled, text}
use Rattle.definitions.specs.Vigemins.{Form, keyed}
use Rattle.definitions.specs.Shelves.{size, page}
use Rattle.definitions.specs.Refusals.{Ground, refusal, ◌when◌}
use Rattle.definitions.specs.Outcomes.{pack_grounds, shelf_grounds}

-- the bytes of a text in quotes
abbrev pub ascii : String → List ℕ
ascii ε = []
ascii (c ▷ s) = code c ∷ ascii s

-- ---- the line that is read

-- the byte of a space
abbrev pub space : ℕ
space = 32

-- the byte of a line feed
abbrev pub line_feed : ℕ
line_feed = 10

-- the bytes of a text before the first byte b; all where it has none
abbrev pub before : ℕ → List ℕ → List ℕ
before b s = take (first_place (eqb b) s) s

-- and those behind it; none where it has none
abbrev pub behind : ℕ → List ℕ → List ℕ
behind b s = drop (suc (first_place (eqb b) s)) s

-- three texts: those of k, of the key and of the word
pub record Parts : Type 0 where
  pub k : List ℕ
  pub key : List ℕ
  pub word : List ℕ

-- the parts of a text: up to the first space, up to the next one, and up to a line feed
abbrev pub parts : List ℕ → Parts
parts s =
    let rest = behind space s in
    record { k = before space s; key = before space rest; word = before line_feed (behind space rest) }

-- the line of three texts: single spaces between, one line feed, then the end
abbrev pub line_of : Parts → List ℕ
line_of p = p.k ++ (space ∷ p.key) ++ (space ∷ p.word) ++ (line_feed ∷ [])

-- whether a byte is one of the digits 0 to 9
abbrev pub is_digit : ℕ → Bool
is_digit b = leb 48 b && leb b 57

-- whether a text is one or two decimal digits with no leading zero; a lone 0 is
abbrev pub is_number : List ℕ → Bool
is_number [] = false
is_number (a ∷ []) = is_digit a
is_number (a ∷ b ∷ []) = is_digit a && not (eqb a 48) && is_digit b
is_number (a ∷ b ∷ c ∷ s) = false

-- the number of some decimal digits
abbrev pub number_of : List ℕ → ℕ
number_of s = number 10 (map (λ b. b - 48) s)

-- whether a text is 1 to 31 letters, as packing takes them
abbrev pub is_word : List ℕ → Bool
is_word t = eqb (refusal (pack_grounds t)) 0

-- whether three texts are k, and a key and a word equally long
abbrev pub proper : Parts → Bool
proper p = is_number p.k && is_word p.key && is_word p.word && eqb (length p.key) (length p.word)

-- whether an input is the line of its parts, and these are proper
abbrev pub well_formed : List ℕ → Bool
well_formed s = let p = parts s in same s (line_of p) && proper p

-- 10: the input is malformed
abbrev pub bad_line : List ℕ → Ground
bad_line s = 10 when not (well_formed s)

-- what is asked for: k, m, and the numbers of the key and the word
pub record Asked : Type 0 where
  pub k : ℕ
  pub m : ℕ
  pub key : ℕ
  pub word : ℕ

-- what three texts ask for
abbrev pub asks : Parts → Asked
asks p = record { k = number_of p.k; m = length p.key; key = val (spelled p.key); word = val (spelled p.word) }

-- what a malformed line asks for
abbrev pub nothing : Asked
nothing = record { k = 0; m = 0; key = 0; word = 0 }

-- ---- read(input)

-- what reading a line answers: the refusal, and what the line asks for
pub record Line : Type 0 where
  pub refusal : ℕ
  pub asked : Asked

-- its answer under a number of refusal
unfoldable pub read_answer : ℕ → Asked → Line
read_answer zero a = record { refusal = 0; asked = a }
read_answer (suc r) a = record { refusal = suc r; asked = nothing }

-- the outcome of read(input)
unfoldable pub read_outcome : List ℕ → Line
unfolding read_answer
read_outcome s = read_answer (refusal (bad_line s ∷ [])) (asks (parts s))

-- ---- the text that is written

-- the decimal digits of a number below 10^n, with no zero in front: those of its tenth part, if it has any, and the last one
abbrev pub decimal_in : ℕ → ℕ → List ℕ
decimal_in zero x = []
decimal_in (suc n) x = cond (ltb x 10) [] (decimal_in n (x / 10)) ++ ((48 + x % 10) ∷ [])

-- a number of 64 bits in decimal, which has at most 20 digits
unfoldable pub decimal : ℕ → List ℕ
decimal x = decimal_in 20 x

-- the line of the settings and the size; key and word are those of m letters that have these numbers
abbrev pub settings : Asked → ℕ → List ℕ
settings a n =
    ascii "k=" ++ decimal a.k ++ ascii " key=" ++ text (word a.m a.key) ++ ascii " word=" ++ text (word a.m a.word)
    ++ ascii " size=" ++ decimal n ++ ascii "\n"

-- a line for each of some k-mers, the first of which has place p
abbrev pub entries : ℕ → List Word → List ℕ
entries p [] = []
entries p (x ∷ xs) = decimal p ++ ascii " " ++ text x ++ ascii "\n" ++ entries (suc p) xs

-- the printed text under a number of refusal: the settings and the size, then the first 16 k-mers or all; or the refusal's line
unfoldable pub card_text : ℕ → Form → Asked → List ℕ
card_text zero f a =
    let w = word a.m a.word in
    settings a (size f a.k w) ++ entries 0 (page f a.k w 0 16)
card_text (suc r) f a = ascii "refused " ++ decimal (suc r) ++ ascii "\n"

-- ---- card(input)

-- what the card answers: the refusal, the length of the text, and 664 bytes with the text at their front and zeros behind it. 104 bytes take the
-- settings and 35 each of 16 k-mers: no text is longer
pub record Printed : Type 0 where
  pub refusal : ℕ
  pub length : ℕ
  pub text : List ℕ

-- the printer tests 10 first, and then what a shelf tests, 1 to 4
abbrev pub card_grounds : List ℕ → List Ground
card_grounds s = let a = asks (parts s) in bad_line s ∷ shelf_grounds a.k a.m a.key a.word

-- the card that has a text
abbrev pub printed_text : ℕ → List ℕ → Printed
printed_text r t = record { refusal = r; length = length t; text = over t (replicate 664 0) }

-- the text that is printed for an input
abbrev pub text_for : List ℕ → List ℕ
text_for s = let a = asks (parts s) in card_text (refusal (card_grounds s)) (keyed (word a.m a.key)) a

-- the outcome of card(input)
unfoldable pub card_outcome : List ℕ → Printed
unfolding card_text
card_outcome s = printed_text (refusal (card_grounds s)) (text_for s)
