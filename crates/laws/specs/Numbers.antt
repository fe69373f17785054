-- Letters, words and numbers: digits and their number, the sum of letters and words, and letters as bytes.
-- Assumes nothing.
use Rattle.std.specs.Prelude.{ℕ, zero, suc, ◌+◌, ◌-◌, ◌*◌, ◌/◌, ◌%◌, ◌^◌, ◌≤◌, ◌<◌, Bool, true, false, not, ◌&&◌, ◌||◌, List, [], ◌∷◌, ◌++◌, map, ◌≡◌, refl, ltb, leb, eqb, length, take, drop, get_or}
use Rattle.std.proofs.Common.{zero-le, sym, ap, ap₂, ◌∙◌, zero-lt-suc, le_of_suc-le-suc, not-suc-le-zero, mod-lt, mod-eq_of_lt, zero-mul, zero-add, suc-ne-zero, sub-add_cancel, mul-suc, pow-suc, add-zero, lt_of_le_of_lt, add-mul, mul_assoc, add_assoc, add-suc, suc-mul, mul-le-mul_right, le_of_lt, arith, ltb-true, ltb-false, lt-ltb, le-ltb, eqb-true, pow-add, length-append}
use Rattle.std.proofs.Math.Nat.{pow-zero, pow-succ', mod-one, one-le-pow, suc_inj, sub-zero, zero-sub, suc-sub-suc, sub_right_comm, div-div-eq-div-mul}
use Rattle.std.proofs.lemmas.Bool.{eqb-false}
use Rattle.std.proofs.Math.Arith.{digits_lt, digits_mod, digits_div, mod-mul}
use Rattle.std.specs.Int.Bits.{bit_xor, bit_and, xor_zero_r}
use Rattle.std.proofs.lemmas.Nat.{and_mask, xor_lt, xor_block}
use Rattle.std.proofs.Math.Dec.{leb-suc-suc}
use Rattle.std.proofs.lemmas.List.{length-map}
use Rattle.definitions.specs.Lists.{all, tabulate}
use Rattle.definitions.specs.Words.{Word, letters, Digits, Letters, number, digits, val, word, sum, ◌⊕◌, capitals, letter_of, is_letter_byte, spelled, text}
use Rattle.definitions.specs.Vigemins.{keyed, value, below}
use Rattle.definitions.specs.Refusals.{first_bad_place}
use Rattle.laws.specs.Filters.{all-at, length-tabulate, tabulate-at}
use Rattle.laws.specs.Places.{first_place-holds, first_place-le, first_place-all}
use Rattle.laws.specs.Tests.{and_l, and_r, and_i, leb-cong}

-- ---- digits and their number

-- the base of words is above 0
pub four-pos : 0 < 4
four-pos = zero-lt-suc 3

-- the number of some digits is below the base to their count
pub number_lt : (b : ℕ) (l : List ℕ) → Digits b l → number b l < b ^ length l
number_lt b [] h = rw pow-zero (zero-lt-suc 0)
number_lt b (d ∷ l) h = rw pow-succ' (digits_lt h.0 (number_lt b l h.1))

-- the last n digits of a number are n digits
pub length_digits : (b n x : ℕ) → length (digits b n x) ≡ n
length_digits b zero x = refl
length_digits b (suc n) x = ap suc (length_digits b n x)

-- the digits of a number are below the base
pub digits-below : {b : ℕ} → 0 < b → (n x : ℕ) → Digits b (digits b n x)
digits-below pos zero x = tt
digits-below {b} pos (suc n) x = (mod-lt (x / b ^ n) pos, digits-below pos n x)

-- the number of the last n digits is the number modulo b^n
pub number_digits : {b : ℕ} → 0 < b → (n x : ℕ) → number b (digits b n x) ≡ x % b ^ n
number_digits {b} pos zero x = rw (pow-zero, mod-one)
number_digits {b} pos (suc n) x =
    ap₂ (λ (k r : ℕ). x / b ^ n % b * b ^ k + r) (length_digits b n x) (number_digits pos n x) ∙ rw pow-succ' (sym (mod-mul x pos (one-le-pow n b pos)))

-- a number below b^n is that of its last n digits
pub number-digits-lt : {b : ℕ} → 0 < b → (n x : ℕ) → x < b ^ n → number b (digits b n x) ≡ x
number-digits-lt pos n x h = number_digits pos n x ∙ mod-eq_of_lt h

-- the digit at a place with j digits behind it
pub digits-at : (b n x i j : ℕ) → suc (i + j) ≡ n → get_or (digits b n x) i 0 ≡ x / b ^ j % b
digits-at b zero x i j e = absurd (omega arith)
digits-at b (suc n) x zero j e = let q : j ≡ n = omega arith in rw q
digits-at b (suc n) x (suc i) j e = digits-at b n x i j (omega arith)

-- equally many digits with one number are the same digits
pub number-inj : (b : ℕ) (u v : List ℕ) → Digits b u → Digits b v → length u ≡ length v → number b u ≡ number b v → u ≡ v
number-inj b [] [] hu hv e q = refl
number-inj b [] (c ∷ v) hu hv e q = absurd (suc-ne-zero (length v) (sym e))
number-inj b (a ∷ u) [] hu hv e q = absurd (suc-ne-zero (length u) e)
number-inj b (a ∷ u) (c ∷ v) hu hv e q =
    ap₂ (λ (x : ℕ) (y : List ℕ). x ∷ y)
    (sym (digits_div a hr) ∙ ap (λ (x : ℕ). x / m) qm ∙ digits_div c hs)
    (number-inj b u v hu.1 hv.1 (suc_inj e) (sym (digits_mod a hr) ∙ ap (λ (x : ℕ). x % m) qm ∙ digits_mod c hs))
  where
    m : ℕ
    m = b ^ length u

    hr : number b u < m
    hr = number_lt b u hu.1

    hs : number b v < m
    hs = rw (suc_inj e) (number_lt b v hv.1)

    qm : a * m + number b u ≡ c * m + number b v
    qm = rw (← suc_inj e) at q

-- the last n digits of the number of n digits are these digits
pub digits_number : (b : ℕ) (l : List ℕ) {n : ℕ} → Digits b l → length l ≡ n → digits b n (number b l) ≡ l
digits_number b [] h e = rw (← e)
digits_number b (d ∷ l) {n} h e =
    number-inj b (digits b n (number b (d ∷ l))) (d ∷ l) (digits-below pos n (number b (d ∷ l))) h
    (length_digits b n (number b (d ∷ l)) ∙ sym e)
    (number-digits-lt pos n (number b (d ∷ l)) (rw (← e) (number_lt b (d ∷ l) h)))
  where
    pos : 0 < b
    pos = lt_of_le_of_lt zero-le h.0

-- the number of two lists of digits in a row
pub number_append : (b : ℕ) (u v : List ℕ) → number b (u ++ v) ≡ number b u * b ^ length v + number b v
number_append b [] v = rw (zero-mul, zero-add)
number_append b (d ∷ u) v =
    ap₂ (λ (k r : ℕ). d * b ^ k + r) (length-append u v) (number_append b u v) ∙ rw (pow-add, add-mul, add_assoc, mul_assoc)

-- the digits from place p on are the last k − p digits
pub drop-digits : (b p k x : ℕ) → drop p (digits b k x) ≡ digits b (k - p) x
drop-digits b zero k x = rw sub-zero
drop-digits b (suc p) zero x = rw zero-sub
drop-digits b (suc p) (suc k) x = rw suc-sub-suc (drop-digits b p k x)

-- the first m of k digits are the digits of the number without its last k − m digits
pub take-digits : (b m k x : ℕ) → m ≤ k → take m (digits b k x) ≡ digits b m (x / b ^ (k - m))
take-digits b zero k x h = refl
take-digits b (suc m) zero x h = absurd (not-suc-le-zero h)
take-digits b (suc m) (suc k) x h =
    rw suc-sub-suc
    (ap₂ (λ (d : ℕ) (l : List ℕ). d % b ∷ l)
    (rw (div-div-eq-div-mul, ← pow-add, sub-add_cancel (le_of_suc-le-suc h)))
    (take-digits b m k x (le_of_suc-le-suc h)))

-- m digits from place p on of k digits are those of the number without the digits behind them
pub digits-part : (b p m k x : ℕ) → p + m ≤ k → take m (drop p (digits b k x)) ≡ digits b m (x / b ^ (k - m - p))
digits-part b p m k x h = rw (drop-digits, take-digits b m (k - p) x (omega arith), sub_right_comm k p m)

-- the number of the m letters from place p on of a word of k letters
pub window-number : (p m k x : ℕ) → p + m ≤ k → val (take m (drop p (word k x))) ≡ x / 4 ^ (k - m - p) % 4 ^ m
window-number p m k x h = ap val (digits-part 4 p m k x h) ∙ number_digits four-pos m (x / 4 ^ (k - m - p))

-- the number of a word's last letters
pub val-drop : (w : Word) (i n : ℕ) → Letters w → i + n ≡ length w → val (drop i w) ≡ val w % 4 ^ n
val-drop w i n h e =
    ap (λ (u : Word). val (drop i u)) (sym (digits_number 4 w h refl))
    ∙ ap val (drop-digits 4 i (length w) (val w))
    ∙ number_digits four-pos (length w - i) (val w)
    ∙ ap (λ (k : ℕ). val w % 4 ^ k) (omega arith)

-- x is below y, or, where that is asked, at most y
abbrev pub at_most : Bool → ℕ → ℕ → Bool
at_most false x y = ltb x y
at_most true x y = leb x y

high-below : (m a c r s : ℕ) → r < m → s ≤ m → ltb (a * m + r) (c * m + s) ≡ (ltb a c || (eqb a c && ltb r s))
high-below m a c r s hr hs = go (ltb a c) (eqb a c) refl refl
  where
    go : (t e : Bool) → ltb a c ≡ t → eqb a c ≡ e → ltb (a * m + r) (c * m + s) ≡ (t || (e && ltb r s))
    go true e p q = lt-ltb (a * m + r) (c * m + s) (omega (arith, digits_lt (ltb-true a c p) hr))
    go false true p q = rw (eqb-true a c q) (leb-cong (suc (c * m + r)) (c * m + s) (suc r) s (λ h. omega arith) (λ h. omega arith))
    go false false p q =
        let h : suc c ≤ a = omega (arith, ltb-false a c p, eqb-false a c q) in
        le-ltb (a * m + r) (c * m + s) (omega (arith, mul-le-mul_right m h, suc-mul c m))

-- two numbers with a high part and a low part below m are compared by their high parts first
pub high-at_most : (final : Bool) (m a c r s : ℕ) → r < m → s < m → at_most final (a * m + r) (c * m + s) ≡ (ltb a c || (eqb a c && at_most final r s))
high-at_most false m a c r s hr hs = high-below m a c r s hr (le_of_lt hs)
high-at_most true m a c r s hr hs =
    sym (leb-suc-suc (a * m + r) (c * m + s)) ∙ ap (leb (suc (a * m + r))) (sym (add-suc (c * m) s))
    ∙ high-below m a c r (suc s) hr hs ∙ ap (λ (t : Bool). ltb a c || (eqb a c && t)) (leb-suc-suc r s)

-- numbers of equally many digits are compared by their first digits first
pub number-at_most : (final : Bool) (b a c : ℕ) (u v : List ℕ) → Digits b u → Digits b v → length u ≡ length v
    → at_most final (number b (a ∷ u)) (number b (c ∷ v)) ≡ (ltb a c || (eqb a c && at_most final (number b u) (number b v)))
number-at_most final b a c u v hu hv e =
    rw (← e) (high-at_most final (b ^ length u) a c (number b u) (number b v) (number_lt b u hu) (rw e (number_lt b v hv)))

-- ---- the letters of parts of words

-- the front of a word has letters alone
pub letters-take : (n : ℕ) (x : Word) → Letters x → Letters (take n x)
letters-take zero x h = tt
letters-take (suc n) [] h = tt
letters-take (suc n) (a ∷ x) h = (h.0, letters-take n x h.1)

-- a word from a place on has letters alone
pub letters-drop : (p : ℕ) (x : Word) → Letters x → Letters (drop p x)
letters-drop zero x h = h
letters-drop (suc p) [] h = tt
letters-drop (suc p) (a ∷ x) h = letters-drop p x h.1

-- two words in a row have letters alone
pub letters-append : (u v : Word) → Letters u → Letters v → Letters (u ++ v)
letters-append [] v hu hv = hv
letters-append (a ∷ u) v hu hv = (hu.0, letters-append u v hu.1 hv)

-- at each place of a word stands a letter; past its end the letter A, which is 0, is read
pub letter-lt : (x : Word) (p : ℕ) → Letters x → get_or x p 0 < 4
letter-lt [] p h = omega arith
letter-lt (a ∷ x) zero h = h.0
letter-lt (a ∷ x) (suc p) h = letter-lt x p h.1

-- ---- the sum of letters

-- a test that holds of every entry of a table of f holds of f i, for each i in it
pub all-tabulate : (p : ℕ → Bool) (f : ℕ → ℕ) (n : ℕ) → all p (tabulate f n) ≡ true → (i : ℕ) → i < n → p (f i) ≡ true
all-tabulate p f n e i h = ap p (sym (tabulate-at f n i 0 h)) ∙ all-at p (tabulate f n) 0 i e (rw length-tabulate h)

-- a test that holds over the list of letters holds of each letter
pub each-letter : (p : ℕ → Bool) → all p letters ≡ true → {a : ℕ} → a < 4 → p a ≡ true
each-letter p e {a} h = all-tabulate p (λ i. i) 4 e a h

-- the letters stand in their order
pub letters-at : {a : ℕ} → a < 4 → get_or letters a 0 ≡ a
letters-at {a} h = eqb-true (get_or letters a 0) a (each-letter (λ b. eqb (get_or letters b 0) b) refl h)

-- functions that agree at the letters have one row
pub row-agree : {f g : ℕ → ℕ} → ((b : ℕ) → b < 4 → f b ≡ g b) → map f letters ≡ map g letters
row-agree h = rw (h 0 (omega arith), h 1 (omega arith), h 2 (omega arith), h 3 (omega arith))

-- the sum of two letters is a letter
pub sum_lt : {a b : ℕ} → a < 4 → b < 4 → sum a b < 4
sum_lt {a} {b} ha hb = xor_lt 2 a b ha hb

-- the letter A, which is 0, changes no letter
pub sum-zero : (a : ℕ) → sum a 0 ≡ a
sum-zero a = xor_zero_r a

-- a letter that is added twice is gone
pub sum_twice : {a c : ℕ} → a < 4 → c < 4 → sum (sum a c) c ≡ a
sum_twice {a} {c} ha hc =
    eqb-true (sum (sum a c) c) a
    (each-letter (λ y. eqb (sum (sum a y) y) a) (each-letter (λ x. all (λ y. eqb (sum (sum x y) y) x) letters) refl ha) hc)

-- letters with one sum with a third letter are one letter
pub sum-cancel : {a b c : ℕ} → a < 4 → b < 4 → c < 4 → sum a c ≡ sum b c → a ≡ b
sum-cancel {c = c} ha hb hc e = sym (sum_twice ha hc) ∙ ap (λ x. sum x c) e ∙ sum_twice hb hc

-- ---- the sum of words

-- the sum of two words has the length of the first
pub length-sum : (u v : Word) → length (u ⊕ v) ≡ length u
length-sum [] v = refl
length-sum (a ∷ u) [] = refl
length-sum (a ∷ u) (b ∷ v) = ap suc (length-sum u v)

-- the sum of two words of letters is one of letters
pub sum-letters : (u v : Word) → Letters u → Letters v → Letters (u ⊕ v)
sum-letters [] v hu hv = tt
sum-letters (a ∷ u) [] hu hv = hu
sum-letters (a ∷ u) (b ∷ v) hu hv = (sum_lt hu.0 hv.0, sum-letters u v hu.1 hv.1)

-- a power of four is one of two
pub four-pow : (n : ℕ) → 4 ^ n ≡ 2 ^ (2 * n)
four-pow zero = refl
four-pow (suc n) = rw (mul-suc, pow-add, pow-suc 4 n, four-pow n)

-- a shift and a remainder cut the letter at a place out of a word
pub letter-cut : (m x i j : ℕ) → suc (i + j) ≡ m → get_or (word m x) i 0 ≡ x / 2 ^ (2 * j) % 4
letter-cut m x i j e = rw four-pow at (digits-at 4 m x i j e)

-- the mask of m letters keeps a number's last m letters
pub mask-letters : (m n : ℕ) → bit_and n (4 ^ m - 1) ≡ n % 4 ^ m
mask-letters m n = rw four-pow (and_mask n (2 * m))

-- a shift and a mask cut the m letters from place p on out of the number of a word of k letters
pub window-cut : (p m k x : ℕ) → p + m ≤ k → bit_and (x / 2 ^ (2 * (k - m - p))) (4 ^ m - 1) ≡ val (take m (drop p (word k x)))
window-cut p m k x h = rw (mask-letters m, ← four-pow (k - m - p)) (sym (window-number p m k x h))

-- the XOR of two words of m letters is one
pub xor-letters : (m : ℕ) {a b : ℕ} → a < 4 ^ m → b < 4 ^ m → bit_xor a b < 4 ^ m
xor-letters m {a} {b} = rw four-pow (xor_lt (2 * m) a b)

-- the XOR of two numbers with so many bits behind
pub xor-scale : (bits a b : ℕ) → bit_xor (a * 2 ^ bits) (b * 2 ^ bits) ≡ bit_xor a b * 2 ^ bits
xor-scale bits a b =
    let pos : 0 < 2 ^ bits = one-le-pow bits 2 (zero-lt-suc 1) in
    rw (add-zero, add-zero, add-zero) at (xor_block bits a b 0 0 pos pos)

-- a power of four is no less than twice its exponent
pub twice-le-four : (n : ℕ) → n + n ≤ 4 ^ n
twice-le-four zero = zero-le
twice-le-four (suc n) = omega (arith, twice-le-four n, one-le-pow n 4 four-pos)

-- the XOR of two numbers with n letters behind goes over what stands before them and over these letters apart
xor-four : (n a b r s : ℕ) → r < 4 ^ n → s < 4 ^ n → bit_xor (a * 4 ^ n + r) (b * 4 ^ n + s) ≡ bit_xor a b * 4 ^ n + bit_xor r s
xor-four n a b r s = rw (four-pow n) (xor_block (2 * n) a b r s)

-- the number of a sum of words is the XOR of their numbers
pub val-sum : (u v : Word) → length u ≡ length v → Letters u → Letters v → val (u ⊕ v) ≡ bit_xor (val u) (val v)
val-sum [] [] e hu hv = refl
val-sum [] (b ∷ v) e hu hv = absurd (suc-ne-zero (length v) (sym e))
val-sum (a ∷ u) [] e hu hv = absurd (suc-ne-zero (length u) e)
val-sum (a ∷ u) (b ∷ v) e hu hv =
    ap₂ (λ (k r : ℕ). sum a b * 4 ^ k + r) (length-sum u v) (val-sum u v (suc_inj e) hu.1 hv.1)
    ∙ rw (← suc_inj e) (sym (xor-four (length u) a b (val u) (val v) (number_lt 4 u hu.1) (rw (suc_inj e) (number_lt 4 v hv.1))))

-- the value of a keyed word is the XOR of its number and the key's
pub keyed-value : (key v : Word) → length v ≡ length key → Letters v → Letters key → value (keyed key) v ≡ bit_xor (val v) (val key)
keyed-value key v e hv hk = val-sum v key e hv hk

-- keyed words are compared by the XORs of their numbers and the key's
pub keyed-below : (key w v : Word) → length w ≡ length key → length v ≡ length key → Letters key → Letters w → Letters v
    → below (keyed key) w v ≡ ltb (bit_xor (val v) (val key)) (bit_xor (val w) (val key))
keyed-below key w v ew ev hk hw hv = ap₂ ltb (keyed-value key v ev hv hk) (keyed-value key w ew hw hk)

-- ---- letters and bytes

-- the byte that a letter is written as is read as this letter
pub letter-read : {a : ℕ} → a < 4 → letter_of (get_or capitals a 0) ≡ a
letter-read {a} h = eqb-true (letter_of (get_or capitals a 0)) a (each-letter (λ x. eqb (letter_of (get_or capitals x 0)) x) refl h)

-- a word is what its text spells
pub spelled-text : (x : Word) → Letters x → spelled (text x) ≡ x
spelled-text [] h = refl
spelled-text (a ∷ x) h = ap₂ (λ (c : ℕ) (y : Word). c ∷ y) (letter-read h.0) (spelled-text x h.1)

-- the text of a word of n letters has n bytes
pub length-text : (n x : ℕ) → length (text (word n x)) ≡ n
length-text n x = length-map (word n x) (λ a. get_or capitals a 0) ∙ length_digits 4 n x

-- a byte that is a letter is what this letter is written as
pub letter-written : {c : ℕ} → is_letter_byte c ≡ true → get_or capitals (letter_of c) 0 ≡ c
letter-written {c} e = sym (eqb-true c (get_or capitals (letter_of c) 0) (first_place-holds (eqb c) capitals 0 (ltb-true (letter_of c) 4 e)))

-- a text of letters is the text of what it spells
pub text-spelled : (t : List ℕ) → all is_letter_byte t ≡ true → text (spelled t) ≡ t
text-spelled [] e = refl
text-spelled (c ∷ t) e =
    ap₂ (λ (a : ℕ) (y : List ℕ). a ∷ y) (letter-written (and_l (is_letter_byte c) (all is_letter_byte t) e)) (text-spelled t (and_r (is_letter_byte c) (all is_letter_byte t) e))

-- a text of letters spells letters
pub spelled-letters : (t : List ℕ) → all is_letter_byte t ≡ true → Letters (spelled t)
spelled-letters [] e = tt
spelled-letters (c ∷ t) e =
    (ltb-true (letter_of c) 4 (and_l (is_letter_byte c) (all is_letter_byte t) e), spelled-letters t (and_r (is_letter_byte c) (all is_letter_byte t) e))

-- the number of what a text of letters spells has as many letters as the text
pub spelled-small : (t : List ℕ) → all is_letter_byte t ≡ true → val (spelled t) < 4 ^ length t
spelled-small t e = rw (← length-map t letter_of) (number_lt 4 (spelled t) (spelled-letters t e))

-- a word's text has letters only
pub text-letters : (x : Word) → Letters x → all is_letter_byte (text x) ≡ true
text-letters [] h = refl
text-letters (a ∷ x) h =
    and_i (is_letter_byte (get_or capitals a 0)) (all is_letter_byte (text x)) (each-letter (λ c. is_letter_byte (get_or capitals c 0)) refl h.0) (text-letters x h.1)

-- a text has a bad place exactly if it is not all letters
pub first_bad_place-all : (t : List ℕ) → ltb (first_bad_place t) (length t) ≡ not (all is_letter_byte t)
first_bad_place-all t = first_place-all is_letter_byte t

-- the first bad place of a text of letters alone is its end
pub first_bad_place-none : (t : List ℕ) → all is_letter_byte t ≡ true → first_bad_place t ≡ length t
first_bad_place-none t e =
    let none : ltb (first_bad_place t) (length t) ≡ false = first_bad_place-all t ∙ ap not e in
    omega (arith, ltb-false (first_bad_place t) (length t) none, first_place-le (λ b. not (is_letter_byte b)) t)
