-- The shelf printer: an input is well formed exactly if it is the line of three proper parts, and then it has at most 67 bytes; the k-mers that are
-- printed are the words of the numbers that a page writes.
-- Assumes nothing.
use Rattle.std.specs.Prelude.{ℕ, suc, ◌+◌, ◌-◌, ◌^◌, ◌≤◌, ◌<◌, Bool, true, false, not, ◌&&◌, ◌≡◌, refl, eqb, length, get_or, take, drop}
use Rattle.std.proofs.Common.{true≢false, sym, ap, ap₂, subst, ◌∙◌, add-one, arith, eq-eqb, ne_eqb, eqb-true, length-append, length-drop, drop_of_length-le, length-take-le, get_or-take, get_or-drop}
use mathlib.Core.List.{List, [], ◌∷◌, ◌++◌, map, append_assoc, Memᴰ}
use Rattle.std.proofs.lemmas.Bool.{lt-leb, not-true}
use Rattle.std.proofs.lemmas.List.{length-map}
use Rattle.std.proofs.Math.Seq.{split_at, take-append_seam, drop-append-add}
use Rattle.definitions.specs.Lists.{all, first_place}
use Rattle.definitions.specs.Words.{Word, Mer, same, val, word, is_letter_byte, spelled}
use Rattle.definitions.specs.Vigemins.{Form}
use Rattle.definitions.specs.Shelves.{shelf, page}
use Rattle.definitions.specs.Cards.{space, line_feed, before, behind, Parts, parts, line_of, is_digit, is_number, is_word, proper, well_formed, asks, card_grounds}
use Rattle.definitions.specs.Refusals.{refusal, bad_length, bad_m}
use Rattle.definitions.specs.Outcomes.{pack_grounds}
use Rattle.laws.specs.Tests.{and_l, and_r, and_i, contrary, test-ext, same-eq, eq-same}
use Rattle.laws.specs.Filters.{at_mem, mem-at, at_map}
use Rattle.laws.specs.Numbers.{number_lt, digits_number, spelled-small}
use Rattle.laws.specs.Catalogue.{shelf-holds, page-length}
use Rattle.laws.specs.Rooms.{rest-whole}
use Rattle.laws.specs.Places.{first_place-holds, first_place-le}
use Rattle.laws.specs.Accepted.{PackAccepted, pack-accepted}

-- the part before the first byte b is as long as the first place tells
pub length_before : (b : ℕ) (s : List ℕ) → length (before b s) ≡ first_place (eqb b) s
length_before b s = length-take-le (first_place (eqb b) s) s (first_place-le (eqb b) s)

-- the part behind it has the rest but one
pub length-behind : (b : ℕ) (s : List ℕ) → length (behind b s) ≡ length s - suc (length (before b s))
length-behind b s = rw (length_before b s) (length-drop (suc (first_place (eqb b) s)) s)

-- that part, cut at the place that was found
pub behind-part : (b : ℕ) (s : List ℕ) {a : ℕ} → a ≡ first_place (eqb b) s → take (length s - (a + 1)) (drop (a + 1) s) ≡ behind b s
behind-part b s {a} e =
    (rest-whole (a + 1) s).0 ∙ ap (λ (n : ℕ). drop n s) (add-one a ∙ ap suc e)

-- where there is no such byte, nothing is behind it
pub behind-none : (b : ℕ) (s : List ℕ) {a : ℕ} → length s ≤ a → a ≡ first_place (eqb b) s → take (length s - a) (drop a s) ≡ behind b s
behind-none b s {a} h e =
    (rest-whole a s).0 ∙ drop_of_length-le s h ∙ sym (drop_of_length-le s {i = suc (first_place (eqb b) s)} (omega (arith, e)))

-- where there is such a byte, the two parts and the byte between them are the text
cut-whole : (b : ℕ) (s : List ℕ) → length (before b s) < length s → before b s ++ (b ∷ behind b s) ≡ s
cut-whole b s h =
    let at : first_place (eqb b) s < length s = rw (length_before b s) at h in
    let it : b ≡ get_or s (first_place (eqb b) s) 0 = eqb-true b (get_or s (first_place (eqb b) s) 0) (first_place-holds (eqb b) s 0 at) in
    ap (λ (a : ℕ). before b s ++ (a ∷ behind b s)) it ∙ sym (split_at s (first_place (eqb b) s) 0 at)

-- how long the line of three texts is
length-line : (p : Parts) → length (line_of p) ≡ length p.k + length p.key + length p.word + 3
length-line p = rw (length-append, length-append, length-append) (omega arith)

-- the line of three texts, from its first part on
line-nested : (p : Parts) → line_of p ≡ p.k ++ (space ∷ (p.key ++ (space ∷ (p.word ++ (line_feed ∷ [])))))
line-nested p = append_assoc (p.k ++ (space ∷ p.key)) (space ∷ p.word) (line_feed ∷ []) ∙ append_assoc p.k (space ∷ p.key) (space ∷ (p.word ++ (line_feed ∷ [])))

-- where the lengths of the parts of an input and three bytes make up its length, it is the line of its parts
whole : (s : List ℕ) → let p = parts s in length p.k + length p.key + length p.word + 3 ≡ length s → s ≡ line_of p
whole s e =
    let rest = behind space s in
    let last = behind space rest in
    let r = length-behind space s in
    let l = length-behind space rest in
    let first = cut-whole space s (omega arith) in
    let second = cut-whole space rest (omega arith) in
    let third = cut-whole line_feed last (omega arith) in
    let end : behind line_feed last ≡ [] = drop_of_length-le last {i = suc (first_place (eqb line_feed) last)} (omega (arith, length_before line_feed last)) in
    sym (line-nested (parts s) ∙ ap (λ (t : List ℕ). before space s ++ (space ∷ (before space rest ++ (space ∷ (before line_feed last ++ (line_feed ∷ t)))))) (sym end)
    ∙ ap (λ (t : List ℕ). before space s ++ (space ∷ (before space rest ++ (space ∷ t)))) third ∙ ap (λ (t : List ℕ). before space s ++ (space ∷ t)) second ∙ first)

-- an input is the line of its parts exactly if these and three bytes make up its length
pub line-test : (s : List ℕ) → let p = parts s in same s (line_of p) ≡ eqb (length p.k + length p.key + length p.word + 3) (length s)
line-test s =
    let p = parts s in
    let n = length p.k + length p.key + length p.word + 3 in
    test-ext (same s (line_of p)) (eqb n (length s))
    (λ e. eq-eqb n (length s) (sym (ap length (same-eq s (line_of p) e) ∙ length-line p)))
    (λ e. eq-same (whole s (eqb-true n (length s) e)))

-- a well-formed input is the line of its parts, which are proper
pub formed-line : (s : List ℕ) → well_formed s ≡ true → (s ≡ line_of (parts s)) × (proper (parts s) ≡ true)
formed-line s e = let p = parts s in (same-eq s (line_of p) (and_l (same s (line_of p)) (proper p) e), and_r (same s (line_of p)) (proper p) e)

-- what proper parts are
pub record Proper (p : Parts) : Type 0 where
  pub number : is_number p.k ≡ true
  pub key : PackAccepted p.key
  pub word : PackAccepted p.word
  pub alike : length p.key ≡ length p.word

pub proper-parts : (p : Parts) → proper p ≡ true → Proper p
proper-parts p e =
    let n = is_number p.k in
    let a = is_word p.key in
    let b = is_word p.word in
    let l = eqb (length p.key) (length p.word) in
    let nab = and_l (n && a && b) l e in
    let na = and_l (n && a) b nab in
    record {
      number = and_l n a na;
      key = pack-accepted p.key (eqb-true (refusal (pack_grounds p.key)) 0 (and_r n a na));
      word = pack-accepted p.word (eqb-true (refusal (pack_grounds p.word)) 0 (and_r (n && a) b nab));
      alike = eqb-true (length p.key) (length p.word) (and_r (n && a && b) l e);
    }

-- one or two digits
pub number_short : (t : List ℕ) → is_number t ≡ true → (length t ≤ 2) × (all is_digit t ≡ true)
number_short [] e = absurd (true≢false (sym e))
number_short (a ∷ []) e = (omega arith, and_i (is_digit a) true e refl)
number_short (a ∷ b ∷ []) e =
    let first = and_l (is_digit a) (not (eqb a 48)) (and_l (is_digit a && not (eqb a 48)) (is_digit b) e) in
    let second = and_r (is_digit a && not (eqb a 48)) (is_digit b) e in
    (omega arith, and_i (is_digit a) (is_digit b && true) first (and_i (is_digit b) true second refl))
number_short (a ∷ b ∷ c ∷ t) e = absurd (true≢false (sym e))

-- a well-formed input has at most 67 bytes, so what has more is refused however it goes on
pub formed-short : (s : List ℕ) → well_formed s ≡ true → length s ≤ 67
formed-short s e =
    let f = formed-line s e in
    let p = proper-parts (parts s) f.1 in
    omega (arith, ap length f.0, length-line (parts s), (number_short (parts s).k p.number).0, p.key.few, p.word.few)

-- a text whose bytes all pass a test has no byte that does not
all-other : (p : ℕ → Bool) (b : ℕ) → p b ≡ false → (t : List ℕ) → all p t ≡ true → all (λ c. not (eqb b c)) t ≡ true
all-other p b n [] e = refl
all-other p b n (c ∷ t) e =
    and_i (not (eqb b c)) (all (λ x. not (eqb b x)) t)
    (ap not (ne_eqb b c (λ q. contrary (p c) (and_l (p c) (all p t) e) (ap p (sym q) ∙ n))))
    (all-other p b n t (and_r (p c) (all p t) e))

-- the place of the first byte b behind a text that has none
first-behind : (b : ℕ) (u v : List ℕ) → all (λ c. not (eqb b c)) u ≡ true → first_place (eqb b) (u ++ (b ∷ v)) ≡ length u
first-behind b [] v e = rw (eq-eqb b b refl)
first-behind b (c ∷ u) v e =
    rw (not-true (eqb b c) (and_l (not (eqb b c)) (all (λ x. not (eqb b x)) u) e))
    (ap suc (first-behind b u v (and_r (not (eqb b c)) (all (λ x. not (eqb b x)) u) e)))

-- so it cuts the text off
cut-behind : (b : ℕ) (u v : List ℕ) → all (λ c. not (eqb b c)) u ≡ true → (before b (u ++ (b ∷ v)) ≡ u) × (behind b (u ++ (b ∷ v)) ≡ v)
cut-behind b u v e = (
  ap (λ (n : ℕ). take n (u ++ (b ∷ v))) (first-behind b u v e) ∙ take-append_seam u (b ∷ v),
  ap (λ (n : ℕ). drop (suc n) (u ++ (b ∷ v))) (first-behind b u v e) ∙ ap (λ (n : ℕ). drop n (u ++ (b ∷ v))) (sym (add-one (length u))) ∙ drop-append-add u (b ∷ v) 1,
)

-- the line of proper parts is well formed, and these are its parts
pub line-formed : (p : Parts) → proper p ≡ true → (parts (line_of p) ≡ p) × (well_formed (line_of p) ≡ true)
line-formed p e =
    let q = proper-parts p e in
    let rest = p.key ++ (space ∷ (p.word ++ (line_feed ∷ []))) in
    let first = cut-behind space p.k rest (all-other is_digit space refl p.k (number_short p.k q.number).1) in
    let second = cut-behind space p.key (p.word ++ (line_feed ∷ [])) (all-other is_letter_byte space refl p.key q.key.all_letters) in
    let third = cut-behind line_feed p.word [] (all-other is_letter_byte line_feed refl p.word q.word.all_letters) in
    let same_parts : parts (line_of p) ≡ p = rw (line-nested p, first.0, first.1, second.0, second.1, third.0) in
    (same_parts, and_i (same (line_of p) (line_of (parts (line_of p)))) (proper (parts (line_of p))) (eq-same (ap line_of (sym same_parts))) (ap proper same_parts ∙ e))

-- of a well-formed line the operations refuse k and m alone, by 1 or 2: its key and its word have m letters each
pub formed-refusal : (s : List ℕ) → well_formed s ≡ true → let a = asks (parts s) in refusal (card_grounds s) ≡ refusal (bad_length a.k ∷ bad_m a.k a.m ∷ [])
formed-refusal s e =
    let p = parts s in
    let q = proper-parts p (formed-line s e).1 in
    let key = spelled-small p.key q.key.all_letters in
    let w = subst (λ (n : ℕ). val (spelled p.word) < 4 ^ n) (sym q.alike) (spelled-small p.word q.word.all_letters) in
    rw (e, lt-leb (4 ^ length p.key) (val (spelled p.key)) key, lt-leb (4 ^ length p.key) (val (spelled p.word)) w)

-- ---- the k-mers that are printed

-- k-mers are the words of their numbers
kmers-words : (k : ℕ) (l : List Word) → ((x : Word) → Memᴰ x l → Mer k x) → map (word k) (map val l) ≡ l
kmers-words k [] h = refl
kmers-words k (x ∷ l) h =
    let m = h x (Memᴰ.head refl) in
    ap₂ (λ (y : Word) (r : List Word). y ∷ r) (digits_number 4 x m.1 m.0) (kmers-words k l (λ y q. h y (Memᴰ.tail q)))

module _ (f : Form) (k : ℕ) (w : Word) (start n : ℕ) where
  -- what stands on a page is a k-mer
  page-mer : (x : Word) → Memᴰ x (page f k w start n) → Mer k x
  page-mer x h =
      let p = mem-at (page f k w start n) [] h in
      let i = p.0 in
      let long = page-length f k w start n in
      let there = at_mem (shelf f k w) [] (start + i) (omega (arith, p.1)) in
      ((shelf-holds f k w x).0 (subst (λ (y : Word). Memᴰ y (shelf f k w)) (sym (p.2 ∙ get_or-take n (drop start (shelf f k w)) i [] (omega (arith, p.1)) ∙ get_or-drop start (shelf f k w) i [])) there)).0

  -- the k-mers of a page are the words of the numbers that are written
  pub page-words : map (word k) (map val (page f k w start n)) ≡ page f k w start n
  page-words = kmers-words k (page f k w start n) page-mer

  -- each number is that of k letters
  pub page-small : (i : ℕ) → i < length (map val (page f k w start n)) → get_or (map val (page f k w start n)) i 0 < 4 ^ k
  page-small i h =
      let here : i < length (page f k w start n) = rw length-map at h in
      let m = page-mer (get_or (page f k w start n) i []) (at_mem (page f k w start n) [] i here) in
      rw (at_map val (page f k w start n) [] 0 i here) (subst (λ (l : ℕ). val (get_or (page f k w start n) i []) < 4 ^ l) m.0 (number_lt 4 (get_or (page f k w start n) i []) m.1))
