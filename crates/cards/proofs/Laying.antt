-- Texts that are written one after the other.
-- Assumes nothing.
use Rattle.std.proofs.Common.{ℕ, suc, ◌+◌, ◌-◌, ◌≤◌, ◌<◌, List, [], ◌∷◌, ◌++◌, map, length, get_or, take, drop, replicate, Result, Ok, Err, ◌≡◌, sym, ap, ◌∙◌, arith, add-zero, zero-add, add-one, append_assoc, length-take-le, drop-drop}
use Rattle.std.proofs.Math.Nat.{add-suc, suc-add}
use Rattle.std.proofs.lemmas.List.{drop-replicate, take-append-drop, length-map}
use Rattle.std.proofs.lemmas.Slice.{drop-put_mid}
use borrow.Rule.Slice.PartMut.{put_mid}
use Rattle.std.proofs.Math.Seq.{take-append_seam, take-suc}
use mathlib.Core.List.{map-append}
use Rattle.definitions.specs.Lists.{over}
use Rattle.definitions.specs.Words.{Word, word, text}
use Rattle.definitions.specs.Cards.{ascii, decimal, entries}
use Rattle.definitions.specs.Outcomes.{Unpacked, unpack_outcome}
use Rattle.laws.specs.Numbers.{length-text}
use Rattle.laws.specs.Accepted.{UnpackAccepted}
use Rattle.laws.specs.RoundTrips.{unpack-outcome}
use Rattle.refusals.specs.Numbers.{number-some}
use Rattle.refusals.specs.declared.Refusal.{Refusal}
use Rattle.words.specs.Answers.{unpacked}
use Rattle.cards.specs.Texts.{IsText, IsWord}

-- some bytes are written behind a text
module _ {n : ℕ} {bytes : List ℕ} (t : List ℕ) (text : IsText n bytes) (whole : length bytes ≡ 664) (fits : n + length t ≤ 664) where
  -- they are a text
  pub laid-text : IsText (n + length t) (put_mid n (n + length t - n) bytes t)
  laid-text = record {
    inside = fits;
    zeros = drop-put_mid n (n + length t - n) bytes t (n + length t) (omega arith) (omega (arith, text.inside)) (omega arith)
        ∙ rw (← drop-drop (length t) n bytes, text.zeros, drop-replicate) (ap (λ (m : ℕ). replicate m 0) (omega arith));
  }

-- how long the text is
pub text-length : {n : ℕ} {bytes : List ℕ} → IsText n bytes → length bytes ≡ 664 → length (take n bytes) ≡ n
text-length {n} {bytes} t e = length-take-le n bytes (omega (arith, t.inside))

-- its bytes are the text and zeros
pub text-whole : {n : ℕ} {bytes : List ℕ} → IsText n bytes → length bytes ≡ 664 → (n ≡ length (take n bytes)) × (bytes ≡ over (take n bytes) (replicate 664 0))
text-whole {n} {bytes} t e =
    let long = text-length t e in
    (sym long, sym (rw (long, drop-replicate, ← t.zeros) (take-append-drop n bytes)))

-- what unpacking a word answers, and what it writes at the front of the room
pub unpack-letters : {x n : ℕ} {old : List ℕ} (r : Result ℕ Refusal) (room : List ℕ) → UnpackAccepted x n old
    → unpacked r room ≡ unpack_outcome x n old → (r ≡ Ok n) × (take n room ≡ text (word n x))
unpack-letters {x} {n} {old} (Ok w) room a e =
    let is = e ∙ unpack-outcome a in
    let t = text (word n x) in
    let front : take (length t) room ≡ t = ap (take (length t)) (ap (λ (u : Unpacked). u.room) is) ∙ take-append_seam t (drop (length t) old) in
    (ap Ok (ap (λ (u : Unpacked). u.written) is), rw length-text at front)
unpack-letters (Err r) room a e =
    let some = number-some r in
    absurd (omega (arith, some, ap (λ (u : Unpacked). u.refusal) (e ∙ unpack-outcome a)))

-- the letters of a word have room in 31 bytes
pub letters-room : {n x : ℕ} {old : List ℕ} → IsWord n x → length old ≡ 31 → UnpackAccepted x n old
letters-room w e = record { some = w.some; few = w.few; small = w.small; fits = omega (arith, w.few) }

-- ---- a line for each k-mer

-- lines in a row
entries-append : (p : ℕ) (xs ys : List Word) → entries p (xs ++ ys) ≡ entries p xs ++ entries (p + length xs) ys
entries-append p [] ys = rw add-zero
entries-append p (x ∷ xs) ys =
    ap (λ (l : List ℕ). (decimal p ++ ascii " " ++ text x ++ ascii "\n") ++ l) (entries-append (suc p) xs ys)
    ∙ rw (add-suc p (length xs), suc-add) (sym (append_assoc (decimal p ++ ascii " " ++ text x ++ ascii "\n") (entries (suc p) xs) (entries (suc (p + length xs)) ys)))

-- the lines of one k-mer more
pub entries-more : (k : ℕ) (kmers : List ℕ) (i : ℕ) → i < length kmers
    → entries 0 (map (word k) (take (i + 1) kmers)) ≡ entries 0 (map (word k) (take i kmers)) ++ entries i (word k (get_or kmers i 0) ∷ [])
entries-more k kmers i h =
    let long : length (map (word k) (take i kmers)) ≡ i = length-map (take i kmers) (word k) ∙ length-take-le i kmers (omega arith) in
    ap (λ (l : List ℕ). entries 0 (map (word k) l)) (ap (λ (n : ℕ). take n kmers) (add-one i) ∙ take-suc kmers i 0 h)
    ∙ ap (entries 0) (map-append (word k) (take i kmers) (get_or kmers i 0 ∷ []))
    ∙ entries-append 0 (map (word k) (take i kmers)) (word k (get_or kmers i 0) ∷ [])
    ∙ ap (λ (n : ℕ). entries 0 (map (word k) (take i kmers)) ++ entries n (word k (get_or kmers i 0) ∷ [])) (zero-add (length (map (word k) (take i kmers))) ∙ long)
