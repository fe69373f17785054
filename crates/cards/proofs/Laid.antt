-- Texts that are laid in a lent room, one behind the other in the part of it that is left: laws for whoever lends room and not a text.
-- Assumes nothing.
use Prim.Native.Nat.{ℕ, suc, ◌+◌, ◌-◌, ◌≤◌, ◌<◌, zero-le}
use mathlib.Core.List.{List, [], ◌∷◌, ◌++◌, append-nil, append_assoc}
use mathlib.Core.Path.{◌≡◌, refl, sym, ap, ap₂, ◌∙◌}
use native.Mathlib.Omega.{arith}
use lib.ListN.{length, take, drop, set, length-append, length-drop}
use lib.Seq.{take-append_seam, get_or_at}
use Rattle.definitions.specs.Lists.{over}
use Rattle.laws.specs.Rooms.{over_to-more, over_to-all, over-append, length_over, rest-whole}

-- a text was written at the front of a room, and so many bytes were told
pub record Laid (t : List ℕ) (told : ℕ) (old room : List ℕ) : Type 0 where
  pub long : told ≡ length t
  pub fits : length t ≤ length old
  pub front : room ≡ over t old

-- nothing is written yet
pub laid_none : (old : List ℕ) → Laid [] 0 old old
laid_none old = record { long = refl; fits = zero-le; front = refl }

-- one byte more
pub laid-byte : {t : List ℕ} {n : ℕ} (b : ℕ) {old room : List ℕ} → Laid t n old room → n < length old → Laid (t ++ (b ∷ [])) (n + 1) old (set room n b)
laid-byte {t} {n} b {old} {room} l h =
    let more : length (t ++ (b ∷ [])) ≡ suc n = rw length-append (omega (arith, l.long)) in
    let before : room ≡ take n (t ++ (b ∷ [])) ++ drop n old = rw (l.long, take-append_seam) l.front in
    record {
      long = omega (arith, more);
      fits = omega (arith, more);
      front = over_to-all (t ++ (b ∷ [])) old (over_to-more (t ++ (b ∷ [])) old 0 before (sym (get_or_at t b [] 0 n (sym l.long))) (omega (arith, more)) h) (sym more);
    }

-- the room keeps its length
pub laid-length : {t : List ℕ} {n : ℕ} {old room : List ℕ} → Laid t n old room → length room ≡ length old
laid-length {t} {n} {old} l = rw l.front (length_over t old l.fits)

-- a text is laid behind another, in the part of the room that is left
pub laid_next : {u v : List ℕ} {a b : ℕ} {old mid part : List ℕ} → Laid u a old mid → Laid v b (take (length mid - a) (drop a mid)) part
    → Laid (u ++ v) (a + b) old (take a mid ++ (part ++ drop (length mid - a) (drop a mid)))
laid_next {u} {v} {a} {b} {old} {mid} {part} l r =
    let left = (rest-whole a mid).0 in
    let none = (rest-whole a mid).1 in
    let fits : length v ≤ length mid - a = rw (left, length-drop) at r.fits in
    let whole : over (u ++ v) old ≡ take a mid ++ over v (drop a mid) = over-append u v old ∙ ap₂ (λ (n : ℕ) (m : List ℕ). take n m ++ over v (drop n m)) (sym l.long) (sym l.front) in
    record {
      long = rw length-append (omega (arith, l.long, r.long));
      fits = rw length-append (omega (arith, l.long, l.fits, laid-length l));
      front = rw (none, append-nil, r.front, left) (sym whole);
    }

-- how much room is left
pub laid-left : {t : List ℕ} {n : ℕ} {old room : List ℕ} → Laid t n old room → length (take (length room - n) (drop n room)) ≡ length old - n
laid-left {t} {n} {old} {room} l = rw ((rest-whole n room).0, length-drop, laid-length l)

-- texts in a row, put together as they are written
pub in_parts : (a b c d e f g h i : List ℕ) → a ++ b ++ c ++ d ++ e ++ f ++ g ++ h ++ i ≡ ((a ++ b) ++ (c ++ d)) ++ (((e ++ f) ++ (g ++ h)) ++ i)
in_parts a b c d e f g h i =
    ap (λ (l : List ℕ). l ++ e ++ f ++ g ++ h ++ i) (append_assoc (a ++ b) c d)
    ∙ ap (λ (l : List ℕ). l ++ g ++ h ++ i) (append_assoc ((a ++ b) ++ (c ++ d)) e f)
    ∙ ap (λ (l : List ℕ). l ++ i) (append_assoc (((a ++ b) ++ (c ++ d)) ++ (e ++ f)) g h ∙ append_assoc ((a ++ b) ++ (c ++ d)) (e ++ f) (g ++ h))
    ∙ append_assoc ((a ++ b) ++ (c ++ d)) ((e ++ f) ++ (g ++ h)) i
