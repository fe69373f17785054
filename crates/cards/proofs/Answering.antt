-- The answer to an input, from its line, the size and the first page.
-- Assumes nothing.
use Rattle.std.proofs.Common.{ℕ, zero, suc, ◌^◌, ◌≤◌, ◌<◌, Bool, true, false, cond, not, Ok, Err, List, ◌++◌, map, length, get_or, take, replicate, ◌≡◌, refl, sym, ap, ap₂, subst, ◌∙◌, arith}
use Rattle.definitions.specs.Lists.{over}
use Rattle.definitions.specs.Words.{word, val}
use Rattle.definitions.specs.Vigemins.{Form, keyed}
use Rattle.definitions.specs.Shelves.{size, page}
use Rattle.definitions.specs.Refusals.{refusal}
use Rattle.definitions.specs.Outcomes.{Counted, Paged, shelf_grounds, size_outcome, page_outcome}
use Rattle.definitions.specs.Cards.{Line as LineRead, read_answer, read_outcome, Asked, asks, parts, well_formed, card_grounds, card_text, text_for, settings, entries, Printed, card_outcome}
use Rattle.laws.specs.Accepted.{ShelfAccepted, word-accepted, size-refusal, size-count}
use Rattle.laws.specs.Listings.{page-outcome, handed, page-handed, page-written}
use Rattle.laws.specs.Cards.{page-words, page-small}
use Rattle.refusals.specs.Numbers.{number_of, number-some}
use Rattle.refusals.specs.declared.Refusal.{Refusal}
use Rattle.lines.specs.declared.Line.{Line}
use Rattle.lines.specs.Answers.{asked_of, lined}
use Rattle.sizes.specs.Answers.{counted}
use Rattle.shelves.specs.Answers.{paged}
use Rattle.cards.specs.Texts.{IsText, IsAsked, AreKmers, refused_text, IsShown, IsRefused}
use Rattle.cards.proofs.Laying.{text-whole}

-- the text of a refusal, and the text where nothing is refused
refused-text : (r : ℕ) → 0 < r → (f : Form) (a : Asked) → card_text r f a ≡ refused_text r
unfolding card_text
refused-text zero h f a = absurd (omega arith)
refused-text (suc r) h f a = refl

shown-text : (r : ℕ) → r ≡ 0 → (f : Form) (a : Asked)
    → card_text r f a ≡ settings a (size f a.k (word a.m a.word)) ++ entries 0 (page f a.k (word a.m a.word) 0 16)
unfolding card_text
shown-text r e f a = rw e

-- the text of a refusal is that of an input that is refused
pub refused-for : (s : List ℕ) (r : Refusal) → IsRefused s r → refused_text (number_of r) ≡ text_for s
refused-for s r h =
    let a = asks (parts s) in
    let f = keyed (word a.m a.key) in
    sym (ap (λ (n : ℕ). card_text n f a) (sym h) ∙ refused-text (number_of r) (number-some r) f a)

-- the refusal of what a line asks for
abbrev shelf_refusal : Asked → ℕ
shelf_refusal a = refusal (shelf_grounds a.k a.m a.key a.word)

module _ (s : List ℕ) where
  -- a malformed line is refused
  pub line-refused : (r : Refusal) → lined (Err r) ≡ read_outcome s → IsRefused s r
  unfolding read_outcome read_answer
  line-refused r e = go (well_formed s) (number-some r) (ap (λ (o : LineRead). o.refusal) e)
    where
      go : (t : Bool) → 0 < number_of r → number_of r ≡ (read_answer (cond (not t) 10 0) (asks (parts s))).refusal
          → number_of r ≡ cond (not t) 10 (shelf_refusal (asks (parts s)))
      go true h q = absurd (omega arith)
      go false h q = q

  module _ (l : Line) (reads : lined (Ok l) ≡ read_outcome s) where
    -- any other is well formed, and asks for what its parts do
    line-formed : (well_formed s ≡ true) × (asked_of l ≡ asks (parts s))
    unfolding read_outcome read_answer
    line-formed = go (well_formed s) refl
      where
        go : (t : Bool) → well_formed s ≡ t → (well_formed s ≡ true) × (asked_of l ≡ asks (parts s))
        go true e = (e, ap (λ (o : LineRead). o.asked) reads ∙ rw e)
        go false e = let ten : 0 ≡ 10 = ap (λ (o : LineRead). o.refusal) reads ∙ rw e in absurd (omega (arith, ten))

    -- so it is refused as its shelf is
    line-told : refusal (card_grounds s) ≡ shelf_refusal (asked_of l)
    line-told = rw line-formed.0 (ap shelf_refusal (sym line-formed.1))

    -- its size is refused
    pub size-refused : (r : Refusal) → counted (Err r) ≡ size_outcome l.k l.m l.key l.word → IsRefused s r
    size-refused r e = ap (λ (o : Counted). o.refusal) e ∙ size-refusal l.k l.m l.key l.word ∙ sym line-told

    module _ (n : ℕ) (sized : counted (Ok n) ≡ size_outcome l.k l.m l.key l.word) where
      -- where it is not, nothing is
      size-none : 0 ≡ shelf_refusal (asked_of l)
      size-none = ap (λ (o : Counted). o.refusal) sized ∙ size-refusal l.k l.m l.key l.word

      -- and the shelf is one that is accepted
      pub shelf : ShelfAccepted l.k l.m l.key l.word
      shelf = word-accepted l.m l.k l.m l.key l.word (sym size-none)

      -- the settings can be written
      pub is-asked : IsAsked (asked_of l)
      is-asked =
          let few : l.m ≤ 31 = omega (arith, shelf.order.m_fits, shelf.order.k_few) in
          record {
            k_few = shelf.order.k_few;
            key = record { some = shelf.order.m_some; few = few; small = shelf.order.key_small };
            word = record { some = shelf.order.m_some; few = few; small = shelf.small };
          }

      -- the first k-mers
      abbrev first_kmers : List ℕ
      first_kmers = map val (page (keyed (word l.m l.key)) l.k (word l.m l.word) 0 16)

      -- the first page is not refused
      pub page-unrefused : (r : Refusal) {room : List ℕ} (old : List ℕ) → paged (Err r) room ≡ page_outcome l.k l.m l.key l.word 0 old → ⊥
      page-unrefused r old e =
          omega (arith, number-some r, ap (λ (o : Paged). o.refusal) (e ∙ page-outcome shelf 0 old (omega arith)))

      module _ (w : ℕ) {room : List ℕ} (old : List ℕ) (long : length old ≡ 16) (wrote : paged (Ok w) room ≡ page_outcome l.k l.m l.key l.word 0 old) where
        -- it writes so many
        pub page-few : w ≤ 16
        page-few = omega (arith, long, ap (λ (o : Paged). o.written) wrote, page-written shelf 0 old (omega arith))

        -- which are the first k-mers
        page-first : take w room ≡ first_kmers
        page-first =
            ap handed wrote ∙ page-handed shelf 0 old (omega arith) ∙ ap (λ (n : ℕ). map val (page (keyed (word l.m l.key)) l.k (word l.m l.word) 0 n)) long

        -- these can be written
        pub are-kmers : length (take w room) ≤ 16 → AreKmers l.k (take w room)
        are-kmers h =
            record {
              few = h;
              each = λ i j. record {
                some = shelf.order.k_some;
                few = shelf.order.k_few;
                small = subst (λ (ks : List ℕ). get_or ks i 0 < 4 ^ l.k) (sym page-first)
                    (page-small (keyed (word l.m l.key)) l.k (word l.m l.word) 0 16 i (subst (λ (ks : List ℕ). i < length ks) page-first j));
              };
            }

        -- the settings and the lines of these k-mers are the text
        pub card-shown : {text : List ℕ} → text ≡ settings (asked_of l) n ++ entries 0 (map (word l.k) (take w room)) → IsShown s text
        card-shown {text} e =
            let f = keyed (word l.m l.key) in
            let v = word l.m l.word in
            let none : refusal (card_grounds s) ≡ 0 = line-told ∙ sym size-none in
            let count : n ≡ size f l.k v = ap (λ (o : Counted). o.count) sized ∙ size-count l.k l.m l.key l.word (sym size-none) in
            let lines : map (word l.k) (take w room) ≡ page f l.k v 0 16 = ap (map (word l.k)) page-first ∙ page-words f l.k v 0 16 in
            record {
              accepted = none;
              text_is = e ∙ ap₂ (λ (c : ℕ) (p : List (List ℕ)). settings (asked_of l) c ++ entries 0 p) count lines
                  ∙ sym (shown-text (refusal (card_grounds s)) none f (asked_of l))
                  ∙ ap (λ (a : Asked). card_text (refusal (card_grounds s)) (keyed (word a.m a.key)) a) line-formed.1;
            }

-- ---- the whole card

-- a refusal and a text that are those of the input are its card
pub card-is : (s : List ℕ) {bytes : List ℕ} {r n : ℕ} → r ≡ refusal (card_grounds s) → take n bytes ≡ text_for s → IsText n bytes → length bytes ≡ 664
    → ◌≡◌ {A = Printed} (record { refusal = r; length = n; text = bytes }) (card_outcome s)
unfolding card_outcome
card-is s {bytes} {r} {n} e q t long =
    let whole = text-whole t long in
    let told : n ≡ length (text_for s) = whole.0 ∙ ap length q in
    let front : bytes ≡ over (text_for s) (replicate 664 0) = whole.1 ∙ ap (λ (l : List ℕ). over l (replicate 664 0)) q in
    cc
