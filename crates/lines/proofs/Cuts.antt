-- The parts of an input, and when these are a line.
-- Assumes nothing.
use Rattle.std.proofs.Common.{ℕ, suc, ◌+◌, ◌≤◌, ◌<◌, Bool, true, false, cond, ◌&&◌, eqb, ltb, Option, Some, None, position, List, length, ◌≡◌, refl, sym, ap, ap₂, ◌∙◌, arith, ltb-true, ltb-false, eq-eqb, ne_eqb}
use Rattle.std.proofs.lemmas.List.Recursion.{is_position_or_len}
use Rattle.definitions.specs.Lists.{first_place}
use Rattle.definitions.specs.Cards.{space, line_feed, before, behind, Parts, parts, proper, well_formed, asks}
use Rattle.laws.specs.Places.{first_place-le}
use Rattle.laws.specs.Cards.{length_before, length-behind, line-test}
use Rattle.lines.specs.Answers.{IsUncut, IsCut, parts_of, asked_by, asked_for}

-- ---- one cut

module _ (b : ℕ) (s : List ℕ) {o : Option ℕ} (found : o ≡ position (eqb b) s) where
  -- the place found is the first one
  found-first : o ≡ cond (ltb (first_place (eqb b) s) (length s)) (Some (first_place (eqb b) s)) None
  found-first =
      found
      ∙ ap (λ (i : ℕ). cond (ltb i (length s)) (Some i) None)
      (sym (is_position_or_len (first_place (eqb b)) (eqb b) refl (λ x xs. let one : suc (first_place (eqb b) xs) ≡ 1 + first_place (eqb b) xs = omega arith in ap (cond (eqb b x) 0) one) s))

  -- where none is found, there is none
  pub found-none : o ≡ None → IsUncut b s
  found-none e = go (ltb (first_place (eqb b) s) (length s)) refl (sym found-first ∙ e)
    where
      go : (t : Bool) → ltb (first_place (eqb b) s) (length s) ≡ t → cond t (Some (first_place (eqb b) s)) None ≡ None → IsUncut b s
      go true q r = absurd (cc)
      go false q r = ltb-false (first_place (eqb b) s) (length s) q

  -- where one is, it is the first place, inside the text
  pub found-at : {a : ℕ} → o ≡ Some a → (a ≡ first_place (eqb b) s) × (first_place (eqb b) s < length s)
  found-at {a} e = go (ltb (first_place (eqb b) s) (length s)) refl (sym found-first ∙ e)
    where
      go : (t : Bool) → ltb (first_place (eqb b) s) (length s) ≡ t → cond t (Some (first_place (eqb b) s)) None ≡ Some a
          → (a ≡ first_place (eqb b) s) × (first_place (eqb b) s < length s)
      go true q r = (cc, ltb-true (first_place (eqb b) s) (length s) q)
      go false q r = absurd (cc)

-- ---- three cuts

-- the parts of an input, and what lies behind each space
pub record Cuts (s k rest key last word : List ℕ) : Type 0 where
  pub first : k ≡ before space s
  pub behind_first : rest ≡ behind space s
  pub second : key ≡ before space rest
  pub behind_second : last ≡ behind space rest
  pub third : word ≡ before line_feed last

-- what lies before a byte is no longer than the text
before-le : (b : ℕ) (s : List ℕ) → length (before b s) ≤ length s
before-le b s = rw length_before (first_place-le (eqb b) s)

module _ {s k rest key last word : List ℕ} (c : Cuts s k rest key last word) where
  -- they are the parts
  these-parts : parts_of k key word ≡ parts s
  these-parts =
      let r = c.behind_first in
      let l : last ≡ behind space (behind space s) = c.behind_second ∙ ap (behind space) r in
      let m : key ≡ before space (behind space s) = c.second ∙ ap (before space) r in
      let w : word ≡ before line_feed (behind space (behind space s)) = c.third ∙ ap (before line_feed) l in
      ap (λ (u : List ℕ). parts_of u key word) c.first ∙ ap₂ (λ (u v : List ℕ). parts_of (before space s) u v) m w

  -- they are no longer than the input
  pub cuts-short : length k + length key + length word ≤ length s
  cuts-short =
      omega (
        arith,
        ap length c.first,
        ap length c.behind_first,
        ap length c.second,
        ap length c.behind_second,
        ap length c.third,
        before-le space s,
        before-le space rest,
        before-le line_feed last,
        length-behind space s,
        length-behind space rest,
      )

  -- when the input is well formed
  cuts-formed : well_formed s ≡ (eqb (length k + length key + length word + 3) (length s) && proper (parts_of k key word))
  cuts-formed =
      ap (λ (t : Bool). t && proper (parts s)) (line-test s)
      ∙ ap (λ (p : Parts). eqb (length p.k + length p.key + length p.word + 3) (length s) && proper p) (sym these-parts)

  -- where the lengths do not add up, it is not
  cuts-none : (length k + length key + length word + 3 ≡ length s → ⊥) → asked_for s ≡ None
  cuts-none n = rw (cuts-formed, ne_eqb (length k + length key + length word + 3) (length s) n)

  -- where they do, the parts decide
  cuts-whole : length k + length key + length word + 3 ≡ length s → asked_for s ≡ asked_by (parts_of k key word)
  cuts-whole n =
      rw (cuts-formed, eq-eqb (length k + length key + length word + 3) (length s) n) (ap (λ (p : Parts). cond (proper (parts_of k key word)) (Some (asks p)) None) (sym these-parts))

module _ {s k rest : List ℕ} (a : IsCut space s k rest) where
  -- no second one
  pub uncut-second : IsUncut space rest → asked_for s ≡ None
  uncut-second h =
      let last = behind space rest in
      let c : Cuts s k rest (before space rest) last (before line_feed last) = record { first = a.before; behind_first = a.behind; second = refl; behind_second = refl; third = refl } in
      cuts-none c (λ e. omega (arith, ap length a.before, ap length a.behind, length_before space s, length-behind space s, length_before space rest))

  module _ {key last : List ℕ} (b : IsCut space rest key last) where
    -- no line feed
    pub uncut-third : IsUncut line_feed last → asked_for s ≡ None
    uncut-third h =
        let c : Cuts s k rest key last (before line_feed last) = record { first = a.before; behind_first = a.behind; second = b.before; behind_second = b.behind; third = refl } in
        cuts-none c (λ e. omega (arith, ap length a.before, ap length a.behind, ap length b.before, ap length b.behind, length_before space s, length-behind space s, length_before space rest, length-behind space rest, length_before line_feed last))

    module _ {word end : List ℕ} (c : IsCut line_feed last word end) where
      cuts : Cuts s k rest key last word
      cuts = record { first = a.before; behind_first = a.behind; second = b.before; behind_second = b.behind; third = c.before }

      -- how long the input is
      cut-length : length k + length key + length word + length end + 3 ≡ length s
      cut-length =
          omega (
            arith,
            a.inside,
            b.inside,
            c.inside,
            ap length a.before,
            ap length a.behind,
            ap length b.before,
            ap length b.behind,
            ap length c.before,
            ap length c.behind,
            length_before space s,
            length-behind space s,
            length_before space rest,
            length-behind space rest,
            length_before line_feed last,
            length-behind line_feed last,
          )

      -- something behind the line feed
      pub cut-more : (length end ≡ 0 → ⊥) → asked_for s ≡ None
      cut-more n = cuts-none cuts (λ e. n (omega (arith, cut-length)))

      -- nothing behind it
      pub cut-whole : length end ≡ 0 → asked_for s ≡ asked_by (parts_of k key word)
      cut-whole e = cuts-whole cuts (omega (arith, cut-length))
