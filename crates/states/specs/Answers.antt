-- The outcome of preparing the states of a word, and what the code answered as such.
-- Assumes nothing.
use Rattle.std.specs.Prelude.{ℕ, zero, suc, List, [], ◌∷◌, Result, Ok, Err, ◌≡◌, refl, replicate, take}
use Rattle.std.specs.declared.cmp.Ordering.{Ordering}
use Rattle.std.specs.declared.cmp.Ordering.TheVariants.{Less, Equal, Greater}
use Rattle.std.proofs.Math.Path.{ap}
use Rattle.std.proofs.Common.{sym, ◌∙◌, arith}
use Rattle.definitions.specs.Words.{Word, word as word_of}
use Rattle.definitions.specs.Refusals.{refusal}
use Rattle.definitions.specs.Outcomes.{shelf_grounds}
use Rattle.laws.specs.Numbers.{four-pos, digits-below, length_digits}
use Rattle.laws.specs.Orders.{Ranking, key_ranking, keyed-one-to-one}
use Rattle.laws.specs.Accepted.{word-accepted}
use Rattle.states.specs.Grids.{grid}
use Rattle.states.specs.Tables.{own_of, mark_at, next_at, ban_at, AlphabetsOf, LinksOf}
use Rattle.states.specs.declared.Four as four
use Rattle.states.specs.declared.States.{States}
use Rattle.refusals.specs.declared.Refusal.{Refusal}
use Rattle.refusals.specs.Numbers.{number_of, refusal_in}

-- the entries of a row, in the letters' order
abbrev pub four_of : {E : Type 0} → four.Four E → List E
four_of r = r.a ∷ r.c ∷ r.g ∷ r.t ∷ []

-- what preparing answers: the refusal and the four tables
pub record Prepared : Type 0 where
  pub refusal : ℕ
  pub own : List ℕ
  pub marks : List Ordering
  pub next : List ℕ
  pub ban : List ℕ

-- its answer under a number of refusal
unfoldable pub prepare_answer : ℕ → Ranking → Word → Prepared
prepare_answer zero ρ w = record { refusal = 0; own = own_of w; marks = grid (mark_at ρ w); next = grid (next_at w); ban = grid (ban_at ρ w) }
prepare_answer (suc r) ρ w = record { refusal = suc r; own = replicate 32 0; marks = replicate 128 Less; next = replicate 128 0; ban = replicate 128 0 }

-- the outcome of prepare(k, m, key, word)
unfoldable pub prepare_outcome : ℕ → ℕ → ℕ → ℕ → Prepared
unfolding prepare_answer
prepare_outcome k m key w = prepare_answer (refusal (shelf_grounds k m key w)) (key_ranking (word_of m key)) (word_of m w)

-- case W3, key TAA and word AAA: at the first place A ranks above C, G and T, and at the others below them; so A leads on, to state 3 at
-- most, each other letter leads back to state 0, and is banned as soon as three letters are left
pub prepare-case : (take 16 (prepare_outcome 4 3 48 0).marks ≡ Equal ∷ Less ∷ Less ∷ Less ∷ Equal ∷ Greater ∷ Greater ∷ Greater ∷ Equal ∷ Greater ∷ Greater ∷ Greater ∷ Greater ∷ Greater ∷ Greater ∷ Greater ∷ [])
    × (take 16 (prepare_outcome 4 3 48 0).next ≡ 1 ∷ 0 ∷ 0 ∷ 0 ∷ 2 ∷ 0 ∷ 0 ∷ 0 ∷ 3 ∷ 0 ∷ 0 ∷ 0 ∷ 3 ∷ 0 ∷ 0 ∷ 0 ∷ [])
    × (take 16 (prepare_outcome 4 3 48 0).ban ≡ 64 ∷ 3 ∷ 3 ∷ 3 ∷ 64 ∷ 3 ∷ 3 ∷ 3 ∷ 64 ∷ 3 ∷ 3 ∷ 3 ∷ 64 ∷ 3 ∷ 3 ∷ 3 ∷ [])
unfolding prepare_outcome prepare_answer
prepare-case = (refl, refl, refl)

-- what preparing answered
abbrev pub prepared : Result States Refusal → Prepared
prepared (Ok s) = record { refusal = 0; own = s.own; marks = s.marks; next = s.next; ban = s.ban }
prepared (Err r) = record { refusal = number_of r; own = replicate 32 0; marks = replicate 128 Less; next = replicate 128 0; ban = replicate 128 0 }

-- the states in an outcome
abbrev pub states_in : Prepared → States
states_in o = record { own = o.own; marks = o.marks; next = o.next; ban = o.ban }

-- the outcome has the number of the refusal
pub prepared-refusal : (r : Result States Refusal) → (prepared r).refusal ≡ refusal_in r
prepared-refusal (Ok s) = refl
prepared-refusal (Err r) = refl

-- ---- what was prepared where nothing is refused

-- the refusal of an answer is the one that it was given
prepare_answer-refusal : (r : ℕ) (ρ : Ranking) (w : Word) → (prepare_answer r ρ w).refusal ≡ r
unfolding prepare_answer
prepare_answer-refusal zero ρ w = refl
prepare_answer-refusal (suc r) ρ w = refl

-- the refusal of preparing is that of the shelf
pub prepare-refusal : (k m key w : ℕ) → (prepare_outcome k m key w).refusal ≡ refusal (shelf_grounds k m key w)
unfolding prepare_outcome
prepare-refusal k m key w = prepare_answer-refusal (refusal (shelf_grounds k m key w)) (key_ranking (word_of m key)) (word_of m w)

module _ (k m key w : ℕ) (z : refusal (shelf_grounds k m key w) ≡ 0) where
  -- the tables
  tables : prepare_outcome k m key w ≡ prepare_answer 0 (key_ranking (word_of m key)) (word_of m w)
  unfolding prepare_outcome
  tables = ap (λ (r : ℕ). prepare_answer r (key_ranking (word_of m key)) (word_of m w)) z

  -- the special alphabets are those of the word under the key
  pub prepared-alphabets : AlphabetsOf (key_ranking (word_of m key)) (word_of m w) m (prepare_outcome k m key w).own (prepare_outcome k m key w).marks
  unfolding prepare_answer
  prepared-alphabets =
      let order = (word-accepted m k m key w z).order in
      record {
        word =
            record {
              letters = digits-below four-pos m w;
              long = length_digits 4 m w;
              some = order.m_some;
              few = omega (arith, order.m_fits, order.k_few);
              owns = ap (λ (o : Prepared). o.own) tables;
            };
        one = keyed-one-to-one (word_of m key) (digits-below four-pos m key);
        ranks = ap (λ (o : Prepared). o.marks) tables;
      }

  -- the next states and the bans too
  pub prepared-links : LinksOf (key_ranking (word_of m key)) (word_of m w) (prepare_outcome k m key w).next (prepare_outcome k m key w).ban
  unfolding prepare_answer
  prepared-links = record { nexts = ap (λ (o : Prepared). o.next) tables; bans = ap (λ (o : Prepared). o.ban) tables }

-- the refusal that was answered is that of the shelf
pub prepare-answered : (k m key w : ℕ) (r : Result States Refusal) → prepared r ≡ prepare_outcome k m key w → refusal_in r ≡ refusal (shelf_grounds k m key w)
prepare-answered k m key w r e = sym (prepared-refusal r) ∙ ap (λ (o : Prepared). o.refusal) e ∙ prepare-refusal k m key w

module _ (k m key w : ℕ) {s : States} (e : prepared (Ok s) ≡ prepare_outcome k m key w) where
  -- where states were answered, nothing is refused
  pub prepare-accepted : refusal (shelf_grounds k m key w) ≡ 0
  prepare-accepted = sym (prepare-answered k m key w (Ok s) e)

  -- their special alphabets are those of the word under the key
  pub answered-alphabets : AlphabetsOf (key_ranking (word_of m key)) (word_of m w) m s.own s.marks
  answered-alphabets =
      rw (ap (λ (o : Prepared). o.own) e, ap (λ (o : Prepared). o.marks) e) (prepared-alphabets k m key w prepare-accepted)

  -- and so are their next states and bans
  pub answered-links : LinksOf (key_ranking (word_of m key)) (word_of m w) s.next s.ban
  answered-links = rw (ap (λ (o : Prepared). o.next) e, ap (λ (o : Prepared). o.ban) e) (prepared-links k m key w prepare-accepted)
