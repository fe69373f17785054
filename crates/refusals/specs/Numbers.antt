-- The number of each refusal (document 01, "Numbers of refusal"), the place beside it, and what they tell.
-- Assumes nothing.
use Rattle.std.specs.Prelude.{ℕ, zero, suc, ◌≤◌, ◌<◌, Bool, true, false, cond, not, Result, Ok, Err, List, [], ◌∷◌, ◌≡◌, refl, eqb, leb}
use Rattle.std.proofs.Common.{sym, ap, ap₂, ◌∙◌, arith, eq-eqb, leb-true}
use Rattle.definitions.specs.Lists.{all}
use Rattle.definitions.specs.Refusals.{Ground, refusal}
use Rattle.laws.specs.Tests.{contrary, and_l, and_r}
use Rattle.refusals.specs.declared.Refusal.{Refusal}
use Rattle.refusals.specs.declared.Refusal.TheVariants.{K, M, Key, Word, Sequence, Letter, Room, Start, Counter, Line}

-- the number of a refusal
abbrev pub number_of : Refusal → ℕ
number_of K = 1
number_of M = 2
number_of Key = 3
number_of Word = 4
number_of Sequence = 5
number_of (Letter _) = 6
number_of Room = 7
number_of Start = 8
number_of Counter = 9
number_of Line = 10

-- the place of a bad letter; 0 beside any other refusal
abbrev pub place_of : Refusal → ℕ
place_of K = 0
place_of M = 0
place_of Key = 0
place_of Word = 0
place_of Sequence = 0
place_of (Letter place) = place
place_of Room = 0
place_of Start = 0
place_of Counter = 0
place_of Line = 0

-- the number of the refusal that an operation answered; 0 where it refused nothing
abbrev pub refusal_in : {A : Type 0} → Result A Refusal → ℕ
refusal_in (Ok _) = 0
refusal_in (Err r) = number_of r

-- the place of a bad letter that an operation answered; 0 where it answered none
abbrev pub place_in : {A : Type 0} → Result A Refusal → ℕ
place_in (Ok _) = 0
place_in (Err r) = place_of r

-- ---- number and place tell the refusal

-- the refusal of a number and a place
abbrev pub refusal_of : ℕ → ℕ → Refusal
refusal_of (suc zero) _ = K
refusal_of (suc (suc zero)) _ = M
refusal_of (suc (suc (suc zero))) _ = Key
refusal_of (suc (suc (suc (suc zero)))) _ = Word
refusal_of (suc (suc (suc (suc (suc zero))))) _ = Sequence
refusal_of (suc (suc (suc (suc (suc (suc zero)))))) place = Letter place
refusal_of (suc (suc (suc (suc (suc (suc (suc zero))))))) _ = Room
refusal_of (suc (suc (suc (suc (suc (suc (suc (suc zero)))))))) _ = Start
refusal_of (suc (suc (suc (suc (suc (suc (suc (suc (suc zero))))))))) _ = Counter
refusal_of _ _ = Line

-- it is the refusal that has them
refusal_of-number : (r : Refusal) → refusal_of (number_of r) (place_of r) ≡ r
refusal_of-number K = refl
refusal_of-number M = refl
refusal_of-number Key = refl
refusal_of-number Word = refl
refusal_of-number Sequence = refl
refusal_of-number (Letter _) = refl
refusal_of-number Room = refl
refusal_of-number Start = refl
refusal_of-number Counter = refl
refusal_of-number Line = refl

-- two refusals with one number and one place are one
pub same-refusal : (a b : Refusal) → number_of a ≡ number_of b → place_of a ≡ place_of b → a ≡ b
same-refusal a b n p = sym (refusal_of-number a) ∙ ap₂ refusal_of n p ∙ refusal_of-number b

-- no refusal has number 0
pub number-some : (r : Refusal) → 0 < number_of r
number-some K = omega arith
number-some M = omega arith
number-some Key = omega arith
number-some Word = omega arith
number-some Sequence = omega arith
number-some (Letter _) = omega arith
number-some Room = omega arith
number-some Start = omega arith
number-some Counter = omega arith
number-some Line = omega arith

-- beside no refusal but 6 stands a place
pub place-other : (r : Refusal) → (number_of r ≡ 6 → ⊥) → place_of r ≡ 0
place-other K h = refl
place-other M h = refl
place-other Key h = refl
place-other Word h = refl
place-other Sequence h = refl
place-other (Letter _) h = absurd (h refl)
place-other Room h = refl
place-other Start h = refl
place-other Counter h = refl
place-other Line h = refl

-- the same of what an operation answered
pub place-none : {A : Type 0} (r : Result A Refusal) → (refusal_in r ≡ 6 → ⊥) → place_in r ≡ 0
place-none (Ok _) h = refl
place-none (Err r) h = place-other r h

-- ---- an outcome tells the answer

-- a view of answers as outcomes, of which each has the number of the refusal and, where nothing is refused, the value
module _ {A Outcome : Type 0} (view : Result A Refusal → Outcome) (number : Outcome → ℕ) (value : Outcome → A)
    (numbered : (r : Result A Refusal) → number (view r) ≡ refusal_in r) (valued : (x : A) → value (view (Ok x)) ≡ x) where
  -- two answers with one outcome and one place are one
  pub same-answer : (a b : Result A Refusal) → view a ≡ view b → place_in a ≡ place_in b → a ≡ b
  same-answer (Ok x) (Ok y) e p = ap Ok (sym (valued x) ∙ ap value e ∙ valued y)
  same-answer (Ok x) (Err s) e p = absurd (omega (arith, number-some s, sym (numbered (Ok x)) ∙ ap number e ∙ numbered (Err s)))
  same-answer (Err r) (Ok y) e p = absurd (omega (arith, number-some r, sym (numbered (Err r)) ∙ ap number e ∙ numbered (Ok y)))
  same-answer (Err r) (Err s) e p = ap Err (same-refusal r s (sym (numbered (Err r)) ∙ ap number e ∙ numbered (Err s)) p)

-- ---- which numbers a list of grounds can give

-- no ground of a list has a number
abbrev pub lacks : ℕ → List Ground → Bool
lacks n gs = all (λ g. not (eqb g.number (suc n))) gs

-- then the list does not give it
pub refusal-lacks : (n : ℕ) (gs : List Ground) → lacks n gs ≡ true → refusal gs ≡ suc n → ⊥
refusal-lacks n [] h e = absurd (omega (arith, e))
refusal-lacks n (g ∷ gs) h e = go g.met e (λ k. refusal-lacks n gs (and_r (not (eqb g.number (suc n))) (lacks n gs) h) k)
  where
    go : (t : Bool) → cond t g.number (refusal gs) ≡ suc n → (refusal gs ≡ suc n → ⊥) → ⊥
    go true q rec =
        contrary (not (eqb g.number (suc n))) (and_l (not (eqb g.number (suc n))) (lacks n gs) h) (ap not (eq-eqb g.number (suc n) q))
    go false q rec = rec q

-- ---- where no letter is read

module _ {A Outcome : Type 0} (view : Result A Refusal → Outcome) (number : Outcome → ℕ) (value : Outcome → A)
    (numbered : (r : Result A Refusal) → number (view r) ≡ refusal_in r) (valued : (x : A) → value (view (Ok x)) ≡ x) where
  -- two answers with one outcome, whose number is that of grounds without 6, are one
  pub same-placeless : (gs : List Ground) → lacks 5 gs ≡ true → {o : Outcome} → number o ≡ refusal gs → (a b : Result A Refusal) → view a ≡ o
      → view b ≡ o → a ≡ b
  same-placeless gs free e a b p q =
      same-answer view number value numbered valued a b (p ∙ sym q)
      (place-none a (λ s. refusal-lacks 5 gs free (sym e ∙ ap number (sym p) ∙ numbered a ∙ s))
      ∙ sym (place-none b (λ s. refusal-lacks 5 gs free (sym e ∙ ap number (sym q) ∙ numbered b ∙ s))))

-- two answers with no value beside the refusal, by grounds without 6, are one
pub same-refused : (gs : List Ground) → lacks 5 gs ≡ true → (a b : Result Unit Refusal) → refusal_in a ≡ refusal gs → refusal_in b ≡ refusal gs → a ≡ b
same-refused gs free a b p q = same-placeless refusal_in (λ n. n) (λ n. tt) (λ r. refl) (λ u. refl) gs free refl a b p q

-- ---- from an outcome to an answer

-- the answer by a number of refusal: a refusal with no place, or where the number is 0 a value
abbrev pub given : {A : Type 0} → ℕ → A → Result A Refusal
given zero x = Ok x
given (suc n) x = Err (refusal_of (suc n) 0)

-- up to 10 it has that number
pub number-given : {A : Type 0} (n : ℕ) (x : A) → n ≤ 10 → refusal_in (given n x) ≡ n
number-given zero x h = refl
number-given (suc zero) x h = refl
number-given (suc (suc zero)) x h = refl
number-given (suc (suc (suc zero))) x h = refl
number-given (suc (suc (suc (suc zero)))) x h = refl
number-given (suc (suc (suc (suc (suc zero))))) x h = refl
number-given (suc (suc (suc (suc (suc (suc zero)))))) x h = refl
number-given (suc (suc (suc (suc (suc (suc (suc zero))))))) x h = refl
number-given (suc (suc (suc (suc (suc (suc (suc (suc zero)))))))) x h = refl
number-given (suc (suc (suc (suc (suc (suc (suc (suc (suc zero))))))))) x h = refl
number-given (suc (suc (suc (suc (suc (suc (suc (suc (suc (suc zero)))))))))) x h = refl
number-given (suc (suc (suc (suc (suc (suc (suc (suc (suc (suc (suc n))))))))))) x h = absurd (omega arith)

-- grounds with no number above 10 give none
pub refusal-most : (gs : List Ground) → all (λ g. leb g.number 10) gs ≡ true → refusal gs ≤ 10
refusal-most [] h = omega arith
refusal-most (g ∷ gs) h = go g.met (leb-true g.number 10 (and_l (leb g.number 10) rest h)) (refusal-most gs (and_r (leb g.number 10) rest h))
  where
    rest : Bool
    rest = all (λ f. leb f.number 10) gs

    go : (t : Bool) → g.number ≤ 10 → refusal gs ≤ 10 → cond t g.number (refusal gs) ≤ 10
    go true a b = a
    go false a b = b
