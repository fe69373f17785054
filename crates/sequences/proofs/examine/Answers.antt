-- `sequences::examine` meets its contract: each return gives the number of the first ground whose test held, and what stands beside it.
-- Assumes nothing.
use Rattle.std.specs.Prelude.{ℕ, zero, suc, ◌-◌, ◌≤◌, Bool, cond, None, not, List, [], ◌∷◌, Err, ◌≡◌, refl, eqb, ltb, length}
use Rattle.std.proofs.Common.{sym, ◌∙◌, arith}
use Rattle.std.proofs.lemmas.Result.{err_from_is_err_and}
use borrow.Author.Tests.{ne_eqb, lt-ltb, le-ltb}
use Rattle.definitions.specs.Lists.{all}
use Rattle.definitions.specs.Words.{is_letter_byte}
use Rattle.definitions.specs.Vigemins.{windows}
use Rattle.definitions.specs.Refusals.{Ground, refusal, bad_key, bad_sequence, bad_letter, bad_room, place_beside}
use Rattle.definitions.specs.Outcomes.{order_grounds}
use Rattle.laws.specs.Minima.{length-windows}
use Rattle.laws.specs.Refusals.{refusal-append, refusal-most}
use Rattle.letters.specs.Readings.{bad_place, some-bad, none-bad}
use Rattle.refusals.specs.Numbers.{number_of, place_of, number-some, place-other}
use Rattle.refusals.specs.declared.Refusal.{Refusal}
use Rattle.refusals.specs.declared.Refusal.TheVariants.{Letter}
use Rattle.sequences.specs.Answers.{examined, examine_grounds, examine_answer, examine_outcome}
use Rattle.sequences.proofs.examine.Goals as goal

-- beside a refusal stand the place that goes with it and no windows
refused : (r : Refusal) (n : ℕ) → number_of r ≡ n → (k : ℕ) (s : List ℕ) → place_of r ≡ place_beside n s → examined (Err r) ≡ examine_answer n k s
unfolding examine_answer
refused r zero e k s p = absurd (omega (arith, number-some r))
refused r (suc n) e k s p = rw (e, p)

-- the grounds after those of k, m and the key
abbrev rest : ℕ → List ℕ → ℕ → List Ground
rest k s takes = bad_sequence (length s) ∷ bad_letter s ∷ bad_room (length (windows k s)) takes ∷ []

-- the refusal is that of k, m and the key or, where that is 0, that of the other grounds
given : (k m key : ℕ) (s : List ℕ) (takes : ℕ) {r : ℕ} → r ≡ refusal (order_grounds k m (bad_key m key))
    → refusal (examine_grounds k m key s takes) ≡ cond (eqb r 0) (refusal (rest k s takes)) r
given k m key s takes e = refusal-append (order_grounds k m (bad_key m key)) (rest k s takes) (omega arith) (sym e)

-- where k, m, the key and the length are good, the letters and the room are left to be tested
left : (k m key : ℕ) (s : List ℕ) (takes : ℕ) → 0 ≡ refusal (order_grounds k m (bad_key m key)) → length s ≤ 65536 → {bad full : Bool}
    → not (all is_letter_byte s) ≡ bad → ltb takes (suc (length s) - k) ≡ full → refusal (examine_grounds k m key s takes) ≡ cond bad 6 (cond full 7 0)
left k m key s takes g h e f = given k m key s takes g ∙ rw (le-ltb 65536 (length s) h, e, length-windows, f)

pub returns-in_err-order_refusal : goal.returns-in_err-order_refusal
unfolding examine_outcome
returns-in_err-order_refusal c =
    let a = c.args in
    let r = c.in_err-order_refusal.field-0.0 in
    let e : number_of r ≡ refusal (order_grounds a.k a.m (bad_key a.m a.key)) = c.in_err-order_refusal.ensures in
    let low : number_of r ≤ 3 = rw e (refusal-most 3 (order_grounds a.k a.m (bad_key a.m a.key)) refl) in
    let some = number-some r in
    let p = err_from_is_err_and c.from_residual.result c.from_residual.ensures.1 in
    rw (p.1, p.2, given a.k a.m a.key a.seq.now a.takes e, ne_eqb (number_of r) 0 (λ z. omega arith))
    (refused r (number_of r) refl a.k a.seq.now (place-other r (λ z. omega arith) ∙ rw (ne_eqb (number_of r) 6 (λ z. omega arith))))

pub returns-then-n-gt65536 : goal.returns-then-n-gt65536
unfolding examine_outcome examine_answer
returns-then-n-gt65536 c =
    let a = c.args in
    let e = given a.k a.m a.key a.seq.now a.takes c.in_ok-order_refusal.ensures in
    rw (e, lt-ltb 65536 (length a.seq.now) c.if-n-gt65536.true)

pub returns-in-Some : goal.returns-in-Some
unfolding examine_outcome
returns-in-Some c =
    let a = c.args in
    let s = a.seq.now in
    let bad = some-bad s c.in-Some.ensures in
    rw (left a.k a.m a.key s a.takes c.in_ok-order_refusal.ensures (omega arith) bad.0 refl) (refused (Letter c.in-Some.bad) 6 refl a.k s bad.1)

-- where the letters are good only the room is left
fine : (k m key : ℕ) (s : List ℕ) (takes : ℕ) → 0 ≡ refusal (order_grounds k m (bad_key m key)) → length s ≤ 65536 → None ≡ bad_place s
    → {w : ℕ} → w ≡ suc (length s) - k → {full : Bool} → ltb takes w ≡ full → refusal (examine_grounds k m key s takes) ≡ cond full 7 0
fine k m key s takes g h b e f = left k m key s takes g h (none-bad s b) (rw e at f)

pub returns-then-takes-windows : goal.returns-then-takes-windows
unfolding examine_outcome examine_answer
returns-then-takes-windows c =
    let a = c.args in
    let w = c.window_count-windows.ensures in
    rw (fine a.k a.m a.key a.seq.now a.takes c.in_ok-order_refusal.ensures (omega arith) c.in_default.ensures w (lt-ltb _ _ c.if-takes-windows.true))

pub returns : goal.returns
unfolding examine_outcome examine_answer
returns c =
    let a = c.args in
    let w = c.window_count-windows.ensures in
    let e = fine a.k a.m a.key a.seq.now a.takes c.in_ok-order_refusal.ensures (omega arith) c.in_default.ensures w (le-ltb _ _ c.if-takes-windows.false) in
    rw (e, length-windows, w)
