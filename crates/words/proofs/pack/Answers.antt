-- `words::pack` meets its contract: each return gives the answer under the number of the first ground whose test held.
-- Assumes nothing.
use Rattle.std.proofs.Common.{ℕ, true, false, length, ◌≡◌, sym, ap, ◌∙◌}
use Rattle.std.proofs.lemmas.Bool.{not-true, not-false}
use Rattle.definitions.specs.Refusals.{refusal, bad_length}
use Rattle.definitions.specs.Outcomes.{pack_grounds, pack_answer, pack_outcome}
use Rattle.laws.specs.Accepted.{pack-accepted}
use Rattle.letters.specs.Readings.{some-bad, none-bad}
use Rattle.words.proofs.pack.Goals as goal
use Rattle.words.proofs.pack.Goals.{Else-not-is_length}

-- where the length passes, it is not refused
long : (c : goal.Else-not-is_length) → (bad_length (length c.args.text.now)).met ≡ false
long c = not-true _ (sym c.is_length.ensures ∙ c.if-not-is_length.false)

pub returns-then-not-is_length : goal.returns-then-not-is_length
unfolding pack_outcome pack_answer
returns-then-not-is_length c =
    let bad : (bad_length (length c.args.text.now)).met ≡ true = not-false _ (sym c.is_length.ensures ∙ c.if-not-is_length.true) in
    rw bad

pub returns-in-Some : goal.returns-in-Some
unfolding pack_outcome pack_answer
returns-in-Some c =
    let bad = some-bad c.args.text.now c.in-Some.ensures in
    rw (long (goal.at.returns-in-Some c).Else-not-is_length, bad.0) (ap (λ (p : ℕ). record { refusal = 6; place = p; word = 0 }) bad.1)

pub read-requires : goal.read-requires
read-requires c =
    let good = none-bad c.args.text.now c.in_default.ensures in
    let passed : refusal (pack_grounds c.args.text.now) ≡ 0 = rw (long (goal.at.read-requires c).Else-not-is_length, good) in
    pack-accepted c.args.text.now passed

pub returns : goal.returns
unfolding pack_outcome pack_answer
returns c =
    let good = none-bad c.args.text.now c.in_default.ensures in
    rw (long (goal.at.returns c).Else-not-is_length, good, c.read.ensures)
