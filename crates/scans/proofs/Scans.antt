-- A scan's answer, for any entries that stand for the positions: what was examined tells it, and where there is a window nothing is refused.
-- Assumes nothing.
use Rattle.std.specs.Prelude.{ℕ, zero, suc, ◌-◌, ◌*◌, ◌/◌, ◌≤◌, ◌<◌, Result, Ok, Err, Bool, List, [], ◌∷◌, ◌++◌, ◌≡◌, refl, ltb, length}
use Rattle.std.proofs.Common.{ap, ◌∙◌, arith, mul-le-mul_left, div-one, one-mul, ltb-true, ltb-false}
use Rattle.std.proofs.lemmas.Bool.{not-false}
use Rattle.std.proofs.lemmas.List.{length-map}
use Rattle.std.proofs.Math.Nat.{mul-div-le}
use borrow.Author.Tests.{lt-ltb}
use Rattle.definitions.specs.Lists.{all, over}
use Rattle.definitions.specs.Words.{bytes, is_letter_byte, spelled, word as word_of}
use Rattle.definitions.specs.Vigemins.{Form, keyed, windows, positions, scan}
use Rattle.definitions.specs.Refusals.{Ground, bad_key, bad_sequence, bad_letter, bad_room, refusal, ◌when◌}
use Rattle.definitions.specs.Outcomes.{order_grounds, sequence_grounds, scan_grounds, scan_answer, as_bytes}
use Rattle.laws.specs.Accepted.{OrderAccepted, order-accepted}
use Rattle.laws.specs.Filters.{joined}
use Rattle.laws.specs.Minima.{length-windows, windows-none}
use Rattle.laws.specs.Refusals.{refusal-unmet}
use Rattle.laws.specs.Tests.{test-ext}
use Rattle.refusals.specs.Numbers.{number-some}
use Rattle.sequences.specs.Answers.{Examined, examined, examine_grounds, examine_answer, examine_outcome}
use Rattle.scans.specs.declared.Settings.{Settings}
use Rattle.scans.specs.Readings.{SetTo, Writable}
use Rattle.scans.specs.Answers.{scanned, positions_written}

-- ---- what is written

-- a sequence without windows has no positions
pub none-scanned : (f : Form) (k m : ℕ) (s : List ℕ) → length (windows k s) ≡ 0 → scan f k m (spelled s) ≡ []
none-scanned f k m s e =
    let short : length (spelled s) < k = rw length-map (omega (arith, length-windows k s)) in
    ap (positions f m 0) (windows-none k (spelled s) short)

-- what was accepted: nothing is refused, and there are so many windows
accepted : (n : ℕ) (k : ℕ) (s : List ℕ) {w : ℕ} → examined (Ok w) ≡ examine_answer n k s → (n ≡ 0) × (w ≡ length (windows k s))
unfolding examine_answer
accepted zero k s e = (refl, ap (λ (o : Examined). o.windows) e)
accepted (suc n) k s e = absurd (omega (arith, ap (λ (o : Examined). o.refusal) e))

-- the grounds after those of k, m and the key
abbrev rest : ℕ → List ℕ → ℕ → List Ground
rest k s takes = bad_sequence (length s) ∷ bad_letter s ∷ bad_room (length (windows k s)) takes ∷ []

module _ (k m key : ℕ) (seq : List ℕ) (takes : ℕ) {w : ℕ} (e : examined (Ok w) ≡ examine_outcome k m key seq takes) where
  -- nothing is refused, and there are so many windows
  given : (refusal (examine_grounds k m key seq takes) ≡ 0) × (w ≡ length (windows k seq))
  unfolding examine_outcome
  given = accepted (refusal (examine_grounds k m key seq takes)) k seq e

  -- so many windows
  pub counted : w ≡ length (windows k seq)
  counted = given.1

  -- k, m and the key are such as a scan accepts
  pub order : OrderAccepted k m key
  order =
      order-accepted k m key (refusal-unmet (order_grounds k m (bad_key m key)) (rest k seq takes) (omega arith) given.0).0

  -- what is written can be, where there is a window and the room takes so many
  pub writable : {each room : ℕ} → takes ≡ room / each → 0 < w → {s : Settings} → SetTo k m key s → Writable s seq w each room
  writable {each} {room} q some {s} t =
      let u = refusal-unmet (order_grounds k m (bad_key m key)) (rest k seq takes) (omega arith) given.0 in
      let n : w ≡ suc (length seq) - k = counted ∙ length-windows k seq in
      let short : length seq ≤ 65536 = omega (arith, ltb-false) in
      let fits : length (windows k seq) ≤ room / each = omega (arith, ltb-false) in
      record {
        readable = record { prepared = t.prepared; all_letters = not-false (all is_letter_byte seq) u.1.1.0; short = short; long = omega (arith, t.k_is) };
        some = some;
        all = omega (arith, t.k_is);
        fits = rw counted (omega (arith, mul-le-mul_left each fits, mul-div-le room each));
      }

-- ---- the answer

-- what was examined and what was written tell the answer, by the refusal
answered : (n : ℕ) (entries : List ℕ → List ℕ) → entries [] ≡ [] → (k m key : ℕ) (s room : List ℕ) {new : List ℕ} (r : Result ℕ _)
    → examined r ≡ examine_answer n k s → new ≡ over (entries (positions_written k m key s r)) room
    → scanned r new ≡ scan_answer n entries (keyed (word_of m key)) k m s room
unfolding scan_answer examine_answer
answered zero entries none k m key s room (Ok w) e o = rw (o, ap (λ (x : Examined). x.windows) e)
answered zero entries none k m key s room (Err r) e o = absurd (omega (arith, number-some r, ap (λ (x : Examined). x.refusal) e))
answered (suc n) entries none k m key s room (Ok w) e o = absurd (omega (arith, ap (λ (x : Examined). x.refusal) e))
answered (suc n) entries none k m key s room (Err r) e o = rw (o, none, ap (λ (x : Examined). x.refusal) e, ap (λ (x : Examined). x.place) e)

-- where the room takes fewer than w windows exactly if it has fewer than each·w entries, the refusal is that of the scan
pub whole : (entries : List ℕ → List ℕ) → entries [] ≡ [] → (k m key : ℕ) (s : List ℕ) (each : ℕ) (room : List ℕ) (takes : ℕ)
    → ((w : ℕ) → ltb takes w ≡ ltb (length room) (each * w)) → {new : List ℕ} (r : Result ℕ _) → examined r ≡ examine_outcome k m key s takes
    → new ≡ over (entries (positions_written k m key s r)) room
    → scanned r new ≡ scan_answer (refusal (scan_grounds k m key s each room)) entries (keyed (word_of m key)) k m s room
unfolding examine_outcome
whole entries none k m key s each room takes same r e o =
    let known : examined r ≡ examine_answer (refusal (scan_grounds k m key s each room)) k s = e
    ∙ ap (λ (t : Bool). examine_answer (refusal (sequence_grounds k m key s ++ ((7 when t) ∷ []))) k s) (same (length (windows k s))) in
    answered (refusal (scan_grounds k m key s each room)) entries none k m key s room r known o

-- room of positions takes as many windows as it has entries
pub takes-positions : (n w : ℕ) → ltb (n / 1) w ≡ ltb n (1 * w)
takes-positions n w = rw (div-one, one-mul)

-- room of bytes takes a quarter as many
pub takes-bytes : (n w : ℕ) → ltb (n / 4) w ≡ ltb n (4 * w)
takes-bytes n w =
    test-ext (ltb (n / 4) w) (ltb n (4 * w)) (λ e. lt-ltb n (4 * w) (omega (arith, ltb-true (n / 4) w e)))
    (λ e. lt-ltb (n / 4) w (omega (arith, ltb-true n (4 * w) e)))

-- the entries of positions as they are
pub joined-positions : (ps : List ℕ) → joined (λ p. p ∷ []) ps ≡ ps
joined-positions [] = refl
joined-positions (p ∷ ps) = ap (λ (l : List ℕ). p ∷ l) (joined-positions ps)

-- the entries of positions as bytes
pub joined-bytes : (ps : List ℕ) → joined (bytes 4) ps ≡ as_bytes ps
joined-bytes [] = refl
joined-bytes (p ∷ ps) = ap (λ (l : List ℕ). bytes 4 p ++ l) (joined-bytes ps)
