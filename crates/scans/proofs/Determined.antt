-- The contracts of `scans` take every input, and determine their outcomes: any two that one allows are equal.
-- Assumes nothing.
use Rattle.std.specs.Prelude.{ℕ, Result, Ok, Err, List, ◌≡◌}
use Rattle.std.proofs.Common.{sym, ap, ◌∙◌, arith}
use Rattle.definitions.specs.Outcomes.{Scanned}
use Rattle.laws.specs.Promises.{TakesAll, Determines}
use Rattle.refusals.specs.Numbers.{number-some, same-refusal}
use Rattle.refusals.specs.declared.Refusal.{Refusal}
use Rattle.scans.specs.Answers.{scanned}
use Rattle.scans.proofs.scan.Kinds as scan-kinds
use Rattle.scans.proofs.scan.Reads as scan-reads
use Rattle.scans.proofs.scan_bytes.Kinds as scan-bytes-kinds
use Rattle.scans.proofs.scan_bytes.Reads as scan-bytes-reads

-- two scans with one outcome have one answer and one room
same-scan : (a b : Result ℕ Refusal) (x y : List ℕ) → scanned a x ≡ scanned b y → (a ≡ b) × (x ≡ y)
same-scan (Ok n) (Ok m) x y e = (ap (λ (o : Scanned). Ok o.windows) e, ap (λ (o : Scanned). o.room) e)
same-scan (Ok n) (Err s) x y e = absurd (omega (arith, number-some s, ap (λ (o : Scanned). o.refusal) e))
same-scan (Err r) (Ok m) x y e = absurd (omega (arith, number-some r, ap (λ (o : Scanned). o.refusal) e))
same-scan (Err r) (Err s) x y e =
    (ap Err (same-refusal r s (ap (λ (o : Scanned). o.refusal) e) (ap (λ (o : Scanned). o.place) e)), ap (λ (o : Scanned). o.room) e)

pub scan-takes-all : TakesAll scan-kinds.ps scan-reads.Asked
scan-takes-all κs args = tt

pub scan-determined : Determines scan-kinds.ps scan-kinds.r scan-reads.Post
scan-determined κs args a b x y h g =
    let same = same-scan a b _ _ (h ∙ sym g) in
    (same.0, ap (λ (room : List ℕ). (tt, (tt, (tt, (tt, (room, tt)))))) same.1)

pub scan-bytes-takes-all : TakesAll scan-bytes-kinds.ps scan-bytes-reads.Asked
scan-bytes-takes-all κs args = tt

pub scan-bytes-determined : Determines scan-bytes-kinds.ps scan-bytes-kinds.r scan-bytes-reads.Post
scan-bytes-determined κs args a b x y h g =
    let same = same-scan a b _ _ (h ∙ sym g) in
    (same.0, ap (λ (room : List ℕ). (tt, (tt, (tt, (tt, (room, tt)))))) same.1)
