-- `tukinraso::tukinraso_scan` meets its contract: what the scan into bytes answers is coded as one number.
-- Assumes nothing.
use Rattle.std.specs.Prelude.{ℕ, List, Result, Ok, Err, ◌≡◌, refl}
use Rattle.std.proofs.Common.{ap, arith}
use Rattle.definitions.specs.Outcomes.{Scanned, foreign_scan_outcome, coded}
use Rattle.laws.specs.Accepted.{scan_bytes-small}
use Rattle.refusals.specs.Numbers.{place_in}
use Rattle.refusals.specs.declared.Refusal.{Refusal}
use Rattle.scans.specs.Answers.{scanned}
use Rattle.tukinraso.specs.Answers.{code, foreign_scanned}
use Rattle.tukinraso.proofs.tukinraso_scan.Goals as goal

-- what a scan answers has the place of its outcome
placed : (r : Result ℕ Refusal) (room : List ℕ) → place_in r ≡ (scanned r room).place
placed (Ok n) room = refl
placed (Err r) room = refl

-- and its code is that of its outcome
told : (r : Result ℕ Refusal) (room : List ℕ)
    → foreign_scanned (code r) room ≡ (let o = scanned r room in record { answer = coded o.refusal o.place o.windows; room = o.room })
told (Ok n) room = refl
told (Err r) room = refl

pub coded-requires : goal.coded-requires
coded-requires c =
    let a = c.args in
    let s = c.scan_bytes in
    omega (arith, placed s.result s.new.room, ap (λ (o : Scanned). o.place) s.ensures, (scan_bytes-small a.k a.m a.key a.seq.now a.room.now).1)

pub returns : goal.returns
unfolding foreign_scan_outcome
returns c =
    let s = c.scan_bytes in
    let number : c.coded.result ≡ code s.result = c.coded.ensures in
    rw (number, ← s.ensures) (told s.result s.new.room)
