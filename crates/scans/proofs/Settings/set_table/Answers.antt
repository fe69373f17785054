-- `scans::Settings::set_table` meets its contract: four stores at four places.
-- Assumes nothing.
use Prim.Native.Nat.{ℕ, zero, suc, ◌<◌}
use mathlib.Core.List.{List}
use mathlib.Core.Path.{◌≡◌, ◌∙◌}
use native.Mathlib.Omega.{arith}
use lib.ListN.{length, get_or, set, length-set}
use lib.Seq.{get_or-set_same, get_or-set_other}
use Rattle.definitions.specs.Words.{capitals}
use Rattle.scans.specs.declared.Settings.{Settings}
use Rattle.scans.specs.Readings.{Prepared, brings, Tabled}
use Rattle.scans.proofs.Settings.set_table.Goals as goal

-- at the byte of each letter what was stored there
stored_at : (f : ℕ → ℕ) (t : List ℕ) → length t ≡ 85 → (a : ℕ) → a < 4
    → get_or (set (set (set (set t 65 (f 0)) 67 (f 1)) 71 (f 2)) 84 (f 3)) (get_or capitals a 0) 0 ≡ f a
stored_at f t e zero h =
    get_or-set_other (set (set (set t 65 (f 0)) 67 (f 1)) 71 (f 2)) 84 65 (f 3) 0 (λ n. omega arith)
    ∙ get_or-set_other (set (set t 65 (f 0)) 67 (f 1)) 71 65 (f 2) 0 (λ n. omega arith)
    ∙ get_or-set_other (set t 65 (f 0)) 67 65 (f 1) 0 (λ n. omega arith)
    ∙ get_or-set_same t 65 (f 0) 0 (omega arith)
stored_at f t e (suc zero) h =
    get_or-set_other (set (set (set t 65 (f 0)) 67 (f 1)) 71 (f 2)) 84 67 (f 3) 0 (λ n. omega arith)
    ∙ get_or-set_other (set (set t 65 (f 0)) 67 (f 1)) 71 67 (f 2) 0 (λ n. omega arith)
    ∙ get_or-set_same (set t 65 (f 0)) 67 (f 1) 0 (simp length-set (omega arith))
stored_at f t e (suc (suc zero)) h =
    get_or-set_other (set (set (set t 65 (f 0)) 67 (f 1)) 71 (f 2)) 84 71 (f 3) 0 (λ n. omega arith)
    ∙ get_or-set_same (set (set t 65 (f 0)) 67 (f 1)) 71 (f 2) 0 (simp length-set (omega arith))
stored_at f t e (suc (suc (suc zero))) h = get_or-set_same (set (set (set t 65 (f 0)) 67 (f 1)) 71 (f 2)) 84 (f 3) 0 (simp length-set (omega arith))
stored_at f t e (suc (suc (suc (suc a)))) h = absurd (omega arith)

-- the table with the four stored
tabled : (s : Settings) (t : List ℕ) → Prepared s → length t ≡ 85 → {x y z w : ℕ} → x ≡ brings s 0 → y ≡ brings s 1 → z ≡ brings s 2 → w ≡ brings s 3
    → Tabled s (set (set (set (set t 65 x) 67 y) 71 z) 84 w)
tabled s t p e a b c d =
    rw (a, b, c, d) (record { prepared = p; full = simp length-set e; entries = stored_at (brings s) t e })

pub returns : goal.returns
returns c =
    tabled c.args.self c.args.table.now c.requires.0 c.requires.1 c.brought.ensures c.brought-2.ensures c.brought-3.ensures c.brought-4.ensures
