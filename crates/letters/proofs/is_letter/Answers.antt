-- `letters::is_letter` meets its contract: a byte's letter is below 4 exactly if the byte is one of the four capitals.
-- Assumes nothing.
use mathlib.Core.Bool.{Bool, true, false, cond, ◌||◌}
use mathlib.Core.Path.{◌≡◌, refl}
use Prim.Native.Nat.{suc}
use lib.Dec.{ltb, eqb}
use Rattle.letters.proofs.is_letter.Goals as goal

-- one of four tests holds exactly if the first place at which one holds is below 4
one-of-four : (a b c d : Bool) → (a || b || c || d) ≡ ltb (cond a 0 (suc (cond b 0 (suc (cond c 0 (suc (cond d 0 1))))))) 4
one-of-four true b c d = refl
one-of-four false true c d = refl
one-of-four false false true d = refl
one-of-four false false false true = refl
one-of-four false false false false = refl

pub returns : goal.returns
returns c =
    let b = c.args.byte in
    one-of-four (eqb b 65) (eqb b 67) (eqb b 71) (eqb b 84)
