-- `scans::Reading::roll` meets its contract: what goes out is dropped past the highest bits, and what the byte of a letter brings comes in.
-- Assumes nothing.
use Prim.Native.Nat.{ℕ, ◌<◌}
use mathlib.Core.Bool.{true}
use mathlib.Core.List.{List}
use mathlib.Core.Path.{◌≡◌, refl, sym, ap, ◌∙◌}
use native.Mathlib.Omega.{arith}
use borrow.Author.Tests.{ltb-true}
use lib.Dec.{ltb}
use lib.ListN.{get_or}
use Rattle.definitions.specs.Words.{capitals, letter_of, is_letter_byte}
use Rattle.laws.specs.Numbers.{each-letter, letter-written}
use Rattle.scans.specs.declared.Settings.{Settings}
use Rattle.scans.specs.Readings.{brings, Tabled}
use Rattle.scans.proofs.Keys.{keyed-on}
use Rattle.scans.proofs.Letters.{seq-letter}
use Rattle.scans.proofs.Reading.roll.Goals as goal

module _ (byte : ℕ) (e : is_letter_byte byte ≡ true) where
  -- the letter of the byte
  letter : letter_of byte < 4
  letter = ltb-true (letter_of byte) 4 e

  -- the table has a place for the byte
  small : byte < 85
  small =
      let b : get_or capitals (letter_of byte) 0 < 85 =
      ltb-true (get_or capitals (letter_of byte) 0) 85 (each-letter (λ a. ltb (get_or capitals a 0) 85) refl letter) in
      omega (arith, letter-written {c = byte} e)

  -- what stands there
  looked-up : {s : Settings} {table : List ℕ} → Tabled s table → get_or table byte 0 ≡ brings s (letter_of byte)
  looked-up {table = table} t = ap (λ (n : ℕ). get_or table n 0) (sym (letter-written {c = byte} e)) ∙ t.entries (letter_of byte) letter

pub bounds-self-byte : goal.bounds-self-byte
bounds-self-byte c =
    let x = c.args.self.now in
    small (get_or x.seq.now c.args.place 0) (seq-letter x.settings x.seq.now x.readable c.args.place c.requires)

pub returns : goal.returns
returns c =
    let x = c.args.self.now in
    let byte = get_or x.seq.now c.args.place 0 in
    let letters = seq-letter x.settings x.seq.now x.readable c.args.place c.requires in
    λ v e. rw (e, looked-up byte letters x.tabled) (keyed-on x.readable.prepared v (letter_of byte) (letter byte letters))
