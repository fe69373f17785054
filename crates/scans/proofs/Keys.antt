-- Keyed words: what a letter brings into one when it comes in.
-- Assumes nothing.
use Prim.Native.Nat.{ℕ, zero, suc, ◌+◌, ◌*◌, ◌/◌, ◌%◌, ◌^◌, ◌≤◌, ◌<◌}
use mathlib.Core.Path.{◌≡◌, refl, sym, ap, ◌∙◌}
use native.Mathlib.Nat.{zero-mul, zero-mod, add-zero, mod-lt, one-le-pow, pow-suc, mul-div_cancel, mul-mod_left}
use native.Mathlib.Omega.{arith}
use borrow.Author.Tests.{eqb-true}
use lib.Arith.{digits_div, digits_mod, mod-mul}
use lib.Bits.{bit_xor, xor_block, xor_lt, xor_comm, xor_self, xor_zero_l, xor_shifted, xor_mod}
use lib.Dec.{eqb}
use Rattle.definitions.specs.Lists.{all}
use Rattle.definitions.specs.Words.{letters}
use Rattle.laws.specs.Numbers.{four-pos, four-pow, each-letter, xor-letters, xor-scale}
use Rattle.laws.specs.Rolls.{roll-high}
use Rattle.laws.specs.Stamps.{stamp-room}
use Rattle.scans.specs.declared.Settings.{Settings}
use Rattle.scans.specs.Readings.{top, Prepared, keyed_word, brings}

-- the sum of three letters
letter-assoc : {a b c : ℕ} → a < 4 → b < 4 → c < 4 → bit_xor (bit_xor a b) c ≡ bit_xor a (bit_xor b c)
letter-assoc {a} {b} {c} ha hb hc =
    eqb-true (bit_xor (bit_xor a b) c) (bit_xor a (bit_xor b c))
    (each-letter (λ z. eqb (bit_xor (bit_xor a b) z) (bit_xor a (bit_xor b z)))
    (each-letter (λ y. all (λ z. eqb (bit_xor (bit_xor a y) z) (bit_xor a (bit_xor y z))) letters)
    (each-letter (λ x. all (λ y. all (λ z. eqb (bit_xor (bit_xor x y) z) (bit_xor x (bit_xor y z))) letters) letters) refl ha)
    hb)
    hc)

-- a number by its last letter and the others
parted : (n : ℕ) → n / 4 * 2 ^ 2 + n % 4 ≡ n
parted n = omega arith

-- three numbers with one letter more
assoc-more : (a b c x y z : ℕ) → x < 4 → y < 4 → z < 4 → bit_xor (bit_xor a b) c ≡ bit_xor a (bit_xor b c)
    → bit_xor (bit_xor (a * 2 ^ 2 + x) (b * 2 ^ 2 + y)) (c * 2 ^ 2 + z) ≡ bit_xor (a * 2 ^ 2 + x) (bit_xor (b * 2 ^ 2 + y) (c * 2 ^ 2 + z))
assoc-more a b c x y z hx hy hz e =
    rw (xor_block 2 a b x y hx hy, xor_block 2 b c y z hy hz, xor_block 2 (bit_xor a b) c (bit_xor x y) z (xor_lt 2 x y hx hy) hz, xor_block 2 a (bit_xor b c) x (bit_xor y z) hx (xor_lt 2 y z hy hz), e, letter-assoc hx hy hz)

-- the XOR of three numbers, letter by letter, up to a bound
assoc-upto : (n a b c : ℕ) → a ≤ n → b ≤ n → c ≤ n → bit_xor (bit_xor a b) c ≡ bit_xor a (bit_xor b c)
assoc-upto zero a b c ha hb hc =
    let x : a ≡ 0 = omega arith in
    let y : b ≡ 0 = omega arith in
    let z : c ≡ 0 = omega arith in
    rw (x, y, z)
assoc-upto (suc n) a b c ha hb hc =
    let others = assoc-upto n (a / 4) (b / 4) (c / 4) (omega arith) (omega arith) (omega arith) in
    rw (parted a, parted b, parted c) at (assoc-more (a / 4) (b / 4) (c / 4) (a % 4) (b % 4) (c % 4) (mod-lt a four-pos) (mod-lt b four-pos) (mod-lt c four-pos) others)

-- the XOR of three numbers
xor_assoc : (a b c : ℕ) → bit_xor (bit_xor a b) c ≡ bit_xor a (bit_xor b c)
xor_assoc a b c = assoc-upto (a + b + c) a b c (omega arith) (omega arith) (omega arith)

-- what is added to both of two numbers is undone
xor-both : (a b c : ℕ) → bit_xor (bit_xor a c) (bit_xor b c) ≡ bit_xor a b
xor-both a b c = xor_assoc a c (bit_xor b c) ∙ ap (bit_xor a) (rw (xor_comm b c, ← xor_assoc c c b, xor_self, xor_zero_l))

-- a letter that comes in stands behind the others
behind-others : (m v c : ℕ) → 0 < m → c < 4 → bit_xor (v * 4 % 4 ^ m) c ≡ (v * 4 + c) % 4 ^ m
behind-others zero v c k h = elim k [ ]
behind-others (suc m) v c k h =
    let some : 0 < 4 ^ m = one-le-pow m 4 four-pos in
    rw (pow-suc, mod-mul (v * 4) some four-pos, mod-mul (v * 4 + c) some four-pos, mul-div_cancel v four-pos, mul-mod_left, add-zero, digits_div v h, digits_mod v h)
    (xor_shifted (v % 4 ^ m) 2 c h)

module _ {s : Settings} (p : Prepared s) where
  -- a word that is kept times the side, shifted
  shifted-high : (v : ℕ) → v * s.side * 4 % suc top ≡ v * 4 % 4 ^ s.m * s.side
  shifted-high v =
      rw (zero-mul, add-zero (v * s.side * 4 % (4 ^ s.m * s.side)), add-zero, p.stamps_fit) at (roll-high s.m s.side v 0 p.m_some (omega (arith, p.wide, p.places_fit)) four-pos)

  -- what a letter brings, as letters
  brings-letters : (c : ℕ) → brings s c ≡ bit_xor (bit_xor c s.key) (s.key * 4 % 4 ^ s.m) * s.side
  brings-letters c = rw (p.high_is, shifted-high s.key, p.scales c s.key, p.scales (bit_xor c s.key) (s.key * 4 % 4 ^ s.m))

  -- a shifted sum with the key
  shifted_sum : (v : ℕ) → bit_xor v s.key * 4 % 4 ^ s.m ≡ bit_xor (v * 4 % 4 ^ s.m) (s.key * 4 % 4 ^ s.m)
  shifted_sum v = rw (four-pow s.m, ← xor-scale 2 v s.key, xor_mod (v * 4) (s.key * 4) (2 * s.m))

  -- the keyed word with one letter more
  pub keyed-on : (v c : ℕ) → c < 4 → bit_xor (keyed_word s v * 4 % suc top) (brings s c) ≡ keyed_word s ((v * 4 + c) % 4 ^ s.m)
  keyed-on v c h =
      let a = v * 4 % 4 ^ s.m in
      let k = s.key * 4 % 4 ^ s.m in
      rw (shifted-high (bit_xor v s.key), brings-letters c, p.scales (bit_xor v s.key * 4 % 4 ^ s.m) (bit_xor (bit_xor c s.key) k))
      (ap (λ (n : ℕ). n * s.side) (rw (shifted_sum v) (xor-both a (bit_xor c s.key) k) ∙ sym (xor_assoc a c s.key) ∙ ap (λ (n : ℕ). bit_xor n s.key) (behind-others s.m v c p.m_some h)))

  -- the keyed word of no letters is the key
  pub keyed-none : s.high ≡ keyed_word s (0 % 4 ^ s.m)
  keyed-none = p.high_is ∙ ap (λ (n : ℕ). n * s.side) (sym (xor_zero_l s.key) ∙ ap (λ (n : ℕ). bit_xor n s.key) (sym (zero-mod (4 ^ s.m))))

  -- behind a keyed word every place below the side fits
  pub keyed-room : (v : ℕ) → v < 4 ^ s.m → keyed_word s v + s.side ≤ suc top
  keyed-room v h = stamp-room top s.side (4 ^ s.m) (omega (arith, p.stamps_fit)) (bit_xor v s.key) (xor-letters s.m h p.key_small)
