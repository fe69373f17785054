-- `scans::Settings::new` meets its contract: the side is 4^(32 - m), which is above the places of two blocks, and 4^m times the side is 2^64.
-- Assumes nothing.
use Prim.Native.Nat.{ℕ, suc, ◌+◌, ◌-◌, ◌*◌, ◌^◌, ◌≤◌, ◌<◌}
use mathlib.Core.Path.{◌≡◌, refl, ◌∙◌}
use native.Mathlib.Nat.{pow-le-pow_right, one-le-pow}
use native.Mathlib.Omega.{arith}
use lib.Bits.{and_mask}
use lib.Pow.{pow-add}
use Rattle.laws.specs.Accepted.{OrderAccepted}
use Rattle.laws.specs.Numbers.{four-pos, four-pow, xor-scale, twice-le-four}
use Rattle.laws.specs.Stamps.{stamp-room}
use Rattle.powers.specs.Powers.{power_outcome, power-four}
use Rattle.scans.specs.Readings.{top, SetTo}
use Rattle.scans.proofs.Settings.new.Goals as goal

module _ {k m key side : ℕ} (a : OrderAccepted k m key) (e : side ≡ power_outcome (32 - m)) where
  -- the side is a power of four
  side-is : side ≡ 4 ^ (32 - m)
  side-is = e ∙ power-four (32 - m) (omega (arith, a.m_some))

  -- as many letters as fill 64 bits
  side-fills : 4 ^ m * side ≡ suc top
  side-fills =
      let all : m + (32 - m) ≡ 32 = omega (arith, a.m_fits, a.k_few) in
      rw (side-is, ← pow-add 4 m (32 - m), all)

  -- of 62 bits at most
  side-few : side ≤ 4 ^ 31
  side-few = rw side-is (pow-le-pow_right four-pos {j = 31} (omega (arith, a.m_some)))

  -- it is not 0
  side-some : 0 < side
  side-some = rw side-is (one-le-pow (32 - m) 4 four-pos)

  -- the key times the side fits
  key-high : key * side + side ≤ suc top
  key-high = stamp-room top side (4 ^ m) (omega (arith, side-fills)) key a.key_small

  -- the settings
  set_to : SetTo k m key (record { k = k; m = m; key = key; width = k - m + 1; side = side; high = key * side })
  set_to =
      let bits : side ≡ 2 ^ (2 * (32 - m)) = side-is ∙ four-pow (32 - m) in
      record {
        prepared =
            record {
              m_some = a.m_some;
              wide = omega arith;
              k_is = omega (arith, a.m_fits);
              k_few = a.k_few;
              key_small = a.key_small;
              stamps_fit = side-fills;
              places_fit = rw side-is (omega (arith, twice-le-four (32 - m), a.k_few, a.m_fits));
              side_few = side-few;
              places_are = λ n. rw bits (and_mask n (2 * (32 - m)));
              high_is = refl;
              scales = λ a b. rw bits (xor-scale (2 * (32 - m)) a b);
            };
        k_is = refl;
        m_is = refl;
        key_is = refl;
      }

pub overflow_mul-result : goal.overflow_mul-result
overflow_mul-result c =
    omega (arith, key-high c.requires c.power-side.ensures, side-some c.requires c.power-side.ensures)

pub returns : goal.returns
returns c = set_to c.requires c.power-side.ensures
