-- A scan agrees with the vigemin of each window, and the size with the worksheet.
-- Assumes nothing.
use Rattle.std.specs.Prelude.{ℕ, suc, ◌+◌, ◌-◌, ◌*◌, ◌≤◌, ◌<◌, List, ◌≡◌, length, get_or, take, drop}
use Rattle.std.proofs.Common.{sym, ap, ap₂, ◌∙◌, arith}
use Rattle.std.proofs.lemmas.List.{length-map}
use Rattle.std.proofs.Math.ListN.{get_or-append}
use Rattle.definitions.specs.Lists.{tabulate, total}
use Rattle.definitions.specs.Words.{val, word, letter_of, spelled}
use Rattle.definitions.specs.Vigemins.{Form, keyed, vigemin, scan}
use Rattle.definitions.specs.Shelves.{size, antemers, postmers, column}
use Rattle.definitions.specs.Refusals.{refusal}
use Rattle.definitions.specs.Outcomes.{Packed, Worked, shelf_grounds, worksheet_answer, worksheet_outcome, scan_outcome}
use Rattle.laws.specs.Numbers.{four-pos, digits-below, length_digits}
use Rattle.laws.specs.Minima.{length-stretch, map-stretch, length-windows}
use Rattle.laws.specs.Filters.{tabulate-agree}
use Rattle.laws.specs.Split.{product_sum, column-at}
use Rattle.laws.proofs.Split.{keyed-size-sum}
use Rattle.laws.specs.Scans.{length-scan, scan-at, scan-inside, scan-word}
use Rattle.laws.specs.Accepted.{ShelfAccepted, word-accepted, PackAccepted, VigeminAccepted, ScanAccepted}
use Rattle.laws.specs.RoundTrips.{pack-outcome, vigemin-outcome, scan-outcome, scanned-accepted, packed-word, packed-small, packed_at, scanned_at, WindowAgrees, stretch-packed}

-- ---- a scan and the vigemin of each window

module _ (k m key : ℕ) (s room : List ℕ) (p : ℕ) (a : ScanAccepted k m key s 1 room) (h : p + k ≤ length s) where
  window-packed : PackAccepted (take k (drop p s))
  window-packed = stretch-packed k s p a.order.k_some a.order.k_few h a.all_letters

  window-word : word k (packed_at k s p) ≡ take k (drop p (spelled s))
  window-word = packed-word window-packed (length-stretch k s p h) ∙ map-stretch letter_of k s p

  window-found : VigeminAccepted k m key (packed_at k s p)
  window-found = record { order = a.order; small = packed-small window-packed (length-stretch k s p h) }

  long : p + k ≤ length (spelled s)
  long = rw length-map h

  abbrev f : Form
  f = keyed (word m key)

  abbrev q : ℕ
  q = get_or (scan f k m (spelled s)) p 0

  written : scanned_at k m key s room p ≡ q
  written = rw (scan-outcome a) (get_or-append (scan f k m (spelled s)) _ 0 p (rw (length-scan, length-map) (omega arith)))

  position-packed : PackAccepted (take m (drop q s))
  position-packed =
      stretch-packed m s q a.order.m_some (omega arith) (omega (arith, scan-inside f k m (spelled s) p a.order.m_fits long)) a.all_letters

  position-word : packed_at m s q ≡ val (vigemin f m (take k (drop p (spelled s))))
  position-word =
      ap (λ (o : Packed). o.word) (pack-outcome position-packed)
      ∙ ap val (map-stretch letter_of m s q ∙ scan-word f k m (spelled s) p a.order.m_fits long)

  window-agrees : WindowAgrees k m key s room p
  window-agrees =
      record {
        packs = rw (pack-outcome window-packed);
        finds = rw (vigemin-outcome window-found);
        position = rw (written, vigemin-outcome window-found, window-word) (scan-at f k m (spelled s) p long);
        word = rw (written, vigemin-outcome window-found, window-word) (sym position-word);
      }

-- each window of a scan agrees with packing and the vigemin
pub scan-vigemin : (k m key : ℕ) (s room : List ℕ) (p : ℕ) → (scan_outcome k m key s room).refusal ≡ 0 → p < (scan_outcome k m key s room).windows
    → WindowAgrees k m key s room p
scan-vigemin k m key s room p z b =
    let a : ScanAccepted k m key s 1 room = scanned-accepted k m key s room z in
    let c : p < suc (length s) - k = rw (scan-outcome a, length-windows) at b in
    window-agrees k m key s room p a (omega arith)

-- ---- the size and the worksheet

module _ {k m key w : ℕ} (a : ShelfAccepted k m key w) where
  -- the sum of products over its columns is the size
  products-size : {before after : List ℕ} → before ≡ column k m (antemers (keyed (word m key)) (word m w))
      → after ≡ column k m (postmers (keyed (word m key)) (word m w)) → product_sum (k - m) before after (suc (k - m)) ≡ size (keyed (word m key)) k (word m w)
  products-size {before} {after} e f =
      ap total
      (tabulate-agree (suc (k - m))
      (λ i h. ap₂ (λ (x y : ℕ). x * y)
      (ap (λ (l : List ℕ). get_or l (k - m - i) 0) e ∙ column-at k m (antemers (keyed (word m key)) (word m w)) (k - m - i) (omega (arith, fits)) (omega (arith, few)))
      (ap (λ (l : List ℕ). get_or l i 0) f ∙ column-at k m (postmers (keyed (word m key)) (word m w)) i (omega (arith, fits)) (omega (arith, few)))))
      ∙ sym (keyed-size-sum (word m key) (word m w) (digits-below four-pos m key) (digits-below four-pos m w) (rw long a.order.m_some) k (rw long fits)
      ∙ ap (λ (n : ℕ). total (tabulate (λ i. antemers (keyed (word m key)) (word m w) (k - n - i) * postmers (keyed (word m key)) (word m w) i) (suc (k - n)))) long)
    where
      long : length (word m w) ≡ m
      long = length_digits 4 m w

      fits : m ≤ k
      fits = a.order.m_fits

      few : k - m ≤ 30
      few = omega (arith, a.order.k_few, a.order.m_some)

-- the sum of products over a worksheet is the size
pub worksheet-size : (k m key w : ℕ) {o : Worked} → o ≡ worksheet_outcome k m key w → refusal (shelf_grounds k m key w) ≡ 0
    → product_sum (k - m) o.antemers o.postmers (suc (k - m)) ≡ size (keyed (word m key)) k (word m w)
unfolding worksheet_outcome worksheet_answer
worksheet-size k m key w e z =
    let worked = e ∙ ap (λ (r : ℕ). worksheet_answer r (keyed (word m key)) k m (word m w)) z in
    products-size (word-accepted m k m key w z) (ap (λ (x : Worked). x.antemers) worked) (ap (λ (x : Worked). x.postmers) worked)
