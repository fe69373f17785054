-- `sizes::products` meets its contract.
-- Assumes nothing.
use Rattle.std.proofs.Common.{ℕ, zero, suc, ◌+◌, ◌-◌, ◌*◌, ◌^◌, ◌≤◌, Bool, true, false, List, ◌≡◌, refl, sym, ap, ◌∙◌, add-one, arith, leb-true, leb-false, leb, get_or}
use Rattle.definitions.specs.Lists.{tabulate, total}
use Rattle.laws.specs.Split.{product_sum}
use Rattle.laws.proofs.Split.{total-last}
use Rattle.sizes.proofs.products.Goals as goal

-- a part of a sum is at most the whole
part-le : (f : ℕ → ℕ) (k n : ℕ) → k ≤ n → total (tabulate f k) ≤ total (tabulate f n)
part-le f k zero h = let e : k ≡ 0 = omega arith in rw e (omega arith)
part-le f k (suc n) h = go (leb k n) refl (part-le f k n)
  where
    go : (t : Bool) → leb k n ≡ t → (k ≤ n → total (tabulate f k) ≤ total (tabulate f n)) → total (tabulate f k) ≤ total (tabulate f (suc n))
    go true q rec = omega (arith, rec (leb-true k n q), total-last f n)
    go false q rec = let e : k ≡ suc n = omega (arith, leb-false k n q) in rw e (omega arith)

-- the sum over one row more
row_more : (n : ℕ) (before after : List ℕ) (a : ℕ) → product_sum n before after (suc a) ≡ product_sum n before after a + get_or before (n - a) 0 * get_or after a 0
row_more n before after a = total-last (λ i. get_or before (n - i) 0 * get_or after i 0) a

-- the sum with one row more is at most 4^31
row_fits : (n : ℕ) (before after : List ℕ) (a : ℕ) → product_sum n before after (suc n) ≤ 4 ^ 31 → a ≤ n
    → product_sum n before after a + get_or before (n - a) 0 * get_or after a 0 ≤ 4 ^ 31
row_fits n before after a h k = omega (arith, row_more n before after a, part-le (λ i. get_or before (n - i) 0 * get_or after i 0) (suc a) (suc n) (omega arith))

pub overflow_mul-sum : goal.overflow_mul-sum
overflow_mul-sum c =
    let sheet = c.args.sheet.now in
    omega (arith, row_fits c.args.n sheet.antemers sheet.postmers c.loop-a.a c.requires.1 (omega arith))

pub overflow_add-sum : goal.overflow_add-sum
overflow_add-sum c =
    let sheet = c.args.sheet.now in
    omega (arith, row_fits c.args.n sheet.antemers sheet.postmers c.loop-a.a c.requires.1 (omega arith))

pub loop-a-preserved : goal.loop-a-preserved
loop-a-preserved c =
    let sheet = c.args.sheet.now in
    rw (c.loop-a.invariant, add-one) (sym (row_more c.args.n sheet.antemers sheet.postmers c.loop-a.a))

pub returns : goal.returns
returns c =
    let end : c.loop-a.a ≡ suc c.args.n = omega arith in
    c.loop-a.invariant ∙ ap (product_sum c.args.n c.args.sheet.now.antemers c.args.sheet.now.postmers) end
