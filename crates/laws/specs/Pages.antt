-- Walking a shelf by its table, for pages: the k-mer at a place, the place of a k-mer, and the next k-mer from the last.
-- Assumes nothing.
use Rattle.std.specs.Prelude.{ℕ, zero, suc, ◌<◌, true, false, List, [], ◌≡◌, length, get_or}
use Rattle.std.proofs.Math.Option.{Option, none, some}
use Rattle.std.proofs.Common.{sym, ap, ◌∙◌, arith}
use Rattle.definitions.specs.Words.{Word, Letters, Mer, same}
use Rattle.definitions.specs.Vigemins.{vigemin}
use Rattle.definitions.specs.Shelves.{shelf, size}
use Rattle.laws.specs.Tests.{eq-same}
use Rattle.laws.specs.Walks.{accepts, count-accepted, word_at, word-at, place_from, place_at, place-word, next_at, next-at, next-none}
use Rattle.laws.specs.Orders.{Ranking, OneToOne, ranked}
use Rattle.laws.specs.Tables.{shelf_ok, shelf_step, shelf_end, shelf_ways, shelf-accepted, shelf-table}

module _ (ρ : Ranking) (w : Word) where
  -- the k-mer at place r, from the table
  abbrev pub kmer_at : ℕ → ℕ → Word
  kmer_at k r = word_at (shelf_ok ρ w) (shelf_step ρ w) (shelf_end ρ w) (false, zero) k r

  -- the place of a k-mer
  abbrev pub place_of : ℕ → Word → ℕ
  place_of k x = place_from (shelf_ok ρ w) (shelf_step ρ w) (shelf_end ρ w) (false, zero) k x

  -- the k-mer that comes next
  abbrev pub next_of : ℕ → Word → Option Word
  next_of k x = next_at (shelf_ok ρ w) (shelf_step ρ w) (shelf_end ρ w) (false, zero) k x

module _ (ρ : Ranking) (one : OneToOne ρ) (w : Word) (hw : Letters w) (pos : 0 < length w) (k : ℕ) where
  -- the size is what the table counts from the start
  pub size-table : size (ranked ρ) k w ≡ shelf_ways ρ w (false, zero) k
  size-table = count-accepted (shelf_ok ρ w) (shelf_step ρ w) (shelf_end ρ w) (λ x. same (vigemin (ranked ρ) (length w) x) w) (false, zero) k (shelf-accepted ρ one w hw pos)

  -- the k-mer at a place of the shelf
  pub shelf-word : (r : ℕ) → get_or (shelf (ranked ρ) k w) r [] ≡ kmer_at ρ w k r
  shelf-word r = ap (λ (l : List Word). get_or l r []) (shelf-table ρ one w hw pos k) ∙ word-at (shelf_ok ρ w) (shelf_step ρ w) (shelf_end ρ w) (false, zero) k r

  -- a k-mer with vigemin w has a place on the shelf, and stands there
  pub shelf-place : (x : Word) → Mer k x → vigemin (ranked ρ) (length w) x ≡ w
      → (place_of ρ w k x < size (ranked ρ) k w) × (get_or (shelf (ranked ρ) k w) (place_of ρ w k x) [] ≡ x)
  shelf-place x h e =
      let on : accepts (shelf_ok ρ w) (shelf_step ρ w) (shelf_end ρ w) (false, zero) x ≡ true = sym (shelf-accepted ρ one w hw pos x h.1) ∙ eq-same e in
      let q = place_at (shelf_ok ρ w) (shelf_step ρ w) (shelf_end ρ w) (false, zero) k x h on in
      (omega (arith, q.0, size-table), shelf-word (place_of ρ w k x) ∙ q.1)

  -- what stands at a place has that place
  pub place-shelf : (r : ℕ) → r < size (ranked ρ) k w → place_of ρ w k (get_or (shelf (ranked ρ) k w) r []) ≡ r
  place-shelf r h = ap (place_of ρ w k) (shelf-word r) ∙ place-word (shelf_ok ρ w) (shelf_step ρ w) (shelf_end ρ w) (false, zero) k r (omega (arith, size-table))

  -- the next k-mer from the one before
  pub shelf-next : (r : ℕ) → suc r < size (ranked ρ) k w → next_of ρ w k (get_or (shelf (ranked ρ) k w) r []) ≡ some (get_or (shelf (ranked ρ) k w) (suc r) [])
  shelf-next r h =
      ap (next_of ρ w k) (shelf-word r) ∙ next-at (shelf_ok ρ w) (shelf_step ρ w) (shelf_end ρ w) (false, zero) k r (omega (arith, size-table)) ∙ ap some (sym (shelf-word (suc r)))

  -- the last k-mer has no next one
  pub shelf-last : (r : ℕ) → suc r ≡ size (ranked ρ) k w → next_of ρ w k (get_or (shelf (ranked ρ) k w) r []) ≡ none
  shelf-last r h = ap (next_of ρ w k) (shelf-word r) ∙ next-none (shelf_ok ρ w) (shelf_step ρ w) (shelf_end ρ w) (false, zero) k r (omega (arith, size-table))
