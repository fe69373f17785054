-- Demand 2, of what rests on the meaning of the vigemin: the size of a shelf, and the vigemin.
-- Assumes nothing.
use Rattle.std.specs.Prelude.{ℕ, ◌^◌, ◌≤◌, ◌<◌, ◌≡◌, length}
use Rattle.std.proofs.Math.Path.{ap}
use Rattle.std.proofs.Common.{sym, subst, ◌∙◌}
use Rattle.definitions.specs.Words.{Word, Mer, val, word as word_of, same}
use Rattle.definitions.specs.Vigemins.{keyed, vigemin, vigemin_at}
use Rattle.definitions.specs.Shelves.{size}
use Rattle.definitions.specs.Outcomes.{Found, Counted}
use Rattle.laws.specs.Tests.{same-eq, eq-same}
use Rattle.laws.specs.Numbers.{four-pos, number_lt, digits-below, digits_number, length_digits}
use Rattle.laws.specs.Minima.{vigemin-mer}
use Rattle.laws.specs.Accepted.{ShelfAccepted, VigeminAccepted, accepted-word, size-refusal}
use Rattle.laws.specs.RoundTrips.{vigemin-outcome}
use Rattle.vigemins.specs.Answers.{found}
use Rattle.sizes.specs.Answers.{counted}
use Rattle.demands.specs.Promises.{Finds, Sizes, ForeignSizes}
use Rattle.demands.specs.Meanings.{VigeminAt, Vigemin, vigemin-means, means-vigemin, number-filter}
use Rattle.demands.specs.First.{foreign-size-refuses}
use Rattle.demands.specs.Second.{SizeIs, fits, size-defined}

module _ (key w : Word) where
  -- the size that is defined is that number
  size-means : (k : ℕ) → length w ≤ k → SizeIs k key w (size (keyed key) k w)
  size-means k fits =
      number-filter (λ x. same (vigemin (keyed key) (length w) x) w) k (Vigemin key w)
      (λ x h. let inside : length w ≤ length x = rw h.0 fits in (
        λ e. (vigemin_at (keyed key) (length w) x, vigemin-means key w x inside (same-eq (vigemin (keyed key) (length w) x) w e)),
        λ v. eq-same (means-vigemin key w x inside v.1).0,
      ))

module _ {k m key word : ℕ} (a : ShelfAccepted k m key word) where
  -- whatever the size may answer is the number of k-mers with that vigemin
  pub size-right : (r : _) → Sizes k m key word r → ((counted r).refusal ≡ 0) × SizeIs k (word_of m key) (word_of m word) (counted r).count
  size-right r h = (
    ap (λ (o : Counted). o.refusal) h ∙ size-refusal k m key word ∙ accepted-word a,
    subst (SizeIs k (word_of m key) (word_of m word)) (sym (size-defined a r h)) (size-means (word_of m key) (word_of m word) k (fits a)),
  )

  -- and so the foreign size
  pub foreign-size-right : (r : _) → ForeignSizes k m key word r → SizeIs k (word_of m key) (word_of m word) r
  foreign-size-right r h =
      subst (SizeIs k (word_of m key) (word_of m word)) (sym ((foreign-size-refuses k m key word r h).0 (accepted-word a))) (size-means (word_of m key) (word_of m word) k (fits a))

-- whatever the vigemin may answer is the vigemin of the k-mer and its position
pub vigemin-right : {k m key kmer : ℕ} → VigeminAccepted k m key kmer → (r : _) → Finds k m key kmer r
    → ((found r).refusal ≡ 0) × ((found r).word < 4 ^ m) × VigeminAt (word_of m key) (word_of m (found r).word) (word_of k kmer) (found r).position
vigemin-right {k} {m} {key} {kmer} a r h =
    let f = keyed (word_of m key) in
    let x = word_of k kmer in
    let e = h ∙ vigemin-outcome a in
    let inside : m ≤ length x = rw (length_digits 4 k kmer) a.order.m_fits in
    let v : Mer m (vigemin f m x) = vigemin-mer f m x inside (digits-below four-pos k kmer) in
    let number : (found r).word ≡ val (vigemin f m x) = ap (λ (o : Found). o.word) e in
    let word : word_of m (found r).word ≡ vigemin f m x = ap (word_of m) number ∙ digits_number 4 (vigemin f m x) v.1 v.0 in
    let long : length (word_of m (found r).word) ≡ m = length_digits 4 m (found r).word in
    let at : (found r).position ≡ vigemin_at f m x = ap (λ (o : Found). o.position) e in (
      ap (λ (o : Found). o.refusal) e,
      rw number (subst (λ (n : ℕ). val (vigemin f m x) < 4 ^ n) v.0 (number_lt 4 (vigemin f m x) v.1)),
      subst (VigeminAt (word_of m key) (word_of m (found r).word) x) (ap (λ (n : ℕ). vigemin_at f n x) long ∙ sym at)
          (vigemin-means (word_of m key) (word_of m (found r).word) x (rw long inside) (ap (λ (n : ℕ). vigemin f n x) long ∙ sym word)),
    )
