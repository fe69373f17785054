-- Demand 3, of what rests on the meaning of the vigemin: pages in a row hold the shelf, and every k-mer stands on exactly one shelf.
-- Assumes nothing.
use Rattle.std.specs.Prelude.{ℕ, Ok, ◌^◌, ◌≤◌, ◌<◌, ◌↔◌, ◌≡◌, refl, length}
use mathlib.Core.List.Memᴰ
use mathlib.Core.List.{List, map, Memᴰ}
use Rattle.std.proofs.Math.Path.{sym, ap, ap₂}
use Rattle.std.proofs.Common.{subst, ◌∙◌}
use contract.Lifetimes.{Lfts}
use Rattle.std.proofs.Math.ListN.{take}
use Rattle.std.proofs.lemmas.List.{length-map}
use Rattle.std.proofs.Math.Seq.{take_at}
use Rattle.definitions.specs.Lists.{over}
use Rattle.definitions.specs.Words.{Word, val, word as word_of}
use Rattle.definitions.specs.Vigemins.{keyed, vigemin_at}
use Rattle.definitions.specs.Shelves.{shelf, size}
use Rattle.definitions.specs.Outcomes.{Found, vigemin_outcome}
use Rattle.laws.specs.Counting.{increasing-once}
use Rattle.laws.specs.Numbers.{four-pos, digits-below, digits_number, length_digits, number-digits-lt}
use Rattle.laws.specs.Catalogue.{shelf-holds, shelf-increasing}
use Rattle.laws.specs.Accepted.{ShelfAccepted, VigeminAccepted}
use Rattle.laws.specs.Listings.{pages-shelf}
use Rattle.laws.specs.RoundTrips.{vigemin-outcome}
use Rattle.vigemins.specs.Answers.{found}
use Rattle.sizes.specs.Answers.{counted}
use Rattle.listers.specs.Answers.{listed, listed-room, Listed, list_answer, list_outcome}
use Rattle.demands.specs.Promises.{LentRoom, Answer, Finds, Sizes, Lists}
use Rattle.demands.specs.First.{list-refuses}
use Rattle.vigemins.proofs.vigemin.Kinds as vigemin-kinds
use Rattle.demands.specs.Meanings.{VigeminAt, Vigemin, vigemin-means, means-vigemin}
use Rattle.demands.specs.Second.{fits, size-defined}
use Rattle.demands.specs.Third.{HoldsShelf, Call, InRow, pages_of, stop_of, rooms, handed_out, stopped-at, ThroughShelf, OnOneShelf}
use Rattle.demands.proofs.Meanings.{vigemin-one}
use Rattle.demands.proofs.Second.{vigemin-right}

-- the shelf that is defined is held by its numbers
shelf-means : (k : ℕ) (key w : Word) → length w ≤ k → HoldsShelf k key w (map val (shelf (keyed key) k w))
shelf-means k key w fits =
    let f = keyed key in
    record {
      every = λ x h v. Memᴰ.map val ((shelf-holds f k w x).1 (h, (means-vigemin key w x (rw h.0 fits) v.1).0));
      no_other =
          λ n m. let r = Memᴰ.of_map val (shelf f k w) m in
          let s = (shelf-holds f k w r.0).0 r.1 in
          (r.0, s.0, (vigemin_at f (length w) r.0, vigemin-means key w r.0 (rw s.0.0 fits) s.1), r.2);
      once = increasing-once (map val (shelf f k w)) (shelf-increasing f k w);
      in_order = shelf-increasing f k w;
    }

module _ {k m key word : ℕ} (a : ShelfAccepted k m key word) where
  module _ (κs : Lfts 1) (calls : List (Call κs)) (h : InRow κs k m key word 0 calls) (s : _) (g : Sizes k m key word s) where
    module _ (e : stop_of κs k m key word 0 calls ≡ (counted s).count) where
      whole : pages_of κs k m key word calls ≡ map val (shelf (keyed (word_of m key)) k (word_of m word))
      whole =
          handed_out κs k m key word 0 calls h
          ∙ pages-shelf a (rooms κs k m key word calls) (sym (stopped-at κs k m key word 0 calls h) ∙ e ∙ size-defined a s g)

      -- where they stop at the size, they hold the shelf, and as many numbers as the size says
      pub pages-right : HoldsShelf k (word_of m key) (word_of m word) (pages_of κs k m key word calls) × (length (pages_of κs k m key word calls) ≡ (counted s).count)
      pages-right = (
        rw whole (shelf-means k (word_of m key) (word_of m word) (fits a)),
        ap length whole ∙ length-map (shelf (keyed (word_of m key)) k (word_of m word)) val ∙ sym (size-defined a s g),
      )

      -- and they hold a k-mer exactly if their word is what `vigemin` answers of it
      pub one-shelf : (kmer : ℕ) → kmer < 4 ^ k → (v : _) → Finds k m key kmer v → Memᴰ kmer (pages_of κs k m key word calls) ↔ (word ≡ (found v).word)
      one-shelf kmer small v f = (there, back)
        where
          right : ((found v).refusal ≡ 0) × ((found v).word < 4 ^ m) × VigeminAt (word_of m key) (word_of m (found v).word) (word_of k kmer) (found v).position
          right = vigemin-right (record { order = a.order; small = small }) v f

          there : Memᴰ kmer (pages_of κs k m key word calls) → word ≡ (found v).word
          there i =
              let r = pages-right.0.no_other kmer i in
              let same : word_of k kmer ≡ r.0 = ap (word_of k) (sym r.3) ∙ digits_number 4 r.0 r.1.1 r.1.0 in
              let one : word_of m word ≡ word_of m (found v).word =
              vigemin-one (word_of m key) (word_of m word) (word_of m (found v).word) (word_of k kmer) (length_digits 4 m word ∙ sym (length_digits 4 m (found v).word))
              (subst (Vigemin (word_of m key) (word_of m word)) (sym same) r.2) ((found v).position, right.2) in
              sym (number-digits-lt four-pos m word a.small) ∙ ap val one ∙ number-digits-lt four-pos m (found v).word right.1

          back : word ≡ (found v).word → Memᴰ kmer (pages_of κs k m key word calls)
          back q =
              subst (λ (n : ℕ). Memᴰ n (pages_of κs k m key word calls)) (number-digits-lt four-pos k kmer small)
              (pages-right.0.every (word_of k kmer) (length_digits 4 k kmer, digits-below four-pos k kmer)
              ((found v).position, subst (λ (n : ℕ). VigeminAt (word_of m key) (word_of m n) (word_of k kmer) (found v).position) (sym q) right.2))

  -- a whole shelf by pages: unrefused, it holds the shelf at the front of its room, and so many numbers as the size says
  pub list_right : (κs : Lfts 1) (each : ℕ) (room : LentRoom) (r : _) (last : List ℕ) → Lists κs k m key word each room r last → (listed r last).refusal ≡ 0
      → (s : _) → Sizes k m key word s
      → HoldsShelf k (word_of m key) (word_of m word) (take (listed r last).written last) × ((listed r last).written ≡ (counted s).count) × (last ≡ over (take (listed r last).written last) room.now)
  unfolding list_outcome list_answer
  list_right κs each room r last h z s g =
      let f = keyed (word_of m key) in
      let w = word_of m word in
      let none = sym (list-refuses κs k m key word each room r last h).0.first ∙ z in
      let e = h ∙ ap (λ (n : ℕ). list_answer n f k w room.now) none in
      let written : (listed r last).written ≡ size f k w = ap (λ (o : Listed). o.written) e in
      let held : last ≡ over (map val (shelf f k w)) room.now = sym (listed-room r last) ∙ ap (λ (o : Listed). o.room) e in
      let front : take (listed r last).written last ≡ map val (shelf f k w) =
      ap₂ (λ (n : ℕ) (l : List ℕ). take n l) written held ∙ take_at (map val (shelf f k w)) _ (size f k w) (length-map (shelf f k w) val) in
      (rw front (shelf-means k (word_of m key) w (fits a)), written ∙ sym (size-defined a s g), rw front held)

-- over all words of a key, every k-mer stands on exactly one shelf
pub exactly-one-shelf : {k m key kmer : ℕ} → VigeminAccepted k m key kmer → OnOneShelf k m key kmer
exactly-one-shelf {k} {m} {key} {kmer} a =
    let small : (found v).word < 4 ^ m = (vigemin-right a v finds).1 in
    record {
      word = (found v).word;
      small = small;
      there = λ κs calls t. (on (found v).word small κs calls t).1 refl;
      no_other = λ other fits differs κs calls t i. differs ((on other fits κs calls t).0 i);
    }
  where
    -- the answer of `vigemin`
    v : Answer vigemin-kinds.r tt
    v = let o = vigemin_outcome k m key kmer in Ok (record { word = o.word; position = o.position })

    finds : Finds k m key kmer v
    finds =
        let o = vigemin_outcome k m key kmer in
        ap (λ (n : ℕ). record { refusal = n; word = o.word; position = o.position }) (sym (ap (λ (x : Found). x.refusal) (vigemin-outcome a)))

    on : (word : ℕ) → word < 4 ^ m → (κs : Lfts 1) (calls : List (Call κs)) → ThroughShelf κs k m key word calls
        → Memᴰ kmer (pages_of κs k m key word calls) ↔ (word ≡ (found v).word)
    on word small κs calls t =
        one-shelf (record { order = a.order; small = small }) κs calls t.in_row t.size t.sized t.reached kmer a.small v finds
