-- What each operation may answer: its contract as it stands in the source, at plain arguments. `Lent` is a slice that is lent, `LentRoom` a
-- room, and `now` of either is what it holds; `last` is what a lent room holds when the operation has ended. κs is how long slices are lent,
-- which no contract asks.
-- Assumes nothing.
use Rattle.std.specs.Prelude.{ℕ, List}
use borrow.Fn.Kinds.{ResultKind, res_t}
use contract.Lifetimes.{Lfts}
use Rattle.std.specs.Borrow.{Bor, MutBor}
use Rattle.laws.specs.Promises.{Allows}
use Rattle.words.proofs.pack.Kinds as pack-kinds
use Rattle.words.proofs.pack.Reads as pack-reads
use Rattle.words.proofs.unpack.Kinds as unpack-kinds
use Rattle.words.proofs.unpack.Reads as unpack-reads
use Rattle.vigemins.proofs.vigemin.Kinds as vigemin-kinds
use Rattle.vigemins.proofs.vigemin.Reads as vigemin-reads
use Rattle.sequences.proofs.examine.Kinds as examine-kinds
use Rattle.sequences.proofs.examine.Reads as examine-reads
use Rattle.scans.proofs.scan.Kinds as scan-kinds
use Rattle.scans.proofs.scan.Reads as scan-reads
use Rattle.scans.proofs.scan_bytes.Kinds as scan-bytes-kinds
use Rattle.scans.proofs.scan_bytes.Reads as scan-bytes-reads
use Rattle.states.proofs.prepare.Kinds as prepare-kinds
use Rattle.states.proofs.prepare.Reads as prepare-reads
use Rattle.worksheets.proofs.worksheet.Kinds as worksheet-kinds
use Rattle.worksheets.proofs.worksheet.Reads as worksheet-reads
use Rattle.sizes.proofs.size.Kinds as size-kinds
use Rattle.sizes.proofs.size.Reads as size-reads
use Rattle.counters.proofs.antemers.Kinds as antemers-kinds
use Rattle.counters.proofs.antemers.Reads as antemers-reads
use Rattle.shelves.proofs.page.Kinds as page-kinds
use Rattle.shelves.proofs.page.Reads as page-reads
use Rattle.listers.proofs.list.Kinds as list-kinds
use Rattle.listers.proofs.list.Reads as list-reads
use Rattle.tukinraso.proofs.tukinraso_scan.Kinds as tukinraso-scan-kinds
use Rattle.tukinraso.proofs.tukinraso_scan.Reads as tukinraso-scan-reads
use Rattle.tukinraso.proofs.tukinraso_size.Kinds as tukinraso-size-kinds
use Rattle.tukinraso.proofs.tukinraso_size.Reads as tukinraso-size-reads
use Rattle.lines.proofs.read.Kinds as read-kinds
use Rattle.lines.proofs.read.Reads as read-reads
use Rattle.cards.proofs.card.Kinds as card-kinds
use Rattle.cards.proofs.card.Reads as card-reads

-- a slice that is lent: where it lies, and what it holds
abbrev pub Lent : Type 0
Lent = Bor (List ℕ)

-- a room that is lent: where it lies, and what it holds
abbrev pub LentRoom : Type 0
LentRoom = MutBor (List ℕ)

-- what an operation answers
abbrev pub Answer : {n : ℕ} → ResultKind n → Lfts n → Type 0
Answer result κs = (res_t result κs).Denot

-- words::pack(text)
abbrev pub Packs : (κs : Lfts 1) → Lent → Answer pack-kinds.r κs → Type 0
Packs κs text r = Allows pack-kinds.ps pack-kinds.r pack-reads.Post κs (text, tt) r (tt, tt)

-- words::unpack(word, length, room)
abbrev pub Unpacks : (κs : Lfts 1) → ℕ → ℕ → LentRoom → Answer unpack-kinds.r κs → List ℕ → Type 0
Unpacks κs word length room r last = Allows unpack-kinds.ps unpack-kinds.r unpack-reads.Post κs (word, (length, (room, tt))) r (tt, (tt, (last, tt)))

-- vigemins::vigemin(k, m, key, kmer)
abbrev pub Finds : ℕ → ℕ → ℕ → ℕ → Answer vigemin-kinds.r tt → Type 0
Finds k m key kmer r = Allows vigemin-kinds.ps vigemin-kinds.r vigemin-reads.Post tt (k, (m, (key, (kmer, tt)))) r (tt, (tt, (tt, (tt, tt))))

-- sequences::examine(k, m, key, seq, takes)
abbrev pub Examines : (κs : Lfts 1) → ℕ → ℕ → ℕ → Lent → ℕ → Answer examine-kinds.r κs → Type 0
Examines κs k m key seq takes r = Allows examine-kinds.ps examine-kinds.r examine-reads.Post κs (k, (m, (key, (seq, (takes, tt))))) r (tt, (tt, (tt, (tt, (tt, tt)))))

-- scans::scan(k, m, key, seq, room)
abbrev pub Scans : (κs : Lfts 2) → ℕ → ℕ → ℕ → Lent → LentRoom → Answer scan-kinds.r κs → List ℕ → Type 0
Scans κs k m key seq room r last = Allows scan-kinds.ps scan-kinds.r scan-reads.Post κs (k, (m, (key, (seq, (room, tt))))) r (tt, (tt, (tt, (tt, (last, tt)))))

-- scans::scan_bytes(k, m, key, seq, room)
abbrev pub ScansBytes : (κs : Lfts 2) → ℕ → ℕ → ℕ → Lent → LentRoom → Answer scan-bytes-kinds.r κs → List ℕ → Type 0
ScansBytes κs k m key seq room r last = Allows scan-bytes-kinds.ps scan-bytes-kinds.r scan-bytes-reads.Post κs (k, (m, (key, (seq, (room, tt))))) r (tt, (tt, (tt, (tt, (last, tt)))))

-- states::prepare(k, m, key, word)
abbrev pub Prepares : ℕ → ℕ → ℕ → ℕ → Answer prepare-kinds.r tt → Type 0
Prepares k m key word r = Allows prepare-kinds.ps prepare-kinds.r prepare-reads.Post tt (k, (m, (key, (word, tt)))) r (tt, (tt, (tt, (tt, tt))))

-- worksheets::worksheet(k, m, key, word)
abbrev pub Works : ℕ → ℕ → ℕ → ℕ → Answer worksheet-kinds.r tt → Type 0
Works k m key word r = Allows worksheet-kinds.ps worksheet-kinds.r worksheet-reads.Post tt (k, (m, (key, (word, tt)))) r (tt, (tt, (tt, (tt, tt))))

-- sizes::size(k, m, key, word)
abbrev pub Sizes : ℕ → ℕ → ℕ → ℕ → Answer size-kinds.r tt → Type 0
Sizes k m key word r = Allows size-kinds.ps size-kinds.r size-reads.Post tt (k, (m, (key, (word, tt)))) r (tt, (tt, (tt, (tt, tt))))

-- counters::antemers(k, m, key, word)
abbrev pub Counts : ℕ → ℕ → ℕ → ℕ → Answer antemers-kinds.r tt → Type 0
Counts k m key word r = Allows antemers-kinds.ps antemers-kinds.r antemers-reads.Post tt (k, (m, (key, (word, tt)))) r (tt, (tt, (tt, (tt, tt))))

-- shelves::page(k, m, key, word, start, room)
abbrev pub Pages : (κs : Lfts 1) → ℕ → ℕ → ℕ → ℕ → ℕ → LentRoom → Answer page-kinds.r κs → List ℕ → Type 0
Pages κs k m key word start room r last = Allows page-kinds.ps page-kinds.r page-reads.Post κs (k, (m, (key, (word, (start, (room, tt)))))) r (tt, (tt, (tt, (tt, (tt, (last, tt))))))

-- listers::list(k, m, key, word, each, room)
abbrev pub Lists : (κs : Lfts 1) → ℕ → ℕ → ℕ → ℕ → ℕ → LentRoom → Answer list-kinds.r κs → List ℕ → Type 0
Lists κs k m key word each room r last = Allows list-kinds.ps list-kinds.r list-reads.Post κs (k, (m, (key, (word, (each, (room, tt)))))) r (tt, (tt, (tt, (tt, (tt, (last, tt))))))

-- tukinraso::tukinraso_scan(k, m, key, seq, room)
abbrev pub ForeignScans : (κs : Lfts 2) → ℕ → ℕ → ℕ → Lent → LentRoom → Answer tukinraso-scan-kinds.r κs → List ℕ → Type 0
ForeignScans κs k m key seq room r last = Allows tukinraso-scan-kinds.ps tukinraso-scan-kinds.r tukinraso-scan-reads.Post κs (k, (m, (key, (seq, (room, tt))))) r (tt, (tt, (tt, (tt, (last, tt)))))

-- tukinraso::tukinraso_size(k, m, key, word)
abbrev pub ForeignSizes : ℕ → ℕ → ℕ → ℕ → Answer tukinraso-size-kinds.r tt → Type 0
ForeignSizes k m key word r = Allows tukinraso-size-kinds.ps tukinraso-size-kinds.r tukinraso-size-reads.Post tt (k, (m, (key, (word, tt)))) r (tt, (tt, (tt, (tt, tt))))

-- lines::read(input)
abbrev pub ReadsLine : (κs : Lfts 1) → Lent → Answer read-kinds.r κs → Type 0
ReadsLine κs input r = Allows read-kinds.ps read-kinds.r read-reads.Post κs (input, tt) r (tt, tt)

-- cards::card(input)
abbrev pub Prints : (κs : Lfts 1) → Lent → Answer card-kinds.r κs → Type 0
Prints κs input r = Allows card-kinds.ps card-kinds.r card-reads.Post κs (input, tt) r (tt, tt)
