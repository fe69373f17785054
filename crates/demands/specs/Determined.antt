-- Every contract takes every input: it asks nothing of its caller. And every contract determines the outcome: whatever the arguments, any two
-- outcomes that it allows are equal, the answers and what the lent rooms hold at last (document 01, "Proof of each answer"). Here stands every public
-- function of a library crate. Each theorem is proved in the crate of its function, in proofs/Determined.antt, so that a contract that asks more or
-- tells less is refused there.
-- Assumes nothing.
use Rattle.laws.specs.Promises.{TakesAll, Determines}
use Rattle.refusals.proofs.Refusal.number.Kinds as number-kinds
use Rattle.refusals.proofs.Refusal.number.Reads as number-reads
use Rattle.refusals.proofs.Refusal.place.Kinds as place-kinds
use Rattle.refusals.proofs.Refusal.place.Reads as place-reads
use Rattle.refusals.proofs.Determined.{number-takes-all, number-determined, place-takes-all, place-determined}
use Rattle.powers.proofs.powers.Kinds as powers-kinds
use Rattle.powers.proofs.powers.Reads as powers-reads
use Rattle.powers.proofs.power.Kinds as power-kinds
use Rattle.powers.proofs.power.Reads as power-reads
use Rattle.powers.proofs.lesser.Kinds as lesser-kinds
use Rattle.powers.proofs.lesser.Reads as lesser-reads
use Rattle.powers.proofs.too_large.Kinds as too-large-kinds
use Rattle.powers.proofs.too_large.Reads as too-large-reads
use Rattle.powers.proofs.order_refusal.Kinds as order-refusal-kinds
use Rattle.powers.proofs.order_refusal.Reads as order-refusal-reads
use Rattle.powers.proofs.word_refusal.Kinds as word-refusal-kinds
use Rattle.powers.proofs.word_refusal.Reads as word-refusal-reads
use Rattle.powers.proofs.sign.Kinds as sign-kinds
use Rattle.powers.proofs.sign.Reads as sign_reads
use Rattle.powers.proofs.Determined.{powers-takes-all, powers-determined, power-takes-all, power-determined, lesser-takes-all, lesser-determined, too-large-takes-all, too-large-determined, order-refusal-takes-all, order-refusal-determined, word-refusal-takes-all, word-refusal-determined, sign-takes-all, sign-determined}
use Rattle.letters.proofs.letter.Kinds as letter-kinds
use Rattle.letters.proofs.letter.Reads as letter-reads
use Rattle.letters.proofs.first_bad.Kinds as first-bad-kinds
use Rattle.letters.proofs.first_bad.Reads as first-bad-reads
use Rattle.letters.proofs.Determined.{letter-takes-all, letter-determined, first-bad-takes-all, first-bad-determined}
use Rattle.words.proofs.pack.Kinds as pack-kinds
use Rattle.words.proofs.pack.Reads as pack-reads
use Rattle.words.proofs.unpack.Kinds as unpack-kinds
use Rattle.words.proofs.unpack.Reads as unpack-reads
use Rattle.words.proofs.Determined.{pack-takes-all, pack-determined, unpack-takes-all, unpack-determined}
use Rattle.vigemins.proofs.value.Kinds as value-kinds
use Rattle.vigemins.proofs.value.Reads as value-reads
use Rattle.vigemins.proofs.vigemin.Kinds as vigemin-kinds
use Rattle.vigemins.proofs.vigemin.Reads as vigemin-reads
use Rattle.vigemins.proofs.Determined.{value-takes-all, value-determined, vigemin-takes-all, vigemin-determined}
use Rattle.sequences.proofs.examine.Kinds as examine-kinds
use Rattle.sequences.proofs.examine.Reads as examine-reads
use Rattle.sequences.proofs.Determined.{examine-takes-all, examine-determined}
use Rattle.scans.proofs.scan.Kinds as scan-kinds
use Rattle.scans.proofs.scan.Reads as scan-reads
use Rattle.scans.proofs.scan_bytes.Kinds as scan-bytes-kinds
use Rattle.scans.proofs.scan_bytes.Reads as scan-bytes-reads
use Rattle.scans.proofs.Determined.{scan-takes-all, scan-determined, scan-bytes-takes-all, scan-bytes-determined}
use Rattle.states.proofs.prepare.Kinds as prepare-kinds
use Rattle.states.proofs.prepare.Reads as prepare-reads
use Rattle.states.proofs.Determined.{prepare-takes-all, prepare-determined}
use Rattle.worksheets.proofs.worksheet.Kinds as worksheet-kinds
use Rattle.worksheets.proofs.worksheet.Reads as worksheet-reads
use Rattle.worksheets.proofs.Determined.{worksheet-takes-all, worksheet-determined}
use Rattle.sizes.proofs.size.Kinds as size-kinds
use Rattle.sizes.proofs.size.Reads as size-reads
use Rattle.sizes.proofs.Determined.{size-takes-all, size-determined}
use Rattle.counters.proofs.antemers.Kinds as antemers-kinds
use Rattle.counters.proofs.antemers.Reads as antemers-reads
use Rattle.counters.proofs.Determined.{antemers-takes-all, antemers-determined}
use Rattle.shelves.proofs.page.Kinds as page-kinds
use Rattle.shelves.proofs.page.Reads as page-reads
use Rattle.shelves.proofs.Determined.{page-takes-all, page-determined}
use Rattle.listers.proofs.list.Kinds as list-kinds
use Rattle.listers.proofs.list.Reads as list-reads
use Rattle.listers.proofs.Determined.{list-takes-all, list-determined}
use Rattle.tukinraso.proofs.tukinraso_scan.Kinds as tukinraso-scan-kinds
use Rattle.tukinraso.proofs.tukinraso_scan.Reads as tukinraso-scan-reads
use Rattle.tukinraso.proofs.tukinraso_size.Kinds as tukinraso-size-kinds
use Rattle.tukinraso.proofs.tukinraso_size.Reads as tukinraso-size-reads
use Rattle.tukinraso.proofs.Determined.{tukinraso-scan-takes-all, tukinraso-scan-determined, tukinraso-size-takes-all, tukinraso-size-determined}
use Rattle.lines.proofs.read.Kinds as read-kinds
use Rattle.lines.proofs.read.Reads as read-reads
use Rattle.lines.proofs.Determined.{read-takes-all, read-determined}
use Rattle.cards.proofs.card.Kinds as card-kinds
use Rattle.cards.proofs.card.Reads as card-reads
use Rattle.cards.proofs.Determined.{card-takes-all, card-determined}

-- the contracts of all public functions take every input
pub record EveryInput : Type 0 where
  -- refusals
  pub number : TakesAll number-kinds.ps number-reads.Asked
  pub place : TakesAll place-kinds.ps place-reads.Asked
  -- powers
  pub powers : TakesAll powers-kinds.ps powers-reads.Asked
  pub power : TakesAll power-kinds.ps power-reads.Asked
  pub lesser : TakesAll lesser-kinds.ps lesser-reads.Asked
  pub too_large : TakesAll too-large-kinds.ps too-large-reads.Asked
  pub order-refusal : TakesAll order-refusal-kinds.ps order-refusal-reads.Asked
  pub word-refusal : TakesAll word-refusal-kinds.ps word-refusal-reads.Asked
  pub sign : TakesAll sign-kinds.ps sign_reads.Asked
  -- letters
  pub letter : TakesAll letter-kinds.ps letter-reads.Asked
  pub first-bad : TakesAll first-bad-kinds.ps first-bad-reads.Asked
  -- words
  pub pack : TakesAll pack-kinds.ps pack-reads.Asked
  pub unpack : TakesAll unpack-kinds.ps unpack-reads.Asked
  -- vigemins
  pub value : TakesAll value-kinds.ps value-reads.Asked
  pub vigemin : TakesAll vigemin-kinds.ps vigemin-reads.Asked
  -- sequences
  pub examine : TakesAll examine-kinds.ps examine-reads.Asked
  -- scans
  pub scan : TakesAll scan-kinds.ps scan-reads.Asked
  pub scan-bytes : TakesAll scan-bytes-kinds.ps scan-bytes-reads.Asked
  -- states
  pub prepare : TakesAll prepare-kinds.ps prepare-reads.Asked
  -- worksheets
  pub worksheet : TakesAll worksheet-kinds.ps worksheet-reads.Asked
  -- sizes
  pub size : TakesAll size-kinds.ps size-reads.Asked
  -- counters
  pub antemers : TakesAll antemers-kinds.ps antemers-reads.Asked
  -- shelves
  pub page : TakesAll page-kinds.ps page-reads.Asked
  -- listers
  pub list : TakesAll list-kinds.ps list-reads.Asked
  -- tukinraso
  pub tukinraso-scan : TakesAll tukinraso-scan-kinds.ps tukinraso-scan-reads.Asked
  pub tukinraso-size : TakesAll tukinraso-size-kinds.ps tukinraso-size-reads.Asked
  -- lines
  pub read : TakesAll read-kinds.ps read-reads.Asked
  -- cards
  pub card : TakesAll card-kinds.ps card-reads.Asked

pub every-input : EveryInput
every-input =
    record {
      number = number-takes-all;
      place = place-takes-all;
      powers = powers-takes-all;
      power = power-takes-all;
      lesser = lesser-takes-all;
      too_large = too-large-takes-all;
      order-refusal = order-refusal-takes-all;
      word-refusal = word-refusal-takes-all;
      sign = sign-takes-all;
      letter = letter-takes-all;
      first-bad = first-bad-takes-all;
      pack = pack-takes-all;
      unpack = unpack-takes-all;
      value = value-takes-all;
      vigemin = vigemin-takes-all;
      examine = examine-takes-all;
      scan = scan-takes-all;
      scan-bytes = scan-bytes-takes-all;
      prepare = prepare-takes-all;
      worksheet = worksheet-takes-all;
      size = size-takes-all;
      antemers = antemers-takes-all;
      page = page-takes-all;
      list = list-takes-all;
      tukinraso-scan = tukinraso-scan-takes-all;
      tukinraso-size = tukinraso-size-takes-all;
      read = read-takes-all;
      card = card-takes-all;
    }

-- the contracts of all public functions determine their outcomes
pub record EveryContract : Type 0 where
  -- refusals
  pub number : Determines number-kinds.ps number-kinds.r number-reads.Post
  pub place : Determines place-kinds.ps place-kinds.r place-reads.Post
  -- powers
  pub powers : Determines powers-kinds.ps powers-kinds.r powers-reads.Post
  pub power : Determines power-kinds.ps power-kinds.r power-reads.Post
  pub lesser : Determines lesser-kinds.ps lesser-kinds.r lesser-reads.Post
  pub too_large : Determines too-large-kinds.ps too-large-kinds.r too-large-reads.Post
  pub order-refusal : Determines order-refusal-kinds.ps order-refusal-kinds.r order-refusal-reads.Post
  pub word-refusal : Determines word-refusal-kinds.ps word-refusal-kinds.r word-refusal-reads.Post
  pub sign : Determines sign-kinds.ps sign-kinds.r sign_reads.Post
  -- letters
  pub letter : Determines letter-kinds.ps letter-kinds.r letter-reads.Post
  pub first-bad : Determines first-bad-kinds.ps first-bad-kinds.r first-bad-reads.Post
  -- words
  pub pack : Determines pack-kinds.ps pack-kinds.r pack-reads.Post
  pub unpack : Determines unpack-kinds.ps unpack-kinds.r unpack-reads.Post
  -- vigemins
  pub value : Determines value-kinds.ps value-kinds.r value-reads.Post
  pub vigemin : Determines vigemin-kinds.ps vigemin-kinds.r vigemin-reads.Post
  -- sequences
  pub examine : Determines examine-kinds.ps examine-kinds.r examine-reads.Post
  -- scans
  pub scan : Determines scan-kinds.ps scan-kinds.r scan-reads.Post
  pub scan-bytes : Determines scan-bytes-kinds.ps scan-bytes-kinds.r scan-bytes-reads.Post
  -- states
  pub prepare : Determines prepare-kinds.ps prepare-kinds.r prepare-reads.Post
  -- worksheets
  pub worksheet : Determines worksheet-kinds.ps worksheet-kinds.r worksheet-reads.Post
  -- sizes
  pub size : Determines size-kinds.ps size-kinds.r size-reads.Post
  -- counters
  pub antemers : Determines antemers-kinds.ps antemers-kinds.r antemers-reads.Post
  -- shelves
  pub page : Determines page-kinds.ps page-kinds.r page-reads.Post
  -- listers
  pub list : Determines list-kinds.ps list-kinds.r list-reads.Post
  -- tukinraso
  pub tukinraso-scan : Determines tukinraso-scan-kinds.ps tukinraso-scan-kinds.r tukinraso-scan-reads.Post
  pub tukinraso-size : Determines tukinraso-size-kinds.ps tukinraso-size-kinds.r tukinraso-size-reads.Post
  -- lines
  pub read : Determines read-kinds.ps read-kinds.r read-reads.Post
  -- cards
  pub card : Determines card-kinds.ps card-kinds.r card-reads.Post

pub every-contract : EveryContract
every-contract =
    record {
      number = number-determined;
      place = place-determined;
      powers = powers-determined;
      power = power-determined;
      lesser = lesser-determined;
      too_large = too-large-determined;
      order-refusal = order-refusal-determined;
      word-refusal = word-refusal-determined;
      sign = sign-determined;
      letter = letter-determined;
      first-bad = first-bad-determined;
      pack = pack-determined;
      unpack = unpack-determined;
      value = value-determined;
      vigemin = vigemin-determined;
      examine = examine-determined;
      scan = scan-determined;
      scan-bytes = scan-bytes-determined;
      prepare = prepare-determined;
      worksheet = worksheet-determined;
      size = size-determined;
      antemers = antemers-determined;
      page = page-determined;
      list = list-determined;
      tukinraso-scan = tukinraso-scan-determined;
      tukinraso-size = tukinraso-size-determined;
      read = read-determined;
      card = card-determined;
    }
