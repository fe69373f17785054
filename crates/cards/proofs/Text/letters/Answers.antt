-- `cards::Text::letters` meets its contract.
-- Assumes nothing.
use Rattle.std.proofs.Common.{refl}
use Rattle.cards.proofs.Laying.{unpack-letters, letters-room}
use Rattle.cards.proofs.Text.letters.Goals as goal

pub unwrap-requires : goal.unwrap-requires
unwrap-requires c =
    let ok = unpack-letters c.unpack.result c.unpack.new.room (letters-room c.requires.is_word refl) c.unpack.ensures in
    rw ok.0

pub returns-clause-text : goal.returns-clause-text
returns-clause-text c =
    let ok = unpack-letters c.unpack.result c.unpack.new.room (letters-room c.requires.is_word refl) c.unpack.ensures in
    rw ok.1 at c.lay.ensures.text
