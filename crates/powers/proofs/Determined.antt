-- The contracts of `powers` take every input, and determine their outcomes: any two that one allows are equal.
-- Assumes nothing.
use mathlib.Core.List.{[], ◌∷◌, ◌++◌}
use mathlib.Core.Path.{refl, sym, ◌∙◌}
use Rattle.definitions.specs.Refusals.{bad_key, bad_word}
use Rattle.definitions.specs.Outcomes.{order_grounds}
use Rattle.laws.specs.Promises.{TakesAll, Determines}
use Rattle.refusals.specs.Numbers.{same-refused}
use Rattle.powers.proofs.lesser.Kinds as lesser-kinds
use Rattle.powers.proofs.lesser.Reads as lesser-reads
use Rattle.powers.proofs.order_refusal.Kinds as order-refusal-kinds
use Rattle.powers.proofs.order_refusal.Reads as order-refusal-reads
use Rattle.powers.proofs.power.Kinds as power-kinds
use Rattle.powers.proofs.power.Reads as power-reads
use Rattle.powers.proofs.powers.Kinds as powers-kinds
use Rattle.powers.proofs.powers.Reads as powers-reads
use Rattle.powers.proofs.sign.Kinds as sign-kinds
use Rattle.powers.proofs.sign.Reads as sign_reads
use Rattle.powers.proofs.too_large.Kinds as too-large-kinds
use Rattle.powers.proofs.too_large.Reads as too-large-reads
use Rattle.powers.proofs.word_refusal.Kinds as word-refusal-kinds
use Rattle.powers.proofs.word_refusal.Reads as word-refusal-reads

pub powers-takes-all : TakesAll powers-kinds.ps powers-reads.Asked
powers-takes-all κs args = tt

pub powers-determined : Determines powers-kinds.ps powers-kinds.r powers-reads.Post
powers-determined κs args a b x y h g = (h ∙ sym g, refl)

pub power-takes-all : TakesAll power-kinds.ps power-reads.Asked
power-takes-all κs args = tt

pub power-determined : Determines power-kinds.ps power-kinds.r power-reads.Post
power-determined κs args a b x y h g = (h ∙ sym g, refl)

pub lesser-takes-all : TakesAll lesser-kinds.ps lesser-reads.Asked
lesser-takes-all κs args = tt

pub lesser-determined : Determines lesser-kinds.ps lesser-kinds.r lesser-reads.Post
lesser-determined κs args a b x y h g = (h ∙ sym g, refl)

pub too-large-takes-all : TakesAll too-large-kinds.ps too-large-reads.Asked
too-large-takes-all κs args = tt

pub too-large-determined : Determines too-large-kinds.ps too-large-kinds.r too-large-reads.Post
too-large-determined κs args a b x y h g = (h ∙ sym g, refl)

pub order-refusal-takes-all : TakesAll order-refusal-kinds.ps order-refusal-reads.Asked
order-refusal-takes-all κs args = tt

pub order-refusal-determined : Determines order-refusal-kinds.ps order-refusal-kinds.r order-refusal-reads.Post
order-refusal-determined κs args a b x y h g =
    (same-refused (order_grounds args.0 args.1.0 (bad_key args.1.0 args.1.1.0)) refl a b h g, refl)

pub word-refusal-takes-all : TakesAll word-refusal-kinds.ps word-refusal-reads.Asked
word-refusal-takes-all κs args = tt

pub word-refusal-determined : Determines word-refusal-kinds.ps word-refusal-kinds.r word-refusal-reads.Post
word-refusal-determined κs args a b x y h g =
    (same-refused (order_grounds args.0 args.1.0 (bad_key args.1.0 args.1.1.0) ++ (bad_word args.1.1.1.0 args.1.1.1.1.0 ∷ [])) refl a b h g, refl)

pub sign-takes-all : TakesAll sign-kinds.ps sign_reads.Asked
sign-takes-all κs args = tt

pub sign-determined : Determines sign-kinds.ps sign-kinds.r sign_reads.Post
sign-determined κs args a b x y h g = (h ∙ sym g, refl)
