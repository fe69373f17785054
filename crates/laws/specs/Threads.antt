-- Reading a word letter by letter beside w. A thread is an m-mer of which some letters are read and tied with the first ones of w.
-- It is caught by a letter that hits (at that place, with so many letters left), or at its end if that is asked. One law says that
-- going through all threads at once, letter by letter, catches what each thread by itself is caught by: postmers, antemers and
-- the words that hold w are three cases of it.
-- Assumes nothing.
use Rattle.std.specs.Prelude.{ℕ, zero, suc, ◌+◌, ◌<◌, Bool, true, false, ◌&&◌, ◌||◌, [], ◌∷◌, ◌++◌, ◌≡◌, refl, eqb, get_or, drop}
use Rattle.std.proofs.Math.Bool.{or-false, or_assoc, or_comm}
use Rattle.std.proofs.Math.Path.{sym, ap, ap₂}
use Rattle.std.proofs.Common.{◌∙◌, length-append, drop-cons}
use Rattle.std.proofs.Math.ListN.{length}
use Rattle.std.proofs.Math.Seq.{drop-length}
use Rattle.definitions.specs.Words.{Word}
use Rattle.laws.specs.Places.{any_to, any_to-cong, any_to-none, any_to-last, any_to-or}
use Rattle.laws.specs.States.{matches}

-- ---- threads

module _ (w : Word) (hit : ℕ → ℕ → ℕ → Bool) (final : Bool) where
  -- whether a thread is caught: l letters are tied, u is what of w is left to read, z the letters to come
  abbrev pub caught : ℕ → Word → Word → Bool
  caught l [] z = final
  caught l (a ∷ u) [] = false
  caught l (a ∷ u) (b ∷ z) = hit l b (suc (length z)) || (eqb b a && caught (suc l) u z)

  -- whether a thread that began in what was read is caught in the letters to come
  abbrev pub old_caught : Word → Word → Bool
  old_caught past z = any_to (length w) (λ l. matches w (suc l) past && caught (suc l) (drop (suc l) w) z)

  -- whether a thread that begins in y is caught in y followed by t
  abbrev pub new_caught : Word → Word → Bool
  new_caught [] t = false
  new_caught (b ∷ y) t = caught zero w (b ∷ (y ++ t)) || new_caught y t

  -- whether a letter, with so many letters left from it on, hits a thread or finds one at its end
  abbrev pub bad : Word → ℕ → ℕ → Bool
  bad past r b = (matches w (length w) past && final) || any_to (length w) (λ l. matches w l past && hit l b r)

  -- going through y, followed by t, with all threads at once
  abbrev pub run : Word → Word → Word → Bool
  run past [] t = old_caught past t
  run past (b ∷ y) t = bad past (suc (length y + length t)) b || run (b ∷ past) y t

  tied : (past : Word) (b : ℕ) (z : Word) → ℕ → Bool
  tied past b z l = matches w l past && caught l (drop l w) (b ∷ z)

  tied-step : (m h e c : Bool) → (m && (h || (e && c))) ≡ ((m && h) || ((e && m) && c))
  tied-step true h true c = refl
  tied-step true h false c = refl
  tied-step false h true c = refl
  tied-step false h false c = refl

  -- one letter: the threads tied before it are hit by it, or are tied after it
  tied-letter : (past : Word) (b : ℕ) (z : Word)
      → (caught zero w (b ∷ z) || old_caught past (b ∷ z)) ≡ (bad past (suc (length z)) b || old_caught (b ∷ past) z)
  unfolding tied
  tied-letter past b z =
      any_to-last (length w) (tied past b z)
      ∙ ap₂ (λ (s t : Bool). s || t) (any_to-cong (length w) each ∙ any_to-or (length w) (λ l. matches w l past && hit l b (suc (length z)))
      (λ l. matches w (suc l) (b ∷ past) && caught (suc l) (drop (suc l) w) z)) at-end
      ∙ or_comm (any_to (length w) (λ l. matches w l past && hit l b (suc (length z))) || old_caught (b ∷ past) z) (matches w (length w) past && final)
      ∙ sym (or_assoc (matches w (length w) past && final) (any_to (length w) (λ l. matches w l past && hit l b (suc (length z)))) (old_caught (b ∷ past) z))
    where
      each : (l : ℕ) → l < length w → tied past b z l
          ≡ ((matches w l past && hit l b (suc (length z))) || (matches w (suc l) (b ∷ past) && caught (suc l) (drop (suc l) w) z))
      each l h =
          ap (λ (u : Word). matches w l past && caught l u (b ∷ z)) (drop-cons w l 0 h)
          ∙ tied-step (matches w l past) (hit l b (suc (length z))) (eqb b (get_or w l 0)) (caught (suc l) (drop (suc l) w) z)

      at-end : tied past b z (length w) ≡ (matches w (length w) past && final)
      at-end = ap (λ (u : Word). matches w (length w) past && caught (length w) u (b ∷ z)) (drop-length w)

  -- what each thread by itself is caught by, all threads at once catch
  pub threads : (past y t : Word) → (old_caught past (y ++ t) || new_caught y t) ≡ run past y t
  threads past [] t = or-false (old_caught past t)
  threads past (b ∷ y) t =
      sym (or_assoc (old_caught past (b ∷ (y ++ t))) (caught zero w (b ∷ (y ++ t))) (new_caught y t))
      ∙ ap (λ (s : Bool). s || new_caught y t) (or_comm (old_caught past (b ∷ (y ++ t))) (caught zero w (b ∷ (y ++ t))) ∙ tied-letter past b (y ++ t))
      ∙ or_assoc (bad past (suc (length (y ++ t))) b) (old_caught (b ∷ past) (y ++ t)) (new_caught y t)
      ∙ ap₂ (λ (n : ℕ) (s : Bool). bad past (suc n) b || s) (length-append y t) (threads (b ∷ past) y t)

  -- nothing is tied before the first letter
  pub threads-new : (y t : Word) → new_caught y t ≡ run [] y t
  threads-new y t = ap (λ (s : Bool). s || new_caught y t) (sym (any_to-none (length w) (λ l h. refl))) ∙ threads [] y t
