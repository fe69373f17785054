-- A word has no two vigemins of one length.
-- Assumes nothing.
use Rattle.std.specs.Prelude.{ℕ, ◌≤◌, ◌≡◌, length}
use Rattle.std.proofs.Common.{sym, ap, ◌∙◌, arith}
use Rattle.definitions.specs.Words.{Word}
use Rattle.definitions.specs.Vigemins.{keyed, vigemin}
use Rattle.demands.specs.Meanings.{Vigemin, means-vigemin}

-- a word has no two vigemins of one length
pub vigemin-one : (key w u x : Word) → length w ≡ length u → Vigemin key w x → Vigemin key u x → w ≡ u
vigemin-one key w u x e v s =
    let inside : length w ≤ length x = omega (arith, v.1.inside) in
    let also : length u ≤ length x = omega (arith, s.1.inside) in
    sym (means-vigemin key w x inside v.1).0 ∙ ap (λ (n : ℕ). vigemin (keyed key) n x) e ∙ (means-vigemin key u x also s.1).0
