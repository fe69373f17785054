-- When a contract takes every input, what it allows, and when it determines the outcome (document 01, "Proof of each answer"). `params` and `result`
-- are the kinds of a function's signature; `Asks` is what the function asks of its caller and `Ensures` what it ensures: its contract, as the kit
-- reads it.
-- Assumes nothing.
use Rattle.std.specs.Prelude.{ℕ, List, ◌≡◌}
use borrow.Fn.Kinds.{ParamKind, ResultKind, In, Out, Dens, res_t, ended_of}
use contract.Lifetimes.{Lfts}
use denote.Triple.Clauses.{Lasts, at_exit}

-- a contract takes every input: whatever the arguments, what it asks of its caller holds
abbrev pub TakesAll : {n : ℕ} (params : List (ParamKind n)) → In n params → Type 0
TakesAll {n} params Asks = (κs : Lfts n) (args : Dens κs params) → Asks κs args

module _ {n : ℕ} (params : List (ParamKind n)) (result : ResultKind n) (Ensures : Out n params result) where
  -- a contract allows an outcome: an answer, and what the lent rooms hold at last. κs is how long they are lent
  abbrev pub Allows : (κs : Lfts n) (args : Dens κs params) → (res_t result κs).Denot → Lasts (ended_of n params result) κs args → Type 0
  Allows κs args answer lasts = Ensures κs args answer (at_exit (ended_of n params result) κs args lasts)

  -- a contract determines the outcome: whatever the arguments, any two outcomes that it allows are equal, answers and rooms
  abbrev pub Determines : Type 0
  Determines = (κs : Lfts n) (args : Dens κs params) (a b : (res_t result κs).Denot) (x y : Lasts (ended_of n params result) κs args)
      → Allows κs args a x → Allows κs args b y → (a ≡ b) × (x ≡ y)
