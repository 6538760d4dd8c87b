-- What Demand 1 says of a call: it asks nothing, and at every input its contract allows some result, and no other.
-- Said of the contract as the toolchain makes it from the code's clauses, so that a clause that is taken away there is gone here too.
use Prim.Native.Nat.{ℕ}
use mathlib.Core.Path.{◌≡◌}
use mathlib.Core.List.{List}
use contract.Lifetimes.{Lfts}
use denote.Triple.Clauses.{Lasts, at_exit}
use borrow.Fn.Kinds.{ParamKind, ResultKind, Dens, res_t, ended_of, In, Out}

pub record One {A : Type 0} (Allows : A → Type 0) : Type 0 where
  pub some : (a : A) × Allows a
  pub only : (a b : A) → Allows a → Allows b → a ≡ b

-- Of a call with so many lifetimes, such parameters and such a result.
module _ (n : ℕ) (ps : List (ParamKind n)) (r : ResultKind n) where
  -- Its answer, and what it leaves in each thing lent.
  abbrev pub Result : (κs : Lfts n) → Dens κs ps → Type 0
  Result κs a = (res_t r κs).Denot × Lasts (ended_of n ps r) κs a

  -- The results that a contract allows at an input.
  abbrev pub Allowed : Out n ps r → (κs : Lfts n) (a : Dens κs ps) → Result κs a → Type 0
  Allowed post κs a z = post κs a z.0 (at_exit (ended_of n ps r) κs a z.1)

  pub record Answered (asked : In n ps) (post : Out n ps r) : Type 0 where
    pub free : (κs : Lfts n) (a : Dens κs ps) → asked κs a
    pub one : (κs : Lfts n) (a : Dens κs ps) → One (Allowed post κs a)

  -- Of a call that asks something: the contract still allows one result at every input, and so wherever what it asks is met.
  pub record Determined (post : Out n ps r) : Type 0 where
    pub one : (κs : Lfts n) (a : Dens κs ps) → One (Allowed post κs a)
