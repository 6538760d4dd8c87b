-- Only the number 1 spells an action. True by the numbers that spell the other fields.
use Prim.Native.Nat.{ℕ}
use mathlib.Core.Path.{◌≡◌, refl}
use mathlib.Core.Bool.{Bool, true, false, cond}
use lib.Dec.{eqb}
use borrow.Author.Tests.{eqb-true}
use Rattle.std.specs.Prelude.{Result, Ok, Err}
use Rattle.field.specs.declared.Fault.{Fault}
use Rattle.field.specs.declared.Fault.TheVariants.{UnknownTag}
use Rattle.plan.specs.declared.table.Tag.{Tag}
use Rattle.plan.specs.declared.table.Tag.TheVariants.{Action, Sequence, Choice, Parallel, Loop, Scope}
use Rattle.plan.specs.inner.Numbers.{spelt}

-- The tag that is spelt where the number is no action's.
abbrev Other : Bool → Bool → Bool → Bool → Bool → Result Tag Fault
Other a b c d e = cond a (Ok Sequence) (cond b (Ok Choice) (cond c (Ok Parallel) (cond d (Ok Loop) (cond e (Ok Scope) (Err UnknownTag)))))

no_action : (a b c d e : Bool) → Other a b c d e ≡ Ok Action → ⊥
no_action true b c d e p = cc
no_action false true c d e p = cc
no_action false false true d e p = cc
no_action false false false true e p = cc
no_action false false false false true p = cc
no_action false false false false false p = cc

pub spelt_action : {n : ℕ} → spelt n ≡ Ok Action → n ≡ 1
spelt_action {n} p = go (eqb n 1) refl p
  where
    go : (a : Bool) → eqb n 1 ≡ a → cond a (Ok Action) (Other (eqb n 2) (eqb n 3) (eqb n 4) (eqb n 5) (eqb n 6)) ≡ Ok Action → n ≡ 1
    go true e q = eqb-true n 1 e
    go false e q = absurd (no_action (eqb n 2) (eqb n 3) (eqb n 4) (eqb n 5) (eqb n 6) q)
