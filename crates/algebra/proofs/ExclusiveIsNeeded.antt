-- The test for exclusive bodies is not too strict: of an expression that does not pass, some state marks an entry and an exit at once, so a loop around it could not tell its rounds apart.
-- True of a parallel, whose one side may be started and the other finished; and where an operand of a choice or a scope has such a state, the whole has it.
use mathlib.Core.Path.{◌≡◌, refl, subst}
use mathlib.Core.Logic.{inl, inr}
use mathlib.Core.Bool.{Bool, true, false}
use lib.Dec.{T}
use Rattle.algebra.specs.Expr.{Expr, action, sequence, choice, parallel, loop, scope}
use Rattle.algebra.specs.Exclusive.{exclusive}
use Rattle.algebra.specs.Dynamic.{Dynamic, started, finished, choice_first, choice_second, parallel_both, scope_inside}
use Rattle.algebra.proofs.Codes.{Entry, Exit, some_entry, some_exit}
use Rattle.algebra.proofs.Tokens.{tokens}

-- A state that marks an entry and an exit at once.
pub record BothAtOnce (E : Expr) : Type 0 where
  pub state : Dynamic E
  pub entry : Entry E
  pub exit : Exit E
  pub enters : (tokens state).entry entry ≡ 1
  pub leaves : (tokens state).exit exit ≡ 1

pub both_at_once : (E : Expr) → (T (exclusive E) → ⊥) → BothAtOnce E
unfolding exclusive tokens some_entry some_exit
both_at_once (action l) n = absurd (n tt)
both_at_once (sequence E F) n = absurd (n tt)
both_at_once (choice E F) n = go (exclusive E) refl (exclusive F) refl (both_at_once E) (both_at_once F)
  where
    go : (b : Bool) → exclusive E ≡ b → (d : Bool) → exclusive F ≡ d → ((T (exclusive E) → ⊥) → BothAtOnce E) → ((T (exclusive F) → ⊥) → BothAtOnce F) → BothAtOnce (choice E F)
    go false e d f left right = let r = left (λ t. subst T e t) in record { state = choice_first r.state; entry = (r.entry, some_entry F); exit = (r.exit, some_exit F); enters = r.enters; leaves = r.leaves }
    go true e false f left right = let r = right (λ t. subst T f t) in record { state = choice_second r.state; entry = (some_entry E, r.entry); exit = (some_exit E, r.exit); enters = r.enters; leaves = r.leaves }
    go true e true f left right = absurd (n (rw (e, f) tt))
both_at_once (parallel E F) n = record { state = parallel_both started finished; entry = inl (some_entry E); exit = inr (some_exit F); enters = refl; leaves = refl }
both_at_once (loop E F G) n = absurd (n tt)
both_at_once (scope a E) n = let r = both_at_once E n in record { state = scope_inside r.state; entry = r.entry; exit = r.exit; enters = r.enters; leaves = r.leaves }
