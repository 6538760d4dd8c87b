-- An item is listed exactly when some dynamic expression derives it alone: a listed one is the flat step of some state, and the items of a derived step are listed.
-- Without this theorem the joining rule could be wrong unnoticed: a pair that parts at a sequence never fires, so listing it would change no run.
use Prim.Native.Nat.{ℕ}
use native.Mathlib.Omega.{arith}
use mathlib.Core.Logic.{◌↔◌}
use mathlib.Core.List.{[], ◌∷◌}
use Rattle.algebra.specs.Expr.{Expr}
use Rattle.algebra.specs.Item.{Item, one, two}
use Rattle.algebra.specs.Scopes.{ScopesNamed}
use Rattle.algebra.specs.Dynamic.{Dynamic}
use Rattle.algebra.specs.Steps.{Step}
use Rattle.algebra.proofs.FlatSteps.{Flat}
use Rattle.algebra.proofs.LiveActions.{action_live, pair_live}
use Rattle.algebra.proofs.ListedItems.{Listed, listed_in_range, listed_parts}
use Rattle.algebra.proofs.StepsByItems.{item_times, times, step_flat, flat_step}

item_live : (n : ℕ) (E : Expr) → ScopesNamed E → (t : Item) → Listed n E t → (D : Dynamic E) × (D' : Dynamic E) × Flat (item_times t) n E D D'
item_live n E s (one i) l = let r = listed_in_range l in action_live n E i r.0 r.1
item_live n E s (two i j) l = let r = listed_in_range l in pair_live n E i j r.0 r.1 r.2 r.3 (listed_parts n E s i j l)

pub listed_iff : (n : ℕ) (E : Expr) → ScopesNamed E → (t : Item) → Listed n E t ↔ ((D : Dynamic E) × (D' : Dynamic E) × Step n E D (t ∷ []) D')
unfolding times
listed_iff n E s t = (
  λ l. let r = item_live n E s t l in (r.0, r.1, flat_step s r.2 (t ∷ []) (l, tt) (λ k lo hi. omega arith)),
  λ r. (step_flat s r.2).0.0,
)
