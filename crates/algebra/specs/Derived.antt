-- The mission's demand 3: "the calculus's own rules .. derive the recorded steps in that order from the started plan".
use Rattle.std.specs.Prelude.{List, [], ◌∷◌}
use Rattle.algebra.specs.Expr.{Expr}
use Rattle.algebra.specs.Item.{Item}
use Rattle.algebra.specs.Dynamic.{Dynamic, started}
use Rattle.algebra.specs.Steps.{Step}

-- Steps in order from D, which becomes D'.
pub data Derives (E : Expr) : Dynamic E → List (List Item) → Dynamic E → Type 0 where
  nothing : {D : Dynamic E} → Derives E D [] D
  step : {D D' D'' : Dynamic E} {S : List Item} {R : List (List Item)} → Step 0 E D S D' → Derives E D' R D'' → Derives E D (S ∷ R) D''

-- The steps are derived in this order from the started plan, which becomes D.
abbrev pub Derived : (E : Expr) → List (List Item) → Dynamic E → Type 0
Derived E R D = Derives E started R D
