-- A test of every element of a list.
use Rattle.std.specs.Prelude.{List, [], ◌∷◌, Bool, true, ◌&&◌}

unfoldable pub all : {A : Type 0} → (A → Bool) → List A → Bool
all ok [] = true
all ok (x ∷ xs) = ok x && all ok xs
