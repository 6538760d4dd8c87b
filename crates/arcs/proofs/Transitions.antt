-- The item of two numbers of a table, and how many numbers pass.
-- True by the test that tells them apart, and because each number is the position of a place.
use Prim.Native.Nat.{ℕ, ◌≤◌}
use native.Mathlib.Omega.{arith}
use mathlib.Core.Path.{◌≡◌, refl, ap}
use mathlib.Core.Bool.{Bool}
use mathlib.Core.List.{List, map}
use lib.ListN.{length, length-map}
use borrow.Author.Tests.{eq-eqb, ne_eqb}
use Rattle.algebra.specs.Item.{one, two}
use Rattle.algebra.specs.Places.{Place}
use Rattle.algebra.specs.Arcs.{numbers}
use Rattle.net.specs.Tables.{none, item_of}
use Rattle.arcs.proofs.Ones.{numbers_ones, ones_few}

pub numbers_few : (f : Place → Bool) (ps : List Place) → length (numbers f 0 ps) ≤ length ps
numbers_few f ps = omega (arith, ap length (numbers_ones f 0 ps), ones_few 0 (map f ps), length-map ps f)

pub item_of_one : (i j : ℕ) → j ≡ none → item_of i j ≡ one i
item_of_one i j e = rw (eq-eqb j none e) refl

pub item_of_two : (i j : ℕ) → (j ≡ none → ⊥) → item_of i j ≡ two i j
item_of_two i j e = rw (ne_eqb j none e) refl
