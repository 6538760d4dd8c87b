-- A lent step, read and fired on transitions and a marking.
use Rattle.std.specs.Prelude.{ℕ, List}
use Rattle.field.specs.Answer.{Answer, ◌>>=◌}
use Rattle.algebra.specs.Net.{Transition}
use Rattle.algebra.specs.Firing.{fire_items}
use Rattle.form.specs.Form.{read_lent_step}

-- What is left of the call behind 30 and 35, on the net's transitions and its part of the marking: step form, then 31 to 33, 36.
abbrev pub read_and_fire : List Transition → List ℕ → List ℕ → Answer (List ℕ)
read_and_fire net m s = read_lent_step s >>= (λ is. fire_items net m is)
