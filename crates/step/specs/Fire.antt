-- The firing call, whole: "Firing: 30, 35, step form, 31 to 33, 36", and the lent marking afterwards.
use Rattle.std.specs.Prelude.{ℕ, List, ◌++◌, take, drop}
use Rattle.field.specs.Answer.{Answer, good, refused, ◌>>=◌, ◌>>◌}
use Rattle.net.specs.Tables.{Tables, transitions_in}
use Rattle.net.specs.Check.{check_net}
use Rattle.net.specs.Marking.{check_marking}
use Rattle.form.specs.Form.{read_lent_step}
use Rattle.algebra.specs.Firing.{fire_items}

unfoldable pub fire_step : Tables → List ℕ → List ℕ → Answer (List ℕ)
unfolding check_net check_marking read_lent_step fire_items transitions_in
fire_step T m s = do
  check_net T
  check_marking T.places m
  is ← read_lent_step s
  fire_items (transitions_in T) (take T.places m) is

pub record Fired : Type 0 where
  pub answer : Answer (Unit {0})
  pub marking : List ℕ

-- "What lies past the net's part, in a marking too, is neither looked at nor written"; nothing is written on refusal.
abbrev pub fired : Tables → List ℕ → Answer (List ℕ) → Fired
fired T m (good m') = record { answer = good tt; marking = m' ++ drop T.places m }
fired T m (refused n c) = record { answer = refused n c; marking = m }

unfoldable pub fire : Tables → List ℕ → List ℕ → Fired
unfolding fire_step
fire T m s = fired T m (fire_step T m s)
