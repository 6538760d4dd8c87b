-- 01, "Refusal numbers", 35: "marking too short, or (firing, enabled list) a byte above 1". What lies past the net's part is not looked at.
use Rattle.std.specs.Prelude.{ℕ, List, length, take, leb}
use Rattle.field.specs.Refusals.{no_marking}
use Rattle.field.specs.Answer.{Answer, check, ◌>>◌}
use Rattle.field.specs.Lists.{all}

-- "35 (short only)", as replay asks it.
unfoldable pub check_room : ℕ → List ℕ → Answer (Unit {0})
check_room places m = check (leb places (length m)) no_marking 0

unfoldable pub check_marking : ℕ → List ℕ → Answer (Unit {0})
unfolding check_room all
check_marking places m = do
  check_room places m
  check (all (λ x. leb x 1) (take places m)) no_marking 0
