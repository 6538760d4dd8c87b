-- The enabled list, whole: "The enabled list: 30, 35, 14; it writes, as rising 16-bit numbers, the transitions whose input places are all marked,
-- answers how many"; and 02, K2: "stuck is to mean that nothing is enabled and some exit place is unmarked".
use Rattle.std.specs.Prelude.{ℕ, suc, List, [], ◌∷◌, ◌++◌, length, take, drop, Bool, true, false, cond, not, ◌&&◌, ◌||◌, eqb, leb}
use Rattle.field.specs.Refusals.{table_too_short}
use Rattle.field.specs.Answer.{Answer, good, refused, ◌>>◌, check}
use Rattle.net.specs.Tables.{Tables, transitions_in}
use Rattle.net.specs.Check.{check_net}
use Rattle.net.specs.Marking.{check_marking}
use Rattle.algebra.specs.Firing.{enabled_from}

unfoldable pub list_enabled : Tables → List ℕ → List ℕ → Answer (List ℕ)
unfolding check_net check_marking enabled_from transitions_in
list_enabled T m out = do
  check_net T
  check_marking T.places m
  -- "a lent table too short for what is written"
  check (leb (length (enabled_from 0 (take T.places m) (transitions_in T))) (length out)) table_too_short 0
  good (enabled_from 0 (take T.places m) (transitions_in T))

pub data Enabling : Type 0 where
  enabling : ℕ → Enabling
  stuck : Enabling

-- Every exit place, by the kinds of the places ("3 exit"), is marked.
unfoldable pub exits_hold : List ℕ → List ℕ → Bool
exits_hold [] m = true
exits_hold (k ∷ ks) [] = false
exits_hold (k ∷ ks) (x ∷ m) = (not (eqb k 3) || leb 1 x) && exits_hold ks m

-- Where nothing is enabled it matters whether all exits are marked.
abbrev pub how_many : Bool → List ℕ → Enabling
how_many exits [] = cond exits (enabling 0) stuck
how_many exits (t ∷ ts) = enabling (suc (length ts))

pub record Enabled : Type 0 where
  pub answer : Answer Enabling
  pub list : List ℕ

abbrev pub listed : Bool → List ℕ → Answer (List ℕ) → Enabled
listed exits out (good ts) = record { answer = good (how_many exits ts); list = ts ++ drop (length ts) out }
listed exits out (refused n c) = record { answer = refused n c; list = out }

unfoldable pub enabled : Tables → List ℕ → List ℕ → Enabled
unfolding list_enabled exits_hold
enabled T m out = listed (exits_hold (take T.places T.kinds) (take T.places m)) out (list_enabled T m out)
