-- 01, "The enabled list: 30, 35, 14", and 02, K2: lists of transitions, and calls with two faults.
-- Worked out by hand on two small nets; a test left out, exchanged with another, or a number written too much breaks a row.
use Prim.Native.Nat.{ℕ}
use mathlib.Core.Path.{◌≡◌, refl}
use mathlib.Core.List.{List, [], ◌∷◌, map}
use Rattle.field.specs.Answer.{Answer, good, refused}
use Rattle.net.specs.Tables.{Tables}
use Rattle.net.specs.Lent.{lent}
use Rattle.moving.proofs.SixPlaces.{net, no_net, marking, entry}
use Rattle.enabling.specs.Enabled.{Enabling, enabling, stuck, Enabled, enabled}

-- one transition, from the entry 0 to the exits 1 and 2
abbrev two_exits : Tables
two_exits = lent (1 ∷ 3 ∷ 3 ∷ []) (1 ∷ 0 ∷ 65535 ∷ 0 ∷ 1 ∷ 2 ∷ []) (0 ∷ 1 ∷ 2 ∷ []) 3 1 3

pub record KnownList : Type 0 where
  pub tables : Tables
  pub marking : List ℕ
  pub before : List ℕ
  pub enabled : Enabled

abbrev list : Tables → List ℕ → List ℕ → Answer Enabling → List ℕ → KnownList
list T m out r out' = record { tables = T; marking = m; before = out; enabled = record { answer = r; list = out' } }

abbrev nines : List ℕ
nines = 9 ∷ 9 ∷ 9 ∷ 9 ∷ 9 ∷ []

abbrev known_listed : List KnownList
known_listed =
    -- "it writes, as rising 16-bit numbers, the transitions whose input places are all marked, answers how many": their numbers, not their actions
    list net entry nines (good (enabling 4)) (0 ∷ 1 ∷ 2 ∷ 6 ∷ 9 ∷ [])
    ∷ list net (marking 1 0 0 0 0 0) nines (good (enabling 2)) (0 ∷ 6 ∷ 9 ∷ 9 ∷ 9 ∷ [])
    ∷ list net (marking 0 1 0 0 0 0) nines (good (enabling 1)) (1 ∷ 9 ∷ 9 ∷ 9 ∷ 9 ∷ [])
    -- a transition that would put a second token is listed
    ∷ list net (marking 0 0 1 1 1 0) nines (good (enabling 3)) (3 ∷ 4 ∷ 5 ∷ 9 ∷ 9 ∷ [])
    -- a list with just the room
    ∷ list net entry (9 ∷ 9 ∷ 9 ∷ 9 ∷ []) (good (enabling 4)) (0 ∷ 1 ∷ 2 ∷ 6 ∷ [])
    -- 02, K2: "nothing is enabled and some exit place is unmarked" is stuck; with every exit marked it is 0 and not stuck
    ∷ list net (marking 0 0 0 0 0 0) nines (good stuck) nines
    ∷ list net (marking 0 0 0 0 0 0) [] (good stuck) []
    ∷ list net (marking 0 0 0 0 0 1) nines (good (enabling 0)) nines
    ∷ list net (marking 0 0 0 0 0 1) [] (good (enabling 0)) []
    -- one of two exits is not enough, whichever it is
    ∷ list two_exits (0 ∷ 1 ∷ 0 ∷ []) nines (good stuck) nines
    ∷ list two_exits (0 ∷ 0 ∷ 1 ∷ []) nines (good stuck) nines
    ∷ list two_exits (0 ∷ 1 ∷ 1 ∷ []) nines (good (enabling 0)) nines
    -- 30 before 35 and 14
    ∷ list no_net (1 ∷ 1 ∷ []) [] (refused 30 0) []
    ∷ list no_net entry (9 ∷ []) (refused 30 0) (9 ∷ [])
    -- 35 before 14: a marking too short, a byte above 1
    ∷ list net (1 ∷ 1 ∷ 0 ∷ 0 ∷ 0 ∷ []) (9 ∷ []) (refused 35 0) (9 ∷ [])
    ∷ list net (marking 1 1 0 0 0 2) (9 ∷ []) (refused 35 0) (9 ∷ [])
    -- 14, "a lent table too short for what is written": nothing is written
    ∷ list net entry (9 ∷ 9 ∷ 9 ∷ []) (refused 14 0) (9 ∷ 9 ∷ 9 ∷ [])
    ∷ []

pub known_lists : map (λ (k : KnownList). enabled k.tables k.marking k.before) known_listed ≡ map (λ (k : KnownList). k.enabled) known_listed
unfolding enabled
known_lists = refl
