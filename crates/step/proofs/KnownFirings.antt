-- 01, "Refusal numbers", "Firing: 30, 35, step form, 31 to 33, 36": calls with two faults, and faults of later items.
-- Worked out by hand on one small net; a test left out, exchanged with another, or a byte written too much breaks a row.
use Prim.Native.Nat.{ℕ}
use mathlib.Core.Path.{◌≡◌, refl}
use mathlib.Core.List.{List, [], ◌∷◌, ◌++◌, map}
use lib.ListN.{length}
use Rattle.field.specs.Answer.{good, refused}
use Rattle.net.specs.Tables.{Tables}
use Rattle.moving.proofs.SixPlaces.{net, no_net, marking, entry}
use Rattle.step.specs.Fire.{Fired, fire}

-- the bytes of an item of one action, of an item of two, and of a step of these bytes
abbrev one : ℕ → List ℕ
one i = 0x21 ∷ 0 ∷ 1 ∷ i ∷ []

abbrev two : ℕ → ℕ → List ℕ
two i j = 0x22 ∷ 0 ∷ 2 ∷ i ∷ j ∷ []

abbrev step : List ℕ → List ℕ
step body = 0x20 ∷ 0 ∷ length body ∷ body

pub record KnownFiring : Type 0 where
  pub tables : Tables
  pub before : List ℕ
  pub bytes : List ℕ
  pub fired : Fired

-- a step of these items at a marking of the net, and the marking afterwards
abbrev moves : List ℕ → List ℕ → List ℕ → KnownFiring
moves m items m' = record { tables = net; before = m; bytes = step items; fired = record { answer = good tt; marking = m' } }

-- tables, a marking, bytes, the refusal's number and what it carries: nothing is written
abbrev refuses : Tables → List ℕ → List ℕ → ℕ → ℕ → KnownFiring
refuses T m s n c = record { tables = T; before = m; bytes = s; fired = record { answer = refused n c; marking = m } }

abbrev known_fired : List KnownFiring
known_fired =
    -- "tokens then move together"; what lies behind the six places stays
    moves entry (one 0) (marking 0 1 1 0 0 0)
    ∷ moves entry (one 0 ++ one 1) (marking 0 0 1 1 0 0)
    ∷ moves entry (one 2) (marking 0 0 1 1 0 0)
    ∷ moves (marking 0 0 0 1 0 0) (one 5) (marking 0 0 1 0 1 0)
    -- a place gives its token and gets another in the same step
    ∷ moves (marking 0 0 0 1 1 0) (one 5 ++ one 6) (marking 0 0 1 0 1 1)
    -- "An output may be an input of the same transition."
    ∷ moves (marking 0 1 1 0 0 0) (one 1 ++ two 3 4) (marking 0 0 1 1 0 0)
    -- a marking with nothing behind it
    ∷ record { tables = net; before = 1 ∷ 1 ∷ 0 ∷ 0 ∷ 0 ∷ 0 ∷ []; bytes = step (one 7); fired = record { answer = good tt; marking = 0 ∷ 1 ∷ 0 ∷ 1 ∷ 0 ∷ 0 ∷ [] } }
    -- 30 before 35, the step's form and 31
    ∷ refuses no_net (1 ∷ 1 ∷ []) (0x19 ∷ []) 30 0
    ∷ refuses no_net entry (step (one 9)) 30 0
    -- 35 before the step's form and 31: "marking too short, or .. a byte above 1"
    ∷ refuses net (1 ∷ 1 ∷ 0 ∷ 0 ∷ 0 ∷ []) (0x19 ∷ []) 35 0
    ∷ refuses net (marking 1 1 0 0 0 2) (0x19 ∷ []) 35 0
    ∷ refuses net (marking 2 1 0 0 0 0) (step (one 9)) 35 0
    -- the step's form before 31: the first item names no transition, the second has a wrong tag; bytes behind the step
    ∷ refuses net entry (step (one 9 ++ (0x19 ∷ 0 ∷ 0 ∷ []))) 22 0
    ∷ refuses net entry (step (one 9) ++ (0 ∷ [])) 23 0
    -- 31, "item names no transition", with the "item's position"
    ∷ refuses net entry (step (one 0 ++ one 9)) 31 1
    ∷ refuses net entry (step (one 0 ++ (one 1 ++ one 9))) 31 2
    -- its actions are not those of a transition: one of two, two for one, another second, the other way round
    ∷ refuses net (marking 1 1 1 0 0 0) (step (one 0 ++ one 3)) 31 1
    ∷ refuses net (marking 1 1 1 0 0 0) (step (two 0 1)) 31 0
    ∷ refuses net (marking 1 1 1 0 0 0) (step (one 0 ++ two 3 5)) 31 1
    ∷ refuses net (marking 1 1 1 0 0 0) (step (one 0 ++ two 4 3)) 31 1
    -- "Then 31 over all items, 32": an earlier item has an empty input; or shares an input; or a place would hold two
    ∷ refuses net entry (step (one 5 ++ one 9)) 31 1
    ∷ refuses net entry (step (one 0 ++ (one 2 ++ one 9))) 31 2
    ∷ refuses net (marking 1 0 1 0 0 0) (step (one 0 ++ one 9)) 31 1
    -- 32, "an input is empty", with the "item's position": either input of two
    ∷ refuses net entry (step (one 0 ++ one 5)) 32 1
    ∷ refuses net entry (step (one 0 ++ (one 1 ++ one 6))) 32 2
    ∷ refuses net (marking 1 0 0 0 0 0) (step (one 2)) 32 0
    ∷ refuses net (marking 0 1 0 0 0 0) (step (one 1 ++ one 2)) 32 1
    -- one after another the step would pass: 0 marks the input of (3,4)
    ∷ refuses net entry (step (one 0 ++ two 3 4)) 32 1
    -- "32, 33": the second item shares an input, the third's is empty; "32 .. 36": a place would hold two
    ∷ refuses net entry (step (one 0 ++ (one 2 ++ one 5))) 32 2
    ∷ refuses net (marking 1 0 1 0 0 0) (step (one 0 ++ one 5)) 32 1
    -- 33, "input shared with an earlier item", with the "item's position": the first input, the second, that of an item two before
    ∷ refuses net entry (step (one 0 ++ one 2)) 33 1
    ∷ refuses net entry (step (one 1 ++ one 2)) 33 1
    ∷ refuses net entry (step (one 0 ++ (one 1 ++ one 7))) 33 2
    -- "33, 36": two tokens would come to 2
    ∷ refuses net (marking 1 1 1 0 0 0) (step (one 0 ++ one 2)) 33 1
    -- 36, "a place would hold two", which carries 0: it holds one; two items put one each, "never merged"; it gets one back and another
    ∷ refuses net (marking 1 0 1 0 0 0) (step (one 0)) 36 0
    ∷ refuses net (marking 1 0 0 1 0 0) (step (one 0 ++ one 5)) 36 0
    ∷ refuses net (marking 0 0 1 1 0 0) (step (two 3 4 ++ one 5)) 36 0
    ∷ []

pub known_firings : map (λ (k : KnownFiring). fire k.tables k.before k.bytes) known_fired ≡ map (λ (k : KnownFiring). k.fired) known_fired
unfolding fire
known_firings = refl
