-- The numbers that each call tells, in the order in which the C header names them: the refusal and what it carries first.
-- Compile's are those of ⟨c⊗((a‖b);e)⊗d⟩, of which no two are the same; numbers exchanged with each other break a row.
use Prim.Native.Nat.{ℕ}
use mathlib.Core.Path.{◌≡◌, refl}
use mathlib.Core.List.{List, [], ◌∷◌, map}
use lib.ListN.{replicate}
use Rattle.field.specs.Answer.{good, refused}
use Rattle.algebra.specs.Expr.{action, sequence, parallel, loop}
use Rattle.plan.specs.Bytes.{encode}
use Rattle.boxes.specs.Compile.{Lent, compile}
use Rattle.enabling.specs.Enabled.{enabling, stuck}
use Rattle.run.specs.Run.{finished, unfinished, refusal}
use Rattle.exports.specs.Told.{told, compile_tells, fire_tells, enabled_tells, replay_tells}

-- 6 places, of which 1 is an entry and 4 are internals; 5 transitions; 14 arcs
abbrev plan : List ℕ
plan = encode (loop (action 3) (sequence (parallel (action 1) (action 2)) (action 5)) (action 4))

abbrev room : Lent
room = record { kinds = replicate 6 9; rows = replicate 30 9; arcs = replicate 14 9 }

pub record KnownTold : Type 0 where
  -- "refusal, carried, places, transitions, arcs, and how many of the places are entries and how many internals"; 02 00 00 is 8 at 3
  compiled : map (λ p. compile_tells (compile p room).answer) (plan ∷ (2 ∷ 0 ∷ 0 ∷ []) ∷ []) ≡ (0 ∷ 0 ∷ 6 ∷ 5 ∷ 14 ∷ 1 ∷ 4 ∷ []) ∷ (8 ∷ 3 ∷ 0 ∷ 0 ∷ 0 ∷ 0 ∷ 0 ∷ []) ∷ []
  -- "refusal, carried"
  fired : map fire_tells (good tt ∷ refused 32 1 ∷ []) ≡ (0 ∷ 0 ∷ []) ∷ (32 ∷ 1 ∷ []) ∷ []
  -- "refusal, carried, how many, and 1 where the net is stuck"
  listed : map enabled_tells (good (enabling 4) ∷ good (enabling 0) ∷ good stuck ∷ refused 14 0 ∷ []) ≡ (0 ∷ 0 ∷ 4 ∷ 0 ∷ []) ∷ (0 ∷ 0 ∷ 0 ∷ 0 ∷ []) ∷ (0 ∷ 0 ∷ 0 ∷ 1 ∷ []) ∷ (14 ∷ 0 ∷ 0 ∷ 0 ∷ []) ∷ []
  -- "refusal, carried, accepted steps, and 1 where all exit places are marked"
  replayed : map replay_tells (finished 2 ∷ unfinished 3 ∷ refusal 22 11 4 ∷ []) ≡ (0 ∷ 0 ∷ 2 ∷ 1 ∷ []) ∷ (0 ∷ 0 ∷ 3 ∷ 0 ∷ []) ∷ (22 ∷ 11 ∷ 4 ∷ 0 ∷ []) ∷ []
  -- "at the front of a lent array": what lies behind them stays
  in_front : told (22 ∷ 11 ∷ []) (9 ∷ 9 ∷ 9 ∷ []) ≡ 22 ∷ 11 ∷ 9 ∷ []

pub known_told : KnownTold
unfolding compile encode
known_told = record { compiled = refl; fired = refl; listed = refl; replayed = refl; in_front = refl }
