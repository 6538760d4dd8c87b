-- The numbers of an answer, at the front of a lent array: 01's refusal number and what it carries, both 0 where nothing is refused, and then what
-- the call answers, 0 where it is refused.
use Rattle.std.specs.Prelude.{ℕ, List, [], ◌∷◌, ◌++◌, length, drop}
use Rattle.field.specs.Answer.{Answer, good, refused}
use Rattle.boxes.specs.Compile.{Counts}
use Rattle.enabling.specs.Enabled.{Enabling, enabling, stuck}
use Rattle.run.specs.Run.{Verdict, finished, unfinished, refusal}

-- What lies behind the numbers stays as it was.
abbrev pub told : List ℕ → List ℕ → List ℕ
told numbers array = numbers ++ drop (length numbers) array

abbrev pub compile_tells : Answer Counts → List ℕ
compile_tells (good C) = 0 ∷ 0 ∷ C.places ∷ C.transitions ∷ C.arcs ∷ C.entries ∷ C.internals ∷ []
compile_tells (refused n c) = n ∷ c ∷ 0 ∷ 0 ∷ 0 ∷ 0 ∷ 0 ∷ []

abbrev pub fire_tells : Answer (Unit {0}) → List ℕ
fire_tells (good t) = 0 ∷ 0 ∷ []
fire_tells (refused n c) = n ∷ c ∷ []

-- How many, and 1 where the net is stuck.
abbrev pub enabled_tells : Answer Enabling → List ℕ
enabled_tells (good (enabling many)) = 0 ∷ 0 ∷ many ∷ 0 ∷ []
enabled_tells (good stuck) = 0 ∷ 0 ∷ 0 ∷ 1 ∷ []
enabled_tells (refused n c) = n ∷ c ∷ 0 ∷ 0 ∷ []

-- The accepted steps, and 1 where all exit places are marked.
abbrev pub replay_tells : Verdict → List ℕ
replay_tells (finished k) = 0 ∷ 0 ∷ k ∷ 1 ∷ []
replay_tells (unfinished k) = 0 ∷ 0 ∷ k ∷ 0 ∷ []
replay_tells (refusal n c k) = n ∷ c ∷ k ∷ 0 ∷ []
