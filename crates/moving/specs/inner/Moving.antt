-- Tokens taken and put place by place, as the code does it. That this is the firing of 01 is shown of it.
use Rattle.std.specs.Prelude.{ℕ, suc, List, [], ◌∷◌, ◌++◌, Bool, true, cond, ◌&&◌, length, get_or, slice_index, set, ◌==◌, eqb, leb}
use Rattle.std.specs.List.{list_all}
use Rattle.field.specs.Refusals.{input_empty, input_shared, two_tokens}
use Rattle.field.specs.Answer.{Answer, good, ◌>>◌, check}
unfoldable pub use Rattle.moving.specs.Transitions.{side_of, sides}

-- Every place of a list holds so many tokens.
abbrev pub hold : ℕ → List ℕ → List ℕ → Bool
hold tokens m ps = list_all (λ p. slice_index m p == tokens) ps

-- How many lists come before the first that has a place with another number of tokens.
unfoldable pub holds_each : ℕ → List ℕ → List (List ℕ) → ℕ
holds_each tokens m [] = 0
holds_each tokens m (ps ∷ ls) = cond (hold tokens m ps) (suc (holds_each tokens m ls)) 0

-- The marking with so many tokens at each place of a list.
unfoldable pub filled : ℕ → List ℕ → List ℕ → List ℕ
filled tokens m [] = m
filled tokens m (p ∷ ps) = filled tokens (set m p tokens) ps

-- Each place of a list, one after another, holds `from` tokens and gets `to`.
unfoldable pub shifts : ℕ → ℕ → List ℕ → List ℕ → Bool
shifts from to m [] = true
shifts from to m (p ∷ ps) = eqb (get_or m p 0) from && shifts from to (set m p to) ps

-- How many lists come before the first of which that is not so.
unfoldable pub shifts_each : ℕ → ℕ → List ℕ → List (List ℕ) → ℕ
unfolding shifts filled
shifts_each from to m [] = 0
shifts_each from to m (ps ∷ ls) = cond (shifts from to m ps) (suc (shifts_each from to (filled to m ps) ls)) 0

unfoldable pub in_one : List (List ℕ) → List ℕ
in_one [] = []
in_one (ps ∷ ls) = ps ++ in_one ls

-- Whether a position is that of no item: all of them passed.
abbrev pub passed : List (List ℕ) → ℕ → Bool
passed ls n = leb (length ls) n

-- The inputs and the outputs of a step's items at a marking: 32, 33, 36, and the marking afterwards.
unfoldable pub moves : List ℕ → List (List ℕ) → List (List ℕ) → Answer (List ℕ)
unfolding holds_each shifts_each filled in_one
moves m ins outs = do
  check (passed ins (holds_each 1 m ins)) input_empty (holds_each 1 m ins)
  check (passed ins (shifts_each 1 0 m ins)) input_shared (shifts_each 1 0 m ins)
  check (passed outs (holds_each 0 (filled 0 m (in_one ins)) outs)) two_tokens 0
  check (passed outs (shifts_each 0 1 (filled 0 m (in_one ins)) outs)) two_tokens 0
  good (filled 1 (filled 0 m (in_one ins)) (in_one outs))
