-- A small net worked out by hand, on which known steps are fired and known lists are made.
-- Its tables are written down and not compiled, so that a fault of the compile call cannot hide in them.
use Prim.Native.Nat.{ℕ}
use mathlib.Core.List.{List, [], ◌∷◌}
use Rattle.net.specs.Tables.{Tables}
use Rattle.net.specs.Lent.{lent}

-- Six places, the last an exit; seven transitions. Behind each table stands a 9.
-- 0: 0→2. 1: 1→3. 2: 0 1→2 3. (3,4): 2→2. 5: 3→2 4. 6: 4→5. 7: 0→3.
abbrev pub rows : List ℕ
rows =
    1 ∷ 0 ∷ 65535 ∷ 0 ∷ 1 ∷ 1
    ∷ 2 ∷ 1 ∷ 65535 ∷ 2 ∷ 1 ∷ 1
    ∷ 3 ∷ 2 ∷ 65535 ∷ 4 ∷ 2 ∷ 2
    ∷ 0 ∷ 3 ∷ 4 ∷ 8 ∷ 1 ∷ 1
    ∷ 4 ∷ 5 ∷ 65535 ∷ 10 ∷ 1 ∷ 2
    ∷ 5 ∷ 6 ∷ 65535 ∷ 13 ∷ 1 ∷ 1
    ∷ 6 ∷ 7 ∷ 65535 ∷ 15 ∷ 1 ∷ 1
    ∷ 9 ∷ []

abbrev pub arcs : List ℕ
arcs = 0 ∷ 2 ∷ 1 ∷ 3 ∷ 0 ∷ 1 ∷ 2 ∷ 3 ∷ 2 ∷ 2 ∷ 3 ∷ 2 ∷ 4 ∷ 4 ∷ 5 ∷ 0 ∷ 3 ∷ 9 ∷ []

abbrev pub net : Tables
net = lent (1 ∷ 1 ∷ 2 ∷ 2 ∷ 2 ∷ 3 ∷ 9 ∷ []) rows arcs 6 7 17

-- the same with no exit: no net
abbrev pub no_net : Tables
no_net = lent (1 ∷ 1 ∷ 2 ∷ 2 ∷ 2 ∷ 2 ∷ 9 ∷ []) rows arcs 6 7 17

-- a marking of the six places, with a 9 behind it
abbrev pub marking : ℕ → ℕ → ℕ → ℕ → ℕ → ℕ → List ℕ
marking p q r s t u = p ∷ q ∷ r ∷ s ∷ t ∷ u ∷ 9 ∷ []

abbrev pub entry : List ℕ
entry = marking 1 1 0 0 0 0
