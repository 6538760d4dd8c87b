-- 01, "Refusal numbers", the paragraph on 30: tables that are no net, each by one clause alone; and tables that are one, with anything behind them.
-- What the paper says of each is worked out by hand; a clause left out, weakened or drawn too tight breaks a row.
use Prim.Native.Nat.{ℕ, zero, suc, ◌+◌, ◌*◌, ◌/◌, ◌%◌}
use mathlib.Core.Path.{◌≡◌, refl}
use mathlib.Core.Bool.{true, false}
use mathlib.Core.List.{List, [], ◌∷◌, ◌++◌, map}
use lib.ListN.{replicate}
use Rattle.net.specs.Tables.{Tables}
use Rattle.net.specs.Lent.{lent}
use Rattle.net.specs.Check.{is_net}

-- the tables of a;b, with a 9 behind each
abbrev kinds : List ℕ
kinds = 1 ∷ 2 ∷ 3 ∷ 9 ∷ []

abbrev rows : List ℕ
rows = 1 ∷ 0 ∷ 65535 ∷ 0 ∷ 1 ∷ 1 ∷ 2 ∷ 1 ∷ 65535 ∷ 2 ∷ 1 ∷ 1 ∷ 9 ∷ []

abbrev arcs : List ℕ
arcs = 0 ∷ 1 ∷ 1 ∷ 2 ∷ 9 ∷ []

-- the net of three places and of one transition 0→1 with that label and these two actions
abbrev single : ℕ → ℕ → ℕ → Tables
single l i j = lent kinds (l ∷ i ∷ j ∷ 0 ∷ 1 ∷ 1 ∷ []) (0 ∷ 1 ∷ []) 3 1 2

-- the net of three places and of one transition with so many inputs and outputs
abbrev shaped : ℕ → ℕ → List ℕ → ℕ → Tables
shaped ins outs list count = lent kinds (1 ∷ 0 ∷ 65535 ∷ 0 ∷ ins ∷ outs ∷ []) list 3 1 count

-- the net of a;b with these actions in its two rows
abbrev acting : ℕ → ℕ → ℕ → ℕ → Tables
acting i j k l = lent kinds (0 ∷ i ∷ j ∷ 0 ∷ 1 ∷ 1 ∷ 0 ∷ k ∷ l ∷ 2 ∷ 1 ∷ 1 ∷ []) arcs 3 2 4

-- the net of a;b whose second row starts at a number
abbrev starting : ℕ → List ℕ → ℕ → Tables
starting start list count = lent kinds (1 ∷ 0 ∷ 65535 ∷ 0 ∷ 1 ∷ 1 ∷ 2 ∷ 1 ∷ 65535 ∷ start ∷ 1 ∷ 1 ∷ []) list 3 2 count

-- so many transitions 0→1 from t on, no two of the same action pair, and their arcs
abbrev rows_of_many : ℕ → ℕ → List ℕ
rows_of_many t zero = []
rows_of_many t (suc n) = 0 ∷ t / 256 ∷ t % 256 ∷ 2 * t ∷ 1 ∷ 1 ∷ rows_of_many (suc t) n

abbrev arcs_of_many : ℕ → List ℕ
arcs_of_many zero = []
arcs_of_many (suc n) = 0 ∷ 1 ∷ arcs_of_many n

-- so many numbers from k on
abbrev counting : ℕ → ℕ → List ℕ
counting k zero = []
counting k (suc n) = k ∷ counting (suc k) n

-- eight transitions between 2,048 places, each from the first 1,024 of them; seven go into these, the last into so many
abbrev arcs_of_wide : ℕ → ℕ → List ℕ
arcs_of_wide zero outs = counting 0 1024 ++ counting 0 outs
arcs_of_wide (suc n) outs = counting 0 1024 ++ (counting 0 1024 ++ arcs_of_wide n outs)

abbrev rows_of_wide : ℕ → ℕ → ℕ → List ℕ
rows_of_wide t zero outs = 1 ∷ t ∷ 65535 ∷ 2048 * t ∷ 1024 ∷ outs ∷ []
rows_of_wide t (suc n) outs = 1 ∷ t ∷ 65535 ∷ 2048 * t ∷ 1024 ∷ 1024 ∷ rows_of_wide (suc t) n outs

abbrev wide : ℕ → Tables
wide outs = lent (replicate 1024 1 ++ replicate 1024 3) (rows_of_wide 0 7 outs) (arcs_of_wide 7 outs) 2048 8 (15360 + outs)

abbrev nets : List Tables
nets =
    -- "What lies past the net's part .. is neither looked at nor written": behind each table stands a 9
    lent kinds rows arcs 3 2 4
    -- no transition, and no internal place: "with a 1 and a 3"
    ∷ lent (1 ∷ 3 ∷ []) [] [] 2 0 0
    -- several places of each kind
    ∷ lent (1 ∷ 1 ∷ 2 ∷ 2 ∷ 3 ∷ 3 ∷ []) rows arcs 6 2 4
    -- 2,048 places; 16,384 arcs
    ∷ lent (1 ∷ replicate 2047 3) rows arcs 2048 2 4
    ∷ wide 1024
    -- labels 0, 127, 129 and 255; actions 0 and 255, and 65,535 as second
    ∷ single 0 0 255
    ∷ single 127 255 0
    ∷ single 129 255 65535
    ∷ single 255 255 255
    -- two transitions of the same first or the same second action only, or of the same two the other way round
    ∷ acting 5 1 5 2
    ∷ acting 1 5 2 5
    ∷ acting 5 65535 5 1
    ∷ acting 1 2 2 1
    -- lists that rise, and an output that is an input
    ∷ shaped 2 1 (0 ∷ 1 ∷ 1 ∷ []) 3
    ∷ shaped 1 3 (2 ∷ 0 ∷ 1 ∷ 2 ∷ []) 4
    ∷ []

abbrev no_nets : List Tables
no_nets =
    -- "a count over its limit": 2,049 places; 1,025 transitions; 16,385 arcs
    lent (1 ∷ replicate 2048 3) rows arcs 2049 2 4
    ∷ lent kinds (rows_of_many 0 1025) (arcs_of_many 1025) 3 1025 2050
    ∷ wide 1025
    -- "a lent table shorter than its count": the kinds, the rows, the arcs
    ∷ lent (1 ∷ 3 ∷ []) rows arcs 3 2 4
    ∷ lent kinds (1 ∷ 0 ∷ 65535 ∷ 0 ∷ 1 ∷ 1 ∷ 2 ∷ 1 ∷ 65535 ∷ 2 ∷ 1 ∷ []) arcs 3 2 4
    ∷ shaped 1 2 (0 ∷ 1 ∷ []) 3
    -- "kinds not 1s then 2s then 3s"
    ∷ lent (1 ∷ 3 ∷ 2 ∷ 3 ∷ []) rows arcs 4 2 4
    ∷ lent (1 ∷ 2 ∷ 1 ∷ 3 ∷ []) rows arcs 4 2 4
    ∷ lent (0 ∷ 1 ∷ 3 ∷ []) rows arcs 3 2 4
    ∷ lent (1 ∷ 0 ∷ 3 ∷ []) rows arcs 3 2 4
    ∷ lent (1 ∷ 3 ∷ 4 ∷ []) rows arcs 3 2 4
    -- "with a 1 and a 3"
    ∷ lent (2 ∷ 2 ∷ 3 ∷ []) rows arcs 3 2 4
    ∷ lent (1 ∷ 2 ∷ 2 ∷ []) rows arcs 3 2 4
    ∷ lent (3 ∷ []) [] [] 1 0 0
    ∷ lent (1 ∷ []) [] [] 1 0 0
    ∷ lent [] [] [] 0 0 0
    -- "a place number too large": as an input, as an output
    ∷ lent kinds rows (0 ∷ 1 ∷ 3 ∷ 2 ∷ []) 3 2 4
    ∷ lent kinds rows (0 ∷ 1 ∷ 1 ∷ 3 ∷ []) 3 2 4
    -- "a list empty"
    ∷ shaped 0 1 (1 ∷ []) 1
    ∷ shaped 1 0 (1 ∷ []) 1
    -- "or not strictly rising"
    ∷ shaped 2 1 (1 ∷ 1 ∷ 2 ∷ []) 3
    ∷ shaped 2 1 (1 ∷ 0 ∷ 2 ∷ []) 3
    ∷ shaped 1 2 (0 ∷ 1 ∷ 1 ∷ []) 3
    ∷ shaped 1 2 (0 ∷ 2 ∷ 1 ∷ []) 3
    -- "starts with a gap": between two, the count being that of the end, or that of the arcs; before the first
    ∷ starting 3 (0 ∷ 1 ∷ 0 ∷ 1 ∷ 2 ∷ []) 5
    ∷ starting 3 (0 ∷ 1 ∷ 0 ∷ 1 ∷ 2 ∷ []) 4
    ∷ lent kinds (1 ∷ 0 ∷ 65535 ∷ 1 ∷ 1 ∷ 1 ∷ []) (0 ∷ 0 ∷ 1 ∷ []) 3 1 3
    -- "or overlap", with the same two counts
    ∷ starting 1 (0 ∷ 1 ∷ 2 ∷ 2 ∷ []) 3
    ∷ starting 1 (0 ∷ 1 ∷ 2 ∷ 2 ∷ []) 4
    -- "or not ending at the arc count": before it, behind it; an arc and no transition
    ∷ lent kinds rows arcs 3 2 5
    ∷ lent kinds rows arcs 3 2 3
    ∷ lent kinds [] arcs 3 0 1
    -- "a label that is 128 or above 255"
    ∷ single 128 0 65535
    ∷ single 256 0 65535
    -- "an action above 255 (65,535 as second aside)"
    ∷ single 1 256 65535
    ∷ single 1 65535 65535
    ∷ single 0 256 0
    ∷ single 0 0 256
    ∷ single 0 0 65534
    -- "or two transitions of the same action pair": single ones, joined ones, two with one between them
    ∷ acting 5 65535 5 65535
    ∷ acting 5 1 5 1
    ∷ lent kinds
    (1 ∷ 0 ∷ 65535 ∷ 0 ∷ 1 ∷ 1 ∷ 2 ∷ 1 ∷ 65535 ∷ 2 ∷ 1 ∷ 1 ∷ 3 ∷ 0 ∷ 65535 ∷ 4 ∷ 1 ∷ 1 ∷ [])
    (0 ∷ 1 ∷ 1 ∷ 2 ∷ 0 ∷ 2 ∷ [])
    3
    3
    6
    ∷ []

pub record KnownTables : Type 0 where
  are_nets : map is_net nets ≡ map (λ T. true) nets
  are_none : map is_net no_nets ≡ map (λ T. false) no_nets

pub known_tables : KnownTables
unfolding is_net
known_tables = record { are_nets = refl; are_none = refl }
