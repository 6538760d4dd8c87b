-- 01, "Box construction": nets in which every factor of a product has two places and the operands have internals of their own, and scopes with several pairs.
-- The numbers are worked out from the paper; another order of places or of transitions, or a wrong part of a place, breaks a row.
use Prim.Native.Nat.{ℕ}
use mathlib.Core.Path.{◌≡◌, refl}
use mathlib.Core.List.{List, [], ◌∷◌, map}
use Rattle.algebra.specs.Expr.{Expr, action, sequence, choice, parallel, loop, scope}
use Rattle.algebra.specs.Item.{Item, one, two}
use Rattle.algebra.specs.Net.{Transition, Net}
use Rattle.algebra.specs.Arcs.{net_of}
use Rattle.boxes.specs.Compile.{Counts, counts_of}

abbrev transition : ℕ → Item → List ℕ → List ℕ → Transition
transition l i ins outs = record { label = l; item = i; inputs = ins; outputs = outs }

-- two actions side by side: two entries and two exits
abbrev beside : ℕ → ℕ → Expr
beside l m = parallel (action l) (action m)

-- (a‖b);(c‖d), and four more labels in the same way: two entries, four internals, two exits
abbrev abcd : Expr
abcd = sequence (beside 1 2) (beside 3 4)

abbrev efgh : Expr
efgh = sequence (beside 5 6) (beside 7 8)

pub record KnownOrder : Type 0 where
  pub expr : Expr
  pub counts : Counts
  pub net : Net

-- an expression; how many entries, internals, exits, places, arcs and transitions it has; its transitions
abbrev order : Expr → ℕ → ℕ → ℕ → ℕ → ℕ → ℕ → List Transition → KnownOrder
order E entries internals exits places arcs many ts = record {
  expr = E;
  counts = record { places = places; transitions = many; arcs = arcs; entries = entries; internals = internals };
  net = record { entries = entries; internals = internals; exits = exits; transitions = ts };
}

abbrev known_order : List KnownOrder
known_order =
    -- "A×B runs over A, and for each over B": (a‖b);(c‖d), where c must not start after a alone
    order abcd 2 4 2 8 12 4
    (transition 1 (one 0) (0 ∷ []) (2 ∷ 3 ∷ [])
    ∷ transition 2 (one 1) (1 ∷ []) (4 ∷ 5 ∷ [])
    ∷ transition 3 (one 2) (2 ∷ 4 ∷ []) (6 ∷ [])
    ∷ transition 4 (one 3) (3 ∷ 5 ∷ []) (7 ∷ [])
    ∷ [])
    -- "E;F: entries of E; internals of E, of F, then exits(E)×entries(F); exits of F": 2 to 5, 6 to 9, 10 to 13
    ∷ order (sequence abcd efgh) 2 12 2 16 28 8
    (transition 1 (one 0) (0 ∷ []) (2 ∷ 3 ∷ [])
    ∷ transition 2 (one 1) (1 ∷ []) (4 ∷ 5 ∷ [])
    ∷ transition 3 (one 2) (2 ∷ 4 ∷ []) (10 ∷ 11 ∷ [])
    ∷ transition 4 (one 3) (3 ∷ 5 ∷ []) (12 ∷ 13 ∷ [])
    ∷ transition 5 (one 4) (10 ∷ 12 ∷ []) (6 ∷ 7 ∷ [])
    ∷ transition 6 (one 5) (11 ∷ 13 ∷ []) (8 ∷ 9 ∷ [])
    ∷ transition 7 (one 6) (6 ∷ 8 ∷ []) (14 ∷ [])
    ∷ transition 8 (one 7) (7 ∷ 9 ∷ []) (15 ∷ [])
    ∷ [])
    -- "E□F: entries(E)×entries(F); internals joined; exits(E)×exits(F)": 0 to 3, 4 to 7 and 8 to 11, 12 to 15
    ∷ order (choice abcd efgh) 4 8 4 16 32 8
    (transition 1 (one 0) (0 ∷ 1 ∷ []) (4 ∷ 5 ∷ [])
    ∷ transition 2 (one 1) (2 ∷ 3 ∷ []) (6 ∷ 7 ∷ [])
    ∷ transition 3 (one 2) (4 ∷ 6 ∷ []) (12 ∷ 13 ∷ [])
    ∷ transition 4 (one 3) (5 ∷ 7 ∷ []) (14 ∷ 15 ∷ [])
    ∷ transition 5 (one 4) (0 ∷ 2 ∷ []) (8 ∷ 9 ∷ [])
    ∷ transition 6 (one 5) (1 ∷ 3 ∷ []) (10 ∷ 11 ∷ [])
    ∷ transition 7 (one 6) (8 ∷ 10 ∷ []) (12 ∷ 14 ∷ [])
    ∷ transition 8 (one 7) (9 ∷ 11 ∷ []) (13 ∷ 15 ∷ [])
    ∷ [])
    -- "E‖F: each list joined, E's first": 0 1 and 2 3, 4 to 7 and 8 to 11, 12 13 and 14 15
    ∷ order (parallel abcd efgh) 4 8 4 16 24 8
    (transition 1 (one 0) (0 ∷ []) (4 ∷ 5 ∷ [])
    ∷ transition 2 (one 1) (1 ∷ []) (6 ∷ 7 ∷ [])
    ∷ transition 3 (one 2) (4 ∷ 6 ∷ []) (12 ∷ [])
    ∷ transition 4 (one 3) (5 ∷ 7 ∷ []) (13 ∷ [])
    ∷ transition 5 (one 4) (2 ∷ []) (8 ∷ 9 ∷ [])
    ∷ transition 6 (one 5) (3 ∷ []) (10 ∷ 11 ∷ [])
    ∷ transition 7 (one 6) (8 ∷ 10 ∷ []) (14 ∷ [])
    ∷ transition 8 (one 7) (9 ∷ 11 ∷ []) (15 ∷ [])
    ∷ [])
    -- "Loop: entries of E; internals of E, F, G, then" the product; "exits of G": ⟨(a;b)⊗(c;d)⊗(e;f)⟩ has one of each
    ∷ order (loop (sequence (action 1) (action 2)) (sequence (action 3) (action 4)) (sequence (action 5) (action 6))) 1 4 1 6 12 6
    (transition 1 (one 0) (0 ∷ []) (1 ∷ [])
    ∷ transition 2 (one 1) (1 ∷ []) (4 ∷ [])
    ∷ transition 3 (one 2) (4 ∷ []) (2 ∷ [])
    ∷ transition 4 (one 3) (2 ∷ []) (4 ∷ [])
    ∷ transition 5 (one 4) (4 ∷ []) (3 ∷ [])
    ∷ transition 6 (one 5) (3 ∷ []) (5 ∷ [])
    ∷ [])
    -- "exits(E)×exits(F)×entries(F)×entries(G)": ⟨(a‖b)⊗((c‖d);(e‖f))⊗(g‖h)⟩ has 16 of them, 6 to 21
    ∷ order (loop (beside 1 2) (sequence (beside 3 4) (beside 5 6)) (beside 7 8)) 2 20 2 24 76 8
    (transition 1 (one 0) (0 ∷ []) (6 ∷ 7 ∷ 8 ∷ 9 ∷ 10 ∷ 11 ∷ 12 ∷ 13 ∷ [])
    ∷ transition 2 (one 1) (1 ∷ []) (14 ∷ 15 ∷ 16 ∷ 17 ∷ 18 ∷ 19 ∷ 20 ∷ 21 ∷ [])
    ∷ transition 3 (one 2) (6 ∷ 7 ∷ 10 ∷ 11 ∷ 14 ∷ 15 ∷ 18 ∷ 19 ∷ []) (2 ∷ 3 ∷ [])
    ∷ transition 4 (one 3) (8 ∷ 9 ∷ 12 ∷ 13 ∷ 16 ∷ 17 ∷ 20 ∷ 21 ∷ []) (4 ∷ 5 ∷ [])
    ∷ transition 5 (one 4) (2 ∷ 4 ∷ []) (6 ∷ 7 ∷ 8 ∷ 9 ∷ 14 ∷ 15 ∷ 16 ∷ 17 ∷ [])
    ∷ transition 6 (one 5) (3 ∷ 5 ∷ []) (10 ∷ 11 ∷ 12 ∷ 13 ∷ 18 ∷ 19 ∷ 20 ∷ 21 ∷ [])
    ∷ transition 7 (one 6) (6 ∷ 8 ∷ 10 ∷ 12 ∷ 14 ∷ 16 ∷ 18 ∷ 20 ∷ []) (22 ∷ [])
    ∷ transition 8 (one 7) (7 ∷ 9 ∷ 11 ∷ 13 ∷ 15 ∷ 17 ∷ 19 ∷ 21 ∷ []) (23 ∷ [])
    ∷ [])
    -- the same with internals in each operand: ⟨((a;b)‖c)⊗((d‖e);(f‖g))⊗(h‖(i;j))⟩ has 2 of E, 3 to 6 of F, 7 of G, and then the product:
    -- the place of the x-th exit of E, the y-th of F, the z-th entry of F and the w-th of G is 8 + 8x + 4y + 2z + w
    ∷ order
    (loop
    (parallel (sequence (action 1) (action 2)) (action 3))
    (sequence (beside 4 5) (beside 6 7))
    (parallel (action 8) (sequence (action 9) (action 10))))
    2 22 2 26 80 10
    (transition 1 (one 0) (0 ∷ []) (2 ∷ [])
    ∷ transition 2 (one 1) (2 ∷ []) (8 ∷ 9 ∷ 10 ∷ 11 ∷ 12 ∷ 13 ∷ 14 ∷ 15 ∷ [])
    ∷ transition 3 (one 2) (1 ∷ []) (16 ∷ 17 ∷ 18 ∷ 19 ∷ 20 ∷ 21 ∷ 22 ∷ 23 ∷ [])
    ∷ transition 4 (one 3) (8 ∷ 9 ∷ 12 ∷ 13 ∷ 16 ∷ 17 ∷ 20 ∷ 21 ∷ []) (3 ∷ 4 ∷ [])
    ∷ transition 5 (one 4) (10 ∷ 11 ∷ 14 ∷ 15 ∷ 18 ∷ 19 ∷ 22 ∷ 23 ∷ []) (5 ∷ 6 ∷ [])
    ∷ transition 6 (one 5) (3 ∷ 5 ∷ []) (8 ∷ 9 ∷ 10 ∷ 11 ∷ 16 ∷ 17 ∷ 18 ∷ 19 ∷ [])
    ∷ transition 7 (one 6) (4 ∷ 6 ∷ []) (12 ∷ 13 ∷ 14 ∷ 15 ∷ 20 ∷ 21 ∷ 22 ∷ 23 ∷ [])
    ∷ transition 8 (one 7) (8 ∷ 10 ∷ 12 ∷ 14 ∷ 16 ∷ 18 ∷ 20 ∷ 22 ∷ []) (24 ∷ [])
    ∷ transition 9 (one 8) (9 ∷ 11 ∷ 13 ∷ 15 ∷ 17 ∷ 19 ∷ 21 ∷ 23 ∷ []) (7 ∷ [])
    ∷ transition 10 (one 9) (7 ∷ []) (25 ∷ [])
    ∷ [])
    -- "keeps the rest in order, then adds a silent one for each pair .. ordered by t, then u": (((a;b)‖a)‖(a'‖(c;a'))) sc a
    ∷ order
    (scope 1
    (parallel (parallel (sequence (action 1) (action 2)) (action 1)) (parallel (action 0x81) (sequence (action 3) (action 0x81)))))
    4 2 4 10 20 6
    (transition 2 (one 1) (4 ∷ []) (6 ∷ [])
    ∷ transition 3 (one 4) (3 ∷ []) (5 ∷ [])
    ∷ transition 0 (two 0 3) (0 ∷ 2 ∷ []) (4 ∷ 8 ∷ [])
    ∷ transition 0 (two 0 5) (0 ∷ 5 ∷ []) (4 ∷ 9 ∷ [])
    ∷ transition 0 (two 2 3) (1 ∷ 2 ∷ []) (7 ∷ 8 ∷ [])
    ∷ transition 0 (two 2 5) (1 ∷ 5 ∷ []) (7 ∷ 9 ∷ [])
    ∷ [])
    -- "pair t (label a), u (label a+128)": (a'‖a) sc a, where a is action 1
    ∷ order (scope 1 (beside 0x81 1)) 2 0 2 4 4 1 (transition 0 (two 1 0) (0 ∷ 1 ∷ []) (2 ∷ 3 ∷ []) ∷ [])
    -- "whose actions part at a parallel field": no pair in ((a‖b);a') sc a, (a□a') sc a, ⟨a⊗a'⊗a⟩ sc a
    ∷ order (scope 1 (sequence (beside 1 2) (action 0x81))) 2 2 1 5 2 1 (transition 2 (one 1) (1 ∷ []) (3 ∷ []) ∷ [])
    ∷ order (scope 1 (choice (action 1) (action 0x81))) 1 0 1 2 0 0 []
    ∷ order (scope 1 (loop (action 1) (action 0x81) (action 1))) 1 1 1 3 0 0 []
    -- the parallel stands deeper: (c;(a‖a')) sc a, ((a□b)‖a') sc a, ⟨(a‖a')⊗b⊗c⟩ sc a
    ∷ order (scope 1 (sequence (action 3) (beside 1 0x81))) 1 2 2 5 7 2
    (transition 3 (one 0) (0 ∷ []) (1 ∷ 2 ∷ []) ∷ transition 0 (two 1 2) (1 ∷ 2 ∷ []) (3 ∷ 4 ∷ []) ∷ [])
    ∷ order (scope 1 (parallel (choice (action 1) (action 2)) (action 0x81))) 2 0 2 4 6 2
    (transition 2 (one 1) (0 ∷ []) (2 ∷ []) ∷ transition 0 (two 0 2) (0 ∷ 1 ∷ []) (2 ∷ 3 ∷ []) ∷ [])
    ∷ order (scope 1 (loop (beside 1 0x81) (action 2) (action 3))) 2 2 1 5 11 3
    (transition 2 (one 2) (2 ∷ 3 ∷ []) (2 ∷ 3 ∷ [])
    ∷ transition 3 (one 3) (2 ∷ 3 ∷ []) (4 ∷ [])
    ∷ transition 0 (two 0 1) (0 ∷ 1 ∷ []) (2 ∷ 3 ∷ [])
    ∷ [])
    -- "takes away those labelled a or a+128", also where none is joined, and no silent one: (((a‖a') sc a)‖b) sc b
    ∷ order (scope 2 (parallel (scope 1 (beside 1 0x81)) (action 2))) 3 0 3 6 4 1 (transition 0 (two 0 1) (0 ∷ 1 ∷ []) (3 ∷ 4 ∷ []) ∷ [])
    ∷ []

pub record KnownOrders : Type 0 where
  nets : map (λ (k : KnownOrder). net_of k.expr) known_order ≡ map (λ (k : KnownOrder). k.net) known_order
  counts : map (λ (k : KnownOrder). counts_of (net_of k.expr)) known_order ≡ map (λ (k : KnownOrder). k.counts) known_order

pub known_orders : KnownOrders
unfolding net_of counts_of
known_orders = record { nets = refl; counts = refl }
