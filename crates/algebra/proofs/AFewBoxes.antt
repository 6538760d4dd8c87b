-- 01, "Box construction": the nets of four expressions, in which every factor of a product has two places, and a scope has four pairs.
-- The numbers are worked out from the paper; factors, operands or pairs taken in another order break a row.
use Prim.Native.Nat.{ℕ}
use mathlib.Core.Path.{◌≡◌, refl}
use mathlib.Core.List.{List, [], ◌∷◌, map}
use Rattle.algebra.specs.Expr.{Expr, action, sequence, choice, parallel, loop, scope}
use Rattle.algebra.specs.Item.{Item, one, two}
use Rattle.algebra.specs.Net.{Transition, Net}
use Rattle.algebra.specs.Arcs.{net_of}

abbrev transition : ℕ → Item → List ℕ → List ℕ → Transition
transition l i ins outs = record { label = l; item = i; inputs = ins; outputs = outs }

abbrev net : ℕ → ℕ → ℕ → List Transition → Net
net entries internals exits ts = record { entries = entries; internals = internals; exits = exits; transitions = ts }

-- two actions side by side: two entries and two exits
abbrev beside : ℕ → ℕ → Expr
beside l m = parallel (action l) (action m)

pub record Built : Type 0 where
  pub expr : Expr
  pub net : Net

abbrev built : List Built
built =
    -- "exits(E)×entries(F)": (a‖b);(c‖d)
    record {
      expr = sequence (beside 1 2) (beside 3 4);
      net = net 2 4 2
          (transition 1 (one 0) (0 ∷ []) (2 ∷ 3 ∷ [])
          ∷ transition 2 (one 1) (1 ∷ []) (4 ∷ 5 ∷ [])
          ∷ transition 3 (one 2) (2 ∷ 4 ∷ []) (6 ∷ [])
          ∷ transition 4 (one 3) (3 ∷ 5 ∷ []) (7 ∷ [])
          ∷ []);
    }
    -- "entries(E)×entries(F)", "exits(E)×exits(F)": (a‖b)□(c‖d)
    ∷ record {
      expr = choice (beside 1 2) (beside 3 4);
      net = net 4 0 4
          (transition 1 (one 0) (0 ∷ 1 ∷ []) (4 ∷ 5 ∷ [])
          ∷ transition 2 (one 1) (2 ∷ 3 ∷ []) (6 ∷ 7 ∷ [])
          ∷ transition 3 (one 2) (0 ∷ 2 ∷ []) (4 ∷ 6 ∷ [])
          ∷ transition 4 (one 3) (1 ∷ 3 ∷ []) (5 ∷ 7 ∷ [])
          ∷ []);
    }
    -- "exits(E)×exits(F)×entries(F)×entries(G)": ⟨(a‖b)⊗((c‖d);(e‖f))⊗(g‖h)⟩ has 16 of them, 6 to 21
    ∷ record {
      expr = loop (beside 1 2) (sequence (beside 3 4) (beside 5 6)) (beside 7 8);
      net = net 2 20 2
          (transition 1 (one 0) (0 ∷ []) (6 ∷ 7 ∷ 8 ∷ 9 ∷ 10 ∷ 11 ∷ 12 ∷ 13 ∷ [])
          ∷ transition 2 (one 1) (1 ∷ []) (14 ∷ 15 ∷ 16 ∷ 17 ∷ 18 ∷ 19 ∷ 20 ∷ 21 ∷ [])
          ∷ transition 3 (one 2) (6 ∷ 7 ∷ 10 ∷ 11 ∷ 14 ∷ 15 ∷ 18 ∷ 19 ∷ []) (2 ∷ 3 ∷ [])
          ∷ transition 4 (one 3) (8 ∷ 9 ∷ 12 ∷ 13 ∷ 16 ∷ 17 ∷ 20 ∷ 21 ∷ []) (4 ∷ 5 ∷ [])
          ∷ transition 5 (one 4) (2 ∷ 4 ∷ []) (6 ∷ 7 ∷ 8 ∷ 9 ∷ 14 ∷ 15 ∷ 16 ∷ 17 ∷ [])
          ∷ transition 6 (one 5) (3 ∷ 5 ∷ []) (10 ∷ 11 ∷ 12 ∷ 13 ∷ 18 ∷ 19 ∷ 20 ∷ 21 ∷ [])
          ∷ transition 7 (one 6) (6 ∷ 8 ∷ 10 ∷ 12 ∷ 14 ∷ 16 ∷ 18 ∷ 20 ∷ []) (22 ∷ [])
          ∷ transition 8 (one 7) (7 ∷ 9 ∷ 11 ∷ 13 ∷ 15 ∷ 17 ∷ 19 ∷ 21 ∷ []) (23 ∷ [])
          ∷ []);
    }
    -- "keeps the rest in order, then adds a silent one for each pair .. ordered by t, then u": (((a‖a)‖(a'‖a'))‖b) sc a
    ∷ record {
      expr = scope 1 (parallel (parallel (beside 1 1) (beside 0x81 0x81)) (action 2));
      net = net 5 0 5
          (transition 2 (one 4) (4 ∷ []) (9 ∷ [])
          ∷ transition 0 (two 0 2) (0 ∷ 2 ∷ []) (5 ∷ 7 ∷ [])
          ∷ transition 0 (two 0 3) (0 ∷ 3 ∷ []) (5 ∷ 8 ∷ [])
          ∷ transition 0 (two 1 2) (1 ∷ 2 ∷ []) (6 ∷ 7 ∷ [])
          ∷ transition 0 (two 1 3) (1 ∷ 3 ∷ []) (6 ∷ 8 ∷ [])
          ∷ []);
    }
    ∷ []

pub a_few_boxes : map (λ (k : Built). net_of k.expr) built ≡ map (λ (k : Built). k.net) built
unfolding net_of
a_few_boxes = refl
