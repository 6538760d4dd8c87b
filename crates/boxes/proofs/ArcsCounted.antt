-- The arcs of the net are as many as the listed transitions' actions have, added up.
-- A joined transition has the arcs of its two actions, which share no input place and no output place.
use Prim.Native.Nat.{ℕ, ◌+◌}
use native.Mathlib.Omega.{arith}
use mathlib.Core.Path.{◌≡◌, refl, ap₂}
use mathlib.Core.List.{List, [], ◌∷◌, ◌++◌, map, Memᴰ}
use lib.ListN.{length, length-append}
use Rattle.algebra.specs.Expr.{Expr}
use Rattle.algebra.specs.Item.{Item, one, two}
use Rattle.algebra.specs.Exclusive.{LoopsExclusive}
use Rattle.algebra.specs.Scopes.{ScopesNamed}
use Rattle.algebra.specs.Places.{Place, places}
use Rattle.algebra.specs.Transitions.{Labelled, transitions}
use Rattle.algebra.specs.Arcs.{consumes, produces, by_item, numbers, transition_of, net_of}
use Rattle.algebra.proofs.JoinedApart.{joined_inputs, joined_outputs}
use Rattle.net.specs.Tables.{arcs_from, arcs_of}
use Rattle.boxes.specs.inner.ArcCounts.{item_arcs, listed_arcs, action_arcs}

-- How many arcs a transition has.
abbrev arcs_at : List Place → Labelled → ℕ
arcs_at ps x = length (transition_of ps x).inputs + length (transition_of ps x).outputs

counted_each : (ps : List Place) (w : ℕ → ℕ) (ts : List Labelled) → ((x : Labelled) → Memᴰ x ts → item_arcs w x.item ≡ arcs_at ps x)
    → listed_arcs w ts ≡ length (arcs_from (map (transition_of ps) ts))
unfolding listed_arcs arcs_from
counted_each ps w [] h = refl
counted_each ps w (t ∷ ts) h =
    let u = transition_of ps t in
    let rest = arcs_from (map (transition_of ps) ts) in
    omega (arith, h t (Memᴰ.head refl), counted_each ps w ts (λ x m. h x (Memᴰ.tail m)), length-append u.inputs (u.outputs ++ rest), length-append u.outputs rest)

item_counted : (E : Expr) → LoopsExclusive E → ScopesNamed E → (x : Labelled) → Memᴰ x (transitions 0 E) → item_arcs (action_arcs E) x.item ≡ arcs_at (places 0 E) x
unfolding transition_of
item_counted E g c x m = go x.item refl
  where
    go : (t : Item) → x.item ≡ t → item_arcs (action_arcs E) t ≡ length (numbers (by_item consumes t) 0 (places 0 E)) + length (numbers (by_item produces t) 0 (places 0 E))
    go (one i) e = refl
    go (two i j) e = omega (arith, joined_inputs E g c x m i j e, joined_outputs E g c x m i j e)

pub arcs_counted : (E : Expr) → LoopsExclusive E → ScopesNamed E → listed_arcs (action_arcs E) (transitions 0 E) ≡ length (arcs_of (net_of E))
unfolding arcs_of net_of
arcs_counted E g c = counted_each (places 0 E) (action_arcs E) (transitions 0 E) (item_counted E g c)

-- Two counts that agree on the listed items add up to the same.
pub listed_arcs_same : (w v : ℕ → ℕ) (ts : List Labelled) → ((x : Labelled) → Memᴰ x ts → item_arcs w x.item ≡ item_arcs v x.item) → listed_arcs w ts ≡ listed_arcs v ts
unfolding listed_arcs
listed_arcs_same w v [] h = refl
listed_arcs_same w v (t ∷ ts) h = ap₂ ◌+◌ (h t (Memᴰ.head refl)) (listed_arcs_same w v ts (λ x m. h x (Memᴰ.tail m)))
