-- No two transitions of a net have the same action pair, as check 30 asks it of the tables.
-- The items of a box are unlike, and the test for the same item says that two items are equal.
use mathlib.Core.Path.{subst}
use mathlib.Core.Bool.{Bool, not}
use mathlib.Core.List.Memᴰ
use mathlib.Core.List.{List, [], ◌∷◌, map, Memᴰ}
use lib.Dec.{T, not_T}
use Rattle.field.proofs.Tests.{parts_and}
use Rattle.algebra.specs.Expr.{Expr}
use Rattle.algebra.specs.Item.{same_item}
use Rattle.algebra.proofs.Items.{same_item_is}
use Rattle.algebra.specs.Scopes.{ScopesNamed}
use Rattle.algebra.specs.Net.{Transition}
use Rattle.field.specs.Lists.{all}
use Rattle.net.specs.Check.{pairs_differ}
use Rattle.field.proofs.Alls.{all_of}
use Rattle.algebra.specs.Places.{Place, places}
use Rattle.algebra.specs.Transitions.{Labelled, transitions}
use Rattle.algebra.specs.Arcs.{transition_of, net_of}
use Rattle.algebra.proofs.PairsUnlike.{Unlike, pairs_unlike}

differ_of_unlike : (ps : List Place) (ts : List Labelled) → Unlike ts → T (pairs_differ (map (transition_of ps) ts))
unfolding pairs_differ transition_of
differ_of_unlike ps [] d = tt
differ_of_unlike ps (t ∷ ts) d =
    let ok : Transition → Bool = λ u. not (same_item t.item u.item) in
    parts_and (all ok (map (transition_of ps) ts)) (pairs_differ (map (transition_of ps) ts)) (all_of ok (map (transition_of ps) ts) others) (differ_of_unlike ps ts d.1)
  where
    others : (v : Transition) → Memᴰ v (map (transition_of ps) ts) → T (not (same_item t.item v.item))
    others v m =
        let q = Memᴰ.of_map (transition_of ps) ts m in
        subst (λ v. T (not (same_item t.item v.item))) q.2
        (not_T (same_item t.item q.0.item) (λ same. d.0 q.0 q.1 (same_item_is t.item q.0.item same)))

pub pairs_differ_in : (E : Expr) → ScopesNamed E → T (pairs_differ (net_of E).transitions)
unfolding net_of
pairs_differ_in E s = differ_of_unlike (places 0 E) (transitions 0 E) (pairs_unlike 0 E s)
