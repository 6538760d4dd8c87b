-- The refusals of a step's form and of firing have 01's numbers.
-- Each is that of a test, and what comes behind a test has them too.
use Prim.Native.Nat.{ℕ, zero, suc, ◌-◌}
use mathlib.Core.Path.{refl}
use mathlib.Core.List.{List, [], ◌∷◌, ◌++◌}
use mathlib.Core.Bool.{Bool, true, false, cond, ◌&&◌}
use lib.ListN.{length}
use lib.Dec.{eqb, leb}
use Rattle.field.specs.Answer.{Answer, good, refused, ◌>>◌, check}
use Rattle.field.specs.Field.{tag_of, length_of, body_of}
use Rattle.field.specs.Lists.{all}
use Rattle.algebra.specs.Item.{Item, first}
use Rattle.algebra.specs.Net.{Transition}
use Rattle.algebra.specs.Firing.{names, named_by, transitions_named, marked, check_marked, count, check_apart, moved, fire_items}
use Rattle.form.specs.Form.{check_header, one_tag, two_tag, item_tag, action_count, item_spelt, read_item, read_items, read_step, read_lent_step}
use Rattle.field.proofs.Faults.{IsKnown, check_known, bind_known}

header_known : {A : Type 0} (at : ℕ) (s : List ℕ) (rest : Answer A) → IsKnown rest → IsKnown (check_header at s >> rest)
unfolding check_header
header_known at s rest k = go (leb 3 (length s)) (leb (length_of s) (length s - 3))
  where
    go : (a b : Bool) → IsKnown ((check a 21 at >> check b 21 at) >> rest)
    go true true = k
    go true false = refl
    go false b = refl

tag_known : (at t : ℕ) → IsKnown (item_tag at t)
unfolding item_tag
tag_known at t = go (eqb t 0x21) (eqb t 0x22)
  where
    go : (a b : Bool) → IsKnown (cond a (good one_tag) (cond b (good two_tag) (refused 22 at)))
    go true b = tt
    go false true = tt
    go false false = refl

item_known : (at least : ℕ) (s : List ℕ) → IsKnown (read_item at least s)
unfolding read_item
item_known at least s =
    header_known at s _
    (bind_known (item_tag at (tag_of s)) _ (tag_known at (tag_of s))
    (λ t. check_known (eqb (length_of s) (action_count t)) 23 at _ refl (check_known (leb least (first (item_spelt t s))) 24 at _ refl tt)))

items_known : (at passed least : ℕ) (s : List ℕ) → IsKnown (read_items at passed least s)
unfolding read_items
items_known at passed least [] = tt
items_known at zero least (x ∷ s) =
    bind_known (read_item at least (x ∷ s)) _ (item_known at least (x ∷ s))
    (λ r. bind_known (read_items at (r.bytes - 1) (suc (first r.item)) s) _ (items_known at (r.bytes - 1) (suc (first r.item)) s) (λ is. tt))
items_known at (suc k) least (x ∷ s) = items_known at k least s

pub lent_known : (s : List ℕ) → IsKnown (read_lent_step s)
unfolding read_lent_step
lent_known s =
    header_known 0 s _
    (check_known (eqb (tag_of s) 0x20) 22 0 _ refl (check_known (leb 1 (length_of s) && eqb (length_of s) (length s - 3)) 23 0 _ refl (items_known 0 0 0 (body_of s))))

pub step_known : (at : ℕ) (s : List ℕ) → IsKnown (read_step at s)
unfolding read_step
step_known at s =
    header_known at s _
    (check_known (eqb (tag_of s) 0x20) 22 at _ refl
    (check_known (leb 1 (length_of s)) 23 at _ refl (bind_known (read_items at 0 0 (body_of s)) _ (items_known at 0 0 (body_of s)) (λ is. tt))))

named_known : (at : ℕ) (i : Item) (ts : List Transition) → IsKnown (named_by at i ts)
unfolding named_by
named_known at i [] = refl
named_known at i (t ∷ ts) = go (names i t) (named_known at i ts)
  where
    go : (b : Bool) → IsKnown (named_by at i ts) → IsKnown (cond b (good t) (named_by at i ts))
    go true k = tt
    go false k = k

transitions_known : (ts : List Transition) (at : ℕ) (is : List Item) → IsKnown (transitions_named ts at is)
unfolding transitions_named
transitions_known ts at [] = tt
transitions_known ts at (i ∷ is) =
    bind_known (named_by at i ts) _ (named_known at i ts) (λ t. bind_known (transitions_named ts (suc at) is) _ (transitions_known ts (suc at) is) (λ us. tt))

marked_known : (m : List ℕ) (at : ℕ) (ts : List Transition) → IsKnown (check_marked m at ts)
unfolding check_marked
marked_known m at [] = tt
marked_known m at (t ∷ ts) = check_known (marked m t) 32 at _ refl (marked_known m (suc at) ts)

apart_known : (taken : List ℕ) (at : ℕ) (ts : List Transition) → IsKnown (check_apart taken at ts)
unfolding check_apart
apart_known taken at [] = tt
apart_known taken at (t ∷ ts) = check_known (all (λ p. eqb (count p taken) 0) t.inputs) 33 at _ refl (apart_known (taken ++ t.inputs) (suc at) ts)

pub fire_known : (net : List Transition) (m : List ℕ) (is : List Item) → IsKnown (fire_items net m is)
unfolding fire_items
fire_known net m is =
    bind_known (transitions_named net 0 is) _ (transitions_known net 0 is)
    (λ ts. bind_known (check_marked m 0 ts) _ (marked_known m 0 ts)
    (λ _. bind_known (check_apart [] 0 ts) _ (apart_known [] 0 ts) (λ _. check_known (all (λ x. leb x 1) (moved 0 ts m)) 36 0 _ refl tt)))
