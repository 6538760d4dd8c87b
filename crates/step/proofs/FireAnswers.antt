-- The answers of `fire_items`, each with the marking that goes with it.
-- 31 is the answer where an item was not found; else the items' transitions are known, and moving their tokens is the rest of the firing.
use Prim.Native.Nat.{ℕ, ◌<◌}
use mathlib.Core.Path.{◌≡◌, refl, sym, ap, subst, ◌∙◌}
use mathlib.Core.List.{List, [], map}
use mathlib.Core.Bool.{true}
use lib.ListN.{length, take}
use lib.Dec.{leb}
use Rattle.std.specs.Prelude.{All, Result, Ok, Err, MatchResult, is_ok}
use Rattle.std.proofs.lemmas.List.{take-map}
use Rattle.field.specs.Answer.{Answer, good, ◌>>=◌, ◌>>◌, check}
use Rattle.field.specs.Lists.{all}
use Rattle.field.specs.Refusals.{two_tokens}
use Rattle.field.specs.declared.Fault.TheVariants.{NoTransition}
use Rattle.field.specs.declared.Refusal.{Refusal}
use Rattle.algebra.specs.Item.{Item}
use Rattle.algebra.specs.Net.{Transition}
use Rattle.algebra.specs.Firing.{transitions_named, check_marked, check_apart, moved, fire_items}
use Rattle.form.specs.Form.{read_lent_step}
use Rattle.form.specs.inner.FormSays.{code_item, items_in}
use Rattle.form.specs.declared.Item as code
use Rattle.net.specs.declared.Side.TheVariants.{Inputs, Outputs}
use Rattle.moving.specs.inner.Moving.{sides, moves}
use Rattle.moving.specs.inner.InOrder.{transition_in, transitions_within, InOrder}
use Rattle.step.specs.inner.Naming.{ItemFound, ItemMissed}
use Rattle.moving.specs.inner.Moves.{Moves}
use Rattle.step.specs.inner.Reads.{read_and_fire}
use Rattle.moving.proofs.MoveAnswers.{moves_refused}
use Rattle.moving.proofs.Outcome.{below_all, moves_are}
use Rattle.moving.proofs.Orders.{both_sides, transitions_rise}

fire_named : (net : List Transition) (m : List ℕ) (is : List Item) (us : List Transition) → transitions_named net 0 is ≡ good us
    → fire_items net m is ≡ (check_marked m 0 us >> (check_apart [] 0 us >> (check (all (λ x. leb x 1) (moved 0 us m)) two_tokens 0 >> good (moved 0 us m))))
unfolding fire_items
fire_named net m is us e = rw e

module _ (rows arcs : List ℕ) (transitions : ℕ) (is : List Item) (m : List ℕ) where
  pub item_unknown : (i : ℕ) → ItemMissed rows arcs transitions is i → (r : Refusal) → (r.fault ≡ NoTransition) × (r.carried ≡ i)
      → Moves (Err r) m m (fire_items (transitions_within rows arcs transitions) m is)
  unfolding fire_items
  item_unknown i e r says = moves_refused NoTransition i r says m m (fire_items (transitions_within rows arcs transitions) m is) (rw e) refl

  pub items_known : (ts : List ℕ) → ItemFound rows arcs transitions is ts → All (λ t. t < transitions) ts → InOrder rows arcs transitions (length m) → all (λ x. leb x 1) m ≡ true
      → (r : Result (Unit {0}) Refusal) (m' : List ℕ) → Moves r m m' (moves m (sides Inputs rows arcs ts) (sides Outputs rows arcs ts))
      → Moves r m m' (fire_items (transitions_within rows arcs transitions) m is)
  items_known ts named below o safe r m' d =
      subst (Moves r m m')
      (sym (both_sides rows arcs ts (moves m))
      ∙ moves_are m (map (transition_in rows arcs) ts) (below_all m safe) (transitions_rise rows arcs transitions (length m) o ts below)
      ∙ sym (fire_named (transitions_within rows arcs transitions) m is (map (transition_in rows arcs) ts) named)) d

-- A step that is read fires its items.
pub step_fired : (net : List Transition) (m s : List ℕ) (items : List code.Item) (count : ℕ) → good (items_in count items) ≡ read_lent_step s
    → (r : Result (Unit {0}) Refusal) (m' : List ℕ) → Moves r m m' (fire_items net m (map code_item (take count items))) → Moves r m m' (read_and_fire net m s)
step_fired net m s items count read r m' moves =
    subst (λ (a : Answer (List Item)). Moves r m m' (a >>= fire_items net m)) (ap good (sym (take-map code_item count items)) ∙ read) moves

-- What was read where the reading is good, whatever a refusal is turned into.
pub good_before : {A E : Type 0} (D : Type 0) (r : Result A E) (n : A) (Q : E → Type 0) → MatchResult r (λ x. ◌≡◌ {A = Result A D} (Ok n) (Ok x)) Q → true ≡ is_ok r → r ≡ Ok n
good_before D (Ok x) n Q e v = let same : x ≡ n = cc in ap Ok same
good_before D (Err y) n Q e v = absurd (cc)
