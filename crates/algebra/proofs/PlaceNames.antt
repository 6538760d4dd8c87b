-- The name of each typed place, and that the three lists of names of "Box construction" are the typed places in the order of their positions.
-- Each clause is the clause of the list, read place by place.
use Prim.Native.Nat.{ℕ, ◌+◌}
use mathlib.Core.Path.{◌≡◌, refl, ◌∙◌, ap, ap₂}
use mathlib.Core.Logic.{inl, inr}
use mathlib.Core.List.{List, [], ◌∷◌, ◌++◌}
use lib.ListN.{length}
use Rattle.algebra.specs.Expr.{Expr, action, sequence, choice, parallel, loop, scope, actions}
use Rattle.algebra.specs.Places.{Place, entry, exit, sequence_place, choice_entry, choice_exit, loop_place, product, pair, loop_of, entries, exits, internals, places}
use Rattle.algebra.proofs.Codes.{Code, point, void, sum, prod, El, entry_code, exit_code, internal_code, Entry, Exit, Internal}
use Rattle.algebra.proofs.Numbering.{table, sum_table, product_table, card, table_length}

unfoldable pub entry_name : (n : ℕ) (E : Expr) → Entry E → Place
entry_name n (action l) e = entry n
entry_name n (sequence E F) e = entry_name n E e
entry_name n (choice E F) e = choice_entry (entry_name n E e.0) (entry_name (n + actions E) F e.1)
entry_name n (parallel E F) (inl e) = entry_name n E e
entry_name n (parallel E F) (inr e) = entry_name (n + actions E) F e
entry_name n (loop E F G) e = entry_name n E e
entry_name n (scope a E) e = entry_name n E e

unfoldable pub exit_name : (n : ℕ) (E : Expr) → Exit E → Place
exit_name n (action l) x = exit n
exit_name n (sequence E F) x = exit_name (n + actions E) F x
exit_name n (choice E F) x = choice_exit (exit_name n E x.0) (exit_name (n + actions E) F x.1)
exit_name n (parallel E F) (inl x) = exit_name n E x
exit_name n (parallel E F) (inr x) = exit_name (n + actions E) F x
exit_name n (loop E F G) x = exit_name (n + actions E + actions F) G x
exit_name n (scope a E) x = exit_name n E x

unfoldable pub internal_name : (n : ℕ) (E : Expr) → Internal E → Place
unfolding entry_name exit_name
internal_name n (action l) i = absurd i
internal_name n (sequence E F) (inl i) = internal_name n E i
internal_name n (sequence E F) (inr (inl i)) = internal_name (n + actions E) F i
internal_name n (sequence E F) (inr (inr p)) = sequence_place (exit_name n E p.0) (entry_name (n + actions E) F p.1)
internal_name n (choice E F) (inl i) = internal_name n E i
internal_name n (choice E F) (inr i) = internal_name (n + actions E) F i
internal_name n (parallel E F) (inl i) = internal_name n E i
internal_name n (parallel E F) (inr i) = internal_name (n + actions E) F i
internal_name n (loop E F G) (inl i) = internal_name n E i
internal_name n (loop E F G) (inr (inl i)) = internal_name (n + actions E) F i
internal_name n (loop E F G) (inr (inr (inl i))) = internal_name (n + actions E + actions F) G i
internal_name n (loop E F G) (inr (inr (inr p))) =
    loop_place (exit_name n E p.0.0) (exit_name (n + actions E) F p.0.1) (entry_name (n + actions E) F p.1.0) (entry_name (n + actions E + actions F) G p.1.1)
internal_name n (scope a E) i = internal_name n E i

-- ---- the lists of names
-- The list of a function's values, place by place.
pub record Lists {X : Type 0} (c : Code) (f : El c → X) (xs : List X) : Type 0 where
  pub same : xs ≡ table c f

point_lists : {X : Type 0} (f : El point → X) → Lists point f (f tt ∷ [])
unfolding table
point_lists f = record { same = refl }

void_lists : {X : Type 0} (f : El void → X) → Lists void f []
unfolding table
void_lists f = record { same = refl }

sum_lists : {X : Type 0} {a b : Code} (f : El (sum a b) → X) {xs ys : List X} → Lists a (λ k. f (inl k)) xs → Lists b (λ k. f (inr k)) ys → Lists (sum a b) f (xs ++ ys)
sum_lists {a = a} {b = b} f p q = record { same = ap₂ ◌++◌ p.same q.same ∙ sum_table a b f }

product_lists : {X Y Z : Type 0} {a b : Code} {g : El a → X} {h : El b → Y} {xs : List X} {ys : List Y} (f : X → Y → Z) → Lists a g xs → Lists b h ys
    → Lists (prod a b) (λ k. f (g k.0) (h k.1)) (product f xs ys)
product_lists {a = a} {b = b} {g = g} {h = h} f p q = record { same = ap₂ (product f) p.same q.same ∙ product_table a b f g h }

entries_listed : (n : ℕ) (E : Expr) → Lists (entry_code E) (entry_name n E) (entries n E)
unfolding entries entry_name
entries_listed n (action l) = point_lists (entry_name n (action l))
entries_listed n (sequence E F) = record { same = (entries_listed n E).same }
entries_listed n (choice E F) = product_lists choice_entry (entries_listed n E) (entries_listed (n + actions E) F)
entries_listed n (parallel E F) = sum_lists (entry_name n (parallel E F)) (entries_listed n E) (entries_listed (n + actions E) F)
entries_listed n (loop E F G) = record { same = (entries_listed n E).same }
entries_listed n (scope a E) = record { same = (entries_listed n E).same }

exits_listed : (n : ℕ) (E : Expr) → Lists (exit_code E) (exit_name n E) (exits n E)
unfolding exits exit_name
exits_listed n (action l) = point_lists (exit_name n (action l))
exits_listed n (sequence E F) = record { same = (exits_listed (n + actions E) F).same }
exits_listed n (choice E F) = product_lists choice_exit (exits_listed n E) (exits_listed (n + actions E) F)
exits_listed n (parallel E F) = sum_lists (exit_name n (parallel E F)) (exits_listed n E) (exits_listed (n + actions E) F)
exits_listed n (loop E F G) = record { same = (exits_listed (n + actions E + actions F) G).same }
exits_listed n (scope a E) = record { same = (exits_listed n E).same }

internals_listed : (n : ℕ) (E : Expr) → Lists (internal_code E) (internal_name n E) (internals n E)
unfolding internals internal_name
internals_listed n (action l) = void_lists (internal_name n (action l))
internals_listed n (sequence E F) =
    let name = internal_name n (sequence E F) in
    sum_lists name (internals_listed n E)
    (sum_lists (λ k. name (inr k)) (internals_listed (n + actions E) F) (product_lists sequence_place (exits_listed n E) (entries_listed (n + actions E) F)))
internals_listed n (choice E F) = sum_lists (internal_name n (choice E F)) (internals_listed n E) (internals_listed (n + actions E) F)
internals_listed n (parallel E F) = sum_lists (internal_name n (parallel E F)) (internals_listed n E) (internals_listed (n + actions E) F)
internals_listed n (loop E F G) =
    let name = internal_name n (loop E F G) in
    sum_lists name (internals_listed n E)
    (sum_lists (λ k. name (inr k)) (internals_listed (n + actions E) F)
    (sum_lists (λ k. name (inr (inr k))) (internals_listed (n + actions E + actions F) G)
    (product_lists loop_of (product_lists pair (exits_listed n E) (exits_listed (n + actions E) F)) (product_lists pair (entries_listed (n + actions E) F) (entries_listed (n + actions E + actions F) G)))))
internals_listed n (scope a E) = record { same = (internals_listed n E).same }

-- all places of an expression
abbrev pub place_code : Expr → Code
place_code E = sum (entry_code E) (sum (internal_code E) (exit_code E))

unfoldable pub name : (n : ℕ) (E : Expr) → El (place_code E) → Place
unfolding entry_name internal_name exit_name
name n E (inl e) = entry_name n E e
name n E (inr (inl i)) = internal_name n E i
name n E (inr (inr x)) = exit_name n E x

pub places_table : (n : ℕ) (E : Expr) → places n E ≡ table (place_code E) (name n E)
unfolding places name
places_table n E = (sum_lists (name n E) (entries_listed n E) (sum_lists (λ k. name n E (inr k)) (internals_listed n E) (exits_listed n E))).same

pub entries_card : (n : ℕ) (E : Expr) → length (entries n E) ≡ card (entry_code E)
entries_card n E = ap length (entries_listed n E).same ∙ table_length (entry_code E) (entry_name n E)

pub internals_card : (n : ℕ) (E : Expr) → length (internals n E) ≡ card (internal_code E)
internals_card n E = ap length (internals_listed n E).same ∙ table_length (internal_code E) (internal_name n E)

pub exits_card : (n : ℕ) (E : Expr) → length (exits n E) ≡ card (exit_code E)
exits_card n E = ap length (exits_listed n E).same ∙ table_length (exit_code E) (exit_name n E)
