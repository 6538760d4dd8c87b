-- The places of an expression as types, one for each of the three lists of "Box construction", so that a place can be taken apart by cases.
-- A code says how a list was made: `sum` joins two lists, `prod` is a product.
use mathlib.Core.Logic.{◌⊎◌, inl, inr}
use Rattle.algebra.specs.Expr.{Expr, action, sequence, choice, parallel, loop, scope}

pub data Code : Type 0 where
  point void : Code
  sum prod : Code → Code → Code

abbrev pub El : Code → Type 0
El point = Unit {0}
El void = ⊥
El (sum a b) = El a ⊎ El b
El (prod a b) = El a × El b

abbrev pub entry_code : Expr → Code
entry_code (action l) = point
entry_code (sequence E F) = entry_code E
entry_code (choice E F) = prod (entry_code E) (entry_code F)
entry_code (parallel E F) = sum (entry_code E) (entry_code F)
entry_code (loop E F G) = entry_code E
entry_code (scope a E) = entry_code E

abbrev pub exit_code : Expr → Code
exit_code (action l) = point
exit_code (sequence E F) = exit_code F
exit_code (choice E F) = prod (exit_code E) (exit_code F)
exit_code (parallel E F) = sum (exit_code E) (exit_code F)
exit_code (loop E F G) = exit_code G
exit_code (scope a E) = exit_code E

abbrev pub internal_code : Expr → Code
internal_code (action l) = void
internal_code (sequence E F) = sum (internal_code E) (sum (internal_code F) (prod (exit_code E) (entry_code F)))
internal_code (choice E F) = sum (internal_code E) (internal_code F)
internal_code (parallel E F) = sum (internal_code E) (internal_code F)
internal_code (loop E F G) =
    sum (internal_code E)
    (sum (internal_code F)
    (sum (internal_code G)
    (prod (prod (exit_code E) (exit_code F)) (prod (entry_code F) (entry_code G)))))
internal_code (scope a E) = internal_code E

abbrev pub Entry : Expr → Type 0
Entry E = El (entry_code E)

abbrev pub Exit : Expr → Type 0
Exit E = El (exit_code E)

abbrev pub Internal : Expr → Type 0
Internal E = El (internal_code E)

-- Every expression has an entry and an exit.
unfoldable pub some_entry : (E : Expr) → Entry E
some_entry (action l) = tt
some_entry (sequence E F) = some_entry E
some_entry (choice E F) = (some_entry E, some_entry F)
some_entry (parallel E F) = inl (some_entry E)
some_entry (loop E F G) = some_entry E
some_entry (scope a E) = some_entry E

unfoldable pub some_exit : (E : Expr) → Exit E
some_exit (action l) = tt
some_exit (sequence E F) = some_exit F
some_exit (choice E F) = (some_exit E, some_exit F)
some_exit (parallel E F) = inl (some_exit E)
some_exit (loop E F G) = some_exit G
some_exit (scope a E) = some_exit E

-- Of every code, all places pass one test or some place passes the other.
pub search_places : (c : Code) {P Q : El c → Type 0} → ((k : El c) → P k ⊎ Q k) → ((k : El c) → P k) ⊎ ((k : El c) × Q k)
search_places point {P} {Q} d = go (d tt)
  where
    go : P tt ⊎ Q tt → ((k : El point) → P k) ⊎ ((k : El point) × Q k)
    go (inl p) = inl (λ k. p)
    go (inr q) = inr (tt, q)
search_places void d = inl (λ k. absurd k)
search_places (sum a b) {P} {Q} d = go (search_places a (λ k. d (inl k))) (search_places b (λ k. d (inr k)))
  where
    go : ((k : El a) → P (inl k)) ⊎ ((k : El a) × Q (inl k)) → ((k : El b) → P (inr k)) ⊎ ((k : El b) × Q (inr k)) → ((k : El (sum a b)) → P k) ⊎ ((k : El (sum a b)) × Q k)
    go (inl f) (inl g) = inl (elim [ inl k ↦ f k | inr k ↦ g k ])
    go (inr r) _ = inr (inl r.0, r.1)
    go (inl f) (inr r) = inr (inr r.0, r.1)
search_places (prod a b) {P} {Q} d = go (search_places a {P = λ x. (y : El b) → P (x, y)} {Q = λ x. (y : El b) × Q (x, y)} (λ x. search_places b (λ y. d (x, y))))
  where
    go : ((x : El a) (y : El b) → P (x, y)) ⊎ ((x : El a) × ((y : El b) × Q (x, y))) → ((k : El (prod a b)) → P k) ⊎ ((k : El (prod a b)) × Q k)
    go (inl f) = inl (λ k. f k.0 k.1)
    go (inr r) = inr ((r.0, r.1.0), r.1.1)
