-- Entry places have no producer and exit places no consumer.
-- Entries are made of entries and exits of exits alone; only an internal place has an exit part and an entry part.
use Prim.Native.Nat.{ℕ, ◌+◌}
use mathlib.Core.Path.{◌≡◌}
use mathlib.Core.Logic.{⊎_elim}
use mathlib.Core.Bool.{false}
use mathlib.Core.List.Memᴰ
use mathlib.Core.List.{Memᴰ}
use Rattle.algebra.specs.Expr.{Expr, action, sequence, choice, parallel, loop, scope, actions}
use Rattle.algebra.specs.Places.{Place, choice_entry, choice_exit, entries, exits}
use Rattle.algebra.specs.Arcs.{consumes, produces}
use Rattle.algebra.proofs.Products.{product_member}

pub entries_not_produced : (n : ℕ) (E : Expr) (i : ℕ) (p : Place) → Memᴰ p (entries n E) → produces i p ≡ false
unfolding entries produces
entries_not_produced n (action l) i p m = rw (Memᴰ.eq_of_singleton m)
entries_not_produced n (sequence E F) i p m = entries_not_produced n E i p m
entries_not_produced n (choice E F) i p m = rw (product_member choice_entry (entries n E) (entries (n + actions E) F) m).4
entries_not_produced n (parallel E F) i p m =
    ⊎_elim (entries_not_produced n E i p) (entries_not_produced (n + actions E) F i p) (Memᴰ.append_cases (entries n E) m)
entries_not_produced n (loop E F G) i p m = entries_not_produced n E i p m
entries_not_produced n (scope a E) i p m = entries_not_produced n E i p m

pub exits_not_consumed : (n : ℕ) (E : Expr) (i : ℕ) (p : Place) → Memᴰ p (exits n E) → consumes i p ≡ false
unfolding exits consumes
exits_not_consumed n (action l) i p m = rw (Memᴰ.eq_of_singleton m)
exits_not_consumed n (sequence E F) i p m = exits_not_consumed (n + actions E) F i p m
exits_not_consumed n (choice E F) i p m = rw (product_member choice_exit (exits n E) (exits (n + actions E) F) m).4
exits_not_consumed n (parallel E F) i p m =
    ⊎_elim (exits_not_consumed n E i p) (exits_not_consumed (n + actions E) F i p) (Memᴰ.append_cases (exits n E) m)
exits_not_consumed n (loop E F G) i p m = exits_not_consumed (n + actions E + actions F) G i p m
exits_not_consumed n (scope a E) i p m = exits_not_consumed n E i p m
