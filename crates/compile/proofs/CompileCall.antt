-- The compile call's answers with the tables that they leave, from what the judgement has told.
-- True by cases on the judgement: a refused plan and a table that is too short leave all tables, and else each table gets its part in front.
use Prim.Native.Nat.{ℕ, ◌+◌, ◌-◌, ◌*◌, ◌≤◌}
use native.Mathlib.Omega.{arith}
use mathlib.Core.Path.{◌≡◌, sym, ◌∙◌, ap, ap₂}
use mathlib.Core.Bool.{Bool, true, false, ◌&&◌}
use mathlib.Core.List.{List, ◌++◌}
use lib.ListN.{length, drop, replicate, length-append, length-replicate}
use lib.Seq.{sets}
use lib.Dec.{leb, leb→le}
use Rattle.field.specs.Refusals.{table_too_short}
use Rattle.field.specs.Answer.{good, refused, ◌>>=◌, ◌>>◌, check}
use Rattle.field.proofs.Tests.{and_parts, true_T}
use Rattle.algebra.specs.Net.{Net}
use Rattle.algebra.specs.Arcs.{net_of}
use Rattle.net.specs.Tables.{kinds_of, rows_of, arcs_of, tables_of}
use Rattle.boxes.specs.Compile.{counts_of, accept, Lent, Compiled, compiled, check_lent, compile_net, compile}
use Rattle.judging.specs.inner.Judging.{counts_told}
use Rattle.judging.specs.declared.NetCounts.{NetCounts}
use Rattle.judging.proofs.FinePlans.{IsFine, in_front, rows_long}
use Rattle.compile.specs.inner.Leaves.{Leaves}

leaves_by : (plan : List ℕ) (old : Lent) (c : Compiled) → compile plan old ≡ c → Leaves plan old c.answer c.tables.kinds c.tables.rows c.tables.arcs
leaves_by plan old c e = record {
  says = ap (λ x. x.answer) (sym e);
  kinds_are = ap (λ x. x.tables.kinds) (sym e);
  rows_are = ap (λ x. x.tables.rows) (sym e);
  arcs_are = ap (λ x. x.tables.arcs) (sym e);
}

-- A refused plan.
pub plan_refused : (plan : List ℕ) (n c : ℕ) (old : Lent) → accept plan ≡ refused n c → Leaves plan old (refused n c) old.kinds old.rows old.arcs
unfolding compile compile_net
plan_refused plan n c old e =
    leaves_by plan old (record { answer = refused n c; tables = old }) (ap (λ a. compiled old (a >>= λ E. check_lent (tables_of (net_of E)) old >> good (net_of E))) e)

module _ (plan : List ℕ) (n : NetCounts) (lists index list : List ℕ) (w : IsFine plan n lists index list) where
  abbrev N : Net
  N = net_of w.expr

  module _ (old : Lent) where
    abbrev reach : Bool
    reach = leb n.places (length old.kinds) && (leb (6 * n.transitions) (length old.rows) && leb n.arcs (length old.arcs))

    lent_check : check_lent (tables_of N) old ≡ check reach table_too_short 0
    unfolding check_lent counts_of
    lent_check =
        let g = sym w.told in
        ap (λ z. check (leb z.places (length old.kinds) && (leb (6 * z.transitions) (length old.rows) && leb z.arcs (length old.arcs))) table_too_short 0) g

    -- A table that is too short.
    pub too_short : reach ≡ false → Leaves plan old (refused table_too_short 0) old.kinds old.rows old.arcs
    unfolding compile compile_net
    too_short h =
        leaves_by plan old (record { answer = refused table_too_short 0; tables = old })
        (ap (λ a. compiled old (a >>= λ E. check_lent (tables_of (net_of E)) old >> good (net_of E))) w.accepts
        ∙ ap (λ c. compiled old (c >> good N)) (lent_check ∙ ap (λ b. check b table_too_short 0) h))

    compile_is : reach ≡ true → compile plan old ≡ compiled old (good N)
    unfolding compile compile_net
    compile_is h =
        ap (λ a. compiled old (a >>= λ E. check_lent (tables_of (net_of E)) old >> good (net_of E))) w.accepts
        ∙ ap (λ c. compiled old (c >> good N)) (lent_check ∙ ap (λ b. check b table_too_short 0) h)

    pub reaches : reach ≡ true → (n.places ≤ length old.kinds) × (6 * n.transitions ≤ length old.rows) × (n.arcs ≤ length old.arcs)
    reaches h =
        let a = and_parts (leb n.places (length old.kinds)) _ (true_T _ h) in
        let b = and_parts (leb (6 * n.transitions) (length old.rows)) (leb n.arcs (length old.arcs)) a.1 in
        (leb→le n.places (length old.kinds) a.0, leb→le (6 * n.transitions) (length old.rows) b.0, leb→le n.arcs (length old.arcs) b.1)

    exits_are : n.places - n.entries - n.internals ≡ N.exits
    exits_are = omega (arith, w.parts)

    kinds_are : replicate n.entries 1 ++ (replicate n.internals 2 ++ replicate (n.places - n.entries - n.internals) 3) ≡ kinds_of N
    unfolding kinds_of counts_of
    kinds_are =
        let e : n.entries ≡ N.entries = ap (λ z. z.entries) w.told in
        let i : n.internals ≡ N.internals = ap (λ z. z.internals) w.told in
        λ k. replicate (e k) 1 ++ (replicate (i k) 2 ++ replicate (exits_are k) 3)

    kinds_length : n.entries + n.internals + (n.places - n.entries - n.internals) ≡ length (kinds_of N)
    kinds_length =
        let a : List ℕ = replicate n.entries 1 in
        let b : List ℕ = replicate n.internals 2 in
        let c : List ℕ = replicate (n.places - n.entries - n.internals) 3 in
        omega (arith, length-append a (b ++ c), length-append b c, length-replicate {A = ℕ} n.entries 1, length-replicate {A = ℕ} n.internals 2, length-replicate {A = ℕ} (n.places - n.entries - n.internals) 3, ap length kinds_are)

    -- All three written.
    pub written : reach ≡ true → {kinds rows arcs : List ℕ} → kinds ≡ replicate n.entries 1 ++ (replicate n.internals 2 ++ replicate (n.places - n.entries - n.internals) 3) ++ drop (n.entries + n.internals + (n.places - n.entries - n.internals)) old.kinds
        → rows ≡ sets old.rows 0 (rows_of N) → arcs ≡ sets old.arcs 0 (arcs_of N) → Leaves plan old (good (counts_told n)) kinds rows arcs
    unfolding tables_of
    written h ek er ea =
        let (_, lr, la) = reaches h in
        let e = sym (compile_is h) in
        record {
          says = ap good w.told ∙ ap (λ x. x.answer) e;
          kinds_are = ek ∙ ap₂ (λ a k. a ++ drop k old.kinds) kinds_are kinds_length ∙ ap (λ x. x.tables.kinds) e;
          rows_are = er ∙ in_front (rows_of N) old.rows (omega (arith, lr, rows_long plan n lists index list w)) ∙ ap (λ x. x.tables.rows) e;
          arcs_are = ea ∙ in_front (arcs_of N) old.arcs (omega (arith, la, w.its_arcs)) ∙ ap (λ x. x.tables.arcs) e;
        }
