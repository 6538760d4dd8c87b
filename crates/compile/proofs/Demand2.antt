-- Demand 2: "The net of a plan is the one the box algebra builds: same places, transitions, labels, arcs, less the joined pairs that do not part at a parallel
-- field, numbered as the paper says. A compile is refused for the first stated fault, and for nothing else." Said of every result that the call's contract allows.
use Prim.Native.Nat.{ℕ}
use mathlib.Core.Path.{◌≡◌, refl, ◌∙◌, ap, subst}
use mathlib.Core.List.{List, ◌++◌}
use lib.ListN.{length, drop}
use contract.Lifetimes.{Lfts}
use borrow.Fn.Kinds.{Dens}
use Rattle.std.specs.Prelude as prelude
use Rattle.field.specs.Answer.{Answer, good, refused, ◌>>=◌, ◌>>◌}
use Rattle.field.specs.Says.{number_of}
use Rattle.field.specs.declared.Refusal.{Refusal}
use Rattle.field.proofs.Answers.{good_not_refused}
use Rattle.field.proofs.OneResult.{Result, Allowed}
use Rattle.algebra.specs.Expr.{Expr}
use Rattle.algebra.specs.Arcs.{net_of}
use Rattle.plan.specs.Reading.{read_plan}
use Rattle.plan.specs.Loops.{check_loops}
use Rattle.net.specs.Tables.{tables_of, kinds_of, rows_of, arcs_of}
use Rattle.boxes.specs.Counts.{check_size}
use Rattle.boxes.specs.Compile.{Lent, counts_of, accept, check_lent, compile_net, compile, compiled}
use Rattle.compile.specs.Says.{compiling_says, three_lent}
use Rattle.judging.specs.inner.Judging.{counts_told}
use Rattle.judging.specs.declared.NetCounts.{NetCounts}
use Rattle.compile.proofs.compile.Kinds as call
use Rattle.compile.proofs.compile.Reads as reads

-- The first stated fault of a plan and three lent tables: "Plan: 1; then fields in byte order ..; 10 after all reading; then 11, 12, 13, 14".
-- 1 to 9 are given as the plan is read, 10 by its loops, 11 to 13 by the size of its net, 14 by the tables.
pub data FirstFault (plan kinds rows arcs : List ℕ) (n c : ℕ) : Type 0 where
  as_read : read_plan plan ≡ refused n c → FirstFault plan kinds rows arcs n c
  by_loops : (E : Expr) → read_plan plan ≡ good E → check_loops E ≡ refused n c → FirstFault plan kinds rows arcs n c
  by_size : (E : Expr) → read_plan plan ≡ good E → check_loops E ≡ good tt → check_size E ≡ refused n c → FirstFault plan kinds rows arcs n c
  by_tables : (E : Expr) → accept plan ≡ good E → check_lent (tables_of (net_of E)) (three_lent kinds rows arcs) ≡ refused n c → FirstFault plan kinds rows arcs n c

-- The net of an accepted plan stands in front of each table, with the counts told; or the first fault is told and every table is as it was.
pub data Demand2 (plan kinds rows arcs : List ℕ) (r : prelude.Result NetCounts Refusal) (kinds' rows' arcs' : List ℕ) : Type 0 where
  built : (E : Expr) → read_plan plan ≡ good E → check_loops E ≡ good tt → check_size E ≡ good tt → check_lent (tables_of (net_of E)) (three_lent kinds rows arcs) ≡ good tt
      → compiling_says r ≡ good (counts_of (net_of E))
      → kinds' ≡ kinds_of (net_of E) ++ drop (length (kinds_of (net_of E))) kinds
      → rows' ≡ rows_of (net_of E) ++ drop (length (rows_of (net_of E))) rows
      → arcs' ≡ arcs_of (net_of E) ++ drop (length (arcs_of (net_of E))) arcs → Demand2 plan kinds rows arcs r kinds' rows' arcs'
  refuses : (e : Refusal) → r ≡ prelude.Err e → FirstFault plan kinds rows arcs (number_of e.fault) e.carried → kinds' ≡ kinds → rows' ≡ rows → arcs' ≡ arcs → Demand2 plan kinds rows arcs r kinds' rows' arcs'

-- What the contract says.
record Equated (plan kinds rows arcs : List ℕ) (r : prelude.Result NetCounts Refusal) (kinds' rows' arcs' : List ℕ) : Type 0 where
  answer : compiling_says r ≡ (compile plan (three_lent kinds rows arcs)).answer
  kinds_are : kinds' ≡ (compile plan (three_lent kinds rows arcs)).tables.kinds
  rows_are : rows' ≡ (compile plan (three_lent kinds rows arcs)).tables.rows
  arcs_are : arcs' ≡ (compile plan (three_lent kinds rows arcs)).tables.arcs

module _ (plan kinds rows arcs : List ℕ) (r : prelude.Result NetCounts Refusal) (kinds' rows' arcs' : List ℕ) (a : Equated plan kinds rows arcs r kinds' rows' arcs') where
  abbrev old : Lent
  old = three_lent kinds rows arcs

  -- the refusal that says so
  refused_by : {n c : ℕ} (q : prelude.Result NetCounts Refusal) → compiling_says q ≡ refused n c → FirstFault plan kinds rows arcs n c → kinds' ≡ kinds → rows' ≡ rows → arcs' ≡ arcs → Demand2 plan kinds rows arcs q kinds' rows' arcs'
  refused_by {n} {c} (prelude.Ok x) e f k l m = good_not_refused (good (counts_told x)) (counts_told x) n c refl e
  refused_by {n} {c} (prelude.Err x) e f k l m =
      let i : n ≡ number_of x.fault = cc in
      let j : c ≡ x.carried = cc in
      refuses x refl (subst (λ n. FirstFault plan kinds rows arcs n x.carried) i (subst (FirstFault plan kinds rows arcs n) j f)) k l m

  refused_at : (n c : ℕ) → compile_net plan old ≡ refused n c → FirstFault plan kinds rows arcs n c → Demand2 plan kinds rows arcs r kinds' rows' arcs'
  unfolding compile
  refused_at n c e f =
      let x : compile plan old ≡ compiled old (refused n c) = ap (compiled old) e in
      refused_by r (a.answer ∙ ap (λ z. z.answer) x) f (a.kinds_are ∙ ap (λ z. z.tables.kinds) x) (a.rows_are ∙ ap (λ z. z.tables.rows) x) (a.arcs_are ∙ ap (λ z. z.tables.arcs) x)

  -- The tests in their order.
  module _ (E : Expr) (read : read_plan plan ≡ good E) where
    net_by : {l s t : Answer (Unit {0})} → check_loops E ≡ l → check_size E ≡ s → check_lent (tables_of (net_of E)) old ≡ t
        → compile_net plan old ≡ ((l >> (s >> good E)) >>= λ F. check_lent (tables_of (net_of F)) old >> good (net_of F))
    unfolding compile_net accept
    net_by p q u = rw (read, p, q) refl

    tables_fit : check_loops E ≡ good tt → check_size E ≡ good tt → (t : Answer (Unit {0})) → check_lent (tables_of (net_of E)) old ≡ t → Demand2 plan kinds rows arcs r kinds' rows' arcs'
    unfolding compile accept tables_of
    tables_fit p q (good u) e =
        let n : compile_net plan old ≡ good (net_of E) = net_by p q e ∙ ap (λ t. t >> good (net_of E)) e in
        let x : compile plan old ≡ compiled old (good (net_of E)) = ap (compiled old) n in
        built E read p q e (a.answer ∙ ap (λ z. z.answer) x) (a.kinds_are ∙ ap (λ z. z.tables.kinds) x) (a.rows_are ∙ ap (λ z. z.tables.rows) x) (a.arcs_are ∙ ap (λ z. z.tables.arcs) x)
    tables_fit p q (refused n c) e =
        let accepts : accept plan ≡ good E = rw (read, p, q) refl in
        refused_at n c (net_by p q e ∙ ap (λ t. t >> good (net_of E)) e) (by_tables E accepts e)

    size_fits : check_loops E ≡ good tt → (s : Answer (Unit {0})) → check_size E ≡ s → Demand2 plan kinds rows arcs r kinds' rows' arcs'
    size_fits p (good u) e = tables_fit p e (check_lent (tables_of (net_of E)) old) refl
    size_fits p (refused n c) e = refused_at n c (net_by p e refl) (by_size E read p e)

    loops_fit : (l : Answer (Unit {0})) → check_loops E ≡ l → Demand2 plan kinds rows arcs r kinds' rows' arcs'
    loops_fit (good u) e = size_fits e (check_size E) refl
    loops_fit (refused n c) e = refused_at n c (net_by e refl refl) (by_loops E read e)

  equated : Demand2 plan kinds rows arcs r kinds' rows' arcs'
  unfolding compile_net accept
  equated = go (read_plan plan) refl
    where
      go : (x : Answer Expr) → read_plan plan ≡ x → Demand2 plan kinds rows arcs r kinds' rows' arcs'
      go (good E) e = loops_fit E e (check_loops E) refl
      go (refused n c) e = refused_at n c (ap (λ x. (x >>= λ E. check_loops E >> (check_size E >> good E)) >>= λ F. check_lent (tables_of (net_of F)) old >> good (net_of F)) e) (as_read e)

-- Of every answer and every content of the tables at exit that the contract, as it is made from the code's clauses, allows.
pub demand_2 : (κs : Lfts 4) (a : Dens κs call.ps) (z : Result 4 call.ps call.r κs a) → Allowed 4 call.ps call.r reads.Post κs a z
    → Demand2 a.0.now a.1.0.now a.1.1.0.now a.1.1.1.0.now z.0 z.1.1.0 z.1.1.1.0 z.1.1.1.1.0
demand_2 κs a z p =
    equated a.0.now a.1.0.now a.1.1.0.now a.1.1.1.0.now z.0 z.1.1.0 z.1.1.1.0 z.1.1.1.1.0
    (record { answer = p.0; kinds_are = p.1.0; rows_are = p.1.1.0; arcs_are = p.1.1.1 })
