-- What is known of a plan that the judgement lets pass, and of one that it refuses.
-- True because its answer is the paper's: a plan with counts is an accepted one, and the limits were asked of it.
use Prim.Native.Nat.{ℕ, ◌+◌, ◌*◌, ◌≤◌}
use native.Mathlib.Omega.{arith}
use native.Mathlib.Nat.{zero-add}
use mathlib.Core.Path.{◌≡◌, refl, sym, ◌∙◌, ap, subst}
use mathlib.Core.List.{List, [], ◌∷◌, ◌++◌}
use lib.ListN.{length, take, drop}
use lib.Seq.{sets, sets-eq, length-take-le}
use Rattle.field.specs.Answer.{Answer, good, refused, ◌>>=◌}
use Rattle.field.proofs.Answers.{good_not_refused, good_same}
use Rattle.algebra.specs.Expr.{Expr}
use Rattle.algebra.specs.Net.{Transition, Net, place_count}
use Rattle.algebra.specs.Arcs.{net_of}
use Rattle.net.specs.Tables.{rows_from, rows_of, arcs_of, tables_of}
use Rattle.boxes.specs.Compile.{Counts, counts_of, accept, over}
use Rattle.boxes.proofs.CountsCutOff.{size_accepted, net_places}
use Rattle.boxes.proofs.TablesAreANet.{accepted}
use Rattle.tables.specs.inner.Rows.{Whole, Asked}
use Rattle.std.specs.Prelude.{Result, Ok, Err}
use Rattle.field.specs.Says.{says, number_of}
use Rattle.field.specs.declared.Refusal.{Refusal}
use Rattle.judging.specs.inner.Judging.{counts_told, net_counts, Drawn}
use Rattle.judging.specs.declared.NetCounts.{NetCounts}

-- What is known where the plan is fine.
pub record IsFine (plan : List ℕ) (c : NetCounts) (lists index list : List ℕ) : Type 0 where
  pub expr : Expr
  pub accepts : accept plan ≡ good expr
  pub told : counts_told c ≡ counts_of (net_of expr)
  pub whole : Whole lists index list c.transitions expr
  pub list_long : 3 * c.transitions ≤ length list
  pub few_places : c.places ≤ 2048
  pub few_transitions : c.transitions ≤ 1024
  pub few_arcs : c.arcs ≤ 16384
  pub its_transitions : c.transitions ≡ length (net_of expr).transitions
  pub its_arcs : c.arcs ≡ length (arcs_of (net_of expr))
  pub parts : c.places ≡ c.entries + (c.internals + (net_of expr).exits)

-- A judgement that is no refusal is that of an accepted plan.
accepted_by : (plan : List ℕ) (c : Counts) → good c ≡ net_counts plan → (E : Expr) × (accept plan ≡ good E) × (c ≡ counts_of (net_of E))
unfolding net_counts
accepted_by plan c e = go (accept plan) refl e
  where
    go : (a : Answer Expr) → accept plan ≡ a → good c ≡ (a >>= λ E. good (counts_of (net_of E))) → (E : Expr) × (accept plan ≡ good E) × (c ≡ counts_of (net_of E))
    go (good E) p f = (E, p, good_same c (counts_of (net_of E)) f)
    go (refused n d) p f = good_not_refused _ _ n d (sym f) refl

pub is_fine : (plan lists index list : List ℕ) (r : Result NetCounts Refusal) {c : NetCounts} → says counts_told r ≡ net_counts plan
    → ((E : Expr) → accept plan ≡ good E → Drawn r lists index list E) → r ≡ Ok c → IsFine plan c lists index (take (3 * c.transitions) list)
unfolding counts_of tables_of
is_fine plan lists index list r {c} s d e =
    let (E, a, t) = accepted_by plan (counts_told c) (sym (ap (says counts_told) e) ∙ s) in
    let (w, l) = subst (λ x. Drawn x lists index list E) e (d E a) in
    let size = size_accepted E (accepted plan E a).size in
    let n : c.transitions ≡ length (net_of E).transitions = ap (λ z. z.transitions) t in
    let m : c.arcs ≡ length (arcs_of (net_of E)) = ap (λ z. z.arcs) t in
    let q : c.places ≡ place_count (net_of E) = ap (λ z. z.places) t in
    let b : c.entries ≡ (net_of E).entries = ap (λ z. z.entries) t in
    let i : c.internals ≡ (net_of E).internals = ap (λ z. z.internals) t in
    record {
      expr = E;
      accepts = a;
      told = t;
      whole = w;
      list_long = omega (arith, l, length-take-le (3 * c.transitions) list l);
      few_places = omega (arith, size.0, net_places E);
      few_transitions = omega (arith, size.1);
      few_arcs = omega (arith, size.2);
      its_transitions = n;
      its_arcs = m;
      parts = omega arith;
    }

pub not_fine : (plan : List ℕ) (r : Result NetCounts Refusal) {e : Refusal} → says counts_told r ≡ net_counts plan → r ≡ Err e → accept plan ≡ refused (number_of e.fault) e.carried
unfolding net_counts
not_fine plan r {e} s is = go (accept plan) refl (sym (ap (says counts_told) is) ∙ s)
  where
    go : (a : Answer Expr) → accept plan ≡ a → refused (number_of e.fault) e.carried ≡ (a >>= λ E. good (counts_of (net_of E))) → accept plan ≡ refused (number_of e.fault) e.carried
    go (good E) p f = good_not_refused _ _ (number_of e.fault) e.carried refl (sym f)
    go (refused m d) p f = let x : number_of e.fault ≡ m = cc in let y : e.carried ≡ d = cc in p ∙ (λ k. refused (sym x k) (sym y k))

rows_from_length : (start : ℕ) (ts : List Transition) → length (rows_from start ts) ≡ 6 * length ts
unfolding rows_from
rows_from_length start [] = refl
rows_from_length start (t ∷ ts) = omega (arith, rows_from_length (start + (length t.inputs + length t.outputs)) ts)

-- A list that is stored from the front stands before what lies behind it.
pub in_front : (new old : List ℕ) → length new ≤ length old → sets old 0 new ≡ over new old
in_front new old h = sets-eq new old 0 (omega arith) ∙ ap (λ n. new ++ drop n old) (zero-add (length new))

module _ (plan : List ℕ) (c : NetCounts) (lists index list : List ℕ) (w : IsFine plan c lists index list) where
  abbrev N : Net
  N = net_of w.expr

  pub rows_long : length (rows_of N) ≡ 6 * c.transitions
  unfolding rows_of
  rows_long = rows_from_length 0 N.transitions ∙ ap (λ n. 6 * n) (sym w.its_transitions)

  -- What writing the net asks.
  pub asked : {rows arcs : List ℕ} → 6 * c.transitions ≤ length rows → c.arcs ≤ length arcs → Asked lists index list c.transitions rows arcs
  asked r a = record {
    E = w.expr;
    whole = w.whole;
    few = w.few_transitions;
    rows_long = r;
    list_long = w.list_long;
    arcs_long = omega (arith, w.its_arcs);
    arcs_few = omega (arith, w.its_arcs, w.few_arcs);
  }
