-- What the contract of the reader, `read_plan_in`, determines at every input: its answer, and of a plan that is read every number of the rows. Of a plan that is refused
-- it says nothing of the rows, which are the library's own work room: the results that it allows are then that refusal with any rows.
-- True because what an answer says tells the answer: each case of the enum has its own case of what is said, with all its numbers.
use Prim.Native.Nat.{ℕ, zero, suc, ◌*◌}
use mathlib.Core.Path.{◌≡◌, refl, sym, ap, subst, ◌∙◌}
use mathlib.Core.Logic.{◌↔◌}
use mathlib.Core.List.{List, [], ◌∷◌, ◌++◌, map}
use native.Mathlib.Omega.{arith}
use lib.ListN.{drop}
use lib.Seq.{drop-nil}
use contract.Lifetimes.{Lfts}
use borrow.Fn.Kinds.{Dens}
use Rattle.std.specs.Prelude.{Ok, Err}
use Rattle.std.specs.Prelude as std
use Rattle.field.specs.Answer.{Answer, good, refused, ◌>>=◌}
use Rattle.field.specs.Says.{says, number_of}
use Rattle.field.specs.declared.Refusal.{Refusal}
use Rattle.field.proofs.Answers.{good_not_refused}
use Rattle.field.proofs.Faults.{fault_numbered, said_once, IsKnown}
use Rattle.field.proofs.OneResult.{One, Result, Allowed}
use Rattle.algebra.specs.Expr.{Expr, actions}
use Rattle.plan.specs.Reading.{read_plan}
use Rattle.plan.specs.inner.Nodes.{Row, Sizes, sizes_of, numbers, nodes, node_count, node_table}
use Rattle.plan.specs.inner.Numbers.{table_numbers}
use Rattle.plan.specs.inner.Says.{sizes_told, RowsAre}
use Rattle.plan.specs.declared.Sizes as code
use Rattle.plan.specs.declared.table.Row as table
use Rattle.plan.proofs.Reasons.{plan_known}
use Rattle.plan.proofs.read_plan_in.Kinds as kinds
use Rattle.plan.proofs.read_plan_in.Reads as reads

read_once : (r q : std.Result code.Sizes Refusal) → says sizes_told r ≡ says sizes_told q → r ≡ q
read_once r q e = said_once sizes_told (λ x y e. let n = ap (λ (z : Sizes). z.nodes) e in let m = ap (λ (z : Sizes). z.actions) e in λ i. record { nodes = n i; actions = m i }) r q e

-- the rows that a table's numbers are, and rows that have numbers

rows_same : (x y : List table.Row) → table_numbers x ≡ table_numbers y → x ≡ y
rows_same [] [] e = refl
rows_same [] (q ∷ y) e = cc
rows_same (r ∷ x) [] e = cc
rows_same (r ∷ x) (q ∷ y) e =
    let tag : r.tag ≡ q.tag = cc in
    let byte : r.byte ≡ q.byte = cc in
    let members : r.members ≡ q.members = cc in
    let after : r.after ≡ q.after = cc in
    let first : r.first ≡ q.first = cc in
    let at : r.at ≡ q.at = cc in
    let rest = rows_same x y (cc) in
    λ i. record { tag = tag i; byte = byte i; members = members i; after = after i; first = first i; at = at i } ∷ rest i

abbrev coded : List Row → List table.Row
coded rs = map (λ (r : Row). record { tag = r.tag; byte = r.byte; members = r.members; after = r.after; first = r.first; at = r.at }) rs

coded_numbers : (rs : List Row) (xs : List table.Row) → table_numbers (coded rs ++ xs) ≡ numbers rs ++ table_numbers xs
unfolding numbers
coded_numbers [] xs = refl
coded_numbers (r ∷ rs) xs = ap (λ l. r.tag ∷ (r.byte ∷ (r.members ∷ (r.after ∷ (r.first ∷ (r.at ∷ l)))))) (coded_numbers rs xs)

rows_behind : (k : ℕ) (xs : List table.Row) → table_numbers (drop k xs) ≡ drop (6 * k) (table_numbers xs)
rows_behind zero xs = refl
rows_behind (suc k) [] = sym (drop-nil (6 * suc k))
rows_behind (suc k) (r ∷ xs) =
    let n : suc (suc (suc (suc (suc (suc (6 * k)))))) ≡ 6 * suc k = omega arith in
    rows_behind k xs ∙ ap (λ m. drop m (table_numbers (r ∷ xs))) n

rows_once : (answer : Answer Expr) (E : Expr) → answer ≡ good E → (entry : List ℕ) (x y : List table.Row) → RowsAre answer entry (table_numbers x) → RowsAre answer entry (table_numbers y) → x ≡ y
rows_once (good F) E e entry x y p q = rows_same x y (p ∙ sym q)
rows_once (refused n c) E e entry x y p q = good_not_refused (refused n c) E n c e refl

abbrev sizes : Answer Expr → Answer Sizes
sizes a = a >>= λ E. good (sizes_of E)

module _ (κs : Lfts 2) (a : Dens κs kinds.ps) where
  -- The results that are allowed are those with one refusal, which has this number and carries this.
  pub record OneRefusal (n c : ℕ) : Type 0 where
    pub refusal : Refusal
    pub number : number_of refusal.fault ≡ n
    pub carried : refusal.carried ≡ c
    pub all : (x : Result 2 kinds.ps kinds.r κs a) → Allowed 2 kinds.ps kinds.r reads.Post κs a x ↔ (x.0 ≡ Err refusal)

  abbrev Allows : Result 2 kinds.ps kinds.r κs a → Type 0
  Allows = Allowed 2 kinds.ps kinds.r reads.Post κs a

  one_read : (E : Expr) → read_plan a.0.now ≡ good E → One Allows
  unfolding sizes_of node_table
  one_read E e =
      let rows = coded (nodes 0 0 0 E) ++ drop (node_count E) a.1.0.now in
      let numbers_are : table_numbers rows ≡ node_table E ++ drop (6 * node_count E) (table_numbers a.1.0.now) =
      coded_numbers (nodes 0 0 0 E) (drop (node_count E) a.1.0.now) ∙ ap (λ l. node_table E ++ l) (rows_behind (node_count E) a.1.0.now) in
      record {
        some = ((Ok (record { nodes = node_count E; actions = actions E }), (tt, (rows, tt))), (sym (ap sizes e), rw e numbers_are));
        only = λ x y p q.
            let r = read_once x.0 y.0 (p.0 ∙ sym q.0) in
            let k = rows_once (read_plan a.0.now) E e (table_numbers a.1.0.now) x.1.1.0 y.1.1.0 p.1 q.1 in
            λ i. (r i, (tt, (k i, tt)));
      }

  -- the refusal of a plan, and that each result with it is allowed
  any_rows : (n c : ℕ) → read_plan a.0.now ≡ refused n c → OneRefusal n c
  any_rows n c e =
      let fault = fault_numbered n in
      let f : number_of fault ≡ n = subst IsKnown e (plan_known a.0.now) in
      let told : ◌≡◌ {A = Answer Sizes} (refused (number_of fault) c) (refused n c) = ap (λ (m : ℕ). refused m c) f in
      record {
        refusal = record { fault = fault; carried = c };
        number = f;
        carried = refl;
        all = λ x. (
          λ p. read_once x.0 (Err (record { fault = fault; carried = c })) (p.0 ∙ ap sizes e ∙ sym told),
          λ p. (ap (says sizes_told) p ∙ told ∙ sym (ap sizes e), rw e tt),
        );
      }

pub record ReaderDetermined : Type 0 where
  -- Of a plan that is read: one answer, and one content of the rows.
  pub read : (κs : Lfts 2) (a : Dens κs kinds.ps) (E : Expr) → read_plan a.0.now ≡ good E → One (Allowed 2 kinds.ps kinds.r reads.Post κs a)
  -- Of a plan that is refused: that refusal, with whatever is left in the rows.
  pub refusals : (κs : Lfts 2) (a : Dens κs kinds.ps) (n c : ℕ) → read_plan a.0.now ≡ refused n c → OneRefusal κs a n c

pub reader_determined : ReaderDetermined
reader_determined = record { read = one_read; refusals = any_rows }
