-- `compile` asks nothing, and its contract determines its answer and all three tables afterwards.
-- The contract equates all four with the definition, no two answers of the code say the same, and each answer of the definition is said.
use Prim.Native.Nat.{ℕ}
use mathlib.Core.Path.{◌≡◌, refl, sym, ◌∙◌, ap}
use mathlib.Core.List.{List}
use contract.Lifetimes.{Lfts}
use borrow.Fn.Kinds.{Dens}
use Rattle.std.specs.Prelude.{Result}
use Rattle.field.specs.Answer.{Answer, good, refused}
use Rattle.field.specs.declared.Refusal.{Refusal}
use Rattle.field.proofs.Faults.{said_once as says_once, known_said, IsKnown}
use Rattle.field.proofs.OneResult.{One, Allowed, Answered}
use Rattle.algebra.specs.Net.{Net}
use Rattle.boxes.specs.Compile.{Counts, Lent, compile_net, compiled, compile}
use Rattle.judging.specs.inner.Judging.{counts_told}
use Rattle.judging.specs.declared.NetCounts.{NetCounts}
use Rattle.compile.specs.Says.{compiling_says, three_lent}
use Rattle.compile.proofs.Reasons.{net_known}
use Rattle.compile.proofs.compile.Kinds as kinds
use Rattle.compile.proofs.compile.Reads as reads

same_counts : (x y : NetCounts) → counts_told x ≡ counts_told y → x ≡ y
same_counts x y e =
    let p = ap (λ (z : Counts). z.places) e in
    let t = ap (λ (z : Counts). z.transitions) e in
    let a = ap (λ (z : Counts). z.arcs) e in
    let i = ap (λ (z : Counts). z.entries) e in
    let j = ap (λ (z : Counts). z.internals) e in
    λ k. record { places = p k; transitions = t k; arcs = a k; entries = i k; internals = j k }

pub said_once : (r q : Result NetCounts Refusal) → compiling_says r ≡ compiling_says q → r ≡ q
said_once r q e = says_once counts_told same_counts r q e

told : (c : Counts) → (x : NetCounts) × (counts_told x ≡ c)
told c = (record { places = c.places; transitions = c.transitions; arcs = c.arcs; entries = c.entries; internals = c.internals }, refl)

answer_known : (old : Lent) (a : Answer Net) → IsKnown a → IsKnown (compiled old a).answer
answer_known old (good N) k = tt
answer_known old (refused n c) k = k

said : (plan : List ℕ) (old : Lent) → (r : Result NetCounts Refusal) × (compiling_says r ≡ (compile plan old).answer)
unfolding compile
said plan old = known_said counts_told told (compiled old (compile_net plan old)).answer (answer_known old (compile_net plan old) (net_known plan old))

pub compile_answered : Answered 4 kinds.ps kinds.r reads.Asked reads.Post
compile_answered = record { free = λ κs a. tt; one = one }
  where
    one : (κs : Lfts 4) (a : Dens κs kinds.ps) → One (Allowed 4 kinds.ps kinds.r reads.Post κs a)
    one κs a =
        let c = compile a.0.now (three_lent a.1.0.now a.1.1.0.now a.1.1.1.0.now) in
        let r = said a.0.now (three_lent a.1.0.now a.1.1.0.now a.1.1.1.0.now) in
        record {
          some = ((r.0, (tt, (c.tables.kinds, (c.tables.rows, (c.tables.arcs, tt))))), (r.1, (refl, (refl, refl))));
          only = λ x y p q.
              let r = said_once x.0 y.0 (p.0 ∙ sym q.0) in
              let k = p.1.0 ∙ sym q.1.0 in
              let l = p.1.1.0 ∙ sym q.1.1.0 in
              let m = p.1.1.1 ∙ sym q.1.1.1 in
              λ i. (r i, (tt, (k i, (l i, (m i, tt)))));
        }
