-- Facts 2 and 3: an exclusive expression never has a token on an entry and on an exit at once, and no place ever holds two.
-- Only the place where a loop's body meets itself adds two numbers, and there the body is exclusive.
use Prim.Native.Nat.{◌+◌, ◌≤◌}
use native.Mathlib.Omega.{arith}
use mathlib.Core.Logic.{inl, inr}
use lib.Dec.{T}
use Rattle.field.proofs.Tests.{and_parts}
use Rattle.algebra.specs.Expr.{Expr}
use Rattle.algebra.specs.Exclusive.{exclusive, LoopsExclusive}
use Rattle.algebra.specs.Dynamic.{Dynamic, started, finished, sequence_first, sequence_second, choice_first, choice_second, parallel_both, loop_first, loop_body, loop_last, scope_inside}
use Rattle.algebra.proofs.Codes.{Entry, Internal, Exit}
use Rattle.algebra.proofs.Tokens.{Tokens, tokens}

-- an entry and an exit hold at most one each
pub record AtMostOne (E : Expr) (t : Tokens E) : Type 0 where
  pub entry : (e : Entry E) → t.entry e ≤ 1
  pub exit : (x : Exit E) → t.exit x ≤ 1

pub ends_safe : {E : Expr} (D : Dynamic E) → AtMostOne E (tokens D)
unfolding tokens
ends_safe started = record { entry = λ e. omega arith; exit = λ x. omega arith }
ends_safe finished = record { entry = λ e. omega arith; exit = λ x. omega arith }
ends_safe (sequence_first D) = record { entry = (ends_safe D).entry; exit = λ x. omega arith }
ends_safe (sequence_second D) = record { entry = λ e. omega arith; exit = (ends_safe D).exit }
ends_safe (choice_first D) = record { entry = λ e. (ends_safe D).entry e.0; exit = λ x. (ends_safe D).exit x.0 }
ends_safe (choice_second D) = record { entry = λ e. (ends_safe D).entry e.1; exit = λ x. (ends_safe D).exit x.1 }
ends_safe (parallel_both D C) = record {
  entry = elim [ inl e ↦ (ends_safe D).entry e | inr e ↦ (ends_safe C).entry e ];
  exit = elim [ inl x ↦ (ends_safe D).exit x | inr x ↦ (ends_safe C).exit x ];
}
ends_safe (loop_first D) = record { entry = (ends_safe D).entry; exit = λ x. omega arith }
ends_safe (loop_body D) = record { entry = λ e. omega arith; exit = λ x. omega arith }
ends_safe (loop_last D) = record { entry = λ e. omega arith; exit = (ends_safe D).exit }
ends_safe (scope_inside D) = record { entry = (ends_safe D).entry; exit = (ends_safe D).exit }

pub never_both : {E : Expr} (D : Dynamic E) → T (exclusive E) → (e : Entry E) (x : Exit E) → (tokens D).exit x + (tokens D).entry e ≤ 1
unfolding tokens exclusive
never_both started c e x = omega arith
never_both finished c e x = omega arith
never_both (sequence_first D) c e x = omega (arith, (ends_safe D).entry e)
never_both (sequence_second D) c e x = omega (arith, (ends_safe D).exit x)
never_both (choice_first {E = E} {F = F} D) c e x = never_both D (and_parts (exclusive E) (exclusive F) c).0 e.0 x.0
never_both (choice_second {E = E} {F = F} D) c e x = never_both D (and_parts (exclusive E) (exclusive F) c).1 e.1 x.1
never_both (parallel_both D C) c e x = absurd c
never_both (loop_first D) c e x = omega (arith, (ends_safe D).entry e)
never_both (loop_body D) c e x = omega arith
never_both (loop_last D) c e x = omega (arith, (ends_safe D).exit x)
never_both (scope_inside D) c e x = never_both D c e x

pub internals_safe : {E : Expr} (D : Dynamic E) → LoopsExclusive E → (i : Internal E) → (tokens D).internal i ≤ 1
unfolding tokens
internals_safe started g i = omega arith
internals_safe finished g i = omega arith
internals_safe (sequence_first D) g (inl i) = internals_safe D g.0 i
internals_safe (sequence_first D) g (inr (inl i)) = omega arith
internals_safe (sequence_first D) g (inr (inr p)) = (ends_safe D).exit p.0
internals_safe (sequence_second D) g (inl i) = omega arith
internals_safe (sequence_second D) g (inr (inl i)) = internals_safe D g.1 i
internals_safe (sequence_second D) g (inr (inr p)) = (ends_safe D).entry p.1
internals_safe (choice_first D) g (inl i) = internals_safe D g.0 i
internals_safe (choice_first D) g (inr i) = omega arith
internals_safe (choice_second D) g (inl i) = omega arith
internals_safe (choice_second D) g (inr i) = internals_safe D g.1 i
internals_safe (parallel_both D C) g (inl i) = internals_safe D g.0 i
internals_safe (parallel_both D C) g (inr i) = internals_safe C g.1 i
internals_safe (loop_first D) g (inl i) = internals_safe D g.0 i
internals_safe (loop_first D) g (inr (inl i)) = omega arith
internals_safe (loop_first D) g (inr (inr (inl i))) = omega arith
internals_safe (loop_first D) g (inr (inr (inr p))) = (ends_safe D).exit p.0.0
internals_safe (loop_body D) g (inl i) = omega arith
internals_safe (loop_body D) g (inr (inl i)) = internals_safe D g.1 i
internals_safe (loop_body D) g (inr (inr (inl i))) = omega arith
internals_safe (loop_body D) g (inr (inr (inr p))) = never_both D g.3 p.1.0 p.0.1
internals_safe (loop_last D) g (inl i) = omega arith
internals_safe (loop_last D) g (inr (inl i)) = omega arith
internals_safe (loop_last D) g (inr (inr (inl i))) = internals_safe D g.2 i
internals_safe (loop_last D) g (inr (inr (inr p))) = (ends_safe D).entry p.1.1
internals_safe (scope_inside D) g i = internals_safe D g i
