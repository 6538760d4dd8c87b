-- The limits of a plan one by one: an expression is within the limits exactly when it is short, shallow, of few actions and well labelled.
-- True because the test is these four joined.
use Prim.Native.Nat.{◌≤◌}
use mathlib.Core.Bool.{◌&&◌}
use lib.ListN.{length}
use lib.Dec.{T, leb, leb→le, le→leb}
use Rattle.field.specs.Limits.{plan_limit, depth_limit, action_limit}
use Rattle.field.proofs.Tests.{and_parts, parts_and}
use Rattle.algebra.specs.Expr.{Expr, actions}
use Rattle.plan.specs.Bytes.{encode, depth, named, within_limits}

pub record Within (E : Expr) : Type 0 where
  pub short : length (encode E) ≤ plan_limit
  pub shallow : depth E ≤ depth_limit
  pub few : actions E ≤ action_limit
  pub labelled : T (named E)

pub limits_within : (E : Expr) → T (within_limits E) → Within E
unfolding within_limits
limits_within E t =
    let a = and_parts (leb (length (encode E)) plan_limit) (leb (depth E) depth_limit && (leb (actions E) action_limit && named E)) t in
    let b = and_parts (leb (depth E) depth_limit) (leb (actions E) action_limit && named E) a.1 in
    let c = and_parts (leb (actions E) action_limit) (named E) b.1 in
    record {
      short = leb→le (length (encode E)) plan_limit a.0;
      shallow = leb→le (depth E) depth_limit b.0;
      few = leb→le (actions E) action_limit c.0;
      labelled = c.1;
    }

pub within_the_limits : (E : Expr) → Within E → T (within_limits E)
unfolding within_limits
within_the_limits E w =
    parts_and (leb (length (encode E)) plan_limit) (leb (depth E) depth_limit && (leb (actions E) action_limit && named E)) (le→leb (length (encode E)) plan_limit w.short)
    (parts_and (leb (depth E) depth_limit) (leb (actions E) action_limit && named E) (le→leb (depth E) depth_limit w.shallow)
    (parts_and (leb (actions E) action_limit) (named E) (le→leb (actions E) action_limit w.few) w.labelled))
