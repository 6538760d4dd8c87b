-- Every scope byte of a plan that is read is at least 1, so that no scope takes away what is silent.
-- Reading accepts scope bytes from 1 to 127 only.
use mathlib.Core.Bool.{◌&&◌}
use lib.Dec.{T, leb, leb→le}
use Rattle.field.proofs.Tests.{and_parts}
use Rattle.algebra.specs.Expr.{Expr, action, sequence, choice, parallel, loop, scope}
use Rattle.algebra.specs.Scopes.{ScopesNamed}
use Rattle.plan.specs.Bytes.{named}
use Rattle.plan.specs.Reading.{is_name}

pub named_scopes : (E : Expr) → T (named E) → ScopesNamed E
unfolding named
named_scopes (action l) h = tt
named_scopes (sequence E F) h = let p = and_parts (named E) (named F) h in (named_scopes E p.0, named_scopes F p.1)
named_scopes (choice E F) h = let p = and_parts (named E) (named F) h in (named_scopes E p.0, named_scopes F p.1)
named_scopes (parallel E F) h = let p = and_parts (named E) (named F) h in (named_scopes E p.0, named_scopes F p.1)
named_scopes (loop E F G) h =
    let p = and_parts (named E) (named F && named G) h in
    let q = and_parts (named F) (named G) p.1 in
    (named_scopes E p.0, named_scopes F q.0, named_scopes G q.1)
named_scopes (scope a E) h = let p = and_parts (is_name a) (named E) h in (leb→le 1 a (and_parts (leb 1 a) (leb a 127) p.0).0, named_scopes E p.1)
