-- `fuuqidhel_compile`: what `compile::compile` answers, told in seven numbers, and its three tables.
-- Assumes nothing.
use mathlib.Core.List.{[], ◌∷◌}
use mathlib.Core.Path.{refl, sym}
use borrow.Author.Tests.{lt-leb, le-leb}
use Rattle.std.specs.Prelude.{Ok, Err}
use Rattle.compile.specs.Says.{compiling_says}
use Rattle.exports.specs.Told.{compile_tells}
use Rattle.exports.proofs.Tells.{tells, numbered}
use Rattle.exports.proofs.fuuqidhel_compile.Goals as goal

pub returns-then-answer-lt7 : goal.returns-then-answer-lt7
returns-then-answer-lt7 c =
    record {
      room = sym (lt-leb _ _ c.if-answer-lt7.true);
      answer = refl;
      kinds = refl;
      rows = refl;
      arcs = refl;
    }

pub returns-in-Ok : goal.returns-in-Ok
returns-in-Ok c =
    record {
      room = sym (le-leb _ _ c.if-answer-lt7.false);
      answer = tells compiling_says compile_tells (Ok c.in-Ok.net) c.compile.result _ _ _ c.in-Ok.is c.compile.ensures.answer c.tell.ensures;
      kinds = c.compile.ensures.kinds;
      rows = c.compile.ensures.rows;
      arcs = c.compile.ensures.arcs;
    }

pub returns-in-Err : goal.returns-in-Err
returns-in-Err c =
    record {
      room = sym (le-leb _ _ c.if-answer-lt7.false);
      answer = tells compiling_says compile_tells (Err c.in-Err.refusal) c.compile.result _ _ _ c.in-Err.is c.compile.ensures.answer (numbered (c.in-Err.refusal.carried ∷ 0 ∷ 0 ∷ 0 ∷ 0 ∷ 0 ∷ []) c.args.answer.now _ c.tell-in-Err.ensures c.number.ensures);
      kinds = c.compile.ensures.kinds;
      rows = c.compile.ensures.rows;
      arcs = c.compile.ensures.arcs;
    }
