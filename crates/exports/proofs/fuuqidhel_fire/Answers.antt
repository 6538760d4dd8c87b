-- `fuuqidhel_fire`: what `step::fire` answers, told in two numbers, and its marking.
-- Assumes nothing.
use mathlib.Core.List.{[], ◌∷◌}
use mathlib.Core.Path.{refl, sym}
use borrow.Author.Tests.{lt-leb, le-leb}
use Rattle.std.specs.Prelude.{Ok, Err}
use Rattle.moving.specs.Says.{fired_says}
use Rattle.exports.specs.Told.{fire_tells}
use Rattle.exports.proofs.Tells.{tells, numbered}
use Rattle.exports.proofs.fuuqidhel_fire.Goals as goal

pub returns-then-answer-lt2 : goal.returns-then-answer-lt2
returns-then-answer-lt2 c =
    record {
      room = sym (lt-leb _ _ c.if-answer-lt2.true);
      answer = refl;
      marking = refl;
    }

pub returns-in-Ok : goal.returns-in-Ok
returns-in-Ok c =
    record {
      room = sym (le-leb _ _ c.if-answer-lt2.false);
      answer = tells fired_says fire_tells (Ok tt) c.fire.result _ _ _ c.in-Ok.is c.fire.ensures.answer c.tell.ensures;
      marking = c.fire.ensures.marking;
    }

pub returns-in-Err : goal.returns-in-Err
returns-in-Err c =
    record {
      room = sym (le-leb _ _ c.if-answer-lt2.false);
      answer = tells fired_says fire_tells (Err c.in-Err.refusal) c.fire.result _ _ _ c.in-Err.is c.fire.ensures.answer (numbered (c.in-Err.refusal.carried ∷ []) c.args.answer.now _ c.tell-in-Err.ensures c.number.ensures);
      marking = c.fire.ensures.marking;
    }
