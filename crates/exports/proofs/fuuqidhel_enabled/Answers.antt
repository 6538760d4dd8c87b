-- `fuuqidhel_enabled`: what `enabling::enabled` answers, told in four numbers, and its list.
-- Assumes nothing.
use mathlib.Core.List.{[], ◌∷◌}
use mathlib.Core.Path.{refl, sym, ap, ◌∙◌}
use borrow.Author.Tests.{lt-leb, le-leb}
use Rattle.std.specs.Prelude.{Ok, Err}
use Rattle.enabling.specs.Says.{enabling_says}
use Rattle.enabling.specs.declared.Enabling.TheVariants.{Many, Stuck}
use Rattle.exports.specs.Told.{enabled_tells}
use Rattle.exports.proofs.Tells.{tells, numbered}
use Rattle.exports.proofs.fuuqidhel_enabled.Goals as goal

pub returns-then-answer-lt4 : goal.returns-then-answer-lt4
returns-then-answer-lt4 c =
    record {
      room = sym (lt-leb _ _ c.if-answer-lt4.true);
      answer = refl;
      list = refl;
    }

pub returns-in-Ok-Many : goal.returns-in-Ok-Many
returns-in-Ok-Many c =
    record {
      room = sym (le-leb _ _ c.if-answer-lt4.false);
      answer = tells enabling_says enabled_tells (Ok (Many c.in-Ok-Many.many)) c.enabled.result _ _ _ (c.in-Ok-Many.is ∙ ap Ok c.in-Ok-Many.field-0-is) c.enabled.ensures.answer c.tell.ensures;
      list = c.enabled.ensures.list;
    }

pub returns-in-Ok-Stuck : goal.returns-in-Ok-Stuck
returns-in-Ok-Stuck c =
    record {
      room = sym (le-leb _ _ c.if-answer-lt4.false);
      answer = tells enabling_says enabled_tells (Ok Stuck) c.enabled.result _ _ _ (c.in-Ok-Stuck.is ∙ ap Ok c.in-Ok-Stuck.field-0-is) c.enabled.ensures.answer c.tell-in-Ok-Stuck.ensures;
      list = c.enabled.ensures.list;
    }

pub returns-in-Err : goal.returns-in-Err
returns-in-Err c =
    record {
      room = sym (le-leb _ _ c.if-answer-lt4.false);
      answer = tells enabling_says enabled_tells (Err c.in-Err.refusal) c.enabled.result _ _ _ c.in-Err.is c.enabled.ensures.answer (numbered (c.in-Err.refusal.carried ∷ 0 ∷ 0 ∷ []) c.args.answer.now _ c.tell-in-Err.ensures c.number.ensures);
      list = c.enabled.ensures.list;
    }
