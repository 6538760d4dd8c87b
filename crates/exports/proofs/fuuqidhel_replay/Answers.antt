-- `fuuqidhel_replay`: what `replay::replay` answers, told in four numbers, and its buffer.
-- Assumes nothing.
use mathlib.Core.List.{[], ◌∷◌}
use mathlib.Core.Path.{refl, sym, ap, ◌∙◌}
use borrow.Author.Tests.{lt-leb, le-leb}
use Rattle.std.specs.Prelude.{Ok, Err}
use Rattle.run.specs.Says.{ran_says}
use Rattle.run.specs.declared.Ran.TheVariants.{Finished, Unfinished}
use Rattle.exports.specs.Told.{replay_tells}
use Rattle.exports.proofs.Tells.{tells, numbered}
use Rattle.exports.proofs.fuuqidhel_replay.Goals as goal

pub returns-then-answer-lt4 : goal.returns-then-answer-lt4
returns-then-answer-lt4 c =
    record {
      room = sym (lt-leb _ _ c.if-answer-lt4.true);
      answer = refl;
      marking = refl;
    }

pub returns-in-Ok-Finished : goal.returns-in-Ok-Finished
returns-in-Ok-Finished c =
    record {
      room = sym (le-leb _ _ c.if-answer-lt4.false);
      answer = tells ran_says replay_tells (Ok (Finished c.in-Ok-Finished.steps)) c.replay.result _ _ _ (c.in-Ok-Finished.is ∙ ap Ok c.in-Ok-Finished.field-0-is) c.replay.ensures.verdict c.tell.ensures;
      marking = c.replay.ensures.buffer;
    }

pub returns-in-Ok-Unfinished : goal.returns-in-Ok-Unfinished
returns-in-Ok-Unfinished c =
    record {
      room = sym (le-leb _ _ c.if-answer-lt4.false);
      answer = tells ran_says replay_tells (Ok (Unfinished c.in-Ok-Unfinished.steps)) c.replay.result _ _ _ (c.in-Ok-Unfinished.is ∙ ap Ok c.in-Ok-Unfinished.field-0-is) c.replay.ensures.verdict c.tell-in-Ok-Unfinished.ensures;
      marking = c.replay.ensures.buffer;
    }

pub returns-in-Err : goal.returns-in-Err
returns-in-Err c =
    record {
      room = sym (le-leb _ _ c.if-answer-lt4.false);
      answer = tells ran_says replay_tells (Err c.in-Err.stopped) c.replay.result _ _ _ c.in-Err.is c.replay.ensures.verdict (numbered (c.in-Err.stopped.refusal.carried ∷ c.in-Err.stopped.steps ∷ 0 ∷ []) c.args.answer.now _ c.tell-in-Err.ensures c.number.ensures);
      marking = c.replay.ensures.buffer;
    }
