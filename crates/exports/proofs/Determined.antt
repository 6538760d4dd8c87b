-- Each export asks nothing, and its contract determines what it returns and what it leaves in whatever it was lent.
-- Whether there is room for the answer is a function of the array, and each thing lent is a function of that and of the input.
use mathlib.Core.Path.{◌≡◌, refl, sym, ap, ◌∙◌}
use mathlib.Core.Bool.{Bool, cond}
use lib.ListN.{length}
use lib.Dec.{leb}
use contract.Lifetimes.{Lfts}
use borrow.Fn.Kinds.{Dens}
use Rattle.field.proofs.OneResult.{One, Allowed, Answered}
use Rattle.net.specs.Lent.{lent}
use Rattle.boxes.specs.Compile.{compile}
use Rattle.step.specs.Fire.{fire}
use Rattle.enabling.specs.Enabled.{enabled}
use Rattle.compile.specs.Says as tables
use Rattle.replay.specs.Replay.{replay}
use Rattle.exports.specs.Told.{told, compile_tells, fire_tells, enabled_tells, replay_tells}
use Rattle.exports.proofs.fuuqidhel_compile.Kinds as compile-kinds
use Rattle.exports.proofs.fuuqidhel_compile.Reads as compile-reads
use Rattle.exports.proofs.fuuqidhel_fire.Kinds as fire-kinds
use Rattle.exports.proofs.fuuqidhel_fire.Reads as fire-reads
use Rattle.exports.proofs.fuuqidhel_enabled.Kinds as enabled-kinds
use Rattle.exports.proofs.fuuqidhel_enabled.Reads as enabled-reads
use Rattle.exports.proofs.fuuqidhel_replay.Kinds as replay-kinds
use Rattle.exports.proofs.fuuqidhel_replay.Reads as replay-reads

-- What is left in one thing lent, where there is room and where there is none.
same_left : {X : Type 0} (left kept : X) {x y : X} {r q : Bool} → r ≡ q → x ≡ cond r left kept → y ≡ cond q left kept → x ≡ y
same_left left kept e p q = p ∙ ap (λ (t : Bool). cond t left kept) e ∙ sym q

pub compile_export_answered : Answered 5 compile-kinds.ps compile-kinds.r compile-reads.Asked compile-reads.Post
compile_export_answered = record { free = λ κs a. tt; one = one }
  where
    one : (κs : Lfts 5) (a : Dens κs compile-kinds.ps) → One (Allowed 5 compile-kinds.ps compile-kinds.r compile-reads.Post κs a)
    one κs a =
        let old = a.1.1.1.1.0.now in
        let c = compile a.0.now (tables.three_lent a.1.0.now a.1.1.0.now a.1.1.1.0.now) in
        let b = leb 7 (length old) in
        record {
          some = (
            (b, (tt, (cond b c.tables.kinds a.1.0.now, (cond b c.tables.rows a.1.1.0.now, (cond b c.tables.arcs a.1.1.1.0.now, (cond b (told (compile_tells c.answer) old) old, tt)))))),
            (refl, (refl, (refl, (refl, refl)))),
          );
          only = λ x y p q.
              let r = p.0 ∙ sym q.0 in
              let n = same_left (told (compile_tells c.answer) old) old r p.1.0 q.1.0 in
              let k = same_left c.tables.kinds a.1.0.now r p.1.1.0 q.1.1.0 in
              let l = same_left c.tables.rows a.1.1.0.now r p.1.1.1.0 q.1.1.1.0 in
              let m = same_left c.tables.arcs a.1.1.1.0.now r p.1.1.1.1 q.1.1.1.1 in
              λ i. (r i, (tt, (k i, (l i, (m i, (n i, tt))))));
        }

pub fire_export_answered : Answered 6 fire-kinds.ps fire-kinds.r fire-reads.Asked fire-reads.Post
fire_export_answered = record { free = λ κs a. tt; one = one }
  where
    one : (κs : Lfts 6) (a : Dens κs fire-kinds.ps) → One (Allowed 6 fire-kinds.ps fire-kinds.r fire-reads.Post κs a)
    one κs a =
        let T = lent a.0.now a.1.0.now a.1.1.0.now a.1.1.1.0 a.1.1.1.1.0 a.1.1.1.1.1.0 in
        let m = a.1.1.1.1.1.1.0.now in
        let old = a.1.1.1.1.1.1.1.1.0.now in
        let f = fire T m a.1.1.1.1.1.1.1.0.now in
        let b = leb 2 (length old) in
        record {
          some = ((b, (tt, (tt, (tt, (tt, (tt, (tt, (cond b f.marking m, (tt, (cond b (told (fire_tells f.answer) old) old, tt)))))))))), (refl, (refl, refl)));
          only = λ x y p q.
              let r = p.0 ∙ sym q.0 in
              let n = same_left (told (fire_tells f.answer) old) old r p.1.0 q.1.0 in
              let k = same_left f.marking m r p.1.1 q.1.1 in
              λ i. (r i, (tt, (tt, (tt, (tt, (tt, (tt, (k i, (tt, (n i, tt))))))))));
        }

pub enabled_export_answered : Answered 6 enabled-kinds.ps enabled-kinds.r enabled-reads.Asked enabled-reads.Post
enabled_export_answered = record { free = λ κs a. tt; one = one }
  where
    one : (κs : Lfts 6) (a : Dens κs enabled-kinds.ps) → One (Allowed 6 enabled-kinds.ps enabled-kinds.r enabled-reads.Post κs a)
    one κs a =
        let T = lent a.0.now a.1.0.now a.1.1.0.now a.1.1.1.0 a.1.1.1.1.0 a.1.1.1.1.1.0 in
        let out = a.1.1.1.1.1.1.1.0.now in
        let old = a.1.1.1.1.1.1.1.1.0.now in
        let e = enabled T a.1.1.1.1.1.1.0.now out in
        let b = leb 4 (length old) in
        record {
          some = ((b, (tt, (tt, (tt, (tt, (tt, (tt, (tt, (cond b e.list out, (cond b (told (enabled_tells e.answer) old) old, tt)))))))))), (refl, (refl, refl)));
          only = λ x y p q.
              let r = p.0 ∙ sym q.0 in
              let n = same_left (told (enabled_tells e.answer) old) old r p.1.0 q.1.0 in
              let l = same_left e.list out r p.1.1 q.1.1 in
              λ i. (r i, (tt, (tt, (tt, (tt, (tt, (tt, (tt, (l i, (n i, tt))))))))));
        }

pub replay_export_answered : Answered 4 replay-kinds.ps replay-kinds.r replay-reads.Asked replay-reads.Post
replay_export_answered = record { free = λ κs a. tt; one = one }
  where
    one : (κs : Lfts 4) (a : Dens κs replay-kinds.ps) → One (Allowed 4 replay-kinds.ps replay-kinds.r replay-reads.Post κs a)
    one κs a =
        let m = a.1.1.0.now in
        let old = a.1.1.1.0.now in
        let d = replay a.0.now a.1.0.now m in
        let b = leb 4 (length old) in
        record {
          some = ((b, (tt, (tt, (cond b d.buffer m, (cond b (told (replay_tells d.verdict) old) old, tt))))), (refl, (refl, refl)));
          only = λ x y p q.
              let r = p.0 ∙ sym q.0 in
              let n = same_left (told (replay_tells d.verdict) old) old r p.1.0 q.1.0 in
              let k = same_left d.buffer m r p.1.1 q.1.1 in
              λ i. (r i, (tt, (tt, (k i, (n i, tt)))));
        }
