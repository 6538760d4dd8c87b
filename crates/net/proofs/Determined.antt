-- Checks 30 and 35 ask nothing, and the contract of each determines its answer.
-- Each contract equates the answer with a test, or what the answer refuses with what the definition refuses.
use Prim.Native.Nat.{ℕ}
use mathlib.Core.Path.{◌≡◌, refl, sym, ◌∙◌}
use mathlib.Core.Bool.{Bool, true, false, ◌&&◌}
use lib.ListN.{length, take}
use lib.Dec.{leb}
use Rattle.field.specs.Refusals.{no_marking}
use Rattle.field.specs.Answer.{◌>>◌, check}
use Rattle.field.specs.Lists.{all}
use Rattle.field.proofs.Answers.{good_not_refused}
use Rattle.field.proofs.OneResult.{Answered}
use Rattle.net.specs.Check.{is_net}
use Rattle.net.specs.Lent.{tables_lent}
use Rattle.net.specs.Marking.{check_room, check_marking}
use Rattle.net.proofs.is_net.Kinds as is-net-kinds
use Rattle.net.proofs.is_net.Reads as is-net-reads
use Rattle.net.proofs.tokens.has_room.Kinds as has-room-kinds
use Rattle.net.proofs.tokens.has_room.Reads as has-room-reads
use Rattle.net.proofs.tokens.is_marking.Kinds as is-marking-kinds
use Rattle.net.proofs.tokens.is_marking.Reads as is-marking-reads

pub is_net_answered : Answered 2 is-net-kinds.ps is-net-kinds.r is-net-reads.Asked is-net-reads.Post
is_net_answered = record {
  free = λ κs a. tt;
  one = λ κs a. record {
    some = ((is_net (tables_lent a.0.now), (tt, tt)), refl);
    only = λ x y p q. let r = p ∙ sym q in λ i. (r i, (tt, tt));
  };
}

-- A test that passes and one that does not say different things.
check_once : (n c : ℕ) (a b : Bool) → check a n c ≡ check b n c → a ≡ b
check_once n c true true e = refl
check_once n c true false e = good_not_refused (check true n c) tt n c refl e
check_once n c false true e = good_not_refused (check true n c) tt n c refl (sym e)
check_once n c false false e = refl

pub has_room_answered : Answered 1 has-room-kinds.ps has-room-kinds.r has-room-reads.Asked has-room-reads.Post
unfolding check_room
has_room_answered = record {
  free = λ κs a. tt;
  one = λ κs a. record {
    some = ((leb a.1.0 (length a.0.now), (tt, (tt, tt))), refl);
    only = λ x y p q. let r = check_once _ _ x.0 y.0 (sym p ∙ q) in λ i. (r i, (tt, (tt, tt)));
  };
}

pub is_marking_answered : Answered 1 is-marking-kinds.ps is-marking-kinds.r is-marking-reads.Asked is-marking-reads.Post
unfolding check_marking check_room
is_marking_answered = record {
  free = λ κs a. tt;
  one = λ κs a. record {
    some = ((leb a.1.0 (length a.0.now) && all (λ x. leb x 1) (take a.1.0 a.0.now), (tt, (tt, tt))), both (leb a.1.0 (length a.0.now)) (all (λ x. leb x 1) (take a.1.0 a.0.now)));
    only = λ x y p q. let r = check_once _ _ x.0 y.0 (sym p ∙ q) in λ i. (r i, (tt, (tt, tt)));
  };
}
  where
    both : (b d : Bool) → (check b no_marking 0 >> check d no_marking 0) ≡ check (b && d) no_marking 0
    both true d = refl
    both false d = refl
