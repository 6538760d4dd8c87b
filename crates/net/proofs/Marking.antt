-- The entry marking of a net passes check 35, whatever lies behind it, and is as long as the net has places; and what passes is a marking.
-- It is 1s, then 0s: as many as there are entries, internals and exits.
use Prim.Native.Nat.{ℕ, ◌≤◌}
use mathlib.Core.Path.{◌≡◌, refl}
use mathlib.Core.List.{List, ◌++◌}
use mathlib.Core.Bool.{Bool, true, false}
use lib.ListN.{length, take, replicate, length-append, length-replicate}
use lib.Seq.{take_at}
use borrow.Author.Tests.{leb-true}
use lib.Dec.{T, leb, le→leb}
use Rattle.field.specs.Answer.{good, refused, check}
use Rattle.field.specs.Refusals.{no_marking}
use Rattle.algebra.specs.Net.{Net, place_count}
use Rattle.field.specs.Lists.{all}
use Rattle.net.specs.Marking.{check_room, check_marking}
use Rattle.algebra.specs.Marking.{entry_marking}
use Rattle.field.proofs.Tests.{T_true, true_T}
use Rattle.field.proofs.Answers.{check_good, good_not_refused}
use Rattle.field.proofs.Alls.{all_join, all_replicate}
use Rattle.net.proofs.ReadTables.{lent_reaches}

pub entry_marking_length : (N : Net) → length (entry_marking N) ≡ place_count N
unfolding entry_marking
entry_marking_length N = simp (length-append, length-replicate)

-- A test whose answer is good was passed.
check_passed : (b : Bool) (n c : ℕ) → check b n c ≡ good tt → b ≡ true
check_passed true n c e = refl
check_passed false n c e = good_not_refused (refused n c) tt n c e refl

abbrev at_most_one : ℕ → Bool
at_most_one x = leb x 1

entry_marking_safe : (N : Net) → T (all at_most_one (entry_marking N))
unfolding entry_marking
entry_marking_safe N =
    all_join at_most_one (replicate N.entries 1) (replicate N.internals 0 ++ replicate N.exits 0) (all_replicate at_most_one N.entries 1 tt)
    (all_join at_most_one (replicate N.internals 0) (replicate N.exits 0)
    (all_replicate at_most_one N.internals 0 tt) (all_replicate at_most_one N.exits 0 tt))

pub entry_marking_passes : (N : Net) → (rest : List ℕ) → check_marking (place_count N) (entry_marking N ++ rest) ≡ good tt
unfolding check_marking
entry_marking_passes N rest = rw (room, part, safe)
  where
    marking : List ℕ
    marking = entry_marking N ++ rest

    room : leb (place_count N) (length marking) ≡ true
    room =
        T_true (leb (place_count N) (length marking))
        (le→leb (place_count N) (length marking) (lent_reaches (place_count N) (entry_marking N) rest (entry_marking_length N)))

    part : take (place_count N) marking ≡ entry_marking N
    part = take_at (entry_marking N) rest (place_count N) (entry_marking_length N)

    safe : all at_most_one (entry_marking N) ≡ true
    safe = T_true (all at_most_one (entry_marking N)) (entry_marking_safe N)

-- What a marking that passes says: it has a byte for each place, and none of these is above 1.
pub room_passed : (places : ℕ) (m : List ℕ) → check_room places m ≡ good tt → places ≤ length m
unfolding check_room
room_passed places m e = leb-true places (length m) (check_passed (leb places (length m)) no_marking 0 e)

pub marking_passed : (places : ℕ) (m : List ℕ) → check_marking places m ≡ good tt → (places ≤ length m) × T (all at_most_one (take places m))
unfolding check_marking
marking_passed places m e =
    let both = check_good (leb places (length m)) no_marking 0 (λ u. check (all at_most_one (take places m)) no_marking 0) tt e in
    (leb-true places (length m) both.0, true_T (all at_most_one (take places m)) (check_passed (all at_most_one (take places m)) no_marking 0 both.1))
