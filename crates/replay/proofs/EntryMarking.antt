-- Ones on the entry places and zeros behind them are the entry marking of a net with so many places and entries, and a marking.
-- True because the places behind the entries are the internals and the exits, and two runs of zeros are one.
use Prim.Native.Nat.{ℕ, ◌+◌, ◌-◌, ◌≤◌}
use native.Mathlib.Omega.{arith}
use native.Mathlib.Nat.{zero-add}
use mathlib.Core.Path.{◌≡◌, sym, ◌∙◌, ap, ap₂}
use mathlib.Core.Bool.{true}
use mathlib.Core.List.{List, ◌++◌, append-nil}
use lib.ListN.{length, drop, replicate, length-append, length-replicate, replicate-append-replicate, drop_of_length-le}
use lib.Seq.{sets, sets-eq}
use lib.Dec.{leb}
use Rattle.field.specs.Lists.{all}
use Rattle.field.proofs.Tests.{T_true}
use Rattle.field.proofs.Alls.{all_join, all_replicate}
use Rattle.algebra.specs.Net.{Net, place_count}
use Rattle.algebra.specs.Marking.{entry_marking}
use Rattle.sides.proofs.Runs.{sets_both}

-- Two runs of stores over a whole list leave nothing of it.
pub entries_marked : (l : List ℕ) (n : ℕ) → n ≤ length l → sets (sets l 0 (replicate n 1)) n (replicate (length l - n) 0) ≡ replicate n 1 ++ replicate (length l - n) 0
entries_marked l n h =
    let a : List ℕ = replicate n 1 in
    let b : List ℕ = replicate (length l - n) 0 in
    let al : length a ≡ n = length-replicate n 1 in
    let bl : length b ≡ length l - n = length-replicate (length l - n) 0 in
    let w : length (a ++ b) ≡ length l = omega (arith, length-append a b) in
    sets_both a b l 0 n (omega arith)
    ∙ sets-eq (a ++ b) l 0 (omega arith)
    ∙ ap (λ j. a ++ b ++ drop j l) (zero-add (length (a ++ b)) ∙ w)
    ∙ ap (λ r. a ++ b ++ r) (drop_of_length-le l {i = length l} (omega arith))
    ∙ append-nil (a ++ b)

pub entry_marking_is : (N : Net) (places entries : ℕ) → place_count N ≡ places → N.entries ≡ entries → replicate entries 1 ++ replicate (places - entries) 0 ≡ entry_marking N
unfolding entry_marking
entry_marking_is N places entries p e =
    let others : places - entries ≡ N.internals + N.exits = omega arith in
    ap₂ (λ k j. replicate k 1 ++ replicate j 0) (sym e) others ∙ ap (λ r. replicate N.entries 1 ++ r) (sym (replicate-append-replicate N.internals N.exits 0))

pub entries_length : (places n : ℕ) → n ≤ places → length {A = ℕ} (replicate n 1 ++ replicate (places - n) 0) ≡ places
entries_length places n h = omega (arith, length-append {A = ℕ} (replicate n 1) (replicate (places - n) 0), length-replicate {A = ℕ} n 1, length-replicate {A = ℕ} (places - n) 0)

pub entries_safe : (n k : ℕ) → all (λ x. leb x 1) (replicate n 1 ++ replicate k 0) ≡ true
entries_safe n k = T_true _ (all_join (λ x. leb x 1) (replicate n 1) (replicate k 0) (all_replicate (λ x. leb x 1) n 1 tt) (all_replicate (λ x. leb x 1) k 0 tt))
