-- Runs of stores, one behind another: two runs are one run of both lists, and a run from the front leaves what lies behind it.
-- True by recursion on the first run.
use Prim.Native.Nat.{ℕ, suc, ◌+◌, ◌≤◌}
use native.Mathlib.Omega.{arith}
use native.Mathlib.Nat.{zero-add}
use mathlib.Core.Path.{◌≡◌, ◌∙◌, ap}
use mathlib.Core.List.{List, [], ◌∷◌, ◌++◌, append-nil}
use lib.ListN.{length, drop, set, replicate, length-append, length-replicate, drop_of_length-le}
use lib.Seq.{sets, sets-eq}

pub sets_both : (a b l : List ℕ) (i n : ℕ) → n ≡ i + length a → sets (sets l i a) n b ≡ sets l i (a ++ b)
sets_both [] b l i n e = ap (λ k. sets l k b) (omega arith)
sets_both (x ∷ a) b l i n e = sets_both a b (set l i x) (suc i) n (omega arith)

-- A run as long as what it goes over leaves nothing else.
pub all_set : (l part : List ℕ) → length l ≡ length part → sets part 0 l ≡ l
all_set l part e = sets-eq l part 0 (omega arith) ∙ ap (λ r. l ++ r) (drop_of_length-le part {i = 0 + length l} (omega arith)) ∙ append-nil l

-- Three runs from the front, each behind the one before.
pub three_runs : (l : List ℕ) (n m k x y z : ℕ) → n + m + k ≤ length l
    → sets (sets (sets l 0 (replicate n x)) n (replicate m y)) (n + m) (replicate k z) ≡ replicate n x ++ (replicate m y ++ replicate k z) ++ drop (n + m + k) l
three_runs l n m k x y z h =
    let a : List ℕ = replicate n x in
    let b : List ℕ = replicate m y in
    let d : List ℕ = replicate k z in
    let al : length a ≡ n = length-replicate n x in
    let bl : length b ≡ m = length-replicate m y in
    let dl : length d ≡ k = length-replicate k z in
    let w : length (a ++ (b ++ d)) ≡ n + m + k = omega (arith, length-append a (b ++ d), length-append b d) in
    sets_both b d (sets l 0 a) n (n + m) (omega arith)
    ∙ sets_both a (b ++ d) l 0 n (omega arith)
    ∙ sets-eq (a ++ (b ++ d)) l 0 (omega arith)
    ∙ ap (λ j. a ++ (b ++ d) ++ drop j l) (zero-add (length (a ++ (b ++ d))) ∙ w)
