-- Stamps tell which numbers of a list came before: a list has no number twice where none of its numbers is stamped as it is met, and each is then stamped.
-- True because a number is stamped after a turn exactly if it was before or is the one just met.
use Prim.Native.Nat.{ℕ, zero, suc, ◌+◌, ◌-◌, ◌≤◌, ◌<◌}
use mathlib.Core.Path.{◌≡◌, refl, sym, ap, ap₂, ◌∙◌}
use mathlib.Core.List.{List, [], ◌∷◌, map}
use mathlib.Core.Bool.{Bool, true, false, not, ◌&&◌}
use native.Mathlib.Numerals.{add-one}
use native.Mathlib.Omega.{arith}
use borrow.Author.Tests.{eqb-true, eqb-false, eq-eqb, ne_eqb}
use lib.ListN.{length, get_or, set, replicate}
use lib.Seq.{get_or-set_same, get_or-set_other}
use lib.Dec.{eqb}
use Rattle.field.specs.Lists.{all}
use Rattle.net.specs.Tables.{none}
use Rattle.net.specs.inner.Chains.{Chains}
use Rattle.net.specs.inner.Passes.{differ, second_or_256, seconds_differ, each}
use Rattle.net.proofs.Walks.{ahead, Stands, walk_starts, walk_goes_on, walk_ends}

-- A number that does not have the stamp.
abbrev pub free : ℕ → List ℕ → ℕ → Bool
free stamp stamps k = not (eqb (get_or stamps k 0) stamp)

-- What is left to test of a list: none of its numbers is stamped, and none stands twice.
abbrev pub left_to_test : ℕ → List ℕ → List ℕ → Bool
left_to_test stamp stamps ks = all (free stamp stamps) ks && differ ks

all_both : (f g h : ℕ → Bool) → ((k : ℕ) → h k ≡ (f k && g k)) → (ks : List ℕ) → all h ks ≡ (all f ks && all g ks)
unfolding all
all_both f g h e [] = refl
all_both f g h e (k ∷ ks) = ap₂ ◌&&◌ (e k) (all_both f g h e ks) ∙ four (f k) (g k) (all f ks) (all g ks)
  where
    four : (a b c d : Bool) → ((a && b) && (c && d)) ≡ ((a && c) && (b && d))
    four true true c d = refl
    four true false true d = refl
    four true false false d = refl
    four false b c d = refl

-- After k is stamped, a number is free if it was and is not k.
free_after : (stamp : ℕ) (stamps : List ℕ) (k : ℕ) → k < length stamps → (j : ℕ) → free stamp (set stamps k stamp) j ≡ (not (eqb k j) && free stamp stamps j)
free_after stamp stamps k h j = go (eqb k j) (eqb-true k j) (eqb-false k j)
  where
    go : (b : Bool) → (b ≡ true → k ≡ j) → (b ≡ false → k ≡ j → ⊥) → free stamp (set stamps k stamp) j ≡ (not b && free stamp stamps j)
    go true same unlike =
        ap not (eq-eqb _ stamp (ap (λ (m : ℕ). get_or (set stamps k stamp) m 0) (sym (same refl)) ∙ get_or-set_same stamps k stamp 0 h))
    go false same unlike = ap (λ (m : ℕ). not (eqb m stamp)) (get_or-set_other stamps k j stamp 0 (λ e. unlike refl (sym e)))

pub stamp_turn : (stamp : ℕ) (stamps : List ℕ) (k : ℕ) (ks : List ℕ) → k < length stamps
    → left_to_test stamp stamps (k ∷ ks) ≡ (free stamp stamps k && left_to_test stamp (set stamps k stamp) ks)
unfolding all differ
stamp_turn stamp stamps k ks h =
    four (free stamp stamps k) (all (free stamp stamps) ks) (all (λ j. not (eqb k j)) ks) (differ ks)
    ∙ ap (λ (b : Bool). free stamp stamps k && (b && differ ks)) (sym (all_both (λ j. not (eqb k j)) (free stamp stamps) (free stamp (set stamps k stamp)) (free_after stamp stamps k h) ks))
  where
    four : (a b c d : Bool) → ((a && b) && (c && d)) ≡ (a && ((c && b) && d))
    four true true true d = refl
    four true true false d = refl
    four true false true d = refl
    four true false false d = refl
    four false b c d = refl

pub stamp_end : (stamp : ℕ) (stamps : List ℕ) → left_to_test stamp stamps [] ≡ true
unfolding all differ
stamp_end stamp stamps = refl

-- Where all stamps are smaller, nothing is stamped yet.
none_yet : (stamp : ℕ) (stamps : List ℕ) → ((j : ℕ) → get_or stamps j 0 < stamp) → (ks : List ℕ) → all (free stamp stamps) ks ≡ true
unfolding all
none_yet stamp stamps small [] = refl
none_yet stamp stamps small (k ∷ ks) = ap₂ ◌&&◌ (ap not (ne_eqb (get_or stamps k 0) stamp (λ e. omega (arith, small k)))) (none_yet stamp stamps small ks)

pub stamp_start : (stamp : ℕ) (stamps : List ℕ) → ((j : ℕ) → get_or stamps j 0 < stamp) → (ks : List ℕ) → differ ks ≡ left_to_test stamp stamps ks
stamp_start stamp stamps small ks = ap (λ (b : Bool). b && differ ks) (sym (none_yet stamp stamps small ks))

-- A stamp that is not above a number leaves all stamps not above it.
pub stamps_stay : (top k stamp : ℕ) (stamps : List ℕ) → stamp ≤ top → ((j : ℕ) → get_or stamps j 0 ≤ top) → (j : ℕ) → get_or (set stamps k stamp) j 0 ≤ top
stamps_stay top k stamp [] h small j = small j
stamps_stay top zero stamp (x ∷ stamps) h small zero = h
stamps_stay top zero stamp (x ∷ stamps) h small (suc j) = small (suc j)
stamps_stay top (suc k) stamp (x ∷ stamps) h small zero = small zero
stamps_stay top (suc k) stamp (x ∷ stamps) h small (suc j) = stamps_stay top k stamp stamps h (λ m. small (suc m)) j

-- The second actions that lie ahead of a walk.
abbrev pub seconds_ahead : List ℕ → ℕ → ℕ → ℕ → List ℕ
seconds_ahead rows n i at = map (second_or_256 rows) (ahead rows n i at)

-- The same turn, start and end on a walk of a chain.
module _ (rows next : List ℕ) (n i : ℕ) (few : n ≤ none) (stamp : ℕ) (stamps : List ℕ) where
  pub seconds_start : (head : List ℕ) → Chains rows n head next → i < 256 → ((j : ℕ) → get_or stamps j 0 < stamp)
      → seconds_differ rows n i ≡ left_to_test stamp stamps (seconds_ahead rows n i (get_or head i 0))
  unfolding seconds_differ
  seconds_start head chains h small =
      ap (λ (l : List ℕ). differ (map (second_or_256 rows) l)) (walk_starts rows next i n few head chains h).0
      ∙ stamp_start stamp stamps small (seconds_ahead rows n i (get_or head i 0))

  pub seconds_turn : (at : ℕ) → at < n → Stands rows n next i at → (k : ℕ) → k ≡ second_or_256 rows at → k < length stamps
      → left_to_test stamp stamps (seconds_ahead rows n i at) ≡ (free stamp stamps k && left_to_test stamp (set stamps k stamp) (seconds_ahead rows n i (get_or next at 0)))
  seconds_turn at h stands k is-k room =
      ap (λ (l : List ℕ). left_to_test stamp stamps (map (second_or_256 rows) l)) (walk_goes_on rows next i n few at h stands).0
      ∙ ap (λ (m : ℕ). left_to_test stamp stamps (m ∷ seconds_ahead rows n i (get_or next at 0))) (sym is-k)
      ∙ stamp_turn stamp stamps k (seconds_ahead rows n i (get_or next at 0)) room

  pub seconds_end : (at : ℕ) → n ≤ at → left_to_test stamp stamps (seconds_ahead rows n i at) ≡ true
  seconds_end at h = ap (λ (l : List ℕ). left_to_test stamp stamps (map (second_or_256 rows) l)) (walk_ends rows next i n at h) ∙ stamp_end stamp stamps

-- No stamps at all are 0.
pub stamps_none : (m : ℕ) (stamps : List ℕ) → stamps ≡ replicate m 0 → (j : ℕ) → get_or stamps j 0 ≤ 0
stamps_none m stamps e j = omega (arith, ap (λ (l : List ℕ). get_or l j 0) e ∙ zeros m j)
  where
    zeros : (m j : ℕ) → get_or (replicate {A = ℕ} m 0) j 0 ≡ 0
    zeros zero j = refl
    zeros (suc m) zero = refl
    zeros (suc m) (suc j) = zeros m j

-- A turn of a test of numbers from i on, below m.
module _ (test : ℕ → Bool) (m i : ℕ) where
  pub each_turn : i < m → each test i (m - i) ≡ (test i && each test (i + 1) (m - (i + 1)))
  unfolding each
  each_turn h = let left : m - i ≡ suc (m - (i + 1)) = omega arith in rw (left, add-one i)
