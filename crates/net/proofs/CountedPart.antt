-- What lies behind the counted part is not looked at: tables that agree as far as the counts reach are nets alike, with the same transitions.
-- The numbers of the counted rows lie in the counted part, and where their starts meet, so does every list; all other tests ask of these alone.
use Prim.Native.Nat.{ℕ, zero, suc, ◌+◌, ◌*◌, ◌≤◌, ◌<◌}
use mathlib.Core.Path.{◌≡◌, refl, sym, ap, ap₂, ◌∙◌}
use mathlib.Core.List.{List, [], ◌∷◌}
use mathlib.Core.Bool.{Bool, true, false, ◌&&◌}
use native.Mathlib.Omega.{arith}
use lib.ListN.{length, get_or, take, drop}
use lib.Seq.{get_or-take, take-take}
use lib.Dec.{T, eqb, leb, eqb→eq, leb-zero, leb-suc-suc}
use Rattle.field.specs.Limits.{place_limit, transition_limit, arc_limit}
use Rattle.field.specs.Lists.{all}
use Rattle.field.proofs.Tests.{and_parts, true_T, T_true}
use Rattle.algebra.specs.Net.{Transition}
use Rattle.net.specs.Tables.{Tables, number, item_of, transition_at, transitions_from, transitions_in}
use Rattle.net.specs.Check.{counts_fit, tables_reach, kinds_ordered, lists_rise, starts_meet, codes_fit, pairs_differ, is_net}
use Rattle.net.proofs.RowsPass.{and_false, starts_within}

-- Tables that agree on the counted part: the same counts, and the same numbers as far as these reach.
pub record Agree (T T' : Tables) : Type 0 where
  pub places : T.places ≡ T'.places
  pub transitions : T.transitions ≡ T'.transitions
  pub arc_count : T.arc_count ≡ T'.arc_count
  pub kinds : take T.places T.kinds ≡ take T.places T'.kinds
  pub rows : take (6 * T.transitions) T.rows ≡ take (6 * T.transitions) T'.rows
  pub arcs : take T.arc_count T.arcs ≡ take T.arc_count T'.arcs

-- Of a list only its first n numbers say whether there are so many, what one of them is, and what a list in them has.
reaches_of : (n : ℕ) (l : List ℕ) → leb n (length (take n l)) ≡ leb n (length l)
reaches_of zero l = sym (leb-zero (length l))
reaches_of (suc n) [] = refl
reaches_of (suc n) (x ∷ l) = leb-suc-suc n (length (take n l)) ∙ reaches_of n l ∙ sym (leb-suc-suc n (length l))

part_of : (n start k : ℕ) (l : List ℕ) → start + k ≤ n → take k (drop start (take n l)) ≡ take k (drop start l)
part_of n zero k l h = take-take k n l (omega arith)
part_of zero (suc start) k l h = absurd (omega arith)
part_of (suc n) (suc start) k [] h = refl
part_of (suc n) (suc start) k (x ∷ l) h = part_of n start k l (omega arith)

module _ (n : ℕ) (l l' : List ℕ) (same : take n l ≡ take n l') where
  pub reaches_same : leb n (length l) ≡ leb n (length l')
  reaches_same = sym (reaches_of n l) ∙ ap (λ (k : List ℕ). leb n (length k)) same ∙ reaches_of n l'

  number_same : (i : ℕ) → i < n → get_or l i 0 ≡ get_or l' i 0
  number_same i h = sym (get_or-take n l i 0 h) ∙ ap (λ (k : List ℕ). get_or k i 0) same ∙ get_or-take n l' i 0 h

  part_same : (start k : ℕ) → start + k ≤ n → take k (drop start l) ≡ take k (drop start l')
  part_same start k h = sym (part_of n start k l h) ∙ ap (λ (r : List ℕ). take k (drop start r)) same ∙ part_of n start k l' h

-- A row's six numbers and its two lists make its transition.
abbrev made : ℕ → ℕ → ℕ → List ℕ → List ℕ → Transition
made label i j inputs outputs = record { label = label; item = item_of i j; inputs = inputs; outputs = outputs }

-- The tests of the transitions, of which that of the starts says whether the lists lie in the counted part.
abbrev tests : ℕ → Bool → List Transition → Bool
tests places starts ts = all (lists_rise places) ts && (starts && (all codes_fit ts && pairs_differ ts))

module _ (T₁ T₂ : Tables) (agree : Agree T₁ T₂) where
  in_row_same : (t k : ℕ) → t < T₁.transitions → k < 6 → number T₁ t k ≡ number T₂ t k
  in_row_same t k h l = number_same (6 * T₁.transitions) T₁.rows T₂.rows agree.rows (6 * t + k) (omega arith)

  starts_same : (start t n : ℕ) → t + n ≤ T₁.transitions → starts_meet T₁ start t n ≡ starts_meet T₂ start t n
  unfolding starts_meet
  starts_same start t zero h = ap (eqb start) agree.arc_count
  starts_same start t (suc n) h =
      ap₂ ◌&&◌ (ap (λ (x : ℕ). eqb x start) (in_row_same t 3 (omega arith) (omega arith)))
      (starts_same (start + (number T₁ t 4 + number T₁ t 5)) (suc t) n (omega arith)
      ∙ ap₂ (λ (x y : ℕ). starts_meet T₂ (start + (x + y)) (suc t) n)
      (in_row_same t 4 (omega arith) (omega arith)) (in_row_same t 5 (omega arith) (omega arith)))

  -- A counted transition whose arcs end before the arc count.
  transition_same : (t : ℕ) → t < T₁.transitions → number T₁ t 3 + (number T₁ t 4 + number T₁ t 5) ≤ T₁.arc_count → transition_at T₁ t ≡ transition_at T₂ t
  unfolding transition_at
  transition_same t h ends = λ i. made (at 0 (omega arith) i) (at 1 (omega arith) i) (at 2 (omega arith) i) (inputs i) (outputs i)
    where
      at : (k : ℕ) → k < 6 → number T₁ t k ≡ number T₂ t k
      at k l = in_row_same t k h l

      arcs_part : (start k : ℕ) → start + k ≤ T₁.arc_count → take k (drop start T₁.arcs) ≡ take k (drop start T₂.arcs)
      arcs_part = part_same T₁.arc_count T₁.arcs T₂.arcs agree.arcs

      inputs : take (number T₁ t 4) (drop (number T₁ t 3) T₁.arcs) ≡ take (number T₂ t 4) (drop (number T₂ t 3) T₂.arcs)
      inputs =
          arcs_part (number T₁ t 3) (number T₁ t 4) (omega arith)
          ∙ ap₂ (λ (x y : ℕ). take x (drop y T₂.arcs)) (at 4 (omega arith)) (at 3 (omega arith))

      outputs : take (number T₁ t 5) (drop (number T₁ t 3 + number T₁ t 4) T₁.arcs) ≡ take (number T₂ t 5) (drop (number T₂ t 3 + number T₂ t 4) T₂.arcs)
      outputs =
          arcs_part (number T₁ t 3 + number T₁ t 4) (number T₁ t 5) (omega arith)
          ∙ ap₂ (λ (x y : ℕ). take x (drop y T₂.arcs)) (at 5 (omega arith)) (ap₂ ◌+◌ (at 3 (omega arith)) (at 4 (omega arith)))

  -- So many transitions, where their starts meet.
  from_same : (start t n : ℕ) → t + n ≤ T₁.transitions → T (starts_meet T₁ start t n) → transitions_from T₁ t n ≡ transitions_from T₂ t n
  unfolding transitions_from starts_meet
  from_same start t zero h m = refl
  from_same start t (suc n) h m =
      let parts = and_parts (eqb (number T₁ t 3) start) _ m in
      let here : number T₁ t 3 ≡ start = eqb→eq (number T₁ t 3) start parts.0 in
      let next : start + (number T₁ t 4 + number T₁ t 5) ≤ T₁.arc_count = starts_within T₁ (start + (number T₁ t 4 + number T₁ t 5)) (suc t) n parts.1 in
      ap₂ ◌∷◌ (transition_same t (omega arith) (omega arith)) (from_same (start + (number T₁ t 4 + number T₁ t 5)) (suc t) n (omega arith) parts.1)

  -- All transitions, where all starts meet.
  listed_same : starts_meet T₁ 0 0 T₁.transitions ≡ true → transitions_in T₁ ≡ transitions_in T₂
  unfolding transitions_in
  listed_same e =
      from_same 0 0 T₁.transitions (omega arith) (true_T (starts_meet T₁ 0 0 T₁.transitions) e)
      ∙ ap (transitions_from T₂ 0) agree.transitions

  all_starts_same : starts_meet T₁ 0 0 T₁.transitions ≡ starts_meet T₂ 0 0 T₂.transitions
  all_starts_same = starts_same 0 0 T₁.transitions (omega arith) ∙ ap (starts_meet T₂ 0 0) agree.transitions

  counts_same : counts_fit T₁ ≡ counts_fit T₂
  unfolding counts_fit
  counts_same =
      ap₂ ◌&&◌ (ap (λ (n : ℕ). leb n place_limit) agree.places)
      (ap₂ ◌&&◌ (ap (λ (n : ℕ). leb n transition_limit) agree.transitions) (ap (λ (n : ℕ). leb n arc_limit) agree.arc_count))

  reach_same : tables_reach T₁ ≡ tables_reach T₂
  unfolding tables_reach
  reach_same =
      ap₂ ◌&&◌ (reaches_same T₁.places T₁.kinds T₂.kinds agree.kinds ∙ ap (λ (n : ℕ). leb n (length T₂.kinds)) agree.places)
      (ap₂ ◌&&◌
      (reaches_same (6 * T₁.transitions) T₁.rows T₂.rows agree.rows ∙ ap (λ (n : ℕ). leb (6 * n) (length T₂.rows)) agree.transitions)
      (reaches_same T₁.arc_count T₁.arcs T₂.arcs agree.arcs ∙ ap (λ (n : ℕ). leb n (length T₂.arcs)) agree.arc_count))

  kinds_same : kinds_ordered (take T₁.places T₁.kinds) ≡ kinds_ordered (take T₂.places T₂.kinds)
  kinds_same = ap kinds_ordered (agree.kinds ∙ ap (λ (n : ℕ). take n T₂.kinds) agree.places)

  tests_same : tests T₁.places (starts_meet T₁ 0 0 T₁.transitions) (transitions_in T₁) ≡ tests T₂.places (starts_meet T₂ 0 0 T₂.transitions) (transitions_in T₂)
  tests_same = go (starts_meet T₁ 0 0 T₁.transitions) refl ∙ ap (λ (b : Bool). tests T₂.places b (transitions_in T₂)) all_starts_same
    where
      go : (b : Bool) → starts_meet T₁ 0 0 T₁.transitions ≡ b → tests T₁.places b (transitions_in T₁) ≡ tests T₂.places b (transitions_in T₂)
      go true e = ap₂ (λ (n : ℕ) (ts : List Transition). tests n true ts) agree.places (listed_same e)
      go false e = sym (and_false (all (lists_rise T₁.places) (transitions_in T₁))) ∙ and_false (all (lists_rise T₂.places) (transitions_in T₂))

pub net_same : (T T' : Tables) → Agree T T' → is_net T ≡ is_net T'
unfolding is_net
net_same T T' agree =
    ap₂ ◌&&◌ (counts_same T T' agree) (ap₂ ◌&&◌ (reach_same T T' agree) (ap₂ ◌&&◌ (kinds_same T T' agree) (tests_same T T' agree)))

pub transitions_same : (T T' : Tables) → Agree T T' → is_net T ≡ true → transitions_in T ≡ transitions_in T'
unfolding is_net
transitions_same T T' agree e =
    let reach = and_parts (counts_fit T) _ (true_T (is_net T) e) in
    let kinds = and_parts (tables_reach T) _ reach.1 in
    let lists = and_parts (kinds_ordered (take T.places T.kinds)) _ kinds.1 in
    let starts = and_parts (all (lists_rise T.places) (transitions_in T)) _ lists.1 in
    listed_same T T' agree (T_true (starts_meet T 0 0 T.transitions) (and_parts (starts_meet T 0 0 T.transitions) _ starts.1).0)
