-- Check 30 is five tests one after another: counts, tables, kinds, rows, pairs; and what each that was passed says of the numbers behind it.
-- True because the pass over the rows tests all that is asked of single transitions, and behind it the pass over the chains tests the pairs.
use Prim.Native.Nat.{ℕ, ◌*◌, ◌≤◌}
use mathlib.Core.Path.{◌≡◌, refl, sym, ap, ◌∙◌}
use mathlib.Core.Bool.{Bool, true, false, ◌&&◌}
use lib.ListN.{length, take}
use lib.Dec.{leb, leb→le}
use Rattle.field.specs.Lists.{all}
use Rattle.field.proofs.Tests.{and_parts, true_T, T_true}
use Rattle.net.specs.Tables.{Tables, transitions_in}
use Rattle.net.specs.Check.{counts_fit, tables_reach, kinds_ordered, lists_rise, starts_meet, codes_fit, pairs_differ, is_net}
use Rattle.net.specs.inner.Passes.{rows_pass, pairs_pass}
use Rattle.net.proofs.RowsPass.{rows_are}
use Rattle.net.proofs.PairsPass.{pairs_are}

-- Three numbers that are at most three others.
three_fit : (a a' b b' c c' : ℕ) → (leb a a' && (leb b b' && leb c c')) ≡ true → (a ≤ a') × (b ≤ b') × (c ≤ c')
three_fit a a' b b' c c' e =
    let h = and_parts (leb a a') (leb b b' && leb c c') (true_T _ e) in
    let k = and_parts (leb b b') (leb c c') h.1 in
    (leb→le a a' h.0, leb→le b b' k.0, leb→le c c' k.1)

module _ (tables : Tables) where
  abbrev rows_test : Bool
  rows_test = rows_pass tables.rows tables.arcs tables.places tables.arc_count 0 0 tables.transitions

  -- The pairs are looked at only where all rows pass.
  rows_then_pairs : (all (lists_rise tables.places) (transitions_in tables)
      && (starts_meet tables 0 0 tables.transitions && (all codes_fit (transitions_in tables) && pairs_differ (transitions_in tables))))
      ≡ (rows_test && pairs_pass tables.rows tables.transitions)
  unfolding transitions_in
  rows_then_pairs =
      go (all (lists_rise tables.places) (transitions_in tables)) (starts_meet tables 0 0 tables.transitions) (all codes_fit (transitions_in tables))
      (λ h. pairs_are tables tables.transitions (true_T _ h))
      ∙ ap (λ (b : Bool). b && pairs_pass tables.rows tables.transitions) (sym (rows_are tables 0 0 tables.transitions))
    where
      go : (lists starts codes : Bool) → (codes ≡ true → pairs_pass tables.rows tables.transitions ≡ pairs_differ (transitions_in tables))
          → (lists && (starts && (codes && pairs_differ (transitions_in tables)))) ≡ ((lists && (starts && codes)) && pairs_pass tables.rows tables.transitions)
      go true true true e = sym (e refl)
      go true true false e = refl
      go true false codes e = refl
      go false starts codes e = refl

  pub net_tests : is_net tables
      ≡ (counts_fit tables && (tables_reach tables && (kinds_ordered (take tables.places tables.kinds) && (rows_test && pairs_pass tables.rows tables.transitions))))
  unfolding is_net
  net_tests =
      ap (λ (b : Bool). counts_fit tables && (tables_reach tables && (kinds_ordered (take tables.places tables.kinds) && b))) rows_then_pairs

  -- What the first test says of the counts, and the second of the tables that they are lent with.
  pub counts_told : true ≡ counts_fit tables → (tables.places ≤ 2048) × (tables.transitions ≤ 1024) × (tables.arc_count ≤ 16384)
  unfolding counts_fit
  counts_told e = three_fit tables.places 2048 tables.transitions 1024 tables.arc_count 16384 (sym e)

  pub reach_told : true ≡ tables_reach tables
      → (tables.places ≤ length tables.kinds) × (6 * tables.transitions ≤ length tables.rows) × (tables.arc_count ≤ length tables.arcs)
  unfolding tables_reach
  reach_told e = three_fit tables.places (length tables.kinds) (6 * tables.transitions) (length tables.rows) tables.arc_count (length tables.arcs) (sym e)

  -- The same of a net.
  pub net_counts : is_net tables ≡ true → (tables.places ≤ 2048) × (tables.transitions ≤ 1024) × (tables.arc_count ≤ 16384)
  unfolding is_net
  net_counts e = counts_told (sym (T_true (counts_fit tables) (and_parts (counts_fit tables) _ (true_T (is_net tables) e)).0))

  pub net_reaches : is_net tables ≡ true
      → (tables.places ≤ length tables.kinds) × (6 * tables.transitions ≤ length tables.rows) × (tables.arc_count ≤ length tables.arcs)
  unfolding is_net
  net_reaches e = reach_told (sym (T_true (tables_reach tables) (and_parts (tables_reach tables) _ (and_parts (counts_fit tables) _ (true_T (is_net tables) e)).1).0))
