-- A net whose parts are in order passes check 30, also where the lent tables are longer than the net's part.
-- The tables read back as the net, so the tests on transitions are its own; kinds, lengths and starts are in order by the way the tables are made.
use Prim.Native.Nat.{ℕ, zero, suc, ◌+◌, ◌*◌, ◌≤◌}
use mathlib.Core.Path.{◌≡◌, refl, sym, ap, ap₂, subst, subst⁻¹, ◌∙◌}
use mathlib.Core.List.{List, [], ◌∷◌, ◌++◌}
use mathlib.Core.Bool.{Bool, ◌&&◌}
use native.Mathlib.Nat.{add-zero, le_refl}
use native.Mathlib.Omega.{arith}
use lib.ListN.{length, get_or, take, replicate, length-append, length-replicate}
use lib.Seq.{take_at}
use lib.Dec.{T, leb, eqb, le→leb, eqb_refl, lit≤}
use Rattle.field.specs.Limits.{place_limit, transition_limit, arc_limit}
use Rattle.field.specs.Refusals.{no_net}
use Rattle.field.specs.Answer.{good, check}
use Rattle.algebra.specs.Net.{Transition, Net, place_count}
use Rattle.net.specs.Tables.{Tables, kinds_of, rows_from, rows_of, arcs_from, arcs_of, tables_of, number, transitions_in}
use Rattle.field.specs.Lists.{all}
use Rattle.net.specs.Check.{counts_fit, tables_reach, kinds_after, kinds_ordered, lists_rise, starts_meet, codes_fit, pairs_differ, is_net, check_net}
use Rattle.field.proofs.Tests.{T_true, parts_and}
use Rattle.net.proofs.ReadTables.{RowsFrom, next_start, number_in, rows_next, lent_tables, lent_reaches, lent_read_back, lent_nothing}

-- What check 30 asks of a net: a place of kind 1 and one of kind 3, the limits, and the tests on its transitions.
pub record Orderly (N : Net) : Type 0 where
  pub some_entry : 1 ≤ N.entries
  pub some_exit : 1 ≤ N.exits
  pub few_places : place_count N ≤ place_limit
  pub few_transitions : length N.transitions ≤ transition_limit
  pub few_arcs : length (arcs_of N) ≤ arc_limit
  pub lists : T (all (lists_rise (place_count N)) N.transitions)
  pub codes : T (all codes_fit N.transitions)
  pub pairs : T (pairs_differ N.transitions)

eq→eqb : (m n : ℕ) → m ≡ n → T (eqb m n)
eq→eqb m n e = subst (λ (k : ℕ). T (eqb m k)) e (eqb_refl m)

pub kinds_length : (N : Net) → length (kinds_of N) ≡ place_count N
unfolding kinds_of
kinds_length N = simp (length-append, length-replicate)

pub rows_length : (start : ℕ) (ts : List Transition) → length (rows_from start ts) ≡ 6 * length ts
unfolding rows_from
rows_length start [] = refl
rows_length start (u ∷ ts) = let rest = rows_length (next_start start u) ts in omega arith

-- After a kind come so many of a kind that is no smaller, and then what may come after any kind up to that one.
kinds_run : (last k n : ℕ) (rest : List ℕ) → last ≤ k → k ≤ 3 → ((m : ℕ) → m ≤ k → T (kinds_after m rest)) → T (kinds_after last (replicate n k ++ rest))
unfolding kinds_after
kinds_run last k zero rest l h r = r last l
kinds_run last k (suc n) rest l h r =
    parts_and (leb last k) (leb k 3 && kinds_after k (replicate n k ++ rest)) (le→leb last k l)
    (parts_and (leb k 3) (kinds_after k (replicate n k ++ rest)) (le→leb k 3 h) (kinds_run k k n rest (le_refl k) h r))

exits_after : (last n : ℕ) → last ≤ 3 → T (kinds_after last (replicate (suc n) 3))
unfolding kinds_after
exits_after last zero h = parts_and (leb last 3) (leb 3 3 && kinds_after 3 []) (le→leb last 3 h) tt
exits_after last (suc n) h = parts_and (leb last 3) (leb 3 3 && kinds_after 3 (replicate (suc n) 3)) (le→leb last 3 h) (exits_after 3 n (le_refl 3))

kinds_ordered_of : (entries internals exits : ℕ) → 1 ≤ entries → 1 ≤ exits → T (kinds_ordered (replicate entries 1 ++ (replicate internals 2 ++ replicate exits 3)))
unfolding kinds_ordered
kinds_ordered_of zero i exits h g = absurd (omega arith)
kinds_ordered_of (suc e) i zero h g = absurd (omega arith)
kinds_ordered_of (suc e) i (suc x) h g =
    kinds_run 1 1 e (replicate i 2 ++ replicate (suc x) 3) (lit≤ tt) (lit≤ tt)
    (λ m p. kinds_run m 2 i (replicate (suc x) 3) (omega arith) (lit≤ tt) (λ n q. exits_after n x (omega arith)))

-- The starts of so many rows meet, and the last list ends at the arc count.
starts_meet_from : (tables : Tables) (t start : ℕ) (ts : List Transition) (rows : List ℕ) → RowsFrom tables t start ts rows
    → start + length (arcs_from ts) ≡ tables.arc_count → T (starts_meet tables start t (length ts))
unfolding starts_meet rows_from arcs_from
starts_meet_from tables t start [] rows r e = eq→eqb start tables.arc_count (sym (add-zero start) ∙ e)
starts_meet_from tables t start (u ∷ ts) rows r e =
    parts_and (eqb (number tables t 3) start) (starts_meet tables (start + (number tables t 4 + number tables t 5)) (suc t) (length ts))
    (eq→eqb (number tables t 3) start (at 3))
    (subst⁻¹ (λ (n : ℕ). T (starts_meet tables (start + n) (suc t) (length ts))) (ap₂ ◌+◌ (at 4) (at 5))
    (starts_meet_from tables (suc t) (next_start start u) ts rows (rows_next tables t start u ts rows [] r) ends))
  where
    at : (k : ℕ) → number tables t k ≡ get_or (rows_from start (u ∷ ts) ++ rows) k 0
    at = number_in tables t (rows_from start (u ∷ ts) ++ rows) r

    ends : next_start start u + length (arcs_from ts) ≡ tables.arc_count
    ends = omega (arith, length-append u.inputs (u.outputs ++ arcs_from ts), length-append u.outputs (arcs_from ts))

three_fit : (a a' b b' c c' : ℕ) → a ≤ a' → b ≤ b' → c ≤ c' → T (leb a a' && (leb b b' && leb c c'))
three_fit a a' b b' c c' p q r = parts_and (leb a a') (leb b b' && leb c c') (le→leb a a' p) (parts_and (leb b b') (leb c c') (le→leb b b' q) (le→leb c c' r))

module _ (N : Net) (o : Orderly N) (kinds rows arcs : List ℕ) where
  -- The net's tables, with whatever lies behind them.
  abbrev longer : Tables
  longer = lent_tables N kinds rows arcs

  counts_pass : T (counts_fit longer)
  unfolding counts_fit
  counts_pass =
      three_fit (place_count N) place_limit (length N.transitions) transition_limit (length (arcs_of N)) arc_limit o.few_places o.few_transitions o.few_arcs

  tables_pass : T (tables_reach longer)
  unfolding tables_reach rows_of
  tables_pass =
      three_fit (place_count N) (length (kinds_of N ++ kinds)) (6 * length N.transitions) (length (rows_of N ++ rows)) (length (arcs_of N)) (length (arcs_of N ++ arcs))
      (lent_reaches (place_count N) (kinds_of N) kinds (kinds_length N))
      (lent_reaches (6 * length N.transitions) (rows_of N) rows (rows_length 0 N.transitions))
      (lent_reaches (length (arcs_of N)) (arcs_of N) arcs refl)

  kinds_pass : T (kinds_ordered (take (place_count N) (kinds_of N ++ kinds)))
  unfolding kinds_of
  kinds_pass =
      subst⁻¹ (λ (l : List ℕ). T (kinds_ordered l)) (take_at (kinds_of N) kinds (place_count N) (kinds_length N))
      (kinds_ordered_of N.entries N.internals N.exits o.some_entry o.some_exit)

  starts_pass : T (starts_meet longer 0 0 (length N.transitions))
  unfolding rows_of arcs_of
  starts_pass = starts_meet_from longer 0 0 N.transitions rows refl (omega arith)

  -- A test of the net's transitions that passes also passes of the transitions in the lent tables.
  read_pass : (test : List Transition → Bool) → T (test N.transitions) → T (test (transitions_in longer))
  read_pass test h = subst⁻¹ (λ (ts : List Transition). T (test ts)) (lent_read_back N o.codes kinds rows arcs) h

  lent_is_net : T (is_net longer)
  unfolding is_net
  lent_is_net =
      parts_and (counts_fit longer) _ counts_pass
      (parts_and (tables_reach longer) _ tables_pass
      (parts_and (kinds_ordered (take (place_count N) (kinds_of N ++ kinds))) _ kinds_pass
      (parts_and (all (lists_rise (place_count N)) (transitions_in longer)) _ (read_pass (all (lists_rise (place_count N))) o.lists)
      (parts_and (starts_meet longer 0 0 (length N.transitions)) _ starts_pass
      (parts_and (all codes_fit (transitions_in longer)) (pairs_differ (transitions_in longer)) (read_pass (all codes_fit) o.codes) (read_pass pairs_differ o.pairs))))))

pub lent_passes : (N : Net) → Orderly N → (kinds rows arcs : List ℕ) → check_net (lent_tables N kinds rows arcs) ≡ good tt
unfolding check_net
lent_passes N o kinds rows arcs = ap (λ (b : Bool). check b no_net 0) (T_true (is_net (lent_tables N kinds rows arcs)) (lent_is_net N o kinds rows arcs))

pub orderly_passes : (N : Net) → Orderly N → check_net (tables_of N) ≡ good tt
orderly_passes N o = ap check_net (sym (lent_nothing N)) ∙ lent_passes N o [] [] []
