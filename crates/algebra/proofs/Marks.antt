-- The marking of a dynamic expression as a list, in the order of the places, and what is known of its tokens said by place numbers.
-- A place's number is the position of its name, so what holds of every typed place holds at every number.
use Prim.Native.Nat.{ℕ, ◌+◌, ◌≤◌, ◌<◌}
use native.Mathlib.Omega.{arith}
use native.Mathlib.Decide.{dec_lt}
use mathlib.Core.Path.{◌≡◌, refl, sym, ◌∙◌, ap, ap₂, subst, fun_ext}
use mathlib.Core.Logic.{inl, inr}
use mathlib.Core.List.Memᴰ
use mathlib.Core.List.{List, [], ◌∷◌, ◌++◌, map, append_assoc}
use lib.ListN.{length, get_or, replicate, drop, length-append, get_or-eq_default}
use lib.Seq.{drop_at}
use lib.Dec.{T, leb, leb→le, le→leb}
use Rattle.algebra.specs.Expr.{Expr}
use Rattle.algebra.specs.Exclusive.{LoopsExclusive}
use Rattle.field.specs.Lists.{all}
use Rattle.algebra.specs.Marking.{entry_marking, exits_marked}
use Rattle.field.proofs.Alls.{all_of, all_at}
use Rattle.algebra.specs.Places.{entry, entries, internals, places}
use Rattle.algebra.specs.Arcs.{net_of}
use Rattle.algebra.specs.Dynamic.{Dynamic, started, finished, Equal}
use Rattle.algebra.proofs.Codes.{Code, El, entry_code, internal_code, exit_code, Exit}
use Rattle.algebra.proofs.Tokens.{Tokens, tokens}
use Rattle.algebra.proofs.EqualKeepsTokens.{equal_tokens}
use Rattle.algebra.proofs.SameTokensAreEqual.{tokens_equal}
use Rattle.algebra.proofs.Safe.{ends_safe, internals_safe}
use Rattle.algebra.proofs.Full.{full_exits}
use Rattle.algebra.proofs.Numbering.{elements, elements_length, table, sum_table, card, table_length, position, position_below, table_at, numbered, element_member}
use Rattle.algebra.proofs.PlaceNames.{place_code, name, places_table, entries_card, internals_card, exits_card}

-- the tokens at any place
abbrev pub at : {E : Expr} → Tokens E → El (place_code E) → ℕ
at t (inl e) = t.entry e
at t (inr (inl i)) = t.internal i
at t (inr (inr x)) = t.exit x

unfoldable pub marking_of : {E : Expr} → Dynamic E → List ℕ
marking_of {E} D = table (place_code E) (at (tokens D))

pub marking_length : (n : ℕ) {E : Expr} (D : Dynamic E) → length (marking_of D) ≡ length (places n E)
unfolding marking_of
marking_length n {E} D = table_length (place_code E) (at (tokens D)) ∙ sym (ap length (places_table n E) ∙ table_length (place_code E) (name n E))

-- A place number has a typed place, with its name and its tokens.
pub record Stands (n : ℕ) (E : Expr) (p : ℕ) : Type 0 where
  pub place : El (place_code E)
  pub named : get_or (places n E) p (entry 0) ≡ name n E place
  pub marked : (D : Dynamic E) → get_or (marking_of D) p 0 ≡ at (tokens D) place

unfoldable pub stands_at : (n : ℕ) (E : Expr) (k : El (place_code E)) (p : ℕ) → position (place_code E) k ≡ p → Stands n E p
unfolding marking_of
stands_at n E k p e = record {
  place = k;
  named = ap (λ l. get_or l p (entry 0)) (places_table n E) ∙ ap (λ j. get_or (table (place_code E) (name n E)) j (entry 0)) (sym e) ∙ table_at (place_code E) k (name n E) (entry 0);
  marked = λ D. ap (λ j. get_or (table (place_code E) (at (tokens D))) j 0) (sym e) ∙ table_at (place_code E) k (at (tokens D)) 0;
}

places_count : (n : ℕ) (E : Expr) → length (places n E) ≡ card (place_code E)
places_count n E = ap length (places_table n E) ∙ table_length (place_code E) (name n E)

pub stands : (n : ℕ) (E : Expr) (p : ℕ) → p < length (places n E) → Stands n E p
stands n E p h = let r = numbered (place_code E) p (omega (arith, places_count n E)) in stands_at n E r.0 p r.1

pub number_below : (n : ℕ) (E : Expr) (k : El (place_code E)) → position (place_code E) k < length (places n E)
number_below n E k = omega (arith, places_count n E, position_below (place_code E) k)

-- ---- ≡ and the marking
pub equal_marking : {E : Expr} {D C : Dynamic E} → Equal E D C → marking_of D ≡ marking_of C
unfolding marking_of
equal_marking {E} q = ap (λ t. table (place_code E) (at t)) (equal_tokens q)

pub marking_equal : {E : Expr} (D C : Dynamic E) → marking_of D ≡ marking_of C → Equal E D C
unfolding stands_at
marking_equal {E} D C e = tokens_equal D C (λ i. record { entry = fun_ext (λ k. same (inl k)) i; internal = fun_ext (λ k. same (inr (inl k))) i; exit = fun_ext (λ k. same (inr (inr k))) i })
  where
    same : (k : El (place_code E)) → at (tokens D) k ≡ at (tokens C) k
    same k = let s = stands_at 0 E k (position (place_code E) k) refl in sym (s.marked D) ∙ ap (λ m. get_or m (position (place_code E) k) 0) e ∙ s.marked C

-- ---- no place holds two
pub place_safe : {E : Expr} (D : Dynamic E) → LoopsExclusive E → (k : El (place_code E)) → at (tokens D) k ≤ 1
place_safe D g (inl e) = (ends_safe D).entry e
place_safe D g (inr (inl i)) = internals_safe D g i
place_safe D g (inr (inr x)) = (ends_safe D).exit x

pub marking_safe : {E : Expr} (D : Dynamic E) → LoopsExclusive E → (p : ℕ) → get_or (marking_of D) p 0 ≤ 1
marking_safe {E} D g p = go (dec_lt p (length (places 0 E)))
  where
    go : Dec (p < length (places 0 E)) → get_or (marking_of D) p 0 ≤ 1
    go (yes h) = let s = stands 0 E p h in omega (arith, s.marked D, place_safe D g s.place)
    go (no h) = omega (arith, get_or-eq_default (marking_of D) 0 {n = p} (omega (arith, marking_length 0 D)))

pub marking_flat : {E : Expr} (D : Dynamic E) → LoopsExclusive E → T (all (λ x. leb x 1) (marking_of D))
unfolding marking_of table
marking_flat {E} D g = all_of (λ x. leb x 1) (marking_of D) (λ x m. let k = Memᴰ.of_map (at (tokens D)) (elements (place_code E)) m in le→leb x 1 (subst (λ y. y ≤ 1) k.2 (place_safe D g k.0)))

-- ---- the first marking and the last
constant_list : {A : Type 0} (l : List A) (v : ℕ) → map (λ k. v) l ≡ replicate (length l) v
constant_list [] v = refl
constant_list (k ∷ l) v = ap (λ r. v ∷ r) (constant_list l v)

constant : (c : Code) (v : ℕ) → table c (λ k. v) ≡ replicate (card c) v
unfolding table
constant c v = constant_list (elements c) v ∙ ap (λ n. replicate n v) (elements_length c)

-- The marking in its three parts.
pub marking_parts : {E : Expr} (D : Dynamic E)
    → marking_of D ≡ table (entry_code E) (tokens D).entry ++ (table (internal_code E) (tokens D).internal ++ table (exit_code E) (tokens D).exit)
unfolding marking_of
marking_parts {E} D = sym (ap (λ r. table (entry_code E) (tokens D).entry ++ r) (sum_table (internal_code E) (exit_code E) (λ k. at (tokens D) (inr k))) ∙ sum_table (entry_code E) _ (at (tokens D)))

-- so many of each kind
parts_of : (E : Expr) → ℕ → ℕ → ℕ → List ℕ
parts_of E e i x = replicate (net_of E).entries e ++ (replicate (net_of E).internals i ++ replicate (net_of E).exits x)

constant_parts : {E : Expr} (D : Dynamic E) (e i x : ℕ) → tokens D ≡ record { entry = λ k. e; internal = λ k. i; exit = λ k. x } → marking_of D ≡ parts_of E e i x
unfolding parts_of net_of
constant_parts {E} D e i x t =
    marking_parts D
    ∙ ap₂ ◌++◌ (ap (λ u. table (entry_code E) u.entry) t ∙ constant (entry_code E) e ∙ ap (λ n. replicate n e) (sym (entries_card 0 E)))
    (ap₂ ◌++◌ (ap (λ u. table (internal_code E) u.internal) t ∙ constant (internal_code E) i ∙ ap (λ n. replicate n i) (sym (internals_card 0 E)))
    (ap (λ u. table (exit_code E) u.exit) t ∙ constant (exit_code E) x ∙ ap (λ n. replicate n x) (sym (exits_card 0 E))))

pub started_marking : (E : Expr) → marking_of (started {E = E}) ≡ entry_marking (net_of E)
unfolding tokens entry_marking parts_of
started_marking E = constant_parts started 1 0 0 refl

pub finished_marking : (E : Expr) → marking_of (finished {E = E}) ≡ replicate (net_of E).entries 0 ++ (replicate (net_of E).internals 0 ++ replicate (net_of E).exits 1)
unfolding tokens parts_of
finished_marking E = constant_parts finished 0 0 1 refl

-- ---- all exits marked
exit_part : {E : Expr} (D : Dynamic E) → drop ((net_of E).entries + (net_of E).internals) (marking_of D) ≡ table (exit_code E) (tokens D).exit
unfolding net_of
exit_part {E} D =
    let es = table (entry_code E) (tokens D).entry in
    let is = table (internal_code E) (tokens D).internal in
    let xs = table (exit_code E) (tokens D).exit in
    let front : length (es ++ is) ≡ length (entries 0 E) + length (internals 0 E) =
    omega (arith, length-append es is, table_length (entry_code E) (tokens D).entry, table_length (internal_code E) (tokens D).internal, entries_card 0 E, internals_card 0 E) in
    ap (drop (length (entries 0 E) + length (internals 0 E))) (marking_parts D ∙ sym (append_assoc es is xs)) ∙ drop_at (es ++ is) xs (length (entries 0 E) + length (internals 0 E)) front

pub exits_finished : {E : Expr} (D : Dynamic E) → T (exits_marked (net_of E) (marking_of D)) → Equal E D finished
unfolding exits_marked table
exits_finished {E} D h = full_exits D each
  where
    all_exits : T (all (λ y. leb 1 y) (table (exit_code E) (tokens D).exit))
    all_exits = subst (λ l. T (all (λ y. leb 1 y) l)) (exit_part D) h

    each : (x : Exit E) → 1 ≤ (tokens D).exit x
    each x = leb→le 1 ((tokens D).exit x) (all_at (λ y. leb 1 y) (table (exit_code E) (tokens D).exit) all_exits ((tokens D).exit x) (Memᴰ.map (tokens D).exit (element_member (exit_code E) x)))
