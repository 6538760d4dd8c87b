-- A turn of the loops that join the pairs of a scope.
-- True because a turn takes the first action of those that are left, as the definitions do.
use Prim.Native.Nat.{ℕ, ◌+◌, ◌≤◌, ◌<◌}
use native.Mathlib.Omega.{arith}
use mathlib.Core.Path.{◌≡◌, refl, sym, ◌∙◌, ap, subst}
use mathlib.Core.Bool.{Bool, true, false, cond}
use mathlib.Core.List.{List, [], ◌∷◌, ◌++◌}
use lib.ListN.{length, get_or, drop, length-append, drop_of_length-le}
use Rattle.std.proofs.lemmas.List.{drop_more}
use Rattle.transitions.specs.inner.Numbers.{most}
use Rattle.transitions.specs.inner.Listing.{Stored, Held, pairs, pairs_with, pairs_of, joined_pair}
use Rattle.transitions.proofs.StillToCome.{Left, all_held, one_stored, some_held}
use Rattle.transitions.proofs.Weights.{pairs_with_all, pairs_of_all}

one_left : (is : List ℕ) {u x : ℕ} → u < length is → x ≡ get_or is u 0 → drop u is ≡ x ∷ drop (u + 1) is
one_left is {u} h e = drop_more is u 0 h ∙ ap (λ y. y ∷ drop (u + 1) is) (sym e)

module _ (part : ℕ → ℕ → Bool) where
  -- What the test says of the numbers that the code hands it.
  pub told : {i j w v : ℕ} {r b : Bool} → r ≡ part w v → w ≡ i → v ≡ j → r ≡ b → part i j ≡ b
  told {j = j} {w} e p q t = ap (λ x. part x j) (sym p) ∙ ap (λ y. part w y) (sym q) ∙ sym e ∙ t

  pairs_with_next : (i j : ℕ) (js : List ℕ) (b : Bool) → part i j ≡ b → pairs_with part i (j ∷ js) ≡ cond b (joined_pair i j ∷ pairs_with part i js) (pairs_with part i js)
  unfolding pairs_with
  pairs_with_next i j js b e = rw e refl

  pairs_with_none : (i : ℕ) → pairs_with part i [] ≡ []
  unfolding pairs_with
  pairs_with_none i = refl

  pairs_of_next : (i : ℕ) (is js : List ℕ) → pairs_of part (i ∷ is) js ≡ pairs_with part i js ++ pairs_of part is js
  unfolding pairs_of
  pairs_of_next i is js = refl

  pairs_of_none : (js : List ℕ) → pairs_of part [] js ≡ []
  unfolding pairs_of
  pairs_of_none js = refl

  -- The pairs of action i with the actions up to u are joined.
  abbrev pub Joining : List ℕ → ℕ → ℕ → List ℕ → List ℕ → ℕ → ℕ → Type 0
  Joining entry n i js list so_far u = Left entry n list so_far (pairs_with part i js) (pairs_with part i (drop u js))

  module _ (entry list js : List ℕ) (n so_far u i : ℕ) where
    abbrev Now : List ℕ → ℕ → ℕ → Type 0
    Now list so_far u = Joining entry n i js list so_far u

    next : {j : ℕ} (b : Bool) → u < length js → j ≡ get_or js u 0 → part i j ≡ b
        → pairs_with part i (drop u js) ≡ cond b (joined_pair i j ∷ pairs_with part i (drop (u + 1) js)) (pairs_with part i (drop (u + 1) js))
    next {j} b h e p = ap (pairs_with part i) (one_left js h e) ∙ pairs_with_next i j (drop (u + 1) js) b p

    pub one_joined : {j : ℕ} {exit : List ℕ} → u < length js → j ≡ get_or js u 0 → part i j ≡ true → Stored so_far 0 i j list exit → Now list so_far u → Now exit (so_far + 1) (u + 1)
    one_joined h e p s w = one_stored (subst (λ q. Left entry n list so_far (pairs_with part i js) q) (next true h e p) w) s refl refl refl

    pub none_joined : {j : ℕ} → u < length js → j ≡ get_or js u 0 → part i j ≡ false → Now list so_far u → Now list so_far (u + 1)
    none_joined h e p w = subst (λ q. Left entry n list so_far (pairs_with part i js) q) (next false h e p) w

    pub no_room : {j : ℕ} → u < length js → j ≡ get_or js u 0 → part i j ≡ true → most ≤ so_far → Now list so_far u → most < n + (0 + pairs (pairs_with part i js))
    no_room h e p full w = omega (arith, w.count, ap length (next true h e p), pairs_with_all part i js)

    pub all_joined : length js ≤ u → Now list so_far u → Held so_far n (pairs_with part i js) entry list
    all_joined h w = all_held (subst (λ q. Left entry n list so_far (pairs_with part i js) q) (ap (pairs_with part i) (drop_of_length-le js {i = u} h) ∙ pairs_with_none i) w)

  -- The pairs of the actions up to t are joined.
  abbrev pub JoiningAll : List ℕ → ℕ → List ℕ → List ℕ → List ℕ → ℕ → ℕ → Type 0
  JoiningAll entry n is js list so_far t = Left entry n list so_far (pairs_of part is js) (pairs_of part (drop t is) js)

  module _ (entry list is js : List ℕ) (n so_far t : ℕ) where
    abbrev Joins : List ℕ → ℕ → ℕ → Type 0
    Joins list so_far t = JoiningAll entry n is js list so_far t

    of_next : {i : ℕ} → t < length is → i ≡ get_or is t 0 → pairs_of part (drop t is) js ≡ pairs_with part i js ++ pairs_of part (drop (t + 1) is) js
    of_next {i} h e = ap (λ q. pairs_of part q js) (one_left is h e) ∙ pairs_of_next i (drop (t + 1) is) js

    pub one_more_joined : {i m : ℕ} {exit : List ℕ} → t < length is → i ≡ get_or is t 0 → Held m so_far (pairs_with part i js) list exit → Joins list so_far t → Joins exit m (t + 1)
    one_more_joined {i} h e s w =
        some_held (pairs_with part i js) (pairs_of part (drop (t + 1) is) js) (subst (λ q. Left entry n list so_far (pairs_of part is js) q) (of_next h e) w) s

    pub no_more_room : {i : ℕ} → t < length is → i ≡ get_or is t 0 → most < so_far + (0 + pairs (pairs_with part i js)) → Joins list so_far t → most < n + (0 + pairs (pairs_of part is js))
    no_more_room {i} h e full w =
        omega (
          arith,
          w.count,
          ap length (of_next h e),
          length-append (pairs_with part i js) (pairs_of part (drop (t + 1) is) js),
          pairs_with_all part i js,
          pairs_of_all part is js,
        )

    pub all_pairs_joined : length is ≤ t → Joins list so_far t → Held so_far n (pairs_of part is js) entry list
    all_pairs_joined h w = all_held (subst (λ q. Left entry n list so_far (pairs_of part is js) q) (ap (λ q. pairs_of part q js) (drop_of_length-le is {i = t} h) ∙ pairs_of_none js) w)
