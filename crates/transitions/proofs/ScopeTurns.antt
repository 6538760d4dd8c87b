-- A turn of the loops that gather the labelled transitions of a scope and keep the rest.
-- True because a turn takes the first transition of those that are left, as the definitions do.
use Prim.Native.Nat.{ℕ, suc, ◌+◌, ◌*◌, ◌≤◌, ◌<◌}
use native.Mathlib.Omega.{arith}
use native.Mathlib.Numerals.{add-one}
use mathlib.Core.Path.{◌≡◌, refl, sym, ◌∙◌, ap, subst}
use mathlib.Core.Bool.{Bool, true, false, not, ◌&&◌}
use mathlib.Core.List.{List, [], ◌∷◌, ◌++◌, append_assoc, append-nil}
use lib.ListN.{length, get_or, take, set}
use lib.Seq.{take-suc-set}
use lib.Dec.{eqb}
use borrow.Author.Tests.{eq-eqb, ne_eqb}
use Rattle.algebra.specs.Item.{first}
use Rattle.algebra.specs.Transitions.{Labelled, select, stays, kept}
use Rattle.plan.proofs.Stands.{stands_kept}
use Rattle.transitions.specs.inner.Numbers.{flat}
use Rattle.transitions.specs.inner.Listing.{Part, Stored, Found, Held, firsts}
use Rattle.transitions.proofs.FlatNumbers.{label_at, first_at, second_at, part_behind, part_over}
use Rattle.transitions.proofs.StillToCome.{Left, all_held, one_stored}

-- ---- the labelled ones are gathered

firsts_with : (label : ℕ) (u : Labelled) (us : List Labelled) → u.label ≡ label → firsts label (u ∷ us) ≡ first u.item ∷ firsts label us
unfolding firsts select
firsts_with label u us e = rw (eq-eqb u.label label e) refl

firsts_without : (label : ℕ) (u : Labelled) (us : List Labelled) → (u.label ≡ label → ⊥) → firsts label (u ∷ us) ≡ firsts label us
unfolding firsts select
firsts_without label u us e = rw (ne_eqb u.label label e) refl

firsts_none : (label : ℕ) → firsts label [] ≡ []
unfolding firsts select
firsts_none label = refl

-- So many are found, and of these transitions the others are to come.
pub record Gathering (list : List ℕ) (t end label : ℕ) (found : List ℕ) (count : ℕ) (all : List ℕ) : Type 0 where
  pub left : List Labelled
  pub part : Part list t end left
  pub numbers : take count found ++ firsts label left ≡ all
  pub counted : count + length (firsts label left) ≡ length all

module _ (list found : List ℕ) (t end label count : ℕ) (more : t < end) {all : List ℕ} where
  pub one_gathered : {x : ℕ} {exit : List ℕ} → length found ≡ 256 → length all ≤ 256 → get_or list (3 * t) 0 ≡ label → x ≡ get_or list (3 * t + 1) 0 → exit ≡ set found count x
      → Gathering list t end label found count all → Gathering list (t + 1) end label exit (count + 1) all
  one_gathered {x} long few e y s g = subst (λ f. Gathering list (t + 1) end label f (count + 1) all) (sym s) (go g.left g.part g.numbers g.counted)
    where
      go : (us : List Labelled) → Part list t end us → take count found ++ firsts label us ≡ all → count + length (firsts label us) ≡ length all
          → Gathering list (t + 1) end label (set found count x) (count + 1) all
      go [] p n c = absurd (omega (arith, p.count))
      go (u ∷ us) p n c =
          let f = firsts_with label u us (sym (label_at u us p) ∙ e) in
          let l : length (firsts label (u ∷ us)) ≡ suc (length (firsts label us)) = ap length f in
          record {
            left = us;
            part = part_behind u us p;
            numbers =
                ap (λ m. take m (set found count x) ++ firsts label us) (add-one count)
                ∙ ap (λ q. q ++ firsts label us) (take-suc-set found count x (omega arith))
                ∙ append_assoc (take count found) (x ∷ []) (firsts label us)
                ∙ ap (λ z. take count found ++ (z ∷ firsts label us)) (y ∙ first_at u us p)
                ∙ ap (λ q. take count found ++ q) (sym f)
                ∙ n;
            counted = omega arith;
          }

  -- There is room for one more.
  pub room_left : get_or list (3 * t) 0 ≡ label → Gathering list t end label found count all → count < length all
  room_left e g = go g.left g.part g.counted
    where
      go : (us : List Labelled) → Part list t end us → count + length (firsts label us) ≡ length all → count < length all
      go [] p c = absurd (omega (arith, p.count))
      go (u ∷ us) p c = omega (arith, ap length (firsts_with label u us (sym (label_at u us p) ∙ e)))

  pub none_more_gathered : (get_or list (3 * t) 0 ≡ label → ⊥) → Gathering list t end label found count all → Gathering list (t + 1) end label found count all
  none_more_gathered e g = go g.left g.part g.numbers g.counted
    where
      go : (us : List Labelled) → Part list t end us → take count found ++ firsts label us ≡ all → count + length (firsts label us) ≡ length all
          → Gathering list (t + 1) end label found count all
      go [] p n c = absurd (omega (arith, p.count))
      go (u ∷ us) p n c =
          let f = firsts_without label u us (λ z. e (label_at u us p ∙ z)) in
          record { left = us; part = part_behind u us p; numbers = ap (λ q. take count found ++ q) (sym f) ∙ n; counted = ap (λ q. count + length q) (sym f) ∙ c }

pub all_gathered : {list found all : List ℕ} {t end label count : ℕ} → end ≤ t → Gathering list t end label found count all → Found count found all
all_gathered {found = found} {all} {t} {end} {label} {count} h g =
    let e : firsts label g.left ≡ [] = ap (firsts label) (part_over g.left g.part h) ∙ firsts_none label in
    record { count = omega (arith, g.counted, ap length e); numbers = sym (ap (λ q. take count found ++ q) e ∙ append-nil (take count found)) ∙ g.numbers }

-- ---- the rest is kept

kept_with : (name : ℕ) (u : Labelled) (us : List Labelled) → stays name u ≡ true → kept name (u ∷ us) ≡ u ∷ kept name us
unfolding kept select
kept_with name u us e = rw e refl

kept_without : (name : ℕ) (u : Labelled) (us : List Labelled) → stays name u ≡ false → kept name (u ∷ us) ≡ kept name us
unfolding kept select
kept_without name u us e = rw e refl

kept_none : (name : ℕ) → kept name [] ≡ []
unfolding kept select
kept_none name = refl

-- The transitions up to t are kept or taken away.
pub record Keeping (entry : List ℕ) (start : ℕ) (list : List ℕ) (t end name so_far : ℕ) (ts : List Labelled) : Type 0 where
  pub left : List Labelled
  pub part : Part list t end left
  pub held : Left entry start list so_far (kept name ts) (kept name left)

-- What the code asks of a label.
abbrev pub passes : ℕ → ℕ → Bool
passes name l = not (eqb l name) && not (eqb l (name + 128))

module _ (name l : ℕ) where
  pub passes_neither : (l ≡ name → ⊥) → (l ≡ name + 128 → ⊥) → passes name l ≡ true
  passes_neither p q = rw (ne_eqb l name p, ne_eqb l (name + 128) q) refl

  pub stops_name : l ≡ name → passes name l ≡ false
  stops_name e = rw (eq-eqb l name e) refl

  pub stops_conjugate : (l ≡ name → ⊥) → l ≡ name + 128 → passes name l ≡ false
  stops_conjugate p e = rw (ne_eqb l name p, eq-eqb l (name + 128) e) refl

module _ (entry : List ℕ) (start : ℕ) (list : List ℕ) (t end name so_far : ℕ) (more : t < end) {ts : List Labelled} where
  pub one_kept : {l a b c : ℕ} {exit : List ℕ} → so_far ≤ t → Stored so_far a b c list exit → l ≡ a → a ≡ get_or list (3 * t) 0 → b ≡ get_or list (3 * t + 1) 0 → c ≡ get_or list (3 * t + 2) 0
      → passes name l ≡ true → Keeping entry start list t end name so_far ts → Keeping entry start exit (t + 1) end name (so_far + 1) ts
  one_kept {l} {a} {b} {c} {exit} h s w p q r e g = go g.left g.part g.held
    where
      go : (us : List Labelled) → Part list t end us → Left entry start list so_far (kept name ts) (kept name us) → Keeping entry start exit (t + 1) end name (so_far + 1) ts
      go [] v k = absurd (omega (arith, v.count))
      go (u ∷ us) v k =
          let label : l ≡ u.label = w ∙ p ∙ label_at u us v in
          let f = kept_with name u us (ap (passes name) (sym label) ∙ e) in
          let next = part_behind u us v in
          record {
            left = us;
            part = record { count = next.count; stands = stands_kept list exit (3 * (t + 1)) (flat us) (λ i m. s.behind i (omega arith)) next.stands };
            held = one_stored (subst (λ q. Left entry start list so_far (kept name ts) q) f k) s (sym w ∙ label) (q ∙ first_at u us v) (r ∙ second_at u us v);
          }

  pub none_more_kept : {l : ℕ} → l ≡ get_or list (3 * t) 0 → passes name l ≡ false → Keeping entry start list t end name so_far ts → Keeping entry start list (t + 1) end name so_far ts
  none_more_kept {l} w e g = go g.left g.part g.held
    where
      go : (us : List Labelled) → Part list t end us → Left entry start list so_far (kept name ts) (kept name us) → Keeping entry start list (t + 1) end name so_far ts
      go [] v k = absurd (omega (arith, v.count))
      go (u ∷ us) v k =
          let label : l ≡ u.label = w ∙ label_at u us v in
          let f = kept_without name u us (ap (passes name) (sym label) ∙ e) in
          record { left = us; part = part_behind u us v; held = subst (λ q. Left entry start list so_far (kept name ts) q) f k }

pub all_kept : {entry list : List ℕ} {start t end name so_far : ℕ} {ts : List Labelled} → end ≤ t → Keeping entry start list t end name so_far ts → Held so_far start (kept name ts) entry list
all_kept {entry} {list} {start} {t} {end} {name} {so_far} {ts} h g =
    let e : kept name g.left ≡ [] = ap (kept name) (part_over g.left g.part h) ∙ kept_none name in
    all_held (subst (λ q. Left entry start list so_far (kept name ts) q) e g.held)
