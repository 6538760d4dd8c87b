-- The answers of a run, each with the marking that goes with it, at a place where the run so far is known to end as the rest does.
-- At the end of the record the exits decide; a step that is refused ends the run there.
use Prim.Native.Nat.{ℕ, ◌+◌, ◌≤◌, ◌<◌}
use mathlib.Core.Path.{◌≡◌, refl, sym, ap, ◌∙◌}
use mathlib.Core.List.{List, [], ◌∷◌}
use mathlib.Core.Bool.{Bool, true, false, ◌&&◌}
use lib.ListN.{length, drop, drop_of_length-le}
use lib.Dec.{leb}
use Rattle.field.specs.Lists.{all}
use Rattle.algebra.specs.Net.{Net}
use Rattle.algebra.specs.Marking.{exits_marked}
use Rattle.form.specs.Form.{Recorded, read_steps}
use Rattle.moving.specs.inner.InOrder.{transitions_within}
use Rattle.run.specs.Run.{Run, refuse, run}
use Rattle.std.specs.Prelude.{Ok, Err}
use Rattle.std.specs.List.{list_all}
use Rattle.field.specs.Says.{number_of}
use Rattle.field.specs.declared.Refusal.{Refusal}
use Rattle.run.specs.inner.Steps.{take_step}
use Rattle.run.specs.inner.Ends.{StepFired, StepRefused, Ends}
use Rattle.run.specs.declared.Ran.TheVariants.{Finished, Unfinished}
use Rattle.run.proofs.RunsOn.{run_on, run_refused}

all_is_list_all : {A : Type 0} (f : A → Bool) (l : List A) → all f l ≡ list_all f l
unfolding all
all_is_list_all f [] = refl
all_is_list_all f (x ∷ l) = ap (λ (b : Bool). f x && b) (all_is_list_all f l)

-- A run in every net with these transitions ends as the run from another place of the record on.
abbrev pub Same : List ℕ → List ℕ → ℕ → ℕ → List ℕ → Recorded → ℕ → List ℕ → Recorded → Type 0
Same rows arcs transitions steps₀ m₀ R₀ steps m R = (N : Net) → N.transitions ≡ transitions_within rows arcs transitions → run N steps₀ m₀ R₀ ≡ run N steps m R

module _ (rows arcs : List ℕ) (transitions exits_from : ℕ) (steps₀ : ℕ) (m₀ : List ℕ) (R₀ : Recorded) (bytes_of : List ℕ) (at steps : ℕ) (m : List ℕ)
    (same : Same rows arcs transitions steps₀ m₀ R₀ steps m (read_steps at 0 (drop at bytes_of))) where
  -- The end of the record.
  module _ (h : length bytes_of ≤ at) (b : Bool) (e : b ≡ list_all (λ x. leb 1 x) (drop exits_from m)) where
    exits : (N : Net) → N.entries + N.internals ≡ exits_from → exits_marked N m ≡ b
    unfolding exits_marked
    exits N f = ap (λ (n : ℕ). all (λ x. leb 1 x) (drop n m)) f ∙ all_is_list_all (λ x. leb 1 x) (drop exits_from m) ∙ sym e

    pub ends_finished : b ≡ true → Ends (Ok (Finished steps)) m rows arcs transitions exits_from steps₀ m₀ R₀
    unfolding run read_steps
    ends_finished t N g f = rw (same N g, drop_of_length-le bytes_of h, exits N f, t) (refl, refl)

    pub ends_unfinished : b ≡ false → Ends (Ok (Unfinished steps)) m rows arcs transitions exits_from steps₀ m₀ R₀
    unfolding run read_steps
    ends_unfinished t N g f = rw (same N g, drop_of_length-le bytes_of h, exits N f, t) (refl, refl)

  -- A step's answer.
  module _ (h : at < length bytes_of) (m' : List ℕ) where
    pub ends_refused : (r : Refusal) → StepRefused (take_step (transitions_within rows arcs transitions) m at (drop at bytes_of)) m m' r
        → Ends (Err (record { refusal = r; steps = steps })) m' rows arcs transitions exits_from steps₀ m₀ R₀
    ends_refused r refuses N g f =
        let whole : run N steps₀ m₀ R₀ ≡ refuse (number_of r.fault) r.carried steps m
        = same N g ∙ run_refused N (transitions_within rows arcs transitions) g bytes_of at steps m h (number_of r.fault) r.carried refuses.says in
        (sym (ap (λ (r : Run). r.verdict) whole), refuses.leaves ∙ sym (ap (λ (r : Run). r.marking) whole))

    pub goes_on : (bytes left : ℕ) → StepFired left (take_step (transitions_within rows arcs transitions) m at (drop at bytes_of)) m' bytes
        → Same rows arcs transitions steps₀ m₀ R₀ (steps + 1) m' (read_steps (at + bytes) 0 (drop (at + bytes) bytes_of))
    goes_on bytes left fired N g = same N g ∙ run_on N (transitions_within rows arcs transitions) g bytes_of at steps m h bytes m' fired.some fired.takes
