-- Siblings without nodes need not wait.
use Rattle.std.proofs.Common.{◌≡◌, ℕ, ◌<◌, List, [], ◌∷◌, ◌++◌, take, refl, sym, ap, subst, ◌∙◌}
use Rattle.std.proofs.Common.{arith}
use Rattle.patricia_model.specs.Siblings.{Siblings, end, prefixed, own, entries}
use Rattle.patricia_model.specs.Internal.WalkStates.{WalkState, waiting, steps_in, steps_waiting}
use Rattle.patricia_model.specs.Internal.WalkStates.{IsWithinAll, WaitsWithin, IsWalkState, IsStep}

module _ {V : Type 0} where
  -- it adds no entries
  waiting-none : (path : List ℕ) (fs : List (ℕ × Siblings V)) (n : ℕ)
      → waiting path (fs ++ (n, end) ∷ []) ≡ waiting path fs
  waiting-none path [] n = refl
  waiting-none path (f ∷ fs) n =
      ap (λ l. l ++ prefixed (take f.0 path) (entries f.1)) (waiting-none path fs n)

  -- and takes a step
  steps_waiting-none : (fs : List (ℕ × Siblings V)) (n : ℕ)
      → steps_waiting fs < steps_waiting (fs ++ (n, end) ∷ [])
  steps_waiting-none [] n = omega arith
  steps_waiting-none (f ∷ fs) n = omega (arith, steps_waiting-none fs n)

  -- a bound of all numbers bounds them without the last
  within_all-front : (m : ℕ) (fs : List (ℕ × Siblings V)) (f : ℕ × Siblings V)
      → IsWithinAll m (fs ++ f ∷ []) → IsWithinAll m fs
  within_all-front m [] f h = tt
  within_all-front m (g ∷ fs) f h = (h.0, within_all-front m fs f h.1)

module _ (item : List ℕ → Type 0) {V : Type 0} where
  -- the siblings before the last wait without it too
  pub WaitsWithin-front : (path : List ℕ) (fs : List (ℕ × Siblings V)) (f : ℕ × Siblings V)
      → WaitsWithin item path (fs ++ f ∷ []) → WaitsWithin item path fs
  WaitsWithin-front path [] f w = tt
  WaitsWithin-front path (g ∷ fs) f w =
      record {
        within = w.within;
        below = within_all-front g.0 fs f w.below;
        valid = w.valid;
        canonical = w.canonical;
        rest = WaitsWithin-front path fs f w.rest;
      }

  -- to forget such siblings, where they wait last, is a step
  pub step_without : (t u : WalkState V) (n : ℕ) → IsWalkState item t
      → t.stack ≡ u.stack ++ (n, end) ∷ [] → u.path ≡ t.path → u.pending ≡ t.pending
      → u.siblings ≡ t.siblings → IsStep item t u
  step_without t u n w stack path pending siblings =
      record {
        state = record {
          valid = rw path w.valid;
          canonical = rw siblings w.canonical;
          waits = rw path (WaitsWithin-front t.path u.stack (n, end) (subst (WaitsWithin item t.path) stack w.waits));
        };
        same = rw (path, pending, siblings)
            (ap (λ l. prefixed t.path (own t.pending ++ entries t.siblings) ++ l)
            (sym (ap (waiting t.path) stack ∙ waiting-none t.path u.stack n)));
        less = omega (
          arith,
          ap steps_waiting stack,
          steps_waiting-none u.stack n,
          ap steps_in siblings,
        );
      }
