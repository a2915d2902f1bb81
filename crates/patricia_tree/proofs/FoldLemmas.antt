-- Steps at entries, one after the other, of which some are made.
use Rattle.std.proofs.Common.{◌≡◌, ◌≢◌, List, [], ◌∷◌, ◌++◌, refl, sym, ap, ◌∙◌, append_assoc, subst}
use Rattle.std.proofs.lemmas.Fn.{FoldsTo-push}
use Rattle.std.proofs.lemmas.List.{append-nil}
use Rattle.std.specs.List.{FoldsTo}
use Rattle.patricia_tree.specs.Folds.{IsFoldStopped}

module _ {S A : Type 0} (R : S → A → S → Type 0) (start : S) (entries : List A) where
  -- steps at the entries before those that are left have made this state
  pub record IsFolding (state : S) (left : List A) : Type 0 where
    pub done : List A
    pub are_entries : entries ≡ done ++ left
    pub ran : FoldsTo R start done state

  pub folding_starts : IsFolding start entries
  folding_starts = record { done = []; are_entries = refl; ran = refl }

  pub folding_on : (state next : S) (left later : List A) (entry : A) → left ≡ entry ∷ later
      → R state entry next → IsFolding state left → IsFolding next later
  folding_on state next left later entry is step so_far = record {
    done = so_far.done ++ entry ∷ [];
    are_entries = so_far.are_entries ∙ ap (λ r. so_far.done ++ r) is
        ∙ sym (append_assoc so_far.done (entry ∷ []) later);
    ran = FoldsTo-push R start so_far.done state entry next so_far.ran step;
  }

  pub folding_stops : (state : S) (left : List A) → left ≢ [] → IsFolding state left
      → IsFoldStopped R start entries state
  folding_stops state left some so_far = record {
    done = so_far.done;
    left = left;
    are_entries = so_far.are_entries;
    some_left = some;
    folded = so_far.ran;
  }

  pub folding_ends : (state : S) (left : List A) → left ≡ [] → IsFolding state left
      → FoldsTo R start entries state
  folding_ends state left none so_far = subst (λ r. FoldsTo R start r state)
      (sym (so_far.are_entries ∙ ap (λ r. so_far.done ++ r) none ∙ append-nil so_far.done)) so_far.ran
