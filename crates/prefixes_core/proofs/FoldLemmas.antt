-- Lists that are folded from the first element to the last.
use Rattle.std.proofs.Common.{◌≡◌, List, [], ◌∷◌, ◌++◌, refl, sym, ap, subst, ◌∙◌}
use Rattle.std.specs.List.{FoldsTo}
use Rattle.std.proofs.lemmas.Fn.{FoldsTo-push}
use Rattle.std.proofs.lemmas.List.{append_assoc, append-nil}

module _ {S X : Type 0} (Step : S → X → S → Type 0) where
  -- some elements are folded, and these are left
  pub record FoldsFront (all left : List X) (before after : S) : Type 0 where
    pub done : List X
    pub joined : done ++ left ≡ all
    pub folded : FoldsTo Step before done after

  -- all are left at first
  pub none_folded : (all left : List X) (before : S) → left ≡ all
      → FoldsFront all left before before
  none_folded all left before is = record { done = []; joined = is; folded = refl }

  -- the first that is left is folded
  pub one_folded : (all left later : List X) (x : X) (before middle after : S) → left ≡ x ∷ later
      → Step middle x after → FoldsFront all left before middle
      → FoldsFront all later before after
  one_folded all left later x before middle after is step so_far = record {
    done = so_far.done ++ x ∷ [];
    joined = append_assoc so_far.done (x ∷ []) later
        ∙ ap (λ l. so_far.done ++ l) (sym is) ∙ so_far.joined;
    folded = FoldsTo-push Step before so_far.done middle x after so_far.folded step;
  }

  -- none is left
  pub all_folded : (all left : List X) (before after : S) → left ≡ []
      → FoldsFront all left before after → FoldsTo Step before all after
  all_folded all left before after none so_far =
      subst (λ l. FoldsTo Step before l after)
      (sym (append-nil so_far.done) ∙ ap (λ l. so_far.done ++ l) (sym none) ∙ so_far.joined)
      so_far.folded
