-- The entries of a map, put into another one.
use Rattle.std.proofs.Common.{◌≡◌, ℕ, List, [], ◌∷◌, sym, subst, ◌∙◌}
use Rattle.std.specs.Borrow.{MutBor}
use Rattle.std.specs.Fn.{Mut}
use Rattle.std.specs.FinMap as map
use Rattle.patricia_core.specs.Keys.{key_cmp}
use Rattle.patricia_tree.specs.Folds.{IsFoldStopped}
use Rattle.patricia_tree.specs.Merges.{MergesEntry, IsMergeStopped}
use Rattle.patricia_tree.proofs.FoldLemmas.{IsFolding, folding_stops}

module _ {F V : Type 0}
    (call : Mut F (MutBor V × (V × Unit {0})) (Unit {0} × (MutBor V × Unit {0}))) where
  -- an entry that is refused
  pub merging_stops : (f g : F) (old m n : map.FinMap key_cmp V) (entries left later : List (List ℕ × V))
      (entry : List ℕ × V) → left ≡ entry ∷ later → n ≡ m
      → IsFolding (MergesEntry call) (f, old) entries (g, m) left → IsMergeStopped call f old entries n
  merging_stops f g old m n entries left later entry is same so_far = (
    g,
    subst (λ k. IsFoldStopped (MergesEntry call) (f, old) entries (g, k)) (sym same)
        (folding_stops (MergesEntry call) (f, old) entries (g, m) left
        (λ none. absurd (let no : entry ∷ later ≡ [] = sym is ∙ none in cc)) so_far),
  )
