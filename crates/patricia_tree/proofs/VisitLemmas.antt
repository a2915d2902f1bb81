-- A closure that is called at the entries of a cursor, one after the other.
use Rattle.std.proofs.Common.{◌≡◌, ◌≢◌, ℕ, List, [], ◌∷◌, Some, refl, sym, ap, ◌∙◌, subst}
use Rattle.std.proofs.Common.{slice_get, drop}
use Rattle.patricia_core.specs.Cursors.{ReadCursorView, advanced}
use Rattle.patricia_tree.proofs.FoldLemmas.{IsFolding, folding_on}

module _ {F V : Type 0} (R : F → List ℕ × V → F → Type 0) (f : F) (entries : List (List ℕ × V)) where
  -- at the first of the entries that are left
  visiting_first : (g h : F) (left : List (List ℕ × V)) → left ≢ []
      → ((e : List ℕ × V) → slice_get left 0 ≡ Some e → R g e h) → IsFolding R f entries g left
      → IsFolding R f entries h (drop 1 left)
  visiting_first g h [] some step so_far = absurd (some refl)
  visiting_first g h (e ∷ es) some step so_far =
      folding_on R f entries g h (e ∷ es) es e refl (step e refl) so_far

  -- a cursor has advanced, and the closure was called at its entry
  pub visiting_on : (g h : F) (c d : ReadCursorView V) → d ≡ advanced c → c.left ≢ []
      → ((e : List ℕ × V) → d.at ≡ Some e → R g e h) → IsFolding R f entries g c.left
      → IsFolding R f entries h d.left
  visiting_on g h c d is some step so_far =
      let at = ap (λ (v : ReadCursorView V). v.at) is in
      subst (IsFolding R f entries h) (sym (ap (λ (v : ReadCursorView V). v.left) is))
      (visiting_first g h c.left some (λ e e_at. step e (at ∙ e_at)) so_far)
