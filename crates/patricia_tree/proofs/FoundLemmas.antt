-- Entries found at their keys.
use Rattle.std.proofs.Common.{◌≡◌, ℕ, inl, inr, T, cond, List, [], ◌∷◌, Some, ap, subst, ◌∙◌}
use Rattle.std.specs.declared.cmp.Ordering.TheVariants.{Less}
use Rattle.std.specs.Ordering.{is_eq, ordering_reverse}
use Rattle.std.specs.Cmp.{tied_itself}
use Rattle.std.specs.Cmp.Lexicographic.{nat_list_cmp_total}
use Rattle.std.specs.FinMap.{find, is_sorted}
use Rattle.std.specs.FinMap.Entries.{below_all}
use Rattle.patricia_keys.specs.Keys.{key_cmp}
use Rattle.patricia_model.specs.Points.{Has}
use Rattle.patricia_model.proofs.TestLemmas.{first_part, second_part, less_so}

module _ {V : Type 0} where
  -- a key that is below all entries of a list comes before the key of each
  below_is : (q : List ℕ) (es : List (List ℕ × V)) (e : List ℕ × V) → T (below_all key_cmp q es)
      → Has es e → key_cmp q e.0 ≡ Less
  below_is q [] e below h = absurd h
  below_is q (x ∷ es) e below (inl same) = subst (λ y. key_cmp q y.0 ≡ Less) same (less_so _ (first_part _ _ below))
  below_is q (x ∷ es) e below (inr h) = below_is q es e (second_part _ _ below) h

  -- the value of an entry is found at its key
  pub find_has : (es : List (List ℕ × V)) → T (is_sorted key_cmp es) → (e : List ℕ × V) → Has es e
      → find key_cmp e.0 es ≡ Some e.1
  find_has [] sorted e h = absurd h
  find_has (x ∷ es) sorted e (inl same) =
      subst (λ y. find key_cmp y.0 (x ∷ es) ≡ Some y.1) same
      (ap (λ r. cond (is_eq r) (Some x.1) (find key_cmp x.0 es)) (tied_itself nat_list_cmp_total x.0))
  find_has (x ∷ es) sorted e (inr h) =
      let less = below_is x.0 es e (first_part _ _ sorted) h in
      ap (λ r. cond (is_eq r) (Some x.1) (find key_cmp e.0 es)) (nat_list_cmp_total.antisymm e.0 x.0 ∙ ap ordering_reverse less)
      ∙ find_has es (second_part _ _ sorted) e h
