-- A map whose entries go to another one, each behind the last.
use Rattle.std.proofs.Common.{◌≡◌, ℕ, T, inl, inr, List, [], ◌∷◌, ◌++◌, refl, sym, ap, subst, ◌∙◌}
use Rattle.std.specs.Prelude.{map as list_map}
use Rattle.std.proofs.lemmas.List.{append-nil, append_assoc}
use Rattle.std.specs.declared.cmp.Ordering.TheVariants.{Less}
use Rattle.std.specs.Cmp.Lexicographic.{nat_list_cmp_total}
use Rattle.std.specs.FinMap as map
use Rattle.std.specs.FinMap.{entries-insert, entries_sorted, is_sorted, put, same_entries_map}
use Rattle.std.specs.FinMap.Entries.{below_all}
use Rattle.patricia_keys.specs.Keys.{key_cmp}
use Rattle.patricia_model.proofs.ListLemmas.{IsAbove, put-append_right}
use Rattle.patricia_model.proofs.TreeLemmas.{entries_empty}
use Rattle.patricia_model.specs.Points.{Has}
use Rattle.patricia_model.proofs.TestLemmas.{first_part, second_part, less_so}

-- a key below entries is below each of them
below_at : {V : Type 0} (q : List ℕ) (xs : List (List ℕ × V)) (e : List ℕ × V) (rest : List (List ℕ × V))
    → T (below_all key_cmp q (xs ++ e ∷ rest)) → key_cmp q e.0 ≡ Less
below_at q [] e rest h = less_so (key_cmp q e.0) (first_part _ _ h)
below_at q (x ∷ xs) e rest h = below_at q xs e rest (second_part _ _ h)

-- in order, an entry comes after all before it
above_sorted : {V : Type 0} (xs : List (List ℕ × V)) (e : List ℕ × V) (rest : List (List ℕ × V))
    → T (is_sorted key_cmp (xs ++ e ∷ rest)) → IsAbove e.0 xs
above_sorted [] e rest h = tt
above_sorted (x ∷ xs) e rest h = (below_at x.0 xs e rest (first_part _ _ h), above_sorted xs e rest (second_part _ _ h))

-- one more entry goes from those that are left to the map
pub one_more_entry : {V : Type 0} (whole made : map.FinMap key_cmp V) (key : List ℕ) (v : V) (left later : List (List ℕ × V))
    → left ≡ (key, v) ∷ later → map.entries made ++ left ≡ map.entries whole
    → map.entries (map.insert made key v) ++ later ≡ map.entries whole
one_more_entry whole made key v left later is so_far =
    let parts = ap (λ l. map.entries made ++ l) (sym is) ∙ so_far in
    let order = subst (λ l. T (is_sorted key_cmp l)) (sym parts) (entries_sorted whole) in
    let behind = put-append_right key v (map.entries made) [] (above_sorted (map.entries made) (key, v) later order) in
    let put_last = sym (ap (put key_cmp key v) (append-nil (map.entries made))) ∙ behind in
    ap (λ l. l ++ later) (entries-insert nat_list_cmp_total made key v ∙ put_last)
    ∙ append_assoc (map.entries made) ((key, v) ∷ []) later ∙ parts

module _ {V : Type 0} (whole made : map.FinMap key_cmp V) (left : List (List ℕ × V)) where
  -- at first the map is empty, and all are left
  pub nothing_copied : made ≡ map.empty → left ≡ map.entries whole → map.entries made ++ left ≡ map.entries whole
  nothing_copied none all =
      ap (λ m. map.entries m ++ left) none ∙ ap (λ l. l ++ left) (entries_empty V) ∙ all

  -- at last none is left, and the maps are the same
  pub all_copied : left ≡ [] → map.entries made ++ left ≡ map.entries whole → made ≡ whole
  all_copied none so_far =
      same_entries_map made whole (sym (append-nil (map.entries made)) ∙ ap (λ l. map.entries made ++ l) (sym none) ∙ so_far)

  -- what is left first is a key of the map
  pub left_first : (key : List ℕ) (v : V) (later : List (List ℕ × V)) → left ≡ (key, v) ∷ later
      → map.entries made ++ left ≡ map.entries whole → Has (map.keys whole) key
  left_first key v later is so_far =
      subst (λ l. Has (list_map (λ e. e.0) l) key) (ap (λ l. map.entries made ++ l) (sym is) ∙ so_far) (behind (map.entries made))
    where
      behind : (xs : List (List ℕ × V)) → Has (list_map (λ e. e.0) (xs ++ (key, v) ∷ later)) key
      behind [] = inl refl
      behind (x ∷ xs) = inr (behind xs)
