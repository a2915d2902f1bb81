-- A tree's entries as a finite map.
use Rattle.std.proofs.Common.{◌≡◌, ◌↔◌, ℕ, ◌+◌, ◌≢◌, true, false, T, cond, not, List, [], ◌++◌}
use Rattle.std.proofs.Common.{Option, Some, None, length, refl, sym, ap, subst, ◌∙◌, arith}
use Rattle.std.proofs.Common.{length-append}
use Rattle.std.specs.Option.{is_some, option_map}
use Rattle.std.specs.FinMap.{find, put, is_sorted, from_sorted, insert, remove, get, len, empty}
use Rattle.std.specs.FinMap.{entries-from_sorted, get-from_sorted, get-remove, entries-insert}
use Rattle.std.specs.FinMap.{same_entries_map, same_map, slice_cmp-IsAntisymmetric}
use Rattle.std.specs.FinMap.{nat_cmp-IsAntisymmetric, len-entries, len-empty}
use Rattle.std.proofs.lemmas.List.{nil_from_length}
use Rattle.std.specs.FinMap as map
use Rattle.std.specs.FinMap.Entries.{is_sorted-put, length-put, is_sorted-where_key, find-where_key}
use Rattle.std.specs.FinMap.Entries.{length_without}
use Rattle.std.specs.declared.cmp.Ordering.TheVariants.{Less, Equal, Greater}
use Rattle.std.specs.Ordering.{eq_by_cmp, is_eq, ordering_reverse}
use Rattle.patricia_model.specs.Internal.Removals.{others}
use Rattle.patricia_model.proofs.ListLemmas.{key_cmp-equal}
use Rattle.patricia_model.proofs.RemovalLemmas.{others_own, others_below}
use Rattle.std.specs.Cmp.Lexicographic.{nat_list_cmp_total}
use Rattle.patricia_keys.specs.Keys.{IsKeyKind, key_cmp}
use Rattle.patricia_model.specs.Siblings.{Siblings, end, node, own, entries, paths, IsCanonical}
use Rattle.patricia_model.specs.Siblings.{keys_of}
use Rattle.patricia_model.specs.Points.{Has, IsPoint}
use Rattle.patricia_model.proofs.PointLemmas.{IsPoint-within, own_within, within_own, paths_points}
use Rattle.patricia_model.proofs.UniqueLemmas.{has_entry, insides, same_siblings}
use Rattle.patricia_model.specs.Trees.{map_of}
use Rattle.patricia_model.proofs.OrderLemmas.{entries_sorted, sorted_own, sorted-append, below_own}
use Rattle.patricia_model.proofs.GetLemmas.{find_own, find_child}
use Rattle.patricia_model.proofs.InsertLemmas.{put_own, put_child}

module _ {V : Type 0} where
  -- a write to a map made of sorted entries is one to the entries
  pub from_sorted-put : (es : List (List ℕ × V)) (k : List ℕ) (v : V) → T (is_sorted key_cmp es)
      → insert (from_sorted {R = key_cmp} es) k v ≡ from_sorted (put key_cmp k v es)
  from_sorted-put es k v sorted =
      same_entries_map _ _
      (entries-insert nat_list_cmp_total (from_sorted es) k v
      ∙ ap (put key_cmp k v) (entries-from_sorted key_cmp es sorted)
      ∙ sym (entries-from_sorted key_cmp (put key_cmp k v es) (is_sorted-put key_cmp nat_list_cmp_total k v es sorted)))

  -- a map made of sorted entries has as many entries
  pub len-from_sorted : (es : List (List ℕ × V)) → T (is_sorted key_cmp es)
      → len (from_sorted {R = key_cmp} es) ≡ length es
  len-from_sorted es sorted = len-entries (from_sorted es) ∙ ap length (entries-from_sorted key_cmp es sorted)

module _ (item : List ℕ → Type 0) (kind : IsKeyKind item) {V : Type 0} where
  -- the entries of a tree are in order, that of the empty key first
  pub tree_sorted : (v : Option V) (r : Siblings V) → IsCanonical item r
      → T (is_sorted key_cmp (own v ++ entries r))
  tree_sorted v r ok = sorted-append (own v) (entries r) (sorted_own item kind v) (entries_sorted item kind r ok) (below_own item kind v r ok)

  -- the entries of the map are the entries of the tree
  pub entries_map : (v : Option V) (r : Siblings V) → IsCanonical item r
      → map.entries (map_of v r) ≡ own v ++ entries r
  entries_map v r ok = entries-from_sorted key_cmp (own v ++ entries r) (tree_sorted v r ok)

  -- a map without entries is that of no value and no node
  pub nothing_in : (v : Option V) (r : Siblings V) → IsCanonical item r → len (map_of v r) ≡ 0
      → (v ≡ None) × (r ≡ end)
  nothing_in v r ok none =
      let all : own v ++ entries r ≡ [] = sym (entries_map v r ok) ∙ nil_from_length (map.entries (map_of v r)) (sym (len-entries (map_of v r)) ∙ none) in
      (no_own v (entries r) all, no_node r ok (no_entry v (entries r) all))
    where
      no_own : (v : Option V) (es : List (List ℕ × V)) → own v ++ es ≡ [] → v ≡ None
      no_own None es e = refl
      no_own (Some x) es e = absurd (cc)

      no_entry : (v : Option V) (es : List (List ℕ × V)) → own v ++ es ≡ [] → es ≡ []
      no_entry None es e = e
      no_entry (Some x) es e = absurd (cc)

      no_node : (r : Siblings V) → IsCanonical item r → entries r ≡ [] → r ≡ end
      no_node end ok e = refl
      no_node (node l v c s) ok e = let some = has_entry item kind None l v c s ok in absurd (let gone = rw some.2 at e in cc)

  -- a look-up of the empty key finds its value
  pub get_empty : (v : Option V) (r : Siblings V) → IsCanonical item r → get (map_of v r) [] ≡ v
  get_empty v r ok = get-from_sorted key_cmp (own v ++ entries r) [] (tree_sorted v r ok) ∙ find_own item kind v r ok

  -- one of another key looks among the siblings
  pub get_filled : (v : Option V) (r : Siblings V) (q : List ℕ) → IsCanonical item r → q ≢ []
      → get (map_of v r) q ≡ find key_cmp q (entries r)
  get_filled v r q ok nonempty = get-from_sorted key_cmp (own v ++ entries r) q (tree_sorted v r ok) ∙ find_child item kind q v r nonempty

  -- a tree's map has as many entries as its siblings, and that of the empty key
  pub len_map : (v : Option V) (r : Siblings V) → IsCanonical item r
      → len (map_of v r) ≡ length (own v) + length (entries r)
  len_map v r ok = len-from_sorted (own v ++ entries r) (tree_sorted v r ok) ∙ length-append (own v) (entries r)

  -- a value at the empty key is inserted there
  pub insert_empty : (v : Option V) (r : Siblings V) (x : V) → IsCanonical item r
      → map_of (Some x) r ≡ insert (map_of v r) [] x
  insert_empty v r x ok = ap from_sorted (put_own item kind x v r ok) ∙ sym (from_sorted-put (own v ++ entries r) [] x (tree_sorted v r ok))

  -- and a write to the entries of the siblings at another key is an insert there
  pub insert_filled : (v : Option V) (r r' : Siblings V) (q : List ℕ) (x : V) → IsCanonical item r
      → q ≢ [] → entries r' ≡ put key_cmp q x (entries r) → map_of v r' ≡ insert (map_of v r) q x
  insert_filled v r r' q x ok nonempty e = ap from_sorted
      (put_child item kind x q v r r' nonempty e) ∙ sym
      (from_sorted-put (own v ++ entries r) q x (tree_sorted v r ok))

  -- a write adds one entry where the key is new
  pub length_new : (r r' : Siblings V) (q : List ℕ) (x : V) → IsCanonical item r
      → entries r' ≡ put key_cmp q x (entries r) → find key_cmp q (entries r) ≡ None
      → length (entries r') ≡ length (entries r) + 1
  length_new r r' q x ok e none =
      ap length e ∙ length-put key_cmp nat_list_cmp_total q x (entries r) (entries_sorted item kind r ok)
      ∙ ap (λ o. cond (is_some o) (length (entries r)) (length (entries r) + 1)) none

  -- an insert at a key that is there adds no entry
  pub length_old : (r r' : Siblings V) (q : List ℕ) (x y : V) → IsCanonical item r
      → entries r' ≡ put key_cmp q x (entries r) → find key_cmp q (entries r) ≡ Some y
      → length (entries r') ≡ length (entries r)
  length_old r r' q x y ok e some =
      ap length e ∙ length-put key_cmp nat_list_cmp_total q x (entries r) (entries_sorted item kind r ok)
      ∙ ap (λ o. cond (is_some o) (length (entries r)) (length (entries r) + 1)) some

  -- with a value at the empty key there is one entry more than among the siblings
  pub len_some : (v : Option V) (r : Siblings V) → IsCanonical item r → is_some v ≡ true
      → length (entries r) + 1 ≡ len (map_of v r)
  len_some None r ok e = absurd (cc)
  len_some (Some x) r ok e = let whole = len_map (Some x) r ok in omega arith

  -- and without one as many
  pub len_none : (v : Option V) (r : Siblings V) → IsCanonical item r → is_some v ≡ false
      → length (entries r) ≡ len (map_of v r)
  len_none None r ok e = let whole = len_map None r ok in omega arith
  len_none (Some x) r ok e = absurd (cc)

-- the empty map has no entry
pub entries_empty : (V : Type 0) → map.entries (empty {X = V} {R = key_cmp}) ≡ []
entries_empty V = nil_from_length (map.entries (empty {X = V} {R = key_cmp})) (sym (len-entries (empty {X = V} {R = key_cmp})) ∙ len-empty key_cmp V)

-- a tree without value and nodes stands for the empty map
pub map_of_none : {V : Type 0} → map_of {V = V} None end ≡ empty
map_of_none {V} = same_entries_map _ _ (entries-from_sorted key_cmp [] tt ∙ sym (entries_empty V))

-- mapping an option that has nothing gives none
pub option_map_none : {A B : Type 0} (f : A → B) (o : Option A) → is_some o ≡ false
    → option_map f o ≡ None
option_map_none f None e = refl
option_map_none f (Some x) e = absurd (cc)

-- and of some it is not
pub option_map_not_none : {A B : Type 0} (f : A → B) (o : Option A) → option_map f o ≡ None
    → is_some o ≡ true → ⊥
option_map_not_none f None e g = absurd (cc)
option_map_not_none f (Some x) e g = absurd (cc)

-- a removal from a finite map that is made of sorted entries
module _ {V : Type 0} where
  -- the map of the entries of other keys is the map with the key removed
  pub from_sorted-others : (es : List (List ℕ × V)) (q : List ℕ) → T (is_sorted key_cmp es)
      → from_sorted {R = key_cmp} (others q es) ≡ remove (from_sorted es) q
  from_sorted-others es q sorted =
      same_map nat_list_cmp_total (slice_cmp-IsAntisymmetric nat_cmp-IsAntisymmetric) _ _ (λ x.
      get-from_sorted key_cmp (others q es) x (is_sorted-where_key key_cmp _ es sorted)
      ∙ find-where_key key_cmp (λ k. not (eq_by_cmp key_cmp q k)) x (λ k tie. ap (λ y. not (eq_by_cmp key_cmp q y)) (sym (key_cmp-equal x k tie))) es
      ∙ turned x (find key_cmp x es)
      ∙ ap (cond (eq_by_cmp key_cmp x q) None) (sym (get-from_sorted key_cmp es x sorted))
      ∙ sym (get-remove nat_list_cmp_total (from_sorted es) q x))
    where
      turned : (x : List ℕ) (o : Option V)
          → cond (not (eq_by_cmp key_cmp q x)) o None ≡ cond (eq_by_cmp key_cmp x q) None o
      turned x o =
          elim (key_cmp q x) as (λ r. cond (not (is_eq r)) o None ≡ cond (is_eq (ordering_reverse r)) None o) [ Less ↦ refl | Equal ↦ refl | Greater ↦ refl ]
          ∙ ap (λ r. cond (is_eq r) None o) (sym (nat_list_cmp_total.antisymm x q))

module _ (item : List ℕ → Type 0) (kind : IsKeyKind item) {V : Type 0} where
  -- without the empty key's value, a tree stands for the map with the empty key removed
  pub remove_empty : (v : Option V) (r : Siblings V) → IsCanonical item r
      → map_of None r ≡ remove (map_of v r) []
  remove_empty v r ok = ap from_sorted (sym (others_own item kind v r ok)) ∙ from_sorted-others (own v ++ entries r) [] (tree_sorted item kind v r ok)

  -- siblings without the entry of a key stand for the map with that key removed
  pub remove_filled : (v : Option V) (r r' : Siblings V) (q : List ℕ) → IsCanonical item r → q ≢ []
      → entries r' ≡ others q (entries r) → map_of v r' ≡ remove (map_of v r) q
  remove_filled v r r' q ok nonempty e =
      ap (λ es. from_sorted (own v ++ es)) e ∙ ap from_sorted
      (sym (others_below item kind q v r nonempty)) ∙ from_sorted-others (own v ++ entries r) q
      (tree_sorted item kind v r ok)

  -- a removal of an absent key takes no entry
  pub remove_absent : (v : Option V) (r r' : Siblings V) (q : List ℕ) → IsCanonical item r
      → entries r' ≡ others q (entries r) → find key_cmp q (entries r) ≡ None
      → length (entries r') ≡ length (entries r)
  remove_absent v r r' q ok e none =
      let whole = length_without key_cmp nat_list_cmp_total q (entries r) (entries_sorted item kind r ok) in
      let whole' = subst (λ o. cond (is_some o) 1 0 + length (others q (entries r)) ≡ length (entries r)) none whole in
      let same = ap length e in omega arith

  -- and one of a key that is there takes one
  pub remove_present : (v : Option V) (r r' : Siblings V) (q : List ℕ) (x : V) → IsCanonical item r
      → entries r' ≡ others q (entries r) → find key_cmp q (entries r) ≡ Some x
      → length (entries r') + 1 ≡ length (entries r)
  remove_present v r r' q x ok e some =
      let whole = length_without key_cmp nat_list_cmp_total q (entries r) (entries_sorted item kind r ok) in
      let whole' = subst (λ o. cond (is_some o) 1 0 + length (others q (entries r)) ≡ length (entries r)) some whole in
      let same = ap length e in omega arith

  -- the keys of the map are those of the empty key and the siblings
  pub keys_map : (v : Option V) (r : Siblings V) → IsCanonical item r
      → map.keys (map_of v r) ≡ keys_of (own v ++ entries r)
  keys_map v r ok = ap keys_of (entries-from_sorted key_cmp (own v ++ entries r) (tree_sorted item kind v r ok))

  -- trees of one finite map are the same tree
  pub same_tree : (v w : Option V) (r s : Siblings V) → IsCanonical item r → IsCanonical item s
      → map_of v r ≡ map_of w s → (v ≡ w) × (r ≡ s)
  same_tree v w r s ok ok' same =
      let es = sym (entries_map item kind v r ok) ∙ ap map.entries same ∙ entries_map item kind w s ok' in
      let parts = insides item kind None v w r s ok ok' es in
      (parts.0, same_siblings item kind None r s ok ok' parts.1)

  -- the nodes of a tree stand at the points of its keys
  pub tree_points : (v : Option V) (r : Siblings V) → IsCanonical item r → (p : List ℕ)
      → Has (paths r) p ↔ IsPoint item (map.keys (map_of v r)) p
  tree_points v r ok p =
      let siblings = paths_points item kind r ok p in
      let whole = subst (λ S. IsPoint item S p ↔ IsPoint item (keys_of (entries r)) p) (sym (keys_map v r ok))
      (IsPoint-within item kind _ _ (within_own v (entries r)) p, IsPoint-within item kind _ _ (own_within v (entries r)) p) in
      (λ h. whole.1 (siblings.0 h), λ h. siblings.1 (whole.0 h))
