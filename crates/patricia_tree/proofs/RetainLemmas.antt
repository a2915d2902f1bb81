-- What a test leaves of the entries of a map, where it is called at each in turn.
use Rattle.std.proofs.Common.{◌≡◌, ◌≢◌, ℕ, T, Bool, true, false, List, [], ◌∷◌, length, drop}
use Rattle.std.proofs.Common.{Option, Some, None, slice_get, refl, sym, ap, subst, ◌∙◌}
use Rattle.std.specs.Prelude.{suc, ◌&&◌, map as list_map}
use Rattle.std.specs.Cmp.Lexicographic.{nat_list_cmp_total}
use Rattle.std.specs.List.{items_where_true}
use Rattle.std.specs.List.Retain.{ReturnsInTurn, IsFiltered}
use Rattle.std.specs.Option.{option_or}
use Rattle.std.specs.FinMap as map
use Rattle.std.specs.FinMap.{FinMap, find, is_sorted, entries_sorted, get-entries, get-empty}
use Rattle.std.specs.FinMap.Entries.{below_all, same_entries}
use Rattle.patricia_core.specs.Cursors.{ReadCursorView, advanced}
use Rattle.patricia_core.specs.Keys.{key_cmp}
use Rattle.patricia_model.proofs.ListLemmas.{key_cmp-equal}
use Rattle.patricia_model.proofs.TestLemmas.{first_part, second_part}
use Rattle.patricia_tree.specs.Bulk.{insert_all}
use Rattle.patricia_tree.proofs.WholeLemmas.{get-insert_all}

both_parts : (a b : Bool) → T a → T b → T (a && b)
both_parts true b p q = q
both_parts false b p q = absurd p

module _ {V : Type 0} where
  -- the keys of entries
  abbrev pub keys_of_entries : List (List ℕ × V) → List (List ℕ)
  keys_of_entries entries = list_map (λ e. e.0) entries

  below_picked : (q : List ℕ) (bs : List Bool) (es : List (List ℕ × V)) → T (below_all key_cmp q es)
      → T (below_all key_cmp q (items_where_true bs es))
  below_picked q [] es h = tt
  below_picked q (b ∷ bs) [] h = tt
  below_picked q (true ∷ bs) (e ∷ es) h = both_parts _ _ (first_part _ _ h) (below_picked q bs es (second_part _ _ h))
  below_picked q (false ∷ bs) (e ∷ es) h = below_picked q bs es (second_part _ _ h)

  -- some of the entries in order are in order
  sorted_picked : (bs : List Bool) (es : List (List ℕ × V)) → T (is_sorted key_cmp es)
      → T (is_sorted key_cmp (items_where_true bs es))
  sorted_picked [] es h = tt
  sorted_picked (b ∷ bs) [] h = tt
  sorted_picked (true ∷ bs) (e ∷ es) h = both_parts _ _ (below_picked e.0 bs es (first_part _ _ h)) (sorted_picked bs es (second_part _ _ h))
  sorted_picked (false ∷ bs) (e ∷ es) h = sorted_picked bs es (second_part _ _ h)

  keys_picked : (bs : List Bool) (es : List (List ℕ × V))
      → keys_of_entries (items_where_true bs es) ≡ items_where_true bs (keys_of_entries es)
  keys_picked [] es = refl
  keys_picked (b ∷ bs) [] = refl
  keys_picked (true ∷ bs) (e ∷ es) = ap (λ ks. e.0 ∷ ks) (keys_picked bs es)
  keys_picked (false ∷ bs) (e ∷ es) = keys_picked bs es

  or_none : (o : Option V) → option_or o None ≡ o
  or_none None = refl
  or_none (Some v) = refl

  -- entries in order, inserted into the empty map, are its entries
  pub entries_inserted : (entries : List (List ℕ × V)) → T (is_sorted key_cmp entries)
      → map.entries (insert_all map.empty entries) ≡ entries
  entries_inserted entries sorted =
      let made = insert_all map.empty entries in
      same_entries key_cmp nat_list_cmp_total key_cmp-equal (map.entries made) entries (entries_sorted made) sorted
      (λ q. sym (get-entries made q) ∙ get-insert_all entries sorted map.empty q ∙ ap (option_or (find key_cmp q entries)) (get-empty key_cmp q) ∙ or_none _)

-- `R` says what a test may answer at a key, and what it may become
module _ {F V : Type 0} (R : F → List ℕ → Bool → F → Type 0) (start : F) (all : List (List ℕ × V)) where
  -- so far f is what calls have made of the test, and made has the entries that they chose:
  -- whatever is answered at the entries that are left, it is what calls at all of them answer
  pub record IsChoosing (f : F) (made : FinMap key_cmp V) (left : List (List ℕ × V)) : Type 0 where
    pub at : (bs : List Bool) (q : F) → length bs ≡ length left → ReturnsInTurn R f bs (keys_of_entries left) q
        → (cs : List Bool) × (length cs ≡ length all) × ReturnsInTurn R start cs (keys_of_entries all) q
        × (insert_all made (items_where_true bs left) ≡ insert_all map.empty (items_where_true cs all))

  pub choosing_starts : (made : FinMap key_cmp V) → made ≡ map.empty → IsChoosing start made all
  choosing_starts made is = record { at = λ bs q long ran. (bs, long, ran, ap (λ m. insert_all m (items_where_true bs all)) is) }

  -- a turn
  choosing_turns : (f g : F) (made mid : FinMap key_cmp V) (left : List (List ℕ × V)) (b : Bool) → left ≢ []
      → ((e : List ℕ × V) → slice_get left 0 ≡ Some e → R f e.0 b g)
      → (b ≡ true → (e : List ℕ × V) → slice_get left 0 ≡ Some e → mid ≡ map.insert made e.0 e.1)
      → (b ≡ false → mid ≡ made) → IsChoosing f made left → IsChoosing g mid (drop 1 left)
  choosing_turns f g made mid [] b some ran put kept so_far = absurd (some refl)
  choosing_turns f g made mid (e ∷ es) true some ran put kept so_far = record {
    at = λ bs q long rest.
        let found = so_far.at (true ∷ bs) q (ap suc long) (g, ran e refl, rest) in
        (found.0, found.1, found.2, ap (λ m. insert_all m (items_where_true bs es)) (put refl e refl) ∙ found.3);
  }
  choosing_turns f g made mid (e ∷ es) false some ran put kept so_far = record {
    at = λ bs q long rest.
        let found = so_far.at (false ∷ bs) q (ap suc long) (g, ran e refl, rest) in
        (found.0, found.1, found.2, ap (λ m. insert_all m (items_where_true bs es)) (kept refl) ∙ found.3);
  }

  -- the same, of a cursor that advances
  pub choosing_on : (f g : F) (made mid : FinMap key_cmp V) (c d : ReadCursorView V) (b : Bool) → d ≡ advanced c
      → c.left ≢ [] → ((e : List ℕ × V) → d.at ≡ Some e → R f e.0 b g)
      → (b ≡ true → (e : List ℕ × V) → d.at ≡ Some e → mid ≡ map.insert made e.0 e.1)
      → (b ≡ false → mid ≡ made) → IsChoosing f made c.left → IsChoosing g mid d.left
  choosing_on f g made mid c d b is some ran put kept so_far =
      let at = ap (λ (v : ReadCursorView V). v.at) is in
      subst (IsChoosing g mid) (sym (ap (λ (v : ReadCursorView V). v.left) is))
      (choosing_turns f g made mid c.left b some (λ e e_at. ran e (at ∙ e_at)) (λ yes e e_at. put yes e (at ∙ e_at)) kept so_far)

  -- the end
  pub choosing_ends : (f : F) (made : FinMap key_cmp V) (left : List (List ℕ × V)) → left ≡ []
      → T (is_sorted key_cmp all) → IsChoosing f made left → IsFiltered R start (keys_of_entries all) (keys_of_entries (map.entries made))
  choosing_ends f made (x ∷ left) none sorted so_far = absurd (cc)
  choosing_ends f made [] none sorted so_far =
      let found = so_far.at [] f refl refl in
      let kept : map.entries made ≡ items_where_true found.0 all = ap map.entries found.3 ∙ entries_inserted (items_where_true found.0 all) (sorted_picked found.0 all sorted) in
      (found.0, f, found.1 ∙ long_keys all, found.2, ap keys_of_entries kept ∙ keys_picked found.0 all)
    where
      long_keys : (es : List (List ℕ × V)) → length es ≡ length (keys_of_entries es)
      long_keys [] = refl
      long_keys (e ∷ es) = ap suc (long_keys es)
