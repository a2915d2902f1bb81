-- The first entry of a map, as a cursor over the whole map lends it.
use Rattle.std.proofs.Common.{◌≡◌, ℕ, List, [], ◌∷◌, Option, None, Some, slice_get, cond, refl, sym}
use Rattle.std.proofs.Common.{ap, subst, ◌∙◌}
use Rattle.std.specs.Option.{option_map, option_or}
use Rattle.std.specs.Ordering.{is_eq}
use Rattle.std.specs.Cmp.{tied_itself}
use Rattle.std.specs.Cmp.Lexicographic.{nat_list_cmp_total}
use Rattle.std.specs.FinMap as map
use Rattle.std.specs.FinMap.{find, get-entries}
use Rattle.patricia_tree.specs.Cursors.{CursorView, next_entry, stepped, last_value, written}
use Rattle.patricia_tree.specs.Keys.{key_cmp}
use Rattle.patricia_tree.specs.Prefixes.{under}

module _ {V : Type 0} where
  abbrev pub start : map.FinMap key_cmp V → CursorView V
  start m = record { map = m; prefix = []; last = None }

  -- a cursor that has lent at a key, if there is one
  abbrev lent_at : CursorView V → Option (List ℕ) → CursorView V
  lent_at s key = record s { last = option_or key s.last }

  -- the value of the first entry is found at its key
  first_found : (entries : List (List ℕ × V)) (e : List ℕ × V) → slice_get (under [] entries) 0 ≡ Some e → find key_cmp e.0 entries ≡ Some e.1
  first_found [] e is = absurd (cc)
  first_found (x ∷ entries) e is =
      let same : x ≡ e = cc in
      subst (λ y. find key_cmp y.0 (x ∷ entries) ≡ Some y.1) same
      (ap (λ r. cond (is_eq r) (Some x.1) (find key_cmp x.0 entries)) (tied_itself nat_list_cmp_total x.0))

  -- where a step lends nothing there is no entry
  pub no_entry : (m : map.FinMap key_cmp V) → last_value (stepped (start m)) ≡ None → next_entry (start m) ≡ None
  no_entry m none = by (next_entry (start m)) refl
    where
      by : (o : Option (List ℕ × V)) → next_entry (start m) ≡ o → next_entry (start m) ≡ None
      by None entry = entry
      by (Some e) entry =
          let there : last_value (stepped (start m)) ≡ Some e.1 =
          subst (λ o. last_value (lent_at (start m) (option_map (λ e. e.0) o)) ≡ Some e.1) (sym entry)
          (get-entries m e.0 ∙ first_found (map.entries m) e entry) in
          absurd (cc)

  -- a step changes no map
  pub same_map : (m : map.FinMap key_cmp V) → (stepped (start m)).map ≡ m
  same_map m = by (next_entry (start m)) refl
    where
      by : (o : Option (List ℕ × V)) → next_entry (start m) ≡ o → (stepped (start m)).map ≡ m
      by None entry = subst (λ o. (lent_at (start m) (option_map (λ e. e.0) o)).map ≡ m) (sym entry) refl
      by (Some e) entry = subst (λ o. (lent_at (start m) (option_map (λ e. e.0) o)).map ≡ m) (sym entry) refl

  -- what is written where a step lends is inserted at the key of the first entry
  pub put_first : (m n : map.FinMap key_cmp V) (v w : V) → last_value (stepped (start m)) ≡ Some v → n ≡ (written (stepped (start m)) w).map
      → (key : List ℕ) × (old : V) × (next_entry (start m) ≡ Some (key, old)) × (n ≡ map.insert m key w)
  put_first m n v w lent put = by (next_entry (start m)) refl
    where
      by : (o : Option (List ℕ × V)) → next_entry (start m) ≡ o → (key : List ℕ) × (old : V) × (next_entry (start m) ≡ Some (key, old)) × (n ≡ map.insert m key w)
      by None entry =
          let none : last_value (stepped (start m)) ≡ None =
          subst (λ o. last_value (lent_at (start m) (option_map (λ e. e.0) o)) ≡ None) (sym entry) refl in
          absurd (cc)
      by (Some e) entry =
          (e.0, e.1, entry, put ∙ subst (λ o. (written (lent_at (start m) (option_map (λ e. e.0) o)) w).map ≡ map.insert m e.0 w) (sym entry) refl)
