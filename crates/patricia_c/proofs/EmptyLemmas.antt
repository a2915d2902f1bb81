-- What holds of a place with nothing on the heap, which stands for the empty map.
use Rattle.std.proofs.Common.{◌≡◌, ◌-◌, ℕ, Bool, true, false, List, [], None, Option, inl, length, ◌==◌, refl, sym, ap, ◌∙◌, subst}
use Rattle.std.proofs.lemmas.Bool.{eqb-true}
use Rattle.std.proofs.lemmas.List.{nil_from_length}
use Rattle.std.proofs.lemmas.Cmp.{nat_list_cmp_total}
use denote.Ref.{Bor}
use Rattle.std.specs.Option.{option_copied}
use Rattle.std.specs.FinMap as map
use Rattle.std.specs.FinMap.{get-empty, len-empty, len-entries, len-remove, empty_of_len}
use mathlib.Core.Bool.{cond}
use Rattle.patricia_tree.specs.ByteKind.{IsByteItem}
use Rattle.patricia_tree.specs.Keys.{key_cmp}
use Rattle.patricia_tree.specs.Prefixes.{IsReach, longest}
use Rattle.patricia_c.specs.declared.map_pointer.StoredMap.{StoredMap}
use Rattle.patricia_c.specs.Internal.Behind.{map_behind}
use Rattle.patricia_c.specs.Many.{measured}
use Rattle.patricia_c.specs.Maps.{map_of}

abbrev Map : Type 0
Map = map.FinMap key_cmp ℕ

empty_entries : map.entries {X = ℕ} (map.empty {R = key_cmp}) ≡ []
empty_entries = nil_from_length (map.entries map.empty) (sym (len-entries map.empty) ∙ len-empty key_cmp ℕ)

less_none : (b : Bool) (n : ℕ) → n ≡ 0 → cond b (n - 1) n ≡ 0
less_none true n e = ap (λ m. m - 1) e
less_none false n e = e

empty_remove : (k : List ℕ) → map.remove {X = ℕ} (map.empty {R = key_cmp}) k ≡ map.empty
empty_remove k = empty_of_len _ (len-remove nat_list_cmp_total map.empty k ∙ less_none _ _ (len-empty key_cmp ℕ))

module _ (o : Option StoredMap) (none : None ≡ o) where
  pub none_len : 0 ≡ map.len (map_of o)
  none_len = subst (λ (o : Option StoredMap). 0 ≡ map.len (map_of o)) none (sym (len-empty key_cmp ℕ))

  pub none_get : (k : List ℕ) → map.get (map_of o) k ≡ None
  none_get k = subst (λ (o : Option StoredMap). map.get (map_of o) k ≡ None) none (get-empty key_cmp k)

  pub none_entries : map.entries (map_of o) ≡ []
  none_entries = subst (λ (o : Option StoredMap). map.entries (map_of o) ≡ []) none empty_entries

  -- no key is a prefix of another
  pub none_longest : (k : List ℕ) → measured (longest k (map.entries (map_of o))) ≡ None
  none_longest k = ap (λ es. measured (longest k es)) none_entries

  pub none_remove : (k : List ℕ) → map.empty ≡ map.remove (map_of o) k
  none_remove k = subst (λ (o : Option StoredMap). map.empty ≡ map.remove (map_of o) k) none (sym (empty_remove k))

-- the same of a map that is read where there is none
module _ (stored : Option (Bor StoredMap)) (none : stored ≡ None) where
  pub behind_len : map.len (map_behind stored) ≡ 0
  behind_len = sym (none_len (option_copied stored) (sym (ap option_copied none)))

  pub behind_get : (k : List ℕ) → map.get (map_behind stored) k ≡ None
  behind_get = none_get (option_copied stored) (sym (ap option_copied none))

  pub behind_entries : map.entries (map_behind stored) ≡ []
  behind_entries = none_entries (option_copied stored) (sym (ap option_copied none))

-- bytes that are tested to be empty are
pub empty_is : (b : Bool) (bytes : List ℕ) → b ≡ (length bytes == 0) → b ≡ true → bytes ≡ []
empty_is b bytes is h = nil_from_length bytes (eqb-true (length bytes) 0 (sym is ∙ h))

pub none_reach : (k : List ℕ) → IsReach IsByteItem [] k 0
none_reach k = record { reached = inl (refl, refl); furthest = λ _ m has _. absurd has }
