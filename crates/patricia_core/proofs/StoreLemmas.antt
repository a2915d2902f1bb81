-- A tree as it is stored, and the map that it stands for.
use Rattle.std.proofs.Common.{◌≡◌, ℕ, ◌+◌, ◌<◌, ◌^◌, ◌-◌, List, [], ◌++◌, Option, Some, None, is_some, true, false, sym, ap, subst, ◌∙◌, inl, inr}
use Rattle.std.specs.Prelude.{◌⊎◌, MatchOption}
use Rattle.std.specs.FinMap as map
use Rattle.std.specs.FinMap.{FinMap, find}
use Rattle.patricia_keys.specs.Keys.{IsKeyKind, IsValid, key_cmp}
use Rattle.patricia_keys.proofs.KeyLemmas.{IsValid-nil}
use Rattle.patricia_model.specs.Siblings.{Siblings, own, entries, IsCanonical}
use Rattle.patricia_model.specs.Trees.{map_of}
use Rattle.patricia_model.proofs.TreeLemmas.{entries_map, length_new, length_old}
use Rattle.patricia_nodes.specs.declared.arena.NodeArena.{NodeArena}
use Rattle.patricia_nodes.specs.Internal.Plans.{IsWellFormed, siblings_of, entries_of}
use Rattle.patricia_nodes.specs.declared.arena.seek.LinkRef.{LinkRef}
use Rattle.patricia_nodes.specs.Internal.Trails.{IsTrail}
use Rattle.patricia_nodes.specs.Internal.Writes.{IsPut}
use Rattle.patricia_core.specs.Internal.Stores.{IsStored, IsMerged}

module _ (item : List ℕ → Type 0) (kind : IsKeyKind item) {V : Type 0} where
  -- the entries of a map are those of its tree's value and nodes
  pub entries_of_parts : (v w : Option V) (r : Siblings V) (m : FinMap key_cmp V) → IsCanonical item r
      → w ≡ v → map_of v r ≡ m → own w ++ entries r ≡ map.entries m
  entries_of_parts v w r m ok same is =
      ap (λ v. own v ++ entries r) same ∙ sym (entries_map item kind v r ok) ∙ ap map.entries is

  module _ (old new : NodeArena V) (q : List ℕ) (x : V) (count : ℕ) (stored : IsStored item old count)
      (whole : IsWellFormed new) where
    -- a new key is counted
    pub stored_new : IsCanonical item (siblings_of new) → IsPut old new q x
        → find key_cmp q (entries_of old) ≡ None → count + 1 < 2 ^ 64 - 1 → IsStored item new (count + 1)
    stored_new siblings put none fits = record {
      whole = whole;
      tree = record {
        canonical = siblings;
        counted = rw stored.tree.counted
            (sym (length_new item kind (siblings_of old) (siblings_of new) q x stored.tree.canonical put none));
        fits = fits;
      };
    }

    -- one that is there is not
    pub stored_old : (y : V) → IsCanonical item (siblings_of new) → IsPut old new q x
        → find key_cmp q (entries_of old) ≡ Some y → IsStored item new count
    stored_old y siblings put some = record {
      whole = whole;
      tree = record {
        canonical = siblings;
        counted = stored.tree.counted
            ∙ sym (length_old item kind (siblings_of old) (siblings_of new) q x y stored.tree.canonical put some);
        fits = stored.tree.fits;
      };
    }

-- a trail is that of the last key, where the bytes of that were kept
pub merged_kept : (item : List ℕ → Type 0) {V : Type 0} (s : NodeArena V) (count : ℕ)
    (key bytes last : List ℕ) (trail : List (LinkRef × ℕ)) → IsStored item s count → IsValid item key
    → IsTrail item s key trail → bytes ≡ key → (last ≡ bytes) ⊎ (last ≡ [])
    → IsMerged item s count last trail
merged_kept item s count key bytes last trail stored valid passed is (inl kept) =
    let same : key ≡ last = sym (kept ∙ is) in
    record {
      stored = stored;
      valid = subst (IsValid item) same valid;
      passed = λ _. subst (λ k. IsTrail item s k trail) same passed;
    }
merged_kept item s count key bytes last trail stored valid passed is (inr none) = record {
  stored = stored;
  valid = subst (IsValid item) (sym none) (IsValid-nil item);
  passed = λ some. absurd (some none);
}

-- where a look-up finds nothing, what it says of nothing holds
pub none_found : {A P : Type 0} (Q : A → Type 0) (o : Option A) → is_some o ≡ false
    → MatchOption o P Q → P
none_found Q None is found = found
none_found Q (Some x) is found = absurd (cc)

-- and else what it says of what it finds
pub some_found : {A : Type 0} (P : Type 0) (Q : A → Type 0) (o : Option A) → is_some o ≡ true
    → MatchOption o P Q → (x : A) × Q x
some_found P Q None is found = absurd (cc)
some_found P Q (Some x) is found = (x, found)
