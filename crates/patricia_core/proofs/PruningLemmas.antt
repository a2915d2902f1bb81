-- A walk that removes entries from a tree where it stands.
use Rattle.std.proofs.Common.{◌≡◌, ◌≢◌, ◌<◌, ◌≤◌, ℕ, T, true, false, List, [], ◌∷◌, ◌++◌, Option, Some, None, length}
use Rattle.std.proofs.Common.{refl, sym, ap, subst, ◌∙◌}
use Rattle.std.specs.Prelude.{is_some}
use Rattle.std.specs.List.{All, AllByRecursion}
use Rattle.std.proofs.lemmas.List.Elements.{All-from_recursion, recursion_from_All}
use Rattle.std.specs.FinMap as map
use Rattle.std.specs.FinMap.{put, is_sorted}
use Rattle.std.specs.Ordering.{is_lt}
use Rattle.std.specs.declared.cmp.Ordering.{Ordering}
use Rattle.std.specs.declared.cmp.Ordering.TheVariants.{Less, Equal, Greater}
use Rattle.patricia_keys.specs.Keys.{IsKeyKind, key_cmp}
use Rattle.patricia_keys.proofs.KeyLemmas.{key_cmp-same}
use Rattle.patricia_model.specs.Cursors.{after}
use Rattle.patricia_model.specs.Internal.Removals.{others}
use Rattle.patricia_model.specs.Siblings.{own, keys_of}
use Rattle.patricia_model.specs.Trees.{map_of}
use Rattle.patricia_model.proofs.CursorLemmas.{after_first}
use Rattle.patricia_model.proofs.TreeLemmas.{get_empty, get_filled, insert_empty, insert_filled, keys_map, remove_empty, remove_filled, tree_sorted}
use Rattle.patricia_nodes.specs.Internal.Plans.{siblings_of, entries_of}
use Rattle.patricia_nodes.specs.declared.parts.TreeParts.{TreeParts}
use Rattle.patricia_edits.specs.declared.pruning.Pruning.{Pruning}
use Rattle.patricia_edits.specs.Internal.Prunings.{HasLeft, StandsAtEntry, FindsNext}
use Rattle.patricia_edits.specs.Internal.Removes.{Removes}
use Rattle.patricia_edits.proofs.PruneGoneLemmas.{entry_left, entry_inner, entry_key, entry_node, entry_within}
use Rattle.patricia_edits.proofs.PruneGoneLemmas.{entry_written}
use Rattle.patricia_nodes.specs.declared.arena.NodeArena.{NodeArena}
use Rattle.patricia_nodes.specs.Internal.Loans.{HasValueNode, value_of, with_value}
use Rattle.patricia_nodes.proofs.LoanLemmas.{node_found}
use Rattle.patricia_model.specs.Points.{Joins}
use Rattle.patricia_model.proofs.JoinLemmas.{joins_root}
use Rattle.patricia_model.proofs.PointLemmas.{nil_second}
use Rattle.patricia_core.proofs.StoreLemmas.{stored_old}
use Rattle.patricia_core.specs.Internal.Stores.{IsStored}
use Rattle.patricia_core.specs.Internal.Pruners.{PrunerView}
use Rattle.patricia_core.specs.Internal.Pruning.{HasCome, IsPruned, all_of, left_at, key_at, node_at}
use Rattle.patricia_core.specs.Internal.Pruning.{is_at_empty, pruner_view}
use Rattle.patricia_core.specs.declared.tree.pruning.Spot.{Spot}
use Rattle.patricia_core.specs.declared.tree.pruning.Spot.TheVariants.{Start, AtEmptyKey, AtNode}
use Rattle.patricia_core.specs.declared.tree.pruning.Spot.TheVariants.{Between, End}

-- no key comes before the empty one
not_before_empty : (k : List ℕ) → is_lt (key_cmp k []) ≡ false
not_before_empty [] = refl
not_before_empty (b ∷ k) = refl

module _ {V : Type 0} where
  -- the empty key comes after none
  pub after_own : (k : List ℕ) (v : Option V) (es : List (List ℕ × V))
      → after (Some k) (own v ++ es) ≡ after (Some k) es
  after_own k None es = refl
  after_own k (Some v) es = rw (not_before_empty k) refl

  -- after a key come the same entries where it has another value
  pub after_put : (k : List ℕ) (w : V) (es : List (List ℕ × V))
      → after (Some k) (put key_cmp k w es) ≡ after (Some k) es
  after_put k w [] = rw (key_cmp-same k) refl
  after_put k w (e ∷ es) = by (key_cmp k e.0) refl (after_put k w es)
    where
      by : (o : Ordering) → key_cmp k e.0 ≡ o
          → after (Some k) (put key_cmp k w es) ≡ after (Some k) es
          → after (Some k) (put key_cmp k w (e ∷ es)) ≡ after (Some k) (e ∷ es)
      by Less is rest = simp (is, key_cmp-same k)
      by Equal is rest = simp (is, key_cmp-same k)
      by Greater is rest = simp is rest

  -- or none
  pub after_others : (k : List ℕ) (es : List (List ℕ × V))
      → after (Some k) (others k es) ≡ after (Some k) es
  after_others k [] = refl
  after_others k (e ∷ es) = by (key_cmp k e.0) refl (after_others k es)
    where
      by : (o : Ordering) → key_cmp k e.0 ≡ o → after (Some k) (others k es) ≡ after (Some k) es
          → after (Some k) (others k (e ∷ es)) ≡ after (Some k) (e ∷ es)
      by Less is rest = simp is (ap (λ r. e ∷ r) rest)
      by Equal is rest = simp is rest
      by Greater is rest = simp is rest

-- what holds of keys holds of those behind the first
keys_behind : {V : Type 0} (P : List ℕ → Type 0) (v : Option V) (es : List (List ℕ × V))
    → AllByRecursion P (keys_of (own v ++ es)) → AllByRecursion P (keys_of es)
keys_behind P None es all = all
keys_behind P (Some v) es all = all.1

-- where no key of a tree is longer, none of its nodes is
pub nodes_within : (item : List ℕ → Type 0) (kind : IsKeyKind item) {V : Type 0} (tree : TreeParts V)
    (n : ℕ) → IsStored item tree.arena tree.count
    → All (λ k. length k ≤ n) (map.keys (map_of tree.value (siblings_of tree.arena)))
    → All (λ k. length k ≤ n) (keys_of (entries_of tree.arena))
nodes_within item kind tree n stored all =
    let P : List ℕ → Type 0 = λ k. length k ≤ n in
    let keys = subst (All P) (keys_map item kind tree.value (siblings_of tree.arena) stored.tree.canonical) all in
    All-from_recursion P (keys_of (entries_of tree.arena))
    (keys_behind P tree.value (entries_of tree.arena) (recursion_from_All P (keys_of (own tree.value ++ entries_of tree.arena)) keys))

module _ {item : List ℕ → Type 0} (kind : IsKeyKind item) {V : Type 0} {tree : TreeParts V}
    {walk : Pruning} {spot : Spot} (p : IsPruned item tree walk spot) where
  -- the entries of the tree are in order
  all_sorted : T (is_sorted key_cmp (all_of tree))
  all_sorted = tree_sorted item kind tree.value (siblings_of tree.arena) p.stored.tree.canonical

  -- past the empty key the walk over the nodes has left what is left
  pub come_left : (spot ≡ Start → tree.value ≡ None)
      → HasLeft tree.arena walk (left_at spot walk.path.items (all_of tree))
  come_left none = by spot none p.come
    where
      by : (spot : Spot) → (spot ≡ Start → tree.value ≡ None) → HasCome tree walk spot
          → HasLeft tree.arena walk (left_at spot walk.path.items (all_of tree))
      by Start none come = subst (λ v. HasLeft tree.arena walk (own v ++ entries_of tree.arena)) (sym (none refl)) come.1
      by AtEmptyKey none come = come.1
      by (AtNode id) none come = entry_left come.1
      by Between none come = come
      by End none come = come

  -- what is behind the first of the entries that are left
  pub come_behind : (path : List ℕ) (e : List ℕ × V) (rest : List (List ℕ × V))
      → left_at spot path (all_of tree) ≡ e ∷ rest → after (Some e.0) (all_of tree) ≡ rest
  come_behind path e rest = by spot
    where
      by : (spot : Spot) → left_at spot path (all_of tree) ≡ e ∷ rest → after (Some e.0) (all_of tree) ≡ rest
      by Start is = after_first None (all_of tree) all_sorted e rest is
      by AtEmptyKey is = after_first (Some path) (all_of tree) all_sorted e rest is
      by (AtNode id) is = after_first (Some path) (all_of tree) all_sorted e rest is
      by Between is = after_first (Some path) (all_of tree) all_sorted e rest is
      by End is = absurd (cc)

-- a walk goes on
module _ {item : List ℕ → Type 0} (kind : IsKeyKind item) {V : Type 0} (tree : TreeParts V)
    (walk : Pruning) where
  -- the entry of the empty key is the first
  pub record GoesToEmpty (path : List ℕ) : Type 0 where
    pub pruned : IsPruned item tree walk AtEmptyKey
    pub value : V
    pub left_is : left_at Start path (all_of tree) ≡ ([], value) ∷ left_at AtEmptyKey path (all_of tree)
    pub path_is : path ≡ []

  pub goes_to_empty : IsPruned item tree walk Start → tree.value ≢ None → GoesToEmpty walk.path.items
  goes_to_empty p some = by tree.value refl
    where
      by : (o : Option V) → tree.value ≡ o → GoesToEmpty walk.path.items
      by None is = absurd (some is)
      by (Some v) is =
          let first : all_of tree ≡ ([], v) ∷ entries_of tree.arena = ap (λ o. own o ++ entries_of tree.arena) is in
          let behind = ap (λ k. after (Some k) (all_of tree)) p.come.0
          ∙ come_behind kind p [] ([], v) (entries_of tree.arena) first in
          record {
            pruned = record {
              stored = p.stored;
              come = (p.come.0, subst (HasLeft tree.arena walk) (sym behind) p.come.1);
            };
            value = v;
            left_is = first ∙ ap (λ es. ([], v) ∷ es) (sym behind);
            path_is = p.come.0;
          }

  -- or that of a node is next
  pub record GoesToNode (left : List (List ℕ × V)) (walk' : Pruning) (id : ℕ) : Type 0 where
    pub pruned : IsPruned item tree walk' (AtNode id)
    pub value : V
    pub left_is : left ≡ (walk'.path.items, value) ∷ after (Some walk'.path.items) (all_of tree)

  pub goes_to_node : {spot : Spot} (p : IsPruned item tree walk spot) (walk' : Pruning) (id : ℕ)
      → FindsNext tree.arena walk' (left_at spot walk.path.items (all_of tree)) (Some id)
      → GoesToNode (left_at spot walk.path.items (all_of tree)) walk' id
  goes_to_node p walk' id found =
      let behind = come_behind kind p walk.path.items (walk'.path.items, found.0) found.1 found.2 in
      record {
        pruned = record {
          stored = p.stored;
          come = (found.0, subst (StandsAtEntry tree.arena walk' id found.0) (sym behind) found.3);
        };
        value = found.0;
        left_is = found.2 ∙ ap (λ es. (walk'.path.items, found.0) ∷ es) (sym behind);
      }

-- entries behind a key that is written or removed
module _ {V : Type 0} (k : List ℕ) (v v' : Option V) (es es' : List (List ℕ × V)) where
  pub same_behind_put : (w : V) → es' ≡ put key_cmp k w es
      → after (Some k) (own v' ++ es') ≡ after (Some k) (own v ++ es)
  same_behind_put w is = after_own k v' es' ∙ ap (after (Some k)) is ∙ after_put k w es ∙ sym (after_own k v es)

  pub same_behind_others : es' ≡ others k es
      → after (Some k) (own v' ++ es') ≡ after (Some k) (own v ++ es)
  same_behind_others is = after_own k v' es' ∙ ap (after (Some k)) is ∙ after_others k es ∙ sym (after_own k v es)

  pub same_behind : es' ≡ es → after (Some k) (own v' ++ es') ≡ after (Some k) (own v ++ es)
  same_behind is = after_own k v' es' ∙ ap (after (Some k)) is ∙ sym (after_own k v es)

module _ {item : List ℕ → Type 0} (kind : IsKeyKind item) {V : Type 0} {tree : TreeParts V}
    {walk : Pruning} where
  -- at the entry of the empty key
  module _ (p : IsPruned item tree walk AtEmptyKey) where
    -- another value, or none
    pub empty_written : (o : Option V) → IsPruned item (record tree { value = o }) walk AtEmptyKey
    empty_written o = record {
      stored = p.stored;
      come = (
        p.come.0,
        subst (HasLeft tree.arena walk)
            (sym (same_behind walk.path.items tree.value o (entries_of tree.arena) (entries_of tree.arena) refl)) p.come.1,
      );
    }

    pub empty_removed : IsPruned item (record tree { value = None }) walk Between
    empty_removed = record { stored = p.stored; come = (empty_written None).come.1 }

    pub empty_behind : (o : Option V) → after (Some walk.path.items) (all_of (record tree { value = o }))
        ≡ after (Some walk.path.items) (all_of tree)
    empty_behind o = same_behind walk.path.items tree.value o (entries_of tree.arena) (entries_of tree.arena) refl

  -- at that of a node
  module _ {id : ℕ} (p : IsPruned item tree walk (AtNode id)) where
    -- its key is not empty
    pub node_nonempty : walk.path.items ≢ []
    node_nonempty none =
        let h = p.come.1 in
        (entry_inner kind tree.arena p.stored.tree.canonical h).nonempty
        (nil_second _ h.label (sym (entry_key kind tree.arena p.stored.tree.canonical h) ∙ none))

    -- it has the value of the key
    abbrev pub value_node : HasValueNode item tree.arena walk.path.items id
    value_node = entry_node kind tree.arena p.stored.tree.canonical p.come.1 p.stored.whole

    pub node_within : id < length tree.arena.nodes.items
    node_within = entry_within kind tree.arena p.stored.tree.canonical p.come.1 p.stored.whole

    pub node_value : map.get (map_of tree.value (siblings_of tree.arena)) walk.path.items ≡ value_of tree.arena id
    node_value = get_filled item kind tree.value (siblings_of tree.arena) walk.path.items p.stored.tree.canonical node_nonempty
        ∙ sym (node_found item tree.arena walk.path.items id value_node)

    -- with another value there
    module _ (w : V) where
      abbrev written : NodeArena V
      written = with_value tree.arena id w

      pub node_behind : after (Some walk.path.items) (all_of (record tree { arena = written }))
          ≡ after (Some walk.path.items) (all_of tree)
      node_behind = same_behind_put walk.path.items tree.value tree.value (entries_of tree.arena) (entries_of written) w
          (value_node.writes w).put_is

      pub node_inserted : map_of tree.value (siblings_of written)
          ≡ map.insert (map_of tree.value (siblings_of tree.arena)) walk.path.items w
      node_inserted = insert_filled item kind tree.value (siblings_of tree.arena) (siblings_of written) walk.path.items w
          p.stored.tree.canonical node_nonempty (value_node.writes w).put_is

      pub node_written : IsPruned item (record tree { arena = written }) walk (AtNode id)
      node_written = record {
        stored = stored_old item kind tree.arena written walk.path.items w tree.count p.stored
            (value_node.writes w).whole value_node.value (value_node.writes w).canonical
            (value_node.writes w).put_is value_node.found;
        come = (
          w,
          subst (StandsAtEntry written walk id w) (sym node_behind)
              (entry_written kind tree.arena p.stored.tree.canonical p.come.1 p.stored.whole w),
        );
      }

    -- without it
    module _ (tree' : TreeParts V) (walk' : Pruning) (value : tree'.value ≡ tree.value)
        (path : walk'.path ≡ walk.path) (stored : IsStored item tree'.arena tree'.count) where
      module _ (removes : Removes item tree.arena tree'.arena walk.path.items) where
        pub node_gone_behind : after (Some walk'.path.items) (all_of tree') ≡ after (Some walk.path.items) (all_of tree)
        node_gone_behind = ap (λ r. after (Some r.items) (all_of tree')) path
            ∙ same_behind_others walk.path.items tree.value tree'.value (entries_of tree.arena) (entries_of tree'.arena) removes.left_is

        pub node_gone : HasLeft tree'.arena walk' (after (Some walk.path.items) (all_of tree))
            → IsPruned item tree' walk' Between
        node_gone left = record {
          stored = stored;
          come = subst (HasLeft tree'.arena walk') (sym node_gone_behind) left;
        }

        pub node_removed : map_of tree'.value (siblings_of tree'.arena)
            ≡ map.remove (map_of tree.value (siblings_of tree.arena)) walk.path.items
        node_removed = ap (λ v. map_of v (siblings_of tree'.arena)) value
            ∙ remove_filled item kind tree.value (siblings_of tree.arena) (siblings_of tree'.arena) walk.path.items
            p.stored.tree.canonical node_nonempty removes.left_is

      -- or where that was refused
      module _ (same : entries_of tree'.arena ≡ entries_of tree.arena) where
        pub node_kept_behind : after (Some walk'.path.items) (all_of tree') ≡ after (Some walk.path.items) (all_of tree)
        node_kept_behind = ap (λ r. after (Some r.items) (all_of tree')) path
            ∙ same_behind walk.path.items tree.value tree'.value (entries_of tree.arena) (entries_of tree'.arena) same

        pub node_kept : StandsAtEntry tree'.arena walk' id p.come.0 (after (Some walk.path.items) (all_of tree))
            → IsPruned item tree' walk' (AtNode id)
        node_kept stands = record {
          stored = stored;
          come = (p.come.0, subst (StandsAtEntry tree'.arena walk' id p.come.0) (sym node_kept_behind) stands);
        }

        pub node_same : map_of tree'.value (siblings_of tree'.arena) ≡ map_of tree.value (siblings_of tree.arena)
        node_same = let both = value in ap (λ v. map.from_sorted (own v ++ entries_of tree'.arena)) both
            ∙ ap (λ es. map.from_sorted (own tree.value ++ es)) same

    -- which joins labels
    pub node_joins : Joins item (keys_of (entries_of tree.arena)) walk.path.items
        → Joins item (map.keys (map_of tree.value (siblings_of tree.arena))) walk.path.items
    node_joins joins = subst (λ S. Joins item S walk.path.items)
        (sym (keys_map item kind tree.value (siblings_of tree.arena) p.stored.tree.canonical))
        (joins_root item tree.value (entries_of tree.arena) walk.path.items joins)

-- where the walk stands at a node, it stands there
pub node_spot : (spot : Spot) (id : ℕ) → node_at spot ≡ Some id → spot ≡ AtNode id
node_spot Start id e = absurd (cc)
node_spot AtEmptyKey id e = absurd (cc)
node_spot (AtNode i) id e = let same : i ≡ id = cc in ap (λ k. AtNode k) same
node_spot Between id e = absurd (cc)
node_spot End id e = absurd (cc)

-- and so at the empty key
pub empty_spot : (spot : Spot) → is_at_empty spot ≡ true → spot ≡ AtEmptyKey
empty_spot Start e = absurd (cc)
empty_spot AtEmptyKey e = refl
empty_spot (AtNode i) e = absurd (cc)
empty_spot Between e = absurd (cc)
empty_spot End e = absurd (cc)

-- or at no entry
pub no_spot : (spot : Spot) (path : List ℕ) → node_at spot ≡ None → is_at_empty spot ≡ false → key_at spot path ≡ None
no_spot Start path e f = refl
no_spot AtEmptyKey path e f = absurd (cc)
no_spot (AtNode i) path e f = absurd (cc)
no_spot Between path e f = refl
no_spot End path e f = refl

-- what a caller sees of a walk that stands at an entry
module _ {item : List ℕ → Type 0} (kind : IsKeyKind item) {V : Type 0} {tree : TreeParts V}
    {walk : Pruning} (old : PrunerView V) where
  module _ {id : ℕ} (p : IsPruned item tree walk (AtNode id)) (is : pruner_view tree walk (AtNode id) ≡ old)
      (key : List ℕ) (at : old.at ≡ Some key) where
    -- the key is the path
    node_key : walk.path.items ≡ key
    node_key = let both : Some walk.path.items ≡ Some key = ap (λ (v : PrunerView V). v.at) is ∙ at in cc

    -- the closure was called at the entry
    pub node_asked : (P : List ℕ × V → V → Type 0) (arena : NodeArena V)
        → ((v : V) → value_of tree.arena id ≡ Some v → (w : V) × P (walk.path.items, v) w × (arena ≡ with_value tree.arena id w))
        → (v : V) → map.get old.map key ≡ Some v
        → (w : V) × P (key, v) w × (map_of tree.value (siblings_of arena) ≡ map.insert old.map key w)
    node_asked P arena asked v got =
        let same = ap (λ (v : PrunerView V). v.map) is in
        let a = asked v (sym (node_value kind p) ∙ ap (λ m. map.get m walk.path.items) same ∙ ap (map.get old.map) node_key ∙ got) in (
          a.0,
          subst (λ k. P (k, v) a.0) node_key a.1,
          ap (λ s. map_of tree.value (siblings_of s)) a.2 ∙ node_inserted kind p a.0
              ∙ ap (λ m. map.insert m walk.path.items a.0) same ∙ ap (λ k. map.insert old.map k a.0) node_key,
        )

    -- it was removed
    pub node_is_removed : (tree' : TreeParts V) (walk' : Pruning) → tree'.value ≡ tree.value → walk'.path ≡ walk.path
        → IsStored item tree'.arena tree'.count → Removes item tree.arena tree'.arena walk.path.items
        → map_of tree'.value (siblings_of tree'.arena) ≡ map.remove old.map key
    node_is_removed tree' walk' value path stored removes =
        node_removed kind p tree' walk' value path stored removes
        ∙ ap (λ m. map.remove m walk.path.items) (ap (λ (v : PrunerView V). v.map) is)
        ∙ ap (λ k. map.remove old.map k) node_key

    -- or labels would be joined without it
    pub node_would_join : Joins item (keys_of (entries_of tree.arena)) walk.path.items
        → Joins item (map.keys old.map) key
    node_would_join joins = subst (λ k. Joins item (map.keys old.map) k) node_key
        (subst (λ (m : map.FinMap key_cmp V). Joins item (map.keys m) walk.path.items)
        (ap (λ (v : PrunerView V). v.map) is) (node_joins kind p joins))

  module _ (p : IsPruned item tree walk AtEmptyKey) (is : pruner_view tree walk AtEmptyKey ≡ old)
      (key : List ℕ) (at : old.at ≡ Some key) where
    empty_key : key ≡ []
    empty_key = let both : Some walk.path.items ≡ Some key = ap (λ (v : PrunerView V). v.at) is ∙ at in
        let same : key ≡ walk.path.items = cc in same ∙ p.come.0

    -- the closure was called at that of the empty key
    pub empty_asked : (P : List ℕ × V → V → Type 0) (value : Option V)
        → ((v : V) → tree.value ≡ Some v → (w : V) × P (walk.path.items, v) w × (value ≡ Some w))
        → (v : V) → map.get old.map key ≡ Some v
        → (w : V) × P (key, v) w × (map_of value (siblings_of tree.arena) ≡ map.insert old.map key w)
    empty_asked P value asked v got =
        let ok = p.stored.tree.canonical in
        let same = ap (λ (v : PrunerView V). v.map) is in
        let a = asked v (sym (get_empty item kind tree.value (siblings_of tree.arena) ok)
        ∙ ap (λ m. map.get m []) same ∙ ap (map.get old.map) (sym empty_key) ∙ got) in (
          a.0,
          subst (λ k. P (k, v) a.0) (p.come.0 ∙ sym empty_key) a.1,
          ap (λ o. map_of o (siblings_of tree.arena)) a.2
              ∙ insert_empty item kind tree.value (siblings_of tree.arena) a.0 ok
              ∙ ap (λ m. map.insert m [] a.0) same ∙ ap (λ k. map.insert old.map k a.0) (sym empty_key),
        )

    -- or it was removed
    pub empty_is_removed : map_of None (siblings_of tree.arena) ≡ map.remove old.map key
    empty_is_removed = remove_empty item kind tree.value (siblings_of tree.arena) p.stored.tree.canonical
        ∙ ap (λ m. map.remove m []) (ap (λ (v : PrunerView V). v.map) is)
        ∙ ap (λ k. map.remove old.map k) (sym empty_key)

-- where it was found to stand at a node, it stands at one
pub some_node : (spot : Spot) → is_some (node_at spot) ≡ true → (id : ℕ) × (spot ≡ AtNode id)
some_node Start e = absurd (cc)
some_node AtEmptyKey e = absurd (cc)
some_node (AtNode id) e = (id, refl)
some_node Between e = absurd (cc)
some_node End e = absurd (cc)
