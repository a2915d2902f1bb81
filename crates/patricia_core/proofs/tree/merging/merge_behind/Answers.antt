use Rattle.std.proofs.Common.{◌≡◌, [], None, Some, refl, sym, ap, subst, ◌∙◌, arith}
use Rattle.std.specs.Fn.{CalledWithState}
use Rattle.std.specs.FinMap.{find}
use Rattle.patricia_keys.specs.Keys.{key_cmp}
use Rattle.patricia_nodes.specs.Internal.Loans.{HasValueNode, with_value}
use Rattle.patricia_nodes.specs.Internal.Plans.{plan_at, siblings_of, entries_of}
use Rattle.patricia_nodes.specs.Internal.Trails.{IsTrail}
use Rattle.patricia_model.proofs.TreeLemmas.{get_filled}
use Rattle.patricia_core.proofs.MergeLemmas.{merges_among, merges_found}
use Rattle.patricia_core.proofs.StoreLemmas.{none_found, some_found, stored_new, stored_old}
use Rattle.patricia_core.proofs.tree.merging.merge_behind.Goals as goal
use Rattle.patricia_core.proofs.tree.merging.merge_behind.Goals.{else-tree-via-then-tree+else-is_none}
use Rattle.patricia_core.proofs.tree.merging.merge_behind.Goals.{else-tree-via-else-tree}

pub returns-then-is_none-clause-only_new : goal.returns-then-is_none-clause-only_new
returns-then-is_none-clause-only_new g c =
    get_filled g.Q.Owned.Bytes.item g.met.Q.Owned.Bytes.lawful _ _ _
    c.requires.filled.stored.tree.canonical c.requires.nonempty
    ∙ none_found (HasValueNode g.Q.Owned.Bytes.item c.args.tree.now.arena (g.Q.BorrowedBytes.key c.args.key))
    c.find.result c.if-is_none.ensures c.find.ensures

pub returns-in-Ok-None-clause-filled : goal.returns-in-Ok-None-clause-filled
returns-in-Ok-None-clause-filled g c =
    let put = c.in-Ok-None.ensures.inserted c.in-Ok-None.field-0-is in
    record {
      stored = stored_new g.Q.Owned.Bytes.item g.met.Q.Owned.Bytes.lawful _ _ _ c.args.value _
          c.requires.filled.stored c.in-Ok-None.ensures.whole c.in-Ok-None.ensures.siblings put.1 put.0
          (elim c.else-tree.branch [
            | else-tree-via-then-tree+else-is_none w ↦
                let found = some_found (find key_cmp (g.Q.BorrowedBytes.key c.args.key) (entries_of c.args.tree.now.arena) ≡ None)
                (HasValueNode g.Q.Owned.Bytes.item c.args.tree.now.arena (g.Q.BorrowedBytes.key c.args.key))
                w.find.result w.if-is_none.ensures w.find.ensures in
                let both = sym put.0 ∙ found.1.found in
                absurd (cc)
            | else-tree-via-else-tree w ↦ omega (arith, c.requires.filled.stored.tree.fits)
          ]);
      passed = c.in-Ok-None.ensures.trail;
    }

pub returns-in-Ok-None-clause-merged : goal.returns-in-Ok-None-clause-merged
returns-in-Ok-None-clause-merged g c =
    let put = c.in-Ok-None.ensures.inserted c.in-Ok-None.field-0-is in
    merges_among g.F.FnMut g.Q.Owned.Bytes.item g.met.Q.Owned.Bytes.lawful _
    (siblings_of c.args.tree.now.arena) (siblings_of c.insert_new_along.new.arena) _ c.args.value
    c.requires.filled.stored.tree.canonical c.requires.nonempty _ put.0 put.1

pub returns-then-is_none-clause-filled : goal.returns-then-is_none-clause-filled
returns-then-is_none-clause-filled g c =
    let s = c.args.tree.now.arena in
    let key = g.Q.BorrowedBytes.key c.args.key in
    let none : IsTrail g.Q.Owned.Bytes.item s key [] = record {
      frames = [];
      focus = plan_at s.nodes.items s.root;
      rest = key;
      fills = refl;
      leads = refl;
      rest_nonempty = c.requires.nonempty;
      passed = tt;
    } in
    record { stored = c.requires.filled.stored; passed = rw c.clear.ensures.items none }

pub returns-in-Ok-Some-clause-filled : goal.returns-in-Ok-Some-clause-filled
returns-in-Ok-Some-clause-filled g c =
    let item = g.Q.Owned.Bytes.item in
    let s = c.args.tree.now.arena in
    let key = g.Q.BorrowedBytes.key c.args.key in
    let id = c.in-Ok-Some.id in
    let there = rw c.in-Ok-Some.field-0-is at c.in-Ok-Some.ensures.occupied in
    let written = rw c.in-Ok-Some.field-0-is at c.in-Ok-Some.ensures.written in
    let found : HasValueNode item s key id = subst (λ a. HasValueNode item a key id) there.1 there.2 in
    let merged = c.merge_at.ensures.merged there.2.value there.2.is_value in
    let w = merged.0 in
    let puts = found.writes w in
    record {
      stored = rw (merged.2 ∙ ap (λ a. with_value a id w) there.1)
          (stored_old item g.met.Q.Owned.Bytes.lawful s (with_value s id w) _ w _ c.requires.filled.stored
          puts.whole found.value puts.canonical puts.put_is found.found);
      passed = rw merged.2 (written w);
    }

pub returns-in-Ok-Some-clause-merged : goal.returns-in-Ok-Some-clause-merged
returns-in-Ok-Some-clause-merged g c =
    let item = g.Q.Owned.Bytes.item in
    let s = c.args.tree.now.arena in
    let key = g.Q.BorrowedBytes.key c.args.key in
    let id = c.in-Ok-Some.id in
    let there = rw c.in-Ok-Some.field-0-is at c.in-Ok-Some.ensures.occupied in
    let found : HasValueNode item s key id = subst (λ a. HasValueNode item a key id) there.1 there.2 in
    let merged = c.merge_at.ensures.merged there.2.value there.2.is_value in
    let w = merged.0 in
    rw (merged.2 ∙ ap (λ a. with_value a id w) there.1)
    (merges_found g.F.FnMut item g.met.Q.Owned.Bytes.lawful _ (siblings_of s) (siblings_of (with_value s id w)) key
    c.args.value c.requires.filled.stored.tree.canonical c.requires.nonempty _ _ there.2.value w
    (subst (λ a. find key_cmp key (entries_of a) ≡ Some there.2.value) there.1 there.2.found)
    (subst (λ u. CalledWithState g.F.FnMut c.args.f.now there.2.value u tt c.merge_at.new.f w) there.0 merged.1)
    (found.writes w).put_is)

pub returns-clause-only_new : goal.returns-clause-only_new
returns-clause-only_new g c =
    get_filled g.Q.Owned.Bytes.item g.met.Q.Owned.Bytes.lawful _ _ _
    c.requires.filled.stored.tree.canonical c.requires.nonempty ∙ c.in-Err.ensures.only_new
