use Rattle.std.proofs.Common.{◌≡◌, ℕ, List, ◌++◌, [], ◌∷◌, sym, ap, ◌∙◌}
use Rattle.std.specs.Prelude.{map as list_map, string_bytes}
use Rattle.std.specs.FinMap as map
use Rattle.patricia_tree.specs.Keys.{key_cmp}
use Rattle.patricia_tree.specs.Prefixes.{under}
use Rattle.prefixes_core.proofs.SubtreeLemmas.{own, own_first, nothing_below}
use Rattle.prefixes_core.proofs.dotted.subtree.Goals.{in-Some+in_ok-from_str+in_ok-push, in_default}
use Rattle.prefixes_core.proofs.dotted.subtree.Goals as goal

pub returns-then-not-begins_some-clause-entries : goal.returns-then-not-begins_some-clause-entries
returns-then-not-begins_some-clause-entries g c =
    ap (list_map (λ entry. (string_bytes entry.0, entry.1.now))) c.new-entries.ensures.items
    ∙ sym (nothing_below c.args.name.now (map.entries c.args.names.now)
    (c.begins_some.ensures.none c.if-not-begins_some.true))

pub returns-clause-entries : goal.returns-clause-entries
returns-clause-entries g c =
    let name = c.args.name.now in
    let entries = map.entries c.args.names.now in
    let first : list_map (λ entry. (string_bytes entry.0, entry.1.now)) c.match-get.entries.items
    ≡ own name (map.find key_cmp name entries) = elim c.match-get.branch [
      | in-Some+in_ok-from_str+in_ok-push w ↦
          ap (λ v. list_map (λ entry. (string_bytes entry.0, entry.1.now)) v.items) w.entries-is
          ∙ ap (list_map (λ entry. (string_bytes entry.0, entry.1.now))) (w.in_ok-push.ensures.items
          ∙ ap (λ l. l ++ (w.in_ok-from_str.field-0, w.in-Some.value) ∷ [])
          c.new-entries.ensures.items)
          ∙ ap (λ (k : List ℕ). (k, w.in-Some.value.now) ∷ []) w.in_ok-from_str.ensures.ok
          ∙ ap (own name) (w.in-Some.ensures ∙ map.get-entries c.args.names.now name)
      | in_default w ↦
          ap (λ v. list_map (λ entry. (string_bytes entry.0, entry.1.now)) v.items) w.entries-is
          ∙ ap (list_map (λ entry. (string_bytes entry.0, entry.1.now))) c.new-entries.ensures.items
          ∙ ap (own name) (w.in_default.ensures ∙ map.get-entries c.args.names.now name)
    ] in
    c.in_ok-add_under.ensures
    ∙ ap (λ l. l ++ under c.as_str.result.now entries) first
    ∙ ap (λ d. own name (map.find key_cmp name entries) ++ under d entries)
    (c.as_str.ensures.value ∙ c.in_ok-dotted.ensures)
    ∙ sym (own_first name entries (map.entries_sorted c.args.names.now))
