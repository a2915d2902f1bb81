-- What a cursor has still to lend of a tree, and where it stands, from step to step.
use Rattle.std.proofs.Common.{◌≡◌, ◌≢◌, ◌↔◌, ℕ, T, Bool, List, [], ◌∷◌, Option, Some, None, ◌++◌}
use Rattle.std.proofs.Common.{slice_get, inl, refl, sym, ap, subst, ◌∙◌}
use Rattle.std.specs.Prelude.{Result, Ok, Err, IfOk, OnOk, OnErr, IsTrue}
use Rattle.std.specs.Option.{option_map, is_some}
use Rattle.std.specs.FinMap.{is_sorted}
use Rattle.std.specs.FinMap.Entries.{is_sorted-where_key}
use Rattle.patricia_keys.specs.Keys.{IsKeyKind, key_cmp}
use Rattle.patricia_model.specs.Cursors.{CursorView, after, remaining_entries, next_key, stepped}
use Rattle.patricia_model.specs.Points.{Has}
use Rattle.patricia_model.specs.Prefixes.{begins, under}
use Rattle.patricia_model.specs.Siblings.{own}
use Rattle.patricia_model.specs.Trees.{IsTree, map_of}
use Rattle.patricia_model.proofs.CursorLemmas.{after_first, after_has}
use Rattle.patricia_model.proofs.FilterLemmas.{has_filter}
use Rattle.patricia_model.proofs.TreeLemmas.{entries_map}
use Rattle.patricia_nodes.specs.Internal.Plans.{IsWellFormed, siblings_of, entries_of}
use Rattle.patricia_walks.specs.declared.held_tree.HeldTree.{HeldTree}
use Rattle.patricia_nodes.specs.declared.parts.TreeParts.{TreeParts}
use Rattle.patricia_walks.specs.declared.held_tree.ValueSlot.{ValueSlot}
use Rattle.patricia_walks.specs.Internal.Holders.{holders, held, key_at, ReadsHeld}
use Rattle.patricia_walks.specs.Internal.HeldTrees.{last_key, standing, entries_to_lend}
use Rattle.patricia_walks.specs.Internal.HeldTrees.{AreEntriesLeft, IsHeld, Refuses, Takes}
use Rattle.patricia_walks.proofs.HolderLemmas.{holders_read, holders_once, holders_sorted}
use Rattle.patricia_walks.proofs.ReadLemmas.{key_of_once, reads_after, reads_first, reads_none}

module _ (item : List ℕ → Type 0) (kind : IsKeyKind item) {V : Type 0} (t : HeldTree V)
    (prefix : List ℕ) (w : IsHeld item t) where
  -- the entries that are left are those that the cursor has still to lend
  read_left : (entries : List (List ℕ × ValueSlot)) → AreEntriesLeft t prefix entries
      → ReadsHeld (held t.parts.value t.parts.arena.nodes.items) entries (remaining_entries (standing t prefix))
  read_left entries is =
      rw (is, entries_map item kind t.parts.value (siblings_of t.parts.arena) w.tree.canonical)
      (reads_after (held t.parts.value t.parts.arena.nodes.items) (last_key t) prefix (holders t.parts.value t.parts.arena)
      (own t.parts.value ++ entries_of t.parts.arena) (holders_read t.parts.arena w.whole t.parts.value))

  -- where none is left there is no next key
  pub next_none : AreEntriesLeft t prefix [] → next_key (standing t prefix) ≡ None
  next_none is = ap (λ entries. option_map (λ e. e.0) (slice_get entries 0))
      (reads_none (held t.parts.value t.parts.arena.nodes.items) (remaining_entries (standing t prefix))
      (read_left [] is))

  -- and else it is the first
  pub next_some : (key : List ℕ) (h : ValueSlot) (rest : List (List ℕ × ValueSlot))
      → AreEntriesLeft t prefix ((key, h) ∷ rest) → next_key (standing t prefix) ≡ Some key
  next_some key h rest is = ap (option_map (λ e. e.0))
      (reads_first (held t.parts.value t.parts.arena.nodes.items) (key, h) rest
      (remaining_entries (standing t prefix)) (read_left ((key, h) ∷ rest) is)).1

  -- so there is one where an entry is left
  pub next_filled : (entries : List (List ℕ × ValueSlot)) → AreEntriesLeft t prefix entries → entries ≢ []
      → next_key (standing t prefix) ≢ None
  next_filled [] is nonempty = λ none. nonempty refl
  next_filled ((key, h) ∷ rest) is nonempty = λ none. let some = next_some key h rest is in absurd (cc)

  -- the holders under a prefix are in the order of their keys
  under_sorted : T (is_sorted key_cmp (under prefix (holders t.parts.value t.parts.arena)))
  under_sorted = is_sorted-where_key key_cmp (begins prefix) (holders t.parts.value t.parts.arena) (holders_sorted t.parts.arena w.whole item kind t.parts.value w.tree.canonical)

  -- the holder of the first entry that is left has its key
  pub first_key : (key : List ℕ) (h : ValueSlot) (rest : List (List ℕ × ValueSlot))
      → AreEntriesLeft t prefix ((key, h) ∷ rest) → key_at (holders t.parts.value t.parts.arena) h ≡ Some key
  first_key key h rest is =
      let entries = holders t.parts.value t.parts.arena in
      let first = after_has (last_key t) (under prefix entries) (key, h) (subst (λ r. Has r (key, h)) is (inl refl)) in
      key_of_once h entries (holders_once t.parts.arena w.whole t.parts.value h) key (has_filter (λ e. begins prefix e.0) entries (key, h) first).0

  -- and behind it are the others
  pub rest_left : (key : List ℕ) (h : ValueSlot) (rest : List (List ℕ × ValueSlot))
      → AreEntriesLeft t prefix ((key, h) ∷ rest)
      → rest ≡ after (Some key) (under prefix (holders t.parts.value t.parts.arena))
  rest_left key h rest is = sym (after_first (last_key t) (under prefix (holders t.parts.value t.parts.arena)) under_sorted (key, h) rest (sym is))

-- the same tree keeps its holders
same_held : (item : List ℕ → Type 0) {V : Type 0} (t u : HeldTree V) → IsHeld item t
    → u.parts ≡ t.parts
    → ((h : ValueSlot) → u.last ≡ Some h → key_at (holders t.parts.value t.parts.arena) h ≢ None)
    → IsHeld item u
same_held item t u w s known = record { whole = rw s w.whole; tree = rw s w.tree; known = rw s known }

-- the entries that are left of a tree that is held
pub record Leaves (item : List ℕ → Type 0) {V : Type 0} (t : HeldTree V) (prefix : List ℕ) (entries : List (List ℕ × ValueSlot)) : Type 0 where
  pub held : IsHeld item t
  pub left_is : AreEntriesLeft t prefix entries

module _ (item : List ℕ → Type 0) {V : Type 0} (t u : HeldTree V) (prefix : List ℕ) (later : List (List ℕ × ValueSlot)) where
  -- a cursor went on
  pub record Gone (key : Option (List ℕ)) : Type 0 where
    pub leaves : Leaves item u prefix later
    pub next : next_key (standing t prefix) ≡ key
    pub stands : standing u prefix ≡ stepped (standing t prefix)

  -- or it was refused
  pub record Kept : Type 0 where
    pub leaves : Leaves item u prefix later
    pub stands : standing u prefix ≡ standing t prefix
    pub some : next_key (standing t prefix) ≢ None

module _ (item : List ℕ → Type 0) (kind : IsKeyKind item) {V : Type 0} (t u : HeldTree V)
    (prefix : List ℕ) (entries later : List (List ℕ × ValueSlot)) (w : Leaves item t prefix entries)
    (s : u.parts ≡ t.parts) where
  -- with the last holder the whole stays
  same_standing : u.last ≡ t.last → standing u prefix ≡ standing t prefix
  same_standing last = rw (s, last) refl

  -- with the last holder, the entries behind its key are the same
  same_entries : u.last ≡ t.last → entries_to_lend u prefix ≡ entries_to_lend t prefix
  same_entries last = rw (s, last) refl

  -- where the last holder and the entries are kept, these are left still
  same_last : u.last ≡ t.last → later ≡ entries → Leaves item u prefix later
  same_last last left = record {
    held = same_held item t u w.held s (λ h is. w.held.known h (sym last ∙ is));
    left_is = left ∙ w.left_is ∙ sym (same_entries last);
  }

  -- a refusal keeps the cursor where it stands
  pub refused : Refuses t entries u later → Kept item t u prefix later
  refused r = record {
    leaves = same_last r.last r.left;
    stands = same_standing r.last;
    some = next_filled item kind t prefix w.held entries w.left_is r.some;
  }

  -- and a step advances to the next key
  pub gone_on : (key : Option (List ℕ)) → Takes t entries key u later → Gone item t u prefix later key
  gone_on None g =
      let none = next_none item kind t prefix w.held (subst (AreEntriesLeft t prefix) g.0 w.left_is) in
      record {
        leaves = same_last g.2 (g.1 ∙ sym g.0);
        next = none;
        stands = same_standing g.2 ∙ rw none refl;
      }
  gone_on (Some key) g =
      let left = subst (AreEntriesLeft t prefix) g.1 w.left_is in
      let some = next_some item kind t prefix w.held key g.0 later left in
      let first = first_key item kind t prefix w.held key g.0 later left in
      let last : last_key u ≡ Some key = rw (s, g.2) first in
      record {
        leaves = record {
          held = same_held item t u w.held s (λ h is none. let same : g.0 ≡ h = (let both = sym g.2 ∙ is in cc) in let gone = rw (← same) at none in cc);
          left_is = rest_left item kind t prefix w.held key g.0 later left ∙ sym (rw (last, s) refl);
        };
        next = some;
        stands = rw (some, s)
            (ap (λ k.
            record {
              map = map_of t.parts.value (siblings_of t.parts.arena);
              prefix = prefix;
              last = k;
            }) (let l = rw s at last in l));
      }

  -- a step by its answer: these entries are left, whatever came of it
  pub step_leaves : {A E : Type 0} (r : Result A E)
      → ((a : A) → r ≡ Ok a → (key : Option (List ℕ)) × Takes t entries key u later)
      → OnErr r (Refuses t entries u later) → Leaves item u prefix later
  step_leaves (Ok a) goes err = (gone_on (goes a refl).0 (goes a refl).1).leaves
  step_leaves (Err e) goes err = (refused err).leaves

  module _ (x : CursorView V) (is : standing t prefix ≡ x) where
    -- the cursor goes on, or it stays where a key is left
    pub step_stands : {A E : Type 0} (r : Result A E)
        → ((a : A) → r ≡ Ok a → (key : Option (List ℕ)) × Takes t entries key u later)
        → OnOk r (standing u prefix ≡ stepped x)
    step_stands (Ok a) goes = (gone_on (goes a refl).0 (goes a refl).1).stands ∙ ap stepped is
    step_stands (Err e) goes = tt

    -- a step that is refused keeps the view
    pub step_kept : {A E : Type 0} (r : Result A E) → OnErr r (Refuses t entries u later)
        → OnErr r (standing u prefix ≡ x)
    step_kept (Ok a) err = tt
    step_kept (Err e) err = (refused err).stands ∙ is

    -- and a key is left then
    pub step_left : {A E : Type 0} (r : Result A E) → OnErr r (Refuses t entries u later)
        → OnErr r (next_key x ≢ None)
    step_left (Ok a) err = tt
    step_left (Err e) err = subst (λ x. next_key x ≢ None) is (refused err).some

    -- and its key is the next one
    pub step_key : {A E : Type 0} (shows : A → Option (List ℕ)) (r : Result A E)
        → IfOk r (λ a. Takes t entries (shows a) u later) → IfOk r (λ a. shows a ≡ next_key x)
    step_key shows (Ok a) goes = sym (gone_on (shows a) goes).next ∙ ap next_key is
    step_key shows (Err e) goes = tt

    -- a step that succeeds says whether there was a key
    pub step_found : {E : Type 0} (r : Result Bool E)
        → IfOk r (λ found. (key : Option (List ℕ)) × (found ≡ is_some key) × Takes t entries key u later)
        → IfOk r (λ found. IsTrue found ↔ (next_key x ≢ None))
    step_found (Ok found) goes = rw (goes.1, ← is, (gone_on goes.0 goes.2).next) (by goes.0)
      where
        by : (key : Option (List ℕ)) → IsTrue (is_some key) ↔ (key ≢ None)
        by None = (λ some. absurd (cc), λ some. absurd (some refl))
        by (Some k) = (λ some none. absurd (cc), λ some. refl)
    step_found (Err e) goes = tt

-- what holds of an Ok's value holds of the value that the result has
pub goes_so : {A E : Type 0} (P : A → Type 0) (r : Result A E) → IfOk r P → (a : A) → r ≡ Ok a → P a
goes_so P (Ok b) p a e = let same : b ≡ a = cc in subst P same p
goes_so P (Err b) p a e = absurd (cc)

module _ (item : List ℕ → Type 0) {V : Type 0} (p : TreeParts V) (t : HeldTree V)
    (prefix : List ℕ) (whole : IsWellFormed p.arena)
    (tree : IsTree item (siblings_of p.arena) p.count) (made : t.parts ≡ p)
    (last : t.last ≡ None) where
  -- the tree is whole, and nothing was lent last
  pub made_held : IsHeld item t
  made_held = record { whole = rw made whole; tree = rw made tree; known = λ h is. absurd (let no = sym last ∙ is in cc) }

  -- the entries that are left are all those under the prefix
  pub made_left : (entries : List (List ℕ × ValueSlot)) → entries ≡ under prefix (holders p.value p.arena)
      → AreEntriesLeft t prefix entries
  made_left entries is = is ∙ rw (last, made) refl

  -- a new cursor is before the first key
  pub made_stands :
      standing t prefix ≡ record { map = map_of p.value (siblings_of p.arena); prefix = prefix; last = None }
  made_stands = rw (last, made) refl
