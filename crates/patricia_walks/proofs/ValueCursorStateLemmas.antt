-- What a cursor over values has left, and where it stands, from step to step.
use Rattle.std.proofs.Common.{◌≡◌, ℕ, Bool, true, false, List, [], ◌∷◌, ◌++◌, drop, Option, Some}
use Rattle.std.proofs.Common.{None, refl, sym, ap, subst, ◌∙◌}
use Rattle.std.specs.Prelude.{Result, Ok, Err, IfOk, OnErr}
use Rattle.std.specs.Option.{is_some}
use Rattle.patricia_keys.specs.Keys.{IsKeyKind}
use Rattle.patricia_model.specs.Siblings.{own}
use Rattle.patricia_model.specs.Trees.{IsTree}
use Rattle.patricia_model.specs.Walks.{values_of}
use Rattle.patricia_model.proofs.PrefixLemmas.{under_empty}
use Rattle.patricia_nodes.specs.Internal.Plans.{IsWellFormed, siblings_of}
use Rattle.patricia_nodes.specs.declared.parts.TreeParts.{TreeParts}
use Rattle.patricia_walks.specs.declared.held_tree.ValueSlot.{ValueSlot}
use Rattle.patricia_walks.specs.declared.value_cursor.ValueCursorState.{ValueCursorState}
use Rattle.patricia_walks.specs.Internal.HeldTrees.{entries_to_lend, with_held, Refuses, Takes}
use Rattle.patricia_walks.specs.Internal.Holders.{holders}
use Rattle.patricia_walks.specs.Internal.ValuePositions.{IsValuePosition, values_left}
use Rattle.patricia_walks.specs.Internal.ValueCursorStates.{spot_of, holders_left, Moves}
use Rattle.patricia_walks.specs.Internal.ValueCursorStates.{MoveIsRefused, IsValueCursorState}
use Rattle.patricia_walks.proofs.HeldTreeLemmas.{Leaves, goes_so, gone_on, made_held, made_left}
use Rattle.patricia_walks.proofs.HeldTreeLemmas.{refused}
use Rattle.patricia_walks.proofs.LentLemmas.{wrote_last}

-- entries without values are none
no_entries : (entries : List (List ℕ × ValueSlot)) → values_of entries ≡ [] → entries ≡ []
no_entries [] is = refl
no_entries (e ∷ es) is = absurd (cc)

-- the first of the values is that of the first entry
first_entry : (entries : List (List ℕ × ValueSlot)) (h : ValueSlot) (hs : List ValueSlot)
    → values_of entries ≡ h ∷ hs
    → (key : List ℕ) × (entries ≡ (key, h) ∷ drop 1 entries) × (values_of (drop 1 entries) ≡ hs)
first_entry [] h hs is = absurd (cc)
first_entry (e ∷ es) h hs is =
    let here : e.1 ≡ h = cc in
    let later : values_of es ≡ hs = cc in
    (e.0, ap (λ v. (e.0, v) ∷ es) here, later)

module _ (item : List ℕ → Type 0) {V : Type 0} (t u : ValueCursorState V) (w : IsValueCursorState item t) where
  -- the entries of the values that were left
  abbrev entries : List (List ℕ × ValueSlot)
  entries = entries_to_lend t.tree []

  -- a step takes the first of them
  pub record Took (found : Bool) : Type 0 where
    pub key : Option (List ℕ)
    pub found_is : found ≡ is_some key
    pub takes : Takes t.tree entries key u.tree (drop 1 entries)
    pub left : values_of (drop 1 entries) ≡ holders_left u

  pub took : (found : Bool) → Moves t found u → Took found
  took false m =
      let none = no_entries entries (sym w.left_is ∙ m.0) in
      record {
        key = None;
        found_is = refl;
        takes = (none, ap (drop 1) none, m.2);
        left = ap (λ r. values_of (drop 1 r)) none ∙ sym m.1;
      }
  took true m =
      let first = first_entry entries m.0 (holders_left u) (sym w.left_is ∙ m.1) in
      record { key = Some first.0; found_is = refl; takes = (m.0, first.1, m.2); left = first.2 }

  -- the same by its answer
  pub took_if : {E : Type 0} (r : Result Bool E) → IfOk r (λ found. Moves t found u)
      → IfOk r (λ found. (key : Option (List ℕ)) × (found ≡ is_some key) × Takes t.tree entries key u.tree (drop 1 entries))
  took_if (Ok found) m = let one = took found m in (one.key, one.found_is, one.takes)
  took_if (Err e) m = tt

  pub took_so : {E : Type 0} (r : Result Bool E) → IfOk r (λ found. Moves t found u)
      → (found : Bool) → r ≡ Ok found → (key : Option (List ℕ)) × Takes t.tree entries key u.tree (drop 1 entries)
  took_so r m found is = let one = took found (goes_so (λ found. Moves t found u) r m found is) in (one.key, one.takes)

  -- a refusal takes none
  pub not_taken : MoveIsRefused t u → Refuses t.tree entries u.tree entries
  not_taken r = record {
    left = refl;
    last = r.last;
    some = λ none. r.some (w.left_is ∙ ap values_of none);
  }

  pub not_taken_if : {A E : Type 0} (r : Result A E) → OnErr r (MoveIsRefused t u)
      → OnErr r (Refuses t.tree entries u.tree entries)
  not_taken_if (Ok a) m = tt
  not_taken_if (Err e) m = not_taken m

  -- the entries are those that are left
  pub value_leaves : Leaves item t.tree [] entries
  value_leaves = record { held = w.held; left_is = refl }

  -- a step by its answer: the state stays one, whatever came of it
  pub step_values : IsKeyKind item → u.tree.parts ≡ t.tree.parts → IsValuePosition (spot_of u)
      → {E : Type 0} (r : Result Bool E) → IfOk r (λ found. Moves t found u)
      → OnErr r (MoveIsRefused t u) → IsValueCursorState item u
  step_values kind s position (Ok found) m err =
      let one = took found m in
      let gone = (gone_on item kind t.tree u.tree [] entries (drop 1 entries) value_leaves s one.key one.takes).leaves in
      record { held = gone.held; position = position; left_is = sym one.left ∙ ap values_of gone.left_is }
  step_values kind s position (Err e) m err =
      let kept = (refused item kind t.tree u.tree [] entries entries value_leaves s (not_taken err)).leaves in
      record { held = kept.held; position = position; left_is = err.left ∙ w.left_is ∙ ap values_of kept.left_is }

module _ (item : List ℕ → Type 0) (kind : IsKeyKind item) {V : Type 0} (t : ValueCursorState V) (x : V) where
  -- a write through the loan keeps a state
  pub wrote_values : IsValueCursorState item t
      → IsValueCursorState item (record t { tree = with_held t.tree t.tree.last x })
  wrote_values w =
      let wrote = wrote_last item kind t.tree [] w.held x in
      let place : spot_of (record t { tree = with_held t.tree t.tree.last x }) ≡ spot_of t = ap
      (λ ns. record { nodes = ns; next = t.front.next; stack = t.front.stack.items }) wrote.nodes in
      record {
        held = wrote.held;
        position = subst IsValuePosition (sym place) w.position;
        left_is = ap (λ p. values_of (own t.pending) ++ values_left p) place ∙ w.left_is ∙ ap values_of (sym wrote.entries);
      }

module _ (item : List ℕ → Type 0) {V : Type 0} (p : TreeParts V) (t : ValueCursorState V)
    (whole : IsWellFormed p.arena) (made : t.tree.parts ≡ p) where
  -- it is a state, of which nothing is lent yet
  pub new_state : IsTree item (siblings_of p.arena) p.count → t.tree.last ≡ None
      → IsValuePosition (spot_of t) → holders_left t ≡ values_of (holders p.value p.arena)
      → IsValueCursorState item t
  new_state tree last position left = record {
    held = made_held item p t.tree [] whole tree made last;
    position = position;
    left_is = left ∙ ap values_of (made_left item p t.tree [] whole tree made last _ (sym (under_empty _)));
  }
