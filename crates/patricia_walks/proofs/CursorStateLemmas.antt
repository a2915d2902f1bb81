-- What the state of a cursor has left, and where the cursor stands, from step to step.
use Rattle.std.proofs.Common.{◌≡◌, ◌≢◌, ℕ, List, [], take, Option, Some, None, sym, subst, ◌∙◌}
use Rattle.std.specs.Prelude.{Result, Ok, OnErr, IfSome, IfNone}
use Rattle.std.specs.Option.{option_map}
use Rattle.patricia_keys.specs.Keys.{IsKeyKind}
use Rattle.patricia_model.specs.Cursors.{next_key}
use Rattle.patricia_model.specs.Prefixes.{under}
use Rattle.patricia_model.specs.Siblings.{entries}
use Rattle.patricia_model.specs.Trees.{IsTree}
use Rattle.patricia_nodes.specs.Internal.Plans.{IsWellFormed, siblings_of, siblings_at}
use Rattle.patricia_walks.specs.Internal.Fronts.{IsFrontPosition}
use Rattle.patricia_walks.specs.declared.cursor_state.Start.{Start}
use Rattle.patricia_walks.specs.declared.cursor_state.CursorState.{CursorState}
use Rattle.patricia_nodes.specs.declared.parts.TreeParts.{TreeParts}
use Rattle.patricia_walks.specs.declared.held_tree.ValueSlot.TheVariants.{OfEmptyKey}
use Rattle.patricia_walks.specs.Internal.Holders.{numbered_slots, holders}
use Rattle.patricia_walks.specs.Internal.HeldTrees.{standing, IsHeld}
use Rattle.patricia_walks.specs.Internal.CursorStates.{position_of, left_of, Advances}
use Rattle.patricia_walks.specs.Internal.CursorStates.{StepIsRefused, IsCursorState, IsAhead}
use Rattle.patricia_walks.specs.Internal.CursorStates.{IsPrefixCursor, StartsUnder}
use Rattle.patricia_walks.proofs.HeldTreeLemmas.{Leaves, made_held, made_left, next_filled}
use Rattle.patricia_walks.proofs.HeldTreeLemmas.{step_leaves}
use Rattle.patricia_walks.proofs.HolderLemmas.{marked}
use Rattle.patricia_walks.proofs.StartLemmas.{start_filled}
use Rattle.patricia_walks.proofs.UnderLemmas.{under_filled}

-- a state leaves the entries of its walk
pub state_leaves : (item : List ℕ → Type 0) {V : Type 0} (t : CursorState V) (prefix : List ℕ)
    → IsCursorState item t prefix → Leaves item t.tree prefix (left_of t)
state_leaves item t prefix w = record { held = w.held; left_is = w.left_is }

-- a step by its answer: the state stays one, whatever came of it
pub step_state : (item : List ℕ → Type 0) (kind : IsKeyKind item) {V : Type 0} (t u : CursorState V)
    (prefix : List ℕ) (w : IsCursorState item t prefix) (s : u.tree.parts ≡ t.tree.parts)
    (position : IsFrontPosition item (position_of u)) {A E : Type 0} (r : Result A E)
    → ((a : A) → r ≡ Ok a → (key : Option (List ℕ)) × Advances t key u)
    → OnErr r (StepIsRefused t u) → IsCursorState item u prefix
step_state item kind t u prefix w s position r goes err =
    let leaves = step_leaves item kind t.tree u.tree prefix (left_of t) (left_of u) (state_leaves item t prefix w) s r goes err in
    record { held = leaves.held; position = position; left_is = leaves.left_is }

module _ (item : List ℕ → Type 0) {V : Type 0} (p : TreeParts V) (t : CursorState V)
    (prefix : List ℕ) (whole : IsWellFormed p.arena)
    (tree : IsTree item (siblings_of p.arena) p.count) (made : t.tree.parts ≡ p)
    (last : t.tree.last ≡ None) where
  -- the empty key is not under a prefix with bytes, so its value makes no difference
  below : prefix ≢ [] → under prefix (holders p.value p.arena) ≡ under prefix (holders None p.arena)
  below nonempty = under_filled prefix nonempty (option_map (λ _. OfEmptyKey) p.value) (entries (siblings_at (numbered_slots 0 p.arena.nodes.items) p.arena.root))

  -- a new state is one, and nothing is lent yet
  pub made_state : IsFrontPosition item (position_of t) → left_of t ≡ under prefix (holders p.value p.arena)
      → IsCursorState item t prefix
  made_state position left = record {
    held = made_held item p t.tree prefix whole tree made last;
    position = position;
    left_is = made_left item p t.tree prefix whole tree made last (left_of t) left;
  }

  -- and so is one that begins below a node, or is over where there is none
  pub made_under : prefix ≢ [] → IsFrontPosition item (position_of t) → left_of t ≡ [] → t.progress.stack.items ≡ []
      → (o : Option Start) → IfSome o (StartsUnder item p.arena prefix)
      → IfNone o (under prefix (holders None p.arena) ≡ []) → IsPrefixCursor item t prefix o
  made_under nonempty position over stack None some none = made_state position (over ∙ sym none ∙ sym (below nonempty))
  made_under nonempty position over stack (Some s) some none = record {
    held = made_held item p t.tree prefix whole tree made last;
    none = last;
    within = some.within;
    stack = stack;
    start = rw made some.start;
    left_is = made_left item p t.tree prefix whole tree made last _ (rw made some.entries ∙ sym (below nonempty));
  }

-- the tree is held before the walk has begun, and after
pub under_held :
    (item : List ℕ → Type 0) {V : Type 0} (t : CursorState V) (prefix : List ℕ) (o : Option Start)
    → IsPrefixCursor item t prefix o → IsHeld item t.tree
under_held item t prefix None w = w.held
under_held item t prefix (Some s) w = w.held

module _ (item : List ℕ → Type 0) (kind : IsKeyKind item) {V : Type 0} (t : CursorState V)
    (prefix : List ℕ) (front top : ℕ) (w : IsAhead item t prefix front top) where
  -- before that a key is left
  pub ahead_left : next_key (standing t.tree prefix) ≢ None
  ahead_left =
      let m = marked t.tree.parts.arena w.held.whole in
      next_filled item kind t.tree prefix w.held _ w.left_is (start_filled item kind t.tree.parts.arena m.0 m.1 (take front prefix) top w.start)

-- before it begins, a prefix cursor is ahead of its first key
pub under_ahead : (item : List ℕ → Type 0) {V : Type 0} (t : CursorState V) (prefix : List ℕ)
    (o : Option Start) (s : Start) → o ≡ Some s → IsPrefixCursor item t prefix o
    → IsAhead item t prefix s.front s.top
under_ahead item t prefix None s is w = absurd (cc)
under_ahead item t prefix (Some r) s is w = let same : r ≡ s = cc in subst (λ s. IsAhead item t prefix s.front s.top) same w
