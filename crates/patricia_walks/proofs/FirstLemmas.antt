-- The first entry of siblings.
use Rattle.std.proofs.Common.{◌≡◌, ◌≢◌, ℕ, List, [], ◌∷◌, ◌++◌, get_or, Option, Some, None, refl}
use Rattle.std.proofs.Common.{sym, ap, subst, ◌∙◌}
use Rattle.std.specs.Prelude.{slice_get}
use Rattle.std.proofs.lemmas.List.{append-nil}
use Rattle.patricia_keys.specs.Keys.{IsKeyKind}
use Rattle.patricia_model.specs.Siblings.{prefixed, own, entries}
use Rattle.patricia_model.proofs.SiblingsLemmas.{prefixed-append, prefixed-prefixed}
use Rattle.patricia_model.proofs.WalkLemmas.{prefixed-nil}
use Rattle.patricia_store.specs.Internal.Nodes.{Node}
use Rattle.patricia_walks.specs.Internal.Lowers.{AreSiblingsAt}
use Rattle.patricia_nodes.specs.Internal.Plans.{siblings_at}
use Rattle.patricia_walks.proofs.LastLemmas.{SiblingsOpen, siblings_open, siblings_filled}

-- the first of a list is that of it with more behind it
first_append : {A : Type 0} (xs ys : List A) → xs ≢ [] → slice_get (xs ++ ys) 0 ≡ slice_get xs 0
first_append [] ys some = absurd (some refl)
first_append (x ∷ xs) ys some = refl

module _ (item : List ℕ → Type 0) (kind : IsKeyKind item) {V : Type 0} (nodes : List (Node V)) (id : ℕ)
    (n : Node V) (w : AreSiblingsAt item nodes (Some id)) (reads : n ≡ get_or nodes id n)
    (front : List ℕ) where
  opens : SiblingsOpen item nodes (Some id) n
  opens = siblings_open item nodes (Some id) id n w refl reads

  -- the first entry of siblings is that of the first node, where it has a value
  pub first_value : (v : V) → n.value ≡ Some v
      → slice_get (prefixed front (entries (siblings_at nodes (Some id)))) 0 ≡ Some (front ++ n.label, v)
  first_value v value =
      ap (λ r. slice_get (prefixed front (entries r)) 0) opens.siblings_are
      ∙ ap (λ o. slice_get (prefixed front (prefixed n.label (own o ++ entries (siblings_at nodes n.child)) ++ entries (siblings_at nodes n.sibling))) 0) value
      ∙ ap (λ l. Some (front ++ l, v)) (append-nil n.label)

  -- and else the first of its children's
  pub first_child : (child : ℕ) → n.child ≡ Some child → n.value ≡ None
      → slice_get (prefixed front (entries (siblings_at nodes (Some id)))) 0
      ≡ slice_get (prefixed (front ++ n.label) (entries (siblings_at nodes (Some child)))) 0
  first_child child is none =
      let es = entries (siblings_at nodes n.child) in
      let rest = entries (siblings_at nodes n.sibling) in
      let path = front ++ n.label in
      let some : prefixed path es ≢ [] = rw is (siblings_filled item kind nodes path child (rw is at opens.child_at)) in
      ap (λ r. slice_get (prefixed front (entries r)) 0) opens.siblings_are
      ∙ ap (λ o. slice_get (prefixed front (prefixed n.label (own o ++ es) ++ rest)) 0) none
      ∙ ap (λ xs. slice_get xs 0) (prefixed-append front (prefixed n.label es) rest
      ∙ ap (λ xs. xs ++ prefixed front rest) (prefixed-prefixed front n.label es))
      ∙ first_append (prefixed path es) (prefixed front rest) some
      ∙ ap (λ at. slice_get (prefixed path (entries (siblings_at nodes at))) 0) is

module _ (item : List ℕ → Type 0) (kind : IsKeyKind item) {V : Type 0} (nodes : List (Node V))
    (root : Option ℕ) (w : AreSiblingsAt item nodes root) where
  -- the first entry of nodes is that of their top siblings
  pub first_some : (top : ℕ) → root ≡ Some top
      → slice_get (prefixed [] (entries (siblings_at nodes (Some top)))) 0 ≡ slice_get (entries (siblings_at nodes root)) 0
  first_some top is =
      ap (λ xs. slice_get xs 0) (prefixed-nil (entries (siblings_at nodes (Some top))))
      ∙ ap (λ at. slice_get (entries (siblings_at nodes at)) 0) (sym is)

  -- there is one where there is a top node
  pub some_first : (top : ℕ) → root ≡ Some top → entries (siblings_at nodes root) ≢ []
  some_first top is =
      let es = entries (siblings_at nodes (Some top)) in
      let some : es ≢ [] = subst (λ xs. xs ≢ []) (prefixed-nil es) (siblings_filled item kind nodes [] top (subst (AreSiblingsAt item nodes) is w)) in
      subst (λ at. entries (siblings_at nodes at) ≢ []) (sym is) some
