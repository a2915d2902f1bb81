-- A node goes, and the one above it takes in the other of its two children.
use Rattle.std.proofs.Common.{◌≡◌, ◌≢◌, inl, inr, ℕ, List, [], ◌∷◌, ◌++◌, Option, Some, None}
use Rattle.std.proofs.Common.{slice_get, refl, sym, subst, arith}
use Rattle.patricia_store.specs.Internal.Nodes.{Node}
use Rattle.patricia_keys.specs.Keys.{IsKeyKind}
use Rattle.patricia_model.specs.Siblings.{Siblings, end, node, IsCanonical}
use Rattle.patricia_model.specs.Internal.LabelCmp.{Passes}
use Rattle.patricia_model.specs.Internal.Removals.{LeavesAlone}
use Rattle.patricia_model.proofs.LeavingLemmas.{Leaves}
use Rattle.patricia_nodes.specs.Internal.Plans.{Plan, Nil, Cell, linked, head, siblings_in, LaidOut}
use Rattle.patricia_nodes.specs.Internal.Places.{Frame, InChild, InSibling, fill, Leads}
use Rattle.patricia_nodes.specs.Internal.Merges.{LeavesOther}
use Rattle.patricia_nodes.proofs.FillLemmas.{siblings-within, stands-within}
use Rattle.patricia_edits.proofs.TakeLemmas.{Gone, gone_past, gone_joined, gone-fill}

-- the node of this number, label, value and children stands in the place, and what is left of the
-- siblings without it
module _ (item : List ℕ → Type 0) (kind : IsKeyKind item) {V : Type 0}
    (left : List ℕ → List (List ℕ × V) → List (List ℕ × V)) (leaves : Leaves item left)
    (id : ℕ) (l : List ℕ) (x : Option V) (c : Plan V) (key rest : List ℕ)
    (goes : (s : Siblings V) → IsCanonical item (node l x (siblings_in c) s) → Gone item left
    (node l x (siblings_in c) s) s rest)
    (fs : List (Frame V)) (d : Plan V) (leads : Leads item fs key rest)
    (ok : IsCanonical item (siblings_in (fill fs (Cell id l x c d)))) (u o : ℕ)
    (other : LeavesOther fs d u o) where
  abbrev after : Plan V
  after = Cell u (other.label ++ other.inner) other.own other.below other.beside

  abbrev lone : Plan V
  lone = Cell o other.inner other.own other.below Nil

  -- without the node, the other child is alone below the node above
  pub left_plan : fill fs d ≡ fill other.outer (Cell u other.label None lone other.beside)
  left_plan = elim other.stands [ inl e ↦ rw (e.0, e.1) refl | inr e ↦ rw (e.0, e.1) refl ]

  -- the two of them, and what is left of them
  pub record Inside : Type 0 where
    pub old : Plan V
    pub was :
        fill fs (Cell id l x c d) ≡ fill other.outer (Cell u other.label None old other.beside)
    pub before : List ℕ
    pub through : Passes item before other.label rest
    pub nonempty : rest ≢ []
    pub outer_leads : Leads item other.outer key before
    pub gone : IsCanonical item (siblings_in old) → Gone item left (siblings_in old) (siblings_in lone) rest
    pub alone : l ≡ rest → siblings_in c ≡ end → LeavesAlone rest (siblings_in old) other.inner

  -- how the key leads to the node above
  pub inside : Inside
  inside = elim other.stands [
    | inl e ↦
        let way : Leads item (InChild u other.label None other.beside ∷ other.outer) key rest = rw e.0 at leads in
        record {
          old = Cell id l x c lone;
          was = rw (e.0, e.1) refl;
          before = way.0;
          through = way.1;
          nonempty = way.2;
          outer_leads = way.3;
          gone = λ inner. goes (siblings_in lone) inner;
          alone = λ is leaf. inl (is, leaf, refl);
        }
    | inr e ↦
        let way : Leads item
        (InSibling o other.inner other.own other.below ∷ InChild u other.label None
        other.beside ∷ other.outer) key rest = rw e.0 at leads in
        record {
          old = Cell o other.inner other.own other.below (Cell id l x c Nil);
          was = rw (e.0, e.1) refl;
          before = way.1.0;
          through = way.1.1;
          nonempty = way.1.2;
          outer_leads = way.1.3;
          gone = λ inner. gone_past item kind left leaves other.inner other.own (siblings_in other.below)
              (node l x (siblings_in c) end) end inner rest way.0 (goes end inner.sibling);
          alone = λ is leaf. inr (is, leaf, refl);
        }
  ]

  -- the top siblings keep the invariant, with the node above and its children
  pub whole_ok :
      IsCanonical item (siblings_in (fill other.outer (Cell u other.label None inside.old other.beside)))
  whole_ok = subst (λ (q : Plan V). IsCanonical item (siblings_in q)) inside.was ok

  -- the node above and its children keep the invariant
  pub upper_ok : IsCanonical item (node other.label None (siblings_in inside.old) (siblings_in other.beside))
  upper_ok = siblings-within item other.outer (Cell u other.label None inside.old other.beside) whole_ok

  -- both are in the vector, with their labels
  pub labels_are : (nodes : List (Node V)) → LaidOut nodes (fill fs (Cell id l x c d))
      → ((n : Node V) × (slice_get nodes u ≡ Some n) × (n.label ≡ other.label)) × ((m : Node V) × (slice_get nodes o ≡ Some m) × (m.label ≡ other.inner))
  labels_are nodes stands = elim other.stands [
    | inl e ↦
        let all : LaidOut nodes (fill other.outer (Cell u other.label None (Cell id l x c lone) other.beside)) = rw (e.0, e.1) at stands in
        let at = stands-within nodes other.outer (Cell u other.label None (Cell id l x c lone) other.beside) all in
        ((linked other.label None (Some id) (head other.beside), at.0, refl), (linked other.inner other.own (head other.below) None, at.1.2.0, refl))
    | inr e ↦
        let all : LaidOut nodes
        (fill other.outer
        (Cell u other.label None
        (Cell o other.inner other.own other.below (Cell id l x c Nil)) other.beside)) =
        rw (e.0, e.1) at stands in
        let at = stands-within nodes other.outer (Cell u other.label None (Cell o other.inner other.own other.below (Cell id l x c Nil)) other.beside) all in
        ((linked other.label None (Some o) (head other.beside), at.0, refl), (linked other.inner other.own (head other.below) (Some id), at.1.0, refl))
  ]

  -- merged with the other child, the siblings keep the invariant, and the rest of the entries is
  -- left
  pub other_gone :
      Gone item left (siblings_in (fill fs (Cell id l x c d))) (siblings_in (fill other.outer after)) key
  other_gone =
      subst (λ (q : Plan V). Gone item left (siblings_in q) (siblings_in (fill other.outer after)) key) (sym inside.was)
      (gone-fill item kind left leaves other.outer
      (Cell u other.label None inside.old other.beside) after whole_ok key inside.before
      inside.outer_leads (omega arith)
      (gone_joined item kind left leaves other.label (siblings_in inside.old) (siblings_in other.beside)
      other.inner other.own (siblings_in other.below) upper_ok inside.before rest inside.through
      inside.nonempty (inside.gone upper_ok.child)))
