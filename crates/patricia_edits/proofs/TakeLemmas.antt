-- Entries that are removed from their place: the entry of a key, or those under a prefix.
use Rattle.std.proofs.Common.{◌≡◌, ◌≢◌, ℕ, ◌≤◌, List, [], ◌∷◌, ◌++◌, Option, None, sym, ap, subst}
use Rattle.std.proofs.Common.{◌∙◌, arith}
use Rattle.patricia_keys.specs.Keys.{IsKeyKind}
use Rattle.patricia_model.specs.Siblings.{Siblings, end, node, prefixed, own, entries, keys_of}
use Rattle.patricia_model.specs.Siblings.{IsBefore, IsCanonical}
use Rattle.patricia_model.specs.Points.{Joins}
use Rattle.patricia_model.specs.Internal.LabelCmp.{Passes}
use Rattle.patricia_model.specs.Internal.Removals.{width}
use Rattle.patricia_nodes.specs.Internal.Plans.{Plan, Cell, siblings_in}
use Rattle.patricia_nodes.specs.Internal.Places.{Frame, InChild, InSibling, fill, Leads}
use Rattle.patricia_nodes.specs.Internal.Merges.{Spares}
use Rattle.patricia_nodes.proofs.FillLemmas.{siblings-within}
use Rattle.patricia_model.proofs.RemovalLemmas.{earns_by_width, width_of_earned, taken_in_siblings}
use Rattle.patricia_model.proofs.RemovalLemmas.{taken_in_entries}
use Rattle.patricia_model.proofs.LeavingLemmas.{Leaves, siblings_past_left, entries_past_left}
use Rattle.patricia_model.proofs.JoinLemmas.{joins_past, joins_deeper}

-- they are gone from siblings
pub record Gone (item : List ℕ → Type 0) {V : Type 0}
    (left : List ℕ → List (List ℕ × V) → List (List ℕ × V)) (old new : Siblings V) (key : List ℕ) :
    Type 0 where
  pub canonical : IsCanonical item new
  pub left_is : entries new ≡ left key (entries old)

module _ (item : List ℕ → Type 0) (kind : IsKeyKind item) {V : Type 0}
    (left : List ℕ → List (List ℕ × V) → List (List ℕ × V)) (leaves : Leaves item left) where
  -- what is gone from the siblings behind a node is gone from the siblings
  pub gone_past : (l : List ℕ) (v : Option V) (c s s' : Siblings V)
      → IsCanonical item (node l v c s) → (q : List ℕ) → IsBefore item l q → Gone item left s s' q
      → Gone item left (node l v c s) (node l v c s') q
  gone_past l v c s s' ok q before gone = record {
    canonical = siblings_past_left item kind left leaves l v c s ok q s' gone.canonical gone.left_is;
    left_is = entries_past_left item kind left leaves l v c s ok q s' before gone.left_is;
  }

  -- what is gone below a node that keeps its place is gone from the siblings
  gone_through : (l : List ℕ) (v : Option V) (c s c' : Siblings V) → IsCanonical item (node l v c s)
      → (q t : List ℕ) → Passes item q l t → t ≢ [] → Gone item left c c' t
      → (v ≡ None → 2 ≤ width c') → Gone item left (node l v c s) (node l v c' s) q
  gone_through l v c s c' ok q t passes nonempty gone two = record {
    canonical = record {
      valid = ok.valid;
      nonempty = ok.nonempty;
      fits = tt;
      earns = earns_by_width item kind l v c' two;
      rises = ok.rises;
      child = gone.canonical;
      sibling = ok.sibling;
    };
    left_is = ap (λ es. prefixed l (own v ++ es) ++ entries s) gone.left_is ∙ sym (leaves.deeper l v c s ok q t passes nonempty);
  }

  -- and so it is where the node has no value and takes in what is left below it
  pub gone_joined : (l : List ℕ) (c s : Siblings V) (m : List ℕ) (w : Option V) (d : Siblings V)
      → IsCanonical item (node l None c s) → (q t : List ℕ) → Passes item q l t → t ≢ []
      → Gone item left c (node m w d end) t
      → Gone item left (node l None c s) (node (l ++ m) w d s) q
  gone_joined l c s m w d ok q t passes nonempty gone = record {
    canonical = taken_in_siblings item kind l None m w d s ok.valid ok.nonempty ok.rises ok.sibling gone.canonical;
    left_is = taken_in_entries item kind l m w d s ∙ ap (λ es. prefixed l es ++ entries s) gone.left_is ∙ sym (leaves.deeper l None c s ok q t passes nonempty);
  }

  -- what is gone from a place that has no fewer nodes is gone from the whole
  pub gone-fill : (fs : List (Frame V)) (q p : Plan V) → IsCanonical item (siblings_in (fill fs q))
      → (key rest : List ℕ) → Leads item fs key rest → width (siblings_in q) ≤ width (siblings_in p)
      → Gone item left (siblings_in q) (siblings_in p) rest → Gone item left (siblings_in (fill fs q)) (siblings_in (fill fs p)) key
  gone-fill [] q p ok key rest e wide gone = subst (Gone item left (siblings_in q) (siblings_in p)) e gone
  gone-fill (InChild id l v d ∷ fs) q p ok key rest (before, passes, nonempty, leads) wide gone =
      let inner = siblings-within item fs (Cell id l v q d) ok in
      gone-fill fs (Cell id l v q d) (Cell id l v p d) ok key before leads (omega arith)
      (gone_through l v (siblings_in q) (siblings_in d) (siblings_in p) inner before rest passes nonempty gone
      (λ none.
      let two = width_of_earned item kind l (siblings_in q) (siblings_in d)
      (subst (λ (w : Option V). IsCanonical item (node l w (siblings_in q) (siblings_in d))) none inner) in
      omega arith))
  gone-fill (InSibling id l v c ∷ fs) q p ok key rest (before, leads) wide gone =
      let inner = siblings-within item fs (Cell id l v c q) ok in
      gone-fill fs (Cell id l v c q) (Cell id l v c p) ok key rest leads (omega arith)
      (gone_past l v (siblings_in c) (siblings_in q) (siblings_in p) inner rest before gone)

  -- or has fewer, where the node above keeps its place
  pub spared-fill : (fs : List (Frame V)) (q p : Plan V) → IsCanonical item (siblings_in (fill fs q))
      → (key rest : List ℕ) → Leads item fs key rest → Spares fs p
      → Gone item left (siblings_in q) (siblings_in p) rest → Gone item left (siblings_in (fill fs q)) (siblings_in (fill fs p)) key
  spared-fill [] q p ok key rest e spares gone = subst (Gone item left (siblings_in q) (siblings_in p)) e gone
  spared-fill (InChild id l v d ∷ fs) q p ok key rest (before, passes, nonempty, leads) spares gone =
      let inner = siblings-within item fs (Cell id l v q d) ok in
      gone-fill fs (Cell id l v q d) (Cell id l v p d) ok key before leads (omega arith)
      (gone_through l v (siblings_in q) (siblings_in d) (siblings_in p) inner before rest passes nonempty gone spares)
  spared-fill (InSibling id l v c ∷ fs) q p ok key rest (before, leads) spares gone =
      let inner = siblings-within item fs (Cell id l v c q) ok in
      spared-fill fs (Cell id l v c q) (Cell id l v c p) ok key rest leads spares
      (gone_past l v (siblings_in c) (siblings_in q) (siblings_in p) inner rest before gone)

module _ (item : List ℕ → Type 0) (kind : IsKeyKind item) {V : Type 0} where
  -- labels that are joined in the place are joined in the whole
  pub joins-fill : (fs : List (Frame V)) (q : Plan V) → IsCanonical item (siblings_in (fill fs q))
      → (key rest : List ℕ) → Leads item fs key rest → Joins item (keys_of (entries (siblings_in q))) rest
      → Joins item (keys_of (entries (siblings_in (fill fs q)))) key
  joins-fill [] q ok key rest e joins = subst (Joins item (keys_of (entries (siblings_in q)))) e joins
  joins-fill (InChild id l v d ∷ fs) q ok key rest (before, passes, nonempty, leads) joins =
      joins-fill fs (Cell id l v q d) ok key before leads
      (joins_deeper item kind l v (siblings_in q) (siblings_in d) (siblings-within item fs (Cell id l v q d) ok) before rest passes.splits joins)
  joins-fill (InSibling id l v c ∷ fs) q ok key rest (before, leads) joins =
      joins-fill fs (Cell id l v c q) ok key rest leads
      (joins_past item kind l v (siblings_in c) (siblings_in q) (siblings-within item fs (Cell id l v c q) ok) rest joins)
