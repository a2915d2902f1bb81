-- The entries under a key, told from its place among the nodes.
use Rattle.std.proofs.Common.{◌≡◌, ◌≢◌, ℕ, ◌+◌, ◌-◌, ◌≤◌, Bool, true, false, List, [], ◌∷◌, ◌++◌}
use Rattle.std.proofs.Common.{length, take, Option, Some, None, refl, sym, ap, subst, ◌∙◌, arith}
use Rattle.std.specs.Prelude.{nat_eq}
use Rattle.std.proofs.lemmas.Bool.{eq-eqb, eqb-true}
use Rattle.std.proofs.lemmas.List.{append_assoc, take_all}
use Rattle.patricia_keys.specs.Keys.{Begins, IsKeyKind, IsValid}
use Rattle.patricia_keys.proofs.KeyLemmas.{IsValid-nil, IsValid-append}
use Rattle.patricia_model.specs.Prefixes.{under}
use Rattle.patricia_model.specs.Siblings.{Siblings, prefixed, entries, IsCanonical}
use Rattle.patricia_model.proofs.SiblingsLemmas.{prefixed-prefixed}
use Rattle.patricia_model.proofs.WalkLemmas.{prefixed-nil}
use Rattle.patricia_model.proofs.GetLemmas.{common_whole}
use Rattle.patricia_model.proofs.PrefixLemmas.{under_past, under_deeper, under_before, under_here}
use Rattle.patricia_model.proofs.PrefixLemmas.{under_within, under_beside}
use Rattle.patricia_nodes.specs.declared.arena.NodeArena.{NodeArena}
use Rattle.patricia_nodes.specs.declared.arena.seek.LinkRef.{LinkRef}
use Rattle.patricia_nodes.specs.declared.arena.seek.Match.{Match}
use Rattle.patricia_nodes.specs.declared.arena.seek.Match.TheVariants.{Absent, InsideLabel, Exact}
use Rattle.patricia_nodes.specs.Internal.Plans.{Plan, Nil, Cell, head, siblings_in, siblings_of}
use Rattle.patricia_nodes.specs.Internal.Plans.{entries_of}
use Rattle.patricia_nodes.specs.Internal.Places.{Frame, InChild, InSibling, fill, Leads, Matches}
use Rattle.patricia_nodes.specs.Internal.Places.{Placed, node_under, entries_below}
use Rattle.patricia_nodes.proofs.FillLemmas.{siblings-within}

-- the node under a key that ends within a label is that of the label, and the whole rest of the key
-- is common
pub within_node : (i id n : ℕ) (rest : List ℕ) → node_under rest (InsideLabel i n) ≡ Some id
    → (i ≡ id) × (n ≡ length rest)
within_node i id n rest e = by (nat_eq n (length rest)) refl
  where
    by : (b : Bool) → nat_eq n (length rest) ≡ b → (i ≡ id) × (n ≡ length rest)
    by true f = let same = rw f at e in (cc, eqb-true n (length rest) f)
    by false f = let none = rw f at e in absurd (cc)

-- with no such node, the key differs from the label before the key's end
within_none : (i n : ℕ) (rest : List ℕ) → node_under rest (InsideLabel i n) ≡ None → n ≢ length rest
within_none i n rest e same = let some = rw (eq-eqb n (length rest) same) at e in absurd (cc)

module _ (item : List ℕ → Type 0) (kind : IsKeyKind item) {V : Type 0} where
  -- the bytes that a look-up has passed, and the entries under the key
  pub record Passed (whole focus : Siblings V) (key rest : List ℕ) : Type 0 where
    pub path : List ℕ
    pub splits : path ++ rest ≡ key
    pub valid : IsValid item path
    pub under_is : under key (entries whole) ≡ prefixed path (under rest (entries focus))

  -- the entries under a key are those under its rest in the place, behind the bytes passed
  pub passed-fill : (fs : List (Frame V)) (q : Plan V) → IsCanonical item (siblings_in (fill fs q))
      → (key rest : List ℕ) → Leads item fs key rest → Passed (siblings_in (fill fs q)) (siblings_in q) key rest
  passed-fill [] q ok key rest e = record {
    path = [];
    splits = e;
    valid = IsValid-nil item;
    under_is = ap (λ k. under k (entries (siblings_in q))) (sym e) ∙ sym (prefixed-nil _);
  }
  passed-fill (InChild id l v d ∷ fs) q ok key rest (before, passes, nonempty, leads) =
      let o = passed-fill fs (Cell id l v q d) ok key before leads in
      let inner = siblings-within item fs (Cell id l v q d) ok in
      record {
        path = o.path ++ l;
        splits = append_assoc o.path l rest ∙ ap (λ r. o.path ++ r) passes.splits ∙ o.splits;
        valid = IsValid-append item o.path l o.valid inner.valid;
        under_is = o.under_is ∙ ap (prefixed o.path)
            (under_deeper item kind l v (siblings_in q) (siblings_in d) inner before rest passes nonempty) ∙
            prefixed-prefixed o.path l _;
      }
  passed-fill (InSibling id l v c ∷ fs) q ok key rest (before, leads) =
      let o = passed-fill fs (Cell id l v c q) ok key rest leads in
      let inner = siblings-within item fs (Cell id l v c q) ok in
      record {
        path = o.path;
        splits = o.splits;
        valid = o.valid;
        under_is = o.under_is ∙ ap (prefixed o.path)
            (under_past item kind l v (siblings_in c) (siblings_in q) inner rest before);
      }

  -- the entries under the key are those of the topmost node
  pub stop_some : (focus : Plan V) → IsCanonical item (siblings_in focus)
      → (rest : List ℕ) (matched : Match) → Matches item focus rest matched → (id : ℕ)
      → node_under rest matched ≡ Some id
      → (head focus ≡ Some id) × (under rest (entries (siblings_in focus)) ≡ entries_below [] (siblings_in focus))
  stop_some Nil ok rest matched h id e = absurd (let f = rw h at e in cc)
  stop_some (Cell i l v c d) ok rest Absent h id e = absurd (cc)
  stop_some (Cell i l v c d) ok rest (InsideLabel k n) h id e =
      let same = within_node k id n rest e in
      let all : take n rest ≡ rest = take_all n rest (omega (arith, same.1)) in
      (ap Some (sym h.0 ∙ same.0), under_within item kind l v (siblings_in c) (siblings_in d) ok rest h.1.shares (subst (λ k. Begins k l) all h.1.common.begins))
  stop_some (Cell i l v c d) ok rest (Exact k) h id e = (let f = h.0 in cc, under_here item kind l v (siblings_in c) (siblings_in d) ok rest h.1)

  -- without such a node no entry is under the key
  pub stop_none : (focus : Plan V) → IsCanonical item (siblings_in focus) → (rest : List ℕ)
      → IsValid item rest → (matched : Match) → Matches item focus rest matched
      → node_under rest matched ≡ None → under rest (entries (siblings_in focus)) ≡ []
  stop_none Nil ok rest valid matched h e = refl
  stop_none (Cell i l v c d) ok rest valid Absent h e = under_before item kind l v (siblings_in c) (siblings_in d) ok rest h
  stop_none (Cell i l v c d) ok rest valid (InsideLabel k n) h e =
      let other = within_none k n rest e in
      let all : take (length rest) rest ≡ rest = take_all (length rest) rest (omega arith) in
      let within = h.1.common.within in
      let short = h.1.short in
      under_beside item kind l v (siblings_in c) (siblings_in d) ok rest h.1.shares
      (λ b. let long = h.1.common.greatest (length rest) (omega arith) (rw all valid) (rw all b) in other (omega arith))
      (λ b. let long = common_whole item rest l n ok.valid h.1.common b in absurd (omega arith))
  stop_none (Cell i l v c d) ok rest valid (Exact k) h e = absurd (cc)

module _ (item : List ℕ → Type 0) (kind : IsKeyKind item) {V : Type 0} (s : NodeArena V)
    (ok : IsCanonical item (siblings_of s)) (key : List ℕ) (link_ref : LinkRef) (at : Option ℕ)
    (rest : List ℕ) (matched : Match) (p : Placed item s key link_ref at rest matched) where
  -- the top siblings, with the place filled, keep the invariant
  place_siblings : IsCanonical item (siblings_in (fill p.frames p.focus))
  place_siblings = rw p.fills ok

  -- the siblings in the place keep the invariant
  pub focus_siblings : IsCanonical item (siblings_in p.focus)
  focus_siblings = siblings-within item p.frames p.focus place_siblings

  -- the entries under the key are those under its rest in the place, with the path before
  pub place_passed : Passed item kind (siblings_in (fill p.frames p.focus)) (siblings_in p.focus) key rest
  place_passed = passed-fill item kind p.frames p.focus place_siblings key rest p.leads

  -- and so are those of the nodes
  pub place_under : under key (entries_of s) ≡ prefixed place_passed.path (under rest (entries (siblings_in p.focus)))
  place_under = ap (λ (q : Plan V). under key (entries (siblings_in q))) (sym p.fills) ∙ place_passed.under_is

  -- where there is none, no entry is under the key
  pub place_nothing : IsValid item rest → node_under rest matched ≡ None
      → under key (entries_of s) ≡ []
  place_nothing valid e = place_under ∙ ap (prefixed place_passed.path) (stop_none item kind p.focus focus_siblings rest valid matched p.is_match e)
