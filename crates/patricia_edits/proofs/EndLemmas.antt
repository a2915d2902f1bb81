-- The node of the first entry and that of the last one: frames past which they stand.
use Rattle.std.proofs.Common.{◌≡◌, ◌≢◌, ℕ, List, [], ◌∷◌, ◌++◌, Option, None, sym, ap, subst, ◌∙◌}
use Rattle.std.proofs.Common.{refl}
use Rattle.std.proofs.lemmas.List.{append_assoc, append-nil}
use Rattle.patricia_keys.specs.Keys.{IsKeyKind, IsValid}
use Rattle.patricia_keys.proofs.KeyLemmas.{Begins-trans, first_of}
use Rattle.patricia_model.specs.Points.{Has}
use Rattle.patricia_model.specs.Siblings.{Siblings, node, prefixed, own, entries, keys_of, IsBefore}
use Rattle.patricia_model.specs.Siblings.{IsCanonical}
use Rattle.patricia_model.specs.Internal.LabelCmp.{Passes}
use Rattle.patricia_model.proofs.InsertLemmas.{keys_rise}
use Rattle.patricia_model.proofs.JoinLemmas.{AllKeys-at}
use Rattle.patricia_model.proofs.PointLemmas.{has_after, has_prefixed, nil_second}
use Rattle.patricia_model.proofs.SiblingsLemmas.{prefixed-append, prefixed-prefixed}
use Rattle.patricia_model.proofs.WalkLemmas.{prefixed-nil}
use Rattle.patricia_nodes.specs.Internal.Plans.{Plan, Nil, Cell, siblings_in}
use Rattle.patricia_nodes.specs.Internal.Places.{Frame, InChild, InSibling, fill, Leads}
use Rattle.patricia_nodes.specs.Internal.Trails.{path_of}
use Rattle.patricia_nodes.proofs.FillLemmas.{siblings-within}

module _ {V : Type 0} where
  -- no entry comes before those in the place
  abbrev pub AreFirst : List (Frame V) → Type 0
  AreFirst [] = Unit {0}
  AreFirst (InChild id l v d ∷ fs) = (v ≡ None) × AreFirst fs
  AreFirst (InSibling id l v c ∷ fs) = ⊥

  -- no entry comes after those in the place
  abbrev pub AreLast : List (Frame V) → Type 0
  AreLast [] = Unit {0}
  AreLast (InChild id l v d ∷ fs) = (d ≡ Nil) × AreLast fs
  AreLast (InSibling id l v c ∷ fs) = AreLast fs

  -- the entries begin with those in the place
  pub first-fill : (fs : List (Frame V)) → AreFirst fs → (q : Plan V)
      → (ys : List (List ℕ × V)) × (entries (siblings_in (fill fs q)) ≡ prefixed (path_of fs)
      (entries (siblings_in q)) ++ ys)
  first-fill [] first q = ([], sym (append-nil _ ∙ prefixed-nil (entries (siblings_in q))))
  first-fill (InChild id l v d ∷ fs) (none, first) q =
      let es = entries (siblings_in q) in
      let rs = entries (siblings_in d) in
      let path = path_of fs in
      let further = first-fill fs first (Cell id l v q d) in (
        prefixed path rs ++ further.0,
        further.1
            ∙ ap (λ w. prefixed path (prefixed l (own w ++ es) ++ rs) ++ further.0) none
            ∙ ap (λ xs. xs ++ further.0) (prefixed-append path (prefixed l es) rs
            ∙ ap (λ xs. xs ++ prefixed path rs) (prefixed-prefixed path l es))
            ∙ append_assoc (prefixed (path ++ l) es) (prefixed path rs) further.0,
      )
  first-fill (InSibling id l v c ∷ fs) first q = absurd first

  -- the entries end with those in the place
  pub last-fill : (fs : List (Frame V)) → AreLast fs → (q : Plan V)
      → (xs : List (List ℕ × V)) × (entries (siblings_in (fill fs q)) ≡ xs ++ prefixed (path_of fs)
      (entries (siblings_in q)))
  last-fill [] last q = ([], sym (prefixed-nil (entries (siblings_in q))))
  last-fill (InChild id l v d ∷ fs) (none, last) q =
      let es = entries (siblings_in q) in
      let path = path_of fs in
      let further = last-fill fs last (Cell id l v q d) in (
        further.0 ++ prefixed (path ++ l) (own v),
        further.1
            ∙ ap (λ (p : Plan V). further.0 ++ prefixed path
            (prefixed l (own v ++ es) ++ entries (siblings_in p))) none
            ∙ ap (λ xs. further.0 ++ xs)
            (ap (prefixed path) (append-nil (prefixed l (own v ++ es)))
            ∙ prefixed-prefixed path l (own v ++ es) ∙ prefixed-append (path ++ l) (own v) es)
            ∙ sym (append_assoc further.0 (prefixed (path ++ l) (own v)) (prefixed (path ++ l) es)),
      )
  last-fill (InSibling id l v c ∷ fs) last q =
      let es = entries (siblings_in q) in
      let path = path_of fs in
      let before = prefixed l (own v ++ entries (siblings_in c)) in
      let further = last-fill fs last (Cell id l v c q) in (
        further.0 ++ prefixed path before,
        further.1
            ∙ ap (λ xs. further.0 ++ xs) (prefixed-append path before es)
            ∙ sym (append_assoc further.0 (prefixed path before) (prefixed path es)),
      )

module _ (item : List ℕ → Type 0) (kind : IsKeyKind item) where
  -- a key behind a label passes it
  pub passes_label : (l t : List ℕ) → IsValid item l → l ≢ [] → Passes item (l ++ t) l t
  passes_label l t valid some =
      let first = first_of item l valid some in
      record {
        shares = record {
          shared = first.0;
          is_item = first.1;
          begins_first = Begins-trans first.0 l (l ++ t) first.2 (t, refl);
          begins_second = first.2;
        };
        splits = refl;
      }

  module _ {V : Type 0} where
    -- a key of the siblings behind a node comes after its label
    behind_label : (l : List ℕ) (v : Option V) (c s : Siblings V) → IsCanonical item (node l v c s)
        → (t : List ℕ) → Has (keys_of (entries s)) t → IsBefore item l t
    behind_label l v c s ok t has = AllKeys-at (λ k. IsBefore item l k) (entries s) t
        (keys_rise item kind l s ok.sibling ok.rises) has

    -- a look-up of a key that is in the place passes the frames
    pub leads-fill : (fs : List (Frame V)) (q : Plan V) → IsCanonical item (siblings_in (fill fs q))
        → (t : List ℕ) → Has (keys_of (entries (siblings_in q))) t → t ≢ []
        → Leads item fs (path_of fs ++ t) t
    leads-fill [] q ok t has some = refl
    leads-fill (InChild id l v d ∷ fs) q ok t has some =
        let inner = siblings-within item fs (Cell id l v q d) ok in
        let there = has_prefixed l (own v ++ entries (siblings_in q)) (entries (siblings_in d)) t
        (has_after (own v) (entries (siblings_in q)) t has) in
        let further = leads-fill fs (Cell id l v q d) ok (l ++ t) there
        (λ none. some (nil_second l t none)) in (
          l ++ t,
          passes_label l t inner.valid inner.nonempty,
          some,
          subst (λ k. Leads item fs k (l ++ t)) (sym (append_assoc (path_of fs) l t)) further,
        )
    leads-fill (InSibling id l v c ∷ fs) q ok t has some =
        let inner = siblings-within item fs (Cell id l v c q) ok in
        let there = has_after (prefixed l (own v ++ entries (siblings_in c)))
        (entries (siblings_in q)) t has in (
          behind_label l v (siblings_in c) (siblings_in q) inner t has,
          leads-fill fs
              (Cell id l v c q) ok t there some,
        )
