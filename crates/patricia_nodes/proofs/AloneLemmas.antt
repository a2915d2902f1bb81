-- The other of two children, and what is above a place.
use Rattle.std.proofs.Common.{◌≡◌, inl, inr, ℕ, suc, ◌+◌, ◌<◌, ◌≤◌, true, List, [], ◌∷◌, ◌++◌}
use Rattle.std.proofs.Common.{length, Option, Some, None, get_or, refl, sym, ap, subst, ◌∙◌, arith}
use Rattle.std.specs.Prelude.{is_some}
use mathlib.Core.Bool.{false≢true}
use Rattle.std.proofs.lemmas.Bool.{cases_lt}
use Rattle.patricia_store.specs.Internal.Nodes.{Node}
use Rattle.patricia_nodes.specs.declared.arena.NodeArena.{NodeArena}
use Rattle.patricia_nodes.specs.declared.arena.seek.LinkRef.{LinkRef}
use Rattle.patricia_keys.specs.Keys.{IsKeyKind}
use Rattle.patricia_model.specs.Siblings.{node, IsCanonical}
use Rattle.patricia_model.specs.Internal.Removals.{width}
use Rattle.patricia_nodes.specs.Internal.Plans.{Plan, Nil, Cell, linked, head, siblings_in, count}
use Rattle.patricia_nodes.specs.Internal.Plans.{one}
use Rattle.patricia_nodes.specs.Internal.Plans.{IsPlan, Holds}
use Rattle.patricia_nodes.specs.Internal.Places.{Frame, InChild, InSibling, fill, above_of}
use Rattle.patricia_nodes.specs.Internal.Places.{node_above}
use Rattle.patricia_nodes.specs.Internal.Merges.{IsPair, Spares, LeavesOther, StandsAt}
use Rattle.patricia_nodes.proofs.PlanLemmas.{one-same, below_le, node_is}
use Rattle.patricia_nodes.proofs.FillLemmas.{count-fill, plan_within, siblings-within}
use Rattle.patricia_nodes.proofs.SeekLemmas.{opened, head_within, node_above-link_ref_of}
use Rattle.patricia_model.proofs.RemovalLemmas.{width_of_earned}

-- a value that is there is not none
pub some_not_none : {A : Type 0} (o : Option A) → is_some o ≡ true → o ≡ None → ⊥
some_not_none None e n = absurd (false≢true e)
some_not_none (Some x) e n = absurd (cc)

module _ {V : Type 0} where
  -- where a link is none, no node is behind it
  pub plan_end : (nodes : List (Node V)) (at : Option ℕ) (p : Plan V) → IsPlan nodes at p
      → at ≡ None → p ≡ Nil
  plan_end nodes at Nil w e = refl
  plan_end nodes at (Cell id l v c d) w e = let h = w.at_is in absurd (cc)

  -- siblings with a next node have one more
  pub plan_more : (nodes : List (Node V)) (at : Option ℕ) (p : Plan V) (id : ℕ) → IsPlan nodes at p
      → at ≡ Some id → 1 ≤ width (siblings_in p)
  plan_more nodes at Nil id w e = let h = w.at_is in absurd (cc)
  plan_more nodes at (Cell i l v c d) id w e = omega arith

  -- the parts of a first node
  abbrev id_of : ℕ → Plan V → ℕ
  id_of z Nil = z
  id_of z (Cell id l v c d) = id

  abbrev next_of : Plan V → Plan V → Plan V
  next_of z Nil = z
  next_of z (Cell id l v c d) = d

  -- frames that are all beside one another
  abbrev pub AllBeside : List (Frame V) → Type 0
  AllBeside [] = Unit {0}
  AllBeside (InSibling id l v c ∷ fs) = AllBeside fs
  AllBeside (InChild id l v d ∷ fs) = ⊥

  -- siblings in frames that are beside one another have a node more for each frame
  wide_beside : (near : List (Frame V)) (x : Plan V) → AllBeside near
      → width (siblings_in (fill near x)) ≡ length near + width (siblings_in x)
  wide_beside [] x s = omega arith
  wide_beside (InSibling id l v c ∷ near) x s = omega (arith, wide_beside near (Cell id l v c x) s)
  wide_beside (InChild id l v d ∷ near) x s = absurd s

  -- such frames, and then one below a node
  pub record Above (fs : List (Frame V)) (u : ℕ) : Type 0 where
    pub near : List (Frame V)
    pub outer : List (Frame V)
    pub label : List ℕ
    pub value : Option V
    pub beside : Plan V
    pub sides : AllBeside near
    pub is : fs ≡ near ++ InChild u label value beside ∷ outer
    pub nonempty : (x : Plan V) → fill fs x ≡ fill outer (Cell u label value (fill near x) beside)
    pub wide : (x : Plan V) → width (siblings_in (fill near x)) ≡ length near + width (siblings_in x)
    pub spares : (x : Plan V) → (value ≡ None → 2 ≤ length near + width (siblings_in x)) → Spares fs x

  -- a node above the place: how the frames lead to it
  pub above : (fs : List (Frame V)) (u : ℕ) → above_of fs ≡ Some u → Above fs u
  above [] u e = absurd (cc)
  above (InChild id l v d ∷ fs) u e =
      let same : id ≡ u = cc in
      rw same (record {
        near = [];
        outer = fs;
        label = l;
        value = v;
        beside = d;
        sides = tt;
        is =
            refl;
        nonempty = λ x. refl;
        wide = λ x. omega arith;
        spares = λ x h none. let two = h none in omega arith;
      })
  above (InSibling id l v c ∷ fs) u e =
      let up = above fs u e in
      record {
        near = InSibling id l v c ∷ up.near;
        outer = up.outer;
        label = up.label;
        value = up.value;
        beside = up.beside;
        sides = up.sides;
        is = ap (λ r. InSibling id l v c ∷ r) up.is;
        nonempty = λ x. up.nonempty (Cell id l v c x);
        wide = λ x. omega (arith, up.wide (Cell id l v c x));
        spares = λ x h. up.spares (Cell id l v c x) (λ none. let two = h none in omega arith);
      }

  -- where no node is above, there is nothing to keep
  pub spares_top : (fs : List (Frame V)) (x : Plan V) → above_of fs ≡ None → Spares fs x
  spares_top [] x e = tt
  spares_top (InChild id l v d ∷ fs) x e = absurd (cc)
  spares_top (InSibling id l v c ∷ fs) x e = spares_top fs (Cell id l v c x) e

  -- the second of the siblings is there
  pub second_within : {nodes : List (Node V)} {at : Option ℕ} {p : Plan V} {a b : ℕ} {n : Node V}
      → IsPlan nodes at p → at ≡ Some a → n ≡ get_or nodes a n → n.sibling ≡ Some b
      → b < length nodes
  second_within {nodes} {at} {p} {a} {b} {n} w is reads next =
      let o = opened nodes at p a n w is reads in
      head_within nodes n.sibling o.sibling b o.sibling_plan next

  -- the two siblings, as they are read
  pub pair_is : {nodes : List (Node V)} {at : Option ℕ} {p : Plan V} {a b : ℕ} {n m : Node V}
      → IsPlan nodes at p → at ≡ Some a → n ≡ get_or nodes a n → n.sibling ≡ Some b
      → m ≡ get_or nodes b m → m.sibling ≡ None → IsPair p a b
  pair_is {nodes} {at} {p} {a} {b} {n} {m} w is reads next reads' last =
      let o = opened nodes at p a n w is reads in
      let o' = opened nodes n.sibling o.sibling b m o.sibling_plan next reads' in
      let done = plan_end nodes m.sibling o'.sibling o'.sibling_plan last in
      (n.label, n.value, o.child, m.label, m.value, o'.child, o.is ∙ ap (Cell a n.label n.value o.child) (o'.is ∙ ap (Cell b m.label m.value o'.child) done))

  -- a third node is one too many
  pub pair_not : {nodes : List (Node V)} {at : Option ℕ} {p : Plan V} {a b k : ℕ} {n m : Node V}
      → IsPlan nodes at p → at ≡ Some a → n ≡ get_or nodes a n → n.sibling ≡ Some b
      → m ≡ get_or nodes b m → m.sibling ≡ Some k → width (siblings_in p) ≡ 2 → ⊥
  pair_not {nodes} {at} {p} {a} {b} {k} {n} {m} w is reads next reads' more two =
      let o = opened nodes at p a n w is reads in
      let o' = opened nodes n.sibling o.sibling b m o.sibling_plan next reads' in
      let some = plan_more nodes m.sibling o'.sibling k o'.sibling_plan more in
      let outer = ap (λ (x : Plan V). width (siblings_in x)) o.is in
      let inner = ap (λ (x : Plan V). width (siblings_in x)) o'.is in
      absurd (omega (arith, some, outer, inner, two))

module _ {item : List ℕ → Type 0} (kind : IsKeyKind item) {V : Type 0} {s : NodeArena V}
    {link_ref : LinkRef} {id : ℕ} {fs : List (Frame V)} {l : List ℕ}
    {v : Option V} {c d : Plan V} (at : StandsAt item s link_ref id fs l v c d) where
  -- where no node is above, none has to keep its place
  pub alone_top : node_above link_ref ≡ None → Spares fs d
  alone_top none = spares_top fs d (sym (ap node_above at.link_ref_is ∙ node_above-link_ref_of fs) ∙ none)

  module _ {u : ℕ} (is : node_above link_ref ≡ Some u) where
    -- the node above, with the frames from the place up to it and those past it
    pub up : Above fs u
    up = above fs u (sym (ap node_above at.link_ref_is ∙ node_above-link_ref_of fs) ∙ is)

    -- the siblings that the place is in
    abbrev pub inside : Plan V
    inside = fill up.near (Cell id l v c d)

    -- the nodes stand for the plan with the node above and its children in it
    whole : Holds s (fill up.outer (Cell u up.label up.value inside up.beside))
    whole = subst (λ (p : Plan V). Holds s p) (up.nonempty (Cell id l v c d)) at.holds

    -- what is read from the number of the node above is that node, and what is below and beside it
    upper_plan : IsPlan s.nodes.items (Some u) (Cell u up.label up.value inside up.beside)
    upper_plan = plan_within s.nodes.items s.root (Some u) up.outer _ whole.1.plan_ok refl

    -- the node above is in the vector
    pub upper_within : u < length s.nodes.items
    upper_within = head_within s.nodes.items (Some u) _ u upper_plan refl

    -- the siblings from the node above on keep the invariant
    upper_ok : IsCanonical item (node up.label up.value (siblings_in inside) (siblings_in up.beside))
    upper_ok = siblings-within item up.outer _ (subst (λ (p : Plan V). IsCanonical item (siblings_in p)) (up.nonempty (Cell id l v c d)) at.canonical)

    module _ {n : Node V} (reads : n ≡ get_or s.nodes.items u n) where
      -- the node above, as it is read, has the label and the value of the plan
      upper_is : n ≡ linked up.label up.value (head inside) (head up.beside)
      upper_is = node_is s.nodes.items u n _ upper_plan.stands.0 reads

      -- its child link reads the siblings that the place is in
      pub inside_plan : IsPlan s.nodes.items n.child inside
      inside_plan = record { stands = upper_plan.stands.1; at_is = ap (λ (x : Node V). x.child) upper_is; fits = omega (arith, upper_plan.fits) }

      -- a node above that has a value keeps its place
      pub alone_valued : (n.value ≡ None → ⊥) → Spares fs d
      alone_valued some = up.spares d (λ none. absurd (some (ap (λ (x : Node V). x.value) upper_is ∙ none)))

      -- and so does one that has not just two children
      pub alone_more : (width (siblings_in inside) ≡ 2 → ⊥) → Spares fs d
      alone_more not_two = up.spares d (λ none.
          let two = width_of_earned item kind up.label (siblings_in inside) (siblings_in up.beside)
          (subst (λ (w : Option V). IsCanonical item
          (node up.label w (siblings_in inside) (siblings_in up.beside))) none upper_ok) in
          more (width (siblings_in inside)) two not_two (up.wide (Cell id l v c d)))
        where
          more : (k : ℕ) → 2 ≤ k → (k ≡ 2 → ⊥) → k ≡ length up.near + suc (width (siblings_in d))
              → 2 ≤ length up.near + width (siblings_in d)
          more k two not_two e = elim (cases_lt 2 k) [ inl lt ↦ omega arith | inr le ↦ absurd (not_two (omega arith)) ]

      -- or it has
      module _ (none : n.value ≡ None) (a b : ℕ) (exactly_two : IsPair inside a b) where
        -- the node above has no value in the plan
        no_value : up.value ≡ None
        no_value = sym (ap (λ (x : Node V). x.value) upper_is) ∙ none

        -- the frames are those beside the place, then that of the node above, then those past it
        frames_are : fs ≡ up.near ++ InChild u up.label None up.beside ∷ up.outer
        frames_are = up.is ∙ ap (λ w. up.near ++ InChild u up.label w up.beside ∷ up.outer) no_value

        -- no number stands twice in the siblings that the place is in
        once : (i : ℕ) → count inside i ≤ 1
        once i = omega (arith, whole.1.once i, below_le (length s.nodes.items) i, count-fill up.outer (Cell u up.label up.value inside up.beside) i)

        -- of the two children, the one that does not stand in the place is the other child
        found : (near : List (Frame V)) → AllBeside near
            → fs ≡ near ++ InChild u up.label None up.beside ∷ up.outer
            → ((i : ℕ) → count (fill near (Cell id l v c d)) i ≤ 1)
            → IsPair (fill near (Cell id l v c d)) a b
            → (a ≡ id → LeavesOther fs d u b) × ((a ≡ id → ⊥) → LeavesOther fs d u a)
        found [] sides is only (la, va, ca, lb, vb, cb, p) =
            let first : id ≡ a = ap (λ (x : Plan V). id_of id x) p in
            let rest : d ≡ Cell b lb vb cb Nil = ap (λ (x : Plan V). next_of d x) p in (
              λ e. record {
                outer = up.outer;
                label = up.label;
                beside = up.beside;
                inner = lb;
                own = vb;
                below = cb;
                stands = inl (is, rest);
              },
              λ no. absurd (no (sym first)),
            )
        found (InChild k m w e ∷ near) sides is only exactly_two = absurd sides
        found (InSibling k m w e ∷ []) sides is only (la, va, ca, lb, vb, cb, p) =
            let first : k ≡ a = ap (λ (x : Plan V). id_of k x) p in
            let second : Cell id l v c d ≡ Cell b lb vb cb Nil = ap (λ (x : Plan V). next_of (Cell id l v c d) x) p in
            let last : d ≡ Nil = ap (λ (x : Plan V). next_of d x) second in (
              λ e. absurd (omega (arith, only id, one-same id, ap (λ j. one j id) (first ∙ e))),
              λ no. subst (λ j. LeavesOther fs d u j) first
                  (record {
                    outer = up.outer;
                    label = up.label;
                    beside = up.beside;
                    inner = m;
                    own =
                        w;
                    below = e;
                    stands = inr (is, last);
                  }),
            )
        found (InSibling k m w e ∷ InChild k' m' w' e' ∷ near) sides is only exactly_two = absurd sides
        found (InSibling k m w e ∷ InSibling k' m' w' e' ∷ near) sides is only
            (la, va, ca, lb, vb, cb, p) = absurd
            (omega (
              arith,
              wide_beside near (Cell k' m' w' e' (Cell k m w e (Cell id l v c d)))
                  sides,
              ap (λ (x : Plan V). width (siblings_in x)) p,
            ))

        -- the one at the place goes, and the other is left
        pub alone_first : a ≡ id → LeavesOther fs d u b
        alone_first = (found up.near up.sides frames_are once exactly_two).0

        -- or the other goes, and the first is left
        pub alone_second : (a ≡ id → ⊥) → LeavesOther fs d u a
        alone_second = (found up.near up.sides frames_are once exactly_two).1
