-- Values whose clones are the same.
use Rattle.std.proofs.Common.{◌≡◌, ◌≢◌, inl, inr, ℕ, Bool, true, false, List, [], ◌∷◌, ◌++◌, Option, Some, None}
use Rattle.std.proofs.Common.{refl, sym, ap, subst, ◌∙◌, length, arith, slice_get}
use Rattle.std.specs.Prelude.{IfSome, map, zero, suc, nat_eq}
use Rattle.std.proofs.lemmas.Bool.Decides.{nat_tests}
use Rattle.std.proofs.lemmas.Option.{slice_get_within}
use Rattle.std.specs.List.{All, AllByRecursion}
use Rattle.std.proofs.lemmas.List.Elements.{All-from_recursion, recursion_from_All}
use Rattle.patricia_model.specs.Siblings.{Siblings, end, node, own, prefixed, entries}
use Rattle.patricia_store.specs.Internal.Nodes.{Node}
use Rattle.patricia_nodes.specs.declared.arena.NodeArena.{NodeArena}
use Rattle.patricia_nodes.specs.Internal.Plans.{Plan, Nil, Cell, linked, head, siblings_in, siblings_of, count}
use Rattle.patricia_nodes.specs.Internal.Plans.{LaidOut, IsSound, IsWellFormed}
use Rattle.patricia_nodes.proofs.PlanLemmas.{below_in, plan_is}
use Rattle.patricia_nodes.specs.Internal.Relocation.{Mix, Empty, Done, Open, flat, Laying}
use Rattle.patricia_nodes.proofs.RelayLemmas.{OpenAt}
use Rattle.patricia_nodes.proofs.LayLemmas.{NextSiblings}
use Rattle.patricia_model.specs.Clones.{CloneIsSame, ClonesAreSame}
use Rattle.patricia_edits.specs.Internal.Copies.{EntriesKept, SiblingsKept}

module _ {V : Type 0} (is_clone : V → V → Type 0) where
  abbrev Kept : List (List ℕ × V) → Type 0
  Kept es = AllByRecursion (λ e. CloneIsSame is_clone e.1) es

  -- where the clones of the values of two lists are the same, so are those of each list
  kept_both : (xs ys : List (List ℕ × V)) → Kept (xs ++ ys) → Kept xs × Kept ys
  kept_both [] ys k = (tt, k)
  kept_both (x ∷ xs) ys k = let rest = kept_both xs ys k.1 in ((k.0, rest.0), rest.1)

  -- a prefix before the keys makes no difference to whether clones are the same
  kept-prefixed : (p : List ℕ) (es : List (List ℕ × V)) → Kept (prefixed p es) → Kept es
  kept-prefixed p [] k = tt
  kept-prefixed p (e ∷ es) k = (k.0, kept-prefixed p es k.1)

  -- a clone of the empty key's value, where there is one, is the same value
  kept-own : (v : Option V) → Kept (own v) → IfSome v (CloneIsSame is_clone)
  kept-own None k = tt
  kept-own (Some v) k = k.0

  -- where the clones of the entries of siblings are the same, so are those of their nodes' values
  kept-entries : (r : Siblings V) → Kept (entries r) → SiblingsKept is_clone r
  kept-entries end k = tt
  kept-entries (node l v c s) k =
      let both = kept_both (prefixed l (own v ++ entries c)) (entries s) k in
      let inner = kept_both (own v) (entries c) (kept-prefixed l (own v ++ entries c) both.0) in
      (kept-own v inner.0, kept-entries c inner.1, kept-entries s both.1)

  -- what is said of the clones of a list of values is said of the entries that have them
  kept_values : (es : List (List ℕ × V)) → AllByRecursion (CloneIsSame is_clone) (map (λ e. e.1) es)
      → Kept es
  kept_values [] k = tt
  kept_values (e ∷ es) k = (k.0, kept_values es k.1)

  -- the values of a tree are that of the empty key and those of its entries
  pub kept_parts : (v : Option V) (r : Siblings V)
      → ClonesAreSame is_clone (map (λ e. e.1) (own v ++ entries r))
      → IfSome v (CloneIsSame is_clone) × All (λ e. CloneIsSame is_clone e.1) (entries r)
  kept_parts v r k =
      let both = kept_both (own v) (entries r)
      (kept_values (own v ++ entries r)
      (recursion_from_All (CloneIsSame is_clone) (map (λ e. e.1) (own v ++ entries r)) k))
      in
      (kept-own v both.0, All-from_recursion (λ e. CloneIsSame is_clone e.1) (entries r) both.1)

  -- the values of the entries are those of the siblings
  pub siblings_kept : (s : NodeArena V) → EntriesKept is_clone s → SiblingsKept is_clone (siblings_of s)
  siblings_kept s k = kept-entries (siblings_of s) (recursion_from_All (λ e. CloneIsSame is_clone e.1) (entries (siblings_of s)) k)

  -- and so are those of each node that stands in a plan, where those of the plan's siblings are
  kept_at : (nodes : List (Node V)) (p : Plan V) → LaidOut nodes p → SiblingsKept is_clone (siblings_in p)
      → (i : ℕ) → count p i ≢ 0 → (n : Node V) → slice_get nodes i ≡ Some n
      → IfSome n.value (CloneIsSame is_clone)
  kept_at nodes Nil stands k i there n is = absurd (there refl)
  kept_at nodes (Cell id l v c d) stands k i there n is =
      by (nat_eq id i) refl (λ some. kept_at nodes c stands.1 k.1 i some n is) (λ some. kept_at nodes d stands.2 k.2 i some n is)
    where
      below : nat_eq id i ≡ false → (count d i ≢ 0 → IfSome n.value (CloneIsSame is_clone))
          → (count c i ≢ 0 → IfSome n.value (CloneIsSame is_clone)) → (m : ℕ) → count c i ≡ m
          → IfSome n.value (CloneIsSame is_clone)
      below e of_d of_c zero z = of_d (λ none. there (rw (e, z, none) refl))
      below e of_d of_c (suc m) z = of_c (λ none. absurd (let no_more : suc m ≡ 0 = sym z ∙ none in cc))

      by : (b : Bool) → nat_eq id i ≡ b → (count c i ≢ 0 → IfSome n.value (CloneIsSame is_clone))
          → (count d i ≢ 0 → IfSome n.value (CloneIsSame is_clone)) → IfSome n.value (CloneIsSame is_clone)
      by true e of_c of_d =
          let here : id ≡ i = grind (arith, nat_tests) in
          let both : Some (linked l v (head c) (head d)) ≡ Some n = sym stands.0 ∙ ap (slice_get nodes) here ∙ is in
          let same : linked l v (head c) (head d) ≡ n = cc in
          subst (λ (m : Node V). IfSome m.value (CloneIsSame is_clone)) same k.0
      by false e of_c of_d = below e of_d of_c (count c i) refl

  -- where no node is free, that are all nodes
  pub nodes_kept : (s : NodeArena V) → IsWellFormed s → s.free ≡ None → EntriesKept is_clone s
      → (i : ℕ) (n : Node V) → slice_get s.nodes.items i ≡ Some n → IfSome n.value (CloneIsSame is_clone)
  nodes_kept s whole none k i n is = by whole.1.0 whole.1.1
    where
      kept : SiblingsKept is_clone (siblings_in whole.0)
      kept = subst (λ p. SiblingsKept is_clone (siblings_in p)) (plan_is s.nodes.items s.root whole.0 whole.1.1.plan_ok) (siblings_kept s k)

      by : (spare : List ℕ) → IsSound s.nodes.items s.root s.free whole.0 spare → IfSome n.value (CloneIsSame is_clone)
      by (id ∷ ids) sound = absurd (let no : None ≡ Some id = sym none ∙ sound.free_is in cc)
      by [] sound = kept_at s.nodes.items whole.0 sound.plan_ok.stands kept i
          (λ gone. absurd (omega (arith, sound.once i, below_in (length s.nodes.items) i (slice_get_within s.nodes.items i n is), gone))) n is

  -- the clones of a node's children are the same, where those of the top siblings are
  kept-open : (i : ℕ) (q : Mix V) (w : Plan V) → OpenAt i q w → SiblingsKept is_clone (siblings_in (flat q))
      → SiblingsKept is_clone (siblings_in w)
  kept-open i Empty w due k = absurd due
  kept-open i (Done id l v c d) w (inl due) k = kept-open i c w due k.1
  kept-open i (Done id l v c d) w (inr due) k = kept-open i d w due k.2
  kept-open i (Open id l v c d) w (inl here) k = subst (λ x. SiblingsKept is_clone (siblings_in x)) here.1 k.1
  kept-open i (Open id l v c d) w (inr due) k = kept-open i d w due k.2

  -- and so are those of the next siblings that are laid
  pub next_siblings_kept : (p : Plan V) (from : List (Node V)) (marks : ℕ → Bool) (i : ℕ)
      (to : List (Node V)) (root : Option ℕ) (l : Laying p from marks to root)
      (next : NextSiblings p from i to l.mix) → SiblingsKept is_clone (siblings_in p)
      → SiblingsKept is_clone (siblings_in next.siblings)
  next_siblings_kept p from marks i to root l next kept = kept-open i l.mix next.siblings next.due (subst (λ r. SiblingsKept is_clone r) (sym l.siblings_are) kept)
