-- The steps of a descent to the last entry before a key.
use Rattle.std.proofs.Common.{zero, suc, ◌-◌, inl, inr, ◌≡◌, ◌<◌, ◌≢◌, ℕ, ◌+◌, true, false, List}
use Rattle.std.proofs.Common.{[], ◌∷◌, ◌++◌, length, get_or, take, drop, Option, Some, None, refl}
use Rattle.std.proofs.Common.{sym, ap, subst, ◌∙◌, arith}
use Rattle.std.proofs.lemmas.Bool.{cases_eq}
use Rattle.std.specs.List.{last_or}
use Rattle.std.specs.declared.cmp.Ordering.{Ordering}
use Rattle.std.specs.declared.cmp.Ordering.TheVariants.{Less, Equal, Greater}
use Rattle.std.specs.Prelude.{not, nat_eq, OnErr, Result, Ok, Err}
use Rattle.std.specs.Ordering.{ordering_reverse, ordering_index}
use Rattle.std.specs.Cmp.Lexicographic.{nat_list_cmp_total}
use Rattle.std.proofs.lemmas.List.{append-nil}
use Rattle.patricia_keys.specs.Keys.{Begins, IsKeyKind, key_cmp}
use Rattle.patricia_keys.proofs.KeyLemmas.{IsValid-nil, IsValid-append, key_cmp-irreflexive}
use Rattle.patricia_model.specs.Prefixes.{begins}
use Rattle.patricia_model.specs.Ranges.{before}
use Rattle.patricia_model.specs.Siblings.{Siblings, end, node, prefixed, own, entries, IsCanonical}
use Rattle.patricia_model.proofs.ListLemmas.{key_cmp-equal}
use Rattle.patricia_model.proofs.SiblingsLemmas.{prefixed-prefixed, prefixed-append}
use Rattle.patricia_model.proofs.WalkLemmas.{prefixed-nil}
use Rattle.patricia_model.proofs.PrefixLemmas.{begins_is, begins_other, stop_below, not_above}
use Rattle.patricia_model.proofs.RangeLemmas.{IsFrom, before-append, before-prefixed, before_all}
use Rattle.patricia_model.proofs.RangeLemmas.{before_none, before_own, first_above, siblings_from}
use Rattle.patricia_model.proofs.RangeLemmas.{below_from}
use Rattle.patricia_store.specs.Internal.Nodes.{Node}
use Rattle.patricia_nodes.specs.declared.arena.NodeArena.{NodeArena}
use Rattle.patricia_nodes.specs.Internal.Plans.{IsWellFormed, siblings_of, siblings_at, plan_at}
use Rattle.patricia_nodes.proofs.SeekLemmas.{whole_plan, byte_is, head_within}
use Rattle.patricia_nodes.proofs.NodeVecLemmas.{node_there}
use Rattle.patricia_store.specs.Internal.Heads.{byte_of}
use Rattle.patricia_nodes.specs.Internal.NodeVecs.{IsRun}
use Rattle.patricia_nodes.specs.Internal.Places.{entries_below}
use Rattle.patricia_walks.specs.Internal.Lowers.{AreSiblingsAt, IsFront, IsLower, IsLowerDescent}
use Rattle.patricia_walks.specs.Internal.Lowers.{LowerMoves, LowerPasses, last_lower, lower_entry}
use Rattle.patricia_walks.specs.Internal.Lowers.{siblings_ahead}
use Rattle.patricia_walks.specs.declared.last.Lower.{Lower}
use Rattle.patricia_walks.specs.declared.last.Lower.TheVariants.{Below}
use Rattle.patricia_walks.specs.declared.last.LowerDescent.{LowerDescent}
use Rattle.patricia_walks.proofs.AlongLemmas.{front_then, left_then, more_within, some_step}
use Rattle.patricia_walks.proofs.AlongLemmas.{plan_none, begins_otherwise, less_first}
use Rattle.patricia_walks.proofs.LastLemmas.{last-append, last_filled, last_there, filled_last}
use Rattle.patricia_walks.proofs.LastLemmas.{below_filled, top_filled, SiblingsOpen, siblings_open}
use Rattle.patricia_walks.proofs.LastLemmas.{siblings_filled}
use Rattle.patricia_nodes.proofs.PlanLemmas.{siblings_none}

-- no key comes before the empty one
nothing_before : {V : Type 0} (es : List (List ℕ × V)) → before [] es ≡ []
nothing_before [] = refl
nothing_before (e ∷ es) = rw (nothing e.0) (nothing_before es)
  where
    nothing : (q : List ℕ) → IsFrom [] q
    nothing [] = refl
    nothing (c ∷ q) = refl

module _ (item : List ℕ → Type 0) (kind : IsKeyKind item) {V : Type 0} (l : List ℕ) (v : Option V)
    (c s : Siblings V) (ok : IsCanonical item (node l v c s)) where
  -- before a key past the label are all entries of the node, and those of its siblings before the
  -- key
  before_past : (q : List ℕ) → (Begins l q → ⊥) → key_cmp l q ≡ Less
      → before q (entries (node l v c s)) ≡ prefixed l (own v ++ entries c) ++ before q (entries s)
  before_past q other less =
      before-append q (prefixed l (own v ++ entries c)) (entries s)
      ∙ ap (λ r. r ++ before q (entries s)) (before_all q _ (first_above item kind l v c s ok q other less))

  -- before a key that the label begins are entries of the node alone
  before_through : (t : List ℕ)
      → before (l ++ t) (entries (node l v c s)) ≡ prefixed l (before t (own v ++ entries c))
  before_through t =
      before-append (l ++ t) (prefixed l (own v ++ entries c)) (entries s)
      ∙ ap (λ r. before (l ++ t) (prefixed l (own v ++ entries c)) ++ r) (before_none (l ++ t) (entries s) (siblings_from item kind l v c s ok t))
      ∙ append-nil _
      ∙ before-prefixed l t (own v ++ entries c)

  -- and where the key goes on, its own value comes before it
  before_down : (t : List ℕ) → t ≢ []
      → before (l ++ t) (entries (node l v c s)) ≡ prefixed l (own v ++ before t (entries c))
  before_down t some = before_through t ∙ ap (prefixed l)
      (before-append t (own v) (entries c) ∙ ap (λ r. r ++ before t (entries c)) (before_own t some v))

  -- before a key that does not come after the label is no entry
  before_off : (q : List ℕ) → (key_cmp q l ≡ Greater → ⊥) → before q (entries (node l v c s)) ≡ []
  before_off q not_after = by (key_cmp q l) refl
    where
      by : (o : Ordering) → key_cmp q l ≡ o → before q (entries (node l v c s)) ≡ []
      by Less f = before_none q _ (below_from q _ (stop_below item kind l v c s ok q (λ b. not_above q l b f) f))
      by Equal f =
          let same : l ++ [] ≡ q = append-nil l ∙ sym (key_cmp-equal q l f) in
          ap (λ k. before k (entries (node l v c s))) (sym same) ∙ before_through []
          ∙ ap (prefixed l) (nothing_before (own v ++ entries c))
      by Greater f = absurd (not_after f)

-- the node of a descent is in the vector
pub lower_within : (item : List ℕ → Type 0) {V : Type 0} (key : List ℕ) (d : LowerDescent V) (id : ℕ)
    → IsLowerDescent item key d → d.next ≡ Some id → id < length d.arena.now.nodes.items
lower_within item key d id w next =
    let nodes = d.arena.now.nodes.items in
    head_within nodes d.next (plan_at nodes d.next) id w.next_siblings.plan next

module _ (item : List ℕ → Type 0) (kind : IsKeyKind item) {V : Type 0} (key : List ℕ)
    (d e : LowerDescent V) (id : ℕ) (n : Node V) (w : IsLowerDescent item key d)
    (next : d.next ≡ Some id) (reads : n ≡ get_or d.arena.now.nodes.items id n)
    (arena : e.arena ≡ d.arena) where
  -- the nodes
  abbrev nodes : List (Node V)
  nodes = d.arena.now.nodes.items

  -- the siblings that the node's two links lead to
  abbrev child_siblings : Siblings V
  child_siblings = siblings_at nodes n.child

  abbrev sibling_siblings : Siblings V
  sibling_siblings = siblings_at nodes n.sibling

  -- the bytes that are passed, and what is left of the key
  abbrev front : List ℕ
  front = take d.len key

  abbrev rest : List ℕ
  rest = drop d.len key

  -- the siblings that are next are that node's
  opens : SiblingsOpen item nodes d.next n
  opens = siblings_open item nodes d.next id n w.next_siblings next reads

  -- the last entry before the key, where the siblings that are next are that node's
  last_is : last_lower key d ≡ last_or (lower_entry key nodes d.lower)
      (prefixed front (before rest (entries (node n.label n.value child_siblings sibling_siblings))))
  last_is = ap (λ r. last_or (lower_entry key nodes d.lower) (prefixed front (before rest (entries r)))) opens.siblings_are

  -- where what is left of the key does not come after the label, the descent is over
  pub lower_off : (key_cmp rest n.label ≡ Greater → ⊥) → e.len ≡ d.len → e.lower ≡ d.lower
      → e.next ≡ None → LowerMoves item key d e
  lower_off not_after len lower none =
      let siblings_end : siblings_ahead e ≡ end = rw (arena, none) (siblings_none nodes) in
      record {
        descent = record {
          front = rw len w.front;
          next_siblings = record { plan = rw none (plan_none e.arena.now.nodes.items); canonical = rw siblings_end tt };
          found = rw (arena, lower) w.found;
        };
        same = rw (arena, len, lower, none, siblings_none nodes) (
            sym (ap (λ rs. last_or (lower_entry key nodes d.lower) (prefixed front rs))
            (before_off item kind n.label n.value child_siblings sibling_siblings opens.canonical rest not_after))
            ∙ sym last_is);
        less = rw (siblings_end, opens.siblings_are) (omega (arith, some_step child_siblings, some_step sibling_siblings));
        arena = arena;
      }

  -- where the label comes before it and does not begin it, the last entry is below the node, or
  -- behind
  pub lower_past : begins n.label rest ≡ false → key_cmp n.label rest ≡ Less → e.len ≡ d.len
      → e.lower ≡ Below d.len id → e.next ≡ n.sibling → LowerMoves item key d e
  lower_past other_is less len lower sibling =
      let other = begins_other n.label rest other_is in
      let es = own n.value ++ entries child_siblings in
      let later = before rest (entries sibling_siblings) in
      let below : prefixed front (prefixed n.label es) ≡ entries_below front (node n.label n.value child_siblings sibling_siblings) = prefixed-prefixed front n.label es in
      let top_is : siblings_at nodes (Some id) ≡ node n.label n.value child_siblings sibling_siblings = ap (siblings_at nodes) (sym next) ∙ opens.siblings_are in
      record {
        descent = record {
          front = rw len w.front;
          next_siblings = rw (arena, sibling) opens.sibling_at;
          found = rw (arena, lower) (w.front, subst (AreSiblingsAt item nodes) next w.next_siblings);
        };
        same = rw (arena, len, lower, sibling) (
            ap (λ r. last_or (last_or None (entries_below front r)) (prefixed front later)) top_is
            ∙ ap (λ o. last_or o (prefixed front later))
            (sym (last_filled (lower_entry key nodes d.lower) (entries_below front (node n.label n.value child_siblings sibling_siblings))
            (below_filled item kind n.label n.value child_siblings sibling_siblings opens.canonical front)))
            ∙ ap (λ rs. last_or (last_or (lower_entry key nodes d.lower) rs) (prefixed front later)) (sym below)
            ∙ sym (last-append (lower_entry key nodes d.lower) (prefixed front (prefixed n.label es)) (prefixed front later))
            ∙ ap (last_or (lower_entry key nodes d.lower)) (sym (prefixed-append front (prefixed n.label es) later))
            ∙ sym (ap (λ rs. last_or (lower_entry key nodes d.lower) (prefixed front rs))
            (before_past item kind n.label n.value child_siblings sibling_siblings opens.canonical rest other less))
            ∙ sym last_is);
        less = rw (arena, sibling, opens.siblings_are) (omega arith);
        arena = arena;
      }

  -- and so where it begins with the lesser byte
  pub lower_by : rest ≢ [] → byte_of n.label < get_or rest 0 0 → e.len ≡ d.len
      → e.lower ≡ Below d.len id → e.next ≡ n.sibling → LowerMoves item key d e
  lower_by some more =
      let byte = byte_is item kind n.label opens.canonical.valid opens.canonical.nonempty in
      lower_past
      (begins_otherwise n.label rest opens.canonical.nonempty (λ filled same. omega (arith, more, same, byte)))
      (less_first n.label rest some (λ filled. rw byte at more))

  -- where the label begins it and it goes on, the last entry is below the node, or its own value
  pub lower_down : begins n.label rest ≡ true → key_cmp rest n.label ≡ Greater
      → e.len ≡ d.len + length n.label → e.next ≡ n.child
      → (IsFront item key e.len → IsLower item key nodes e.lower)
      → lower_entry key nodes e.lower ≡ last_or (lower_entry key nodes d.lower) (prefixed (take e.len key) (own n.value))
      → LowerMoves item key d e
  lower_down begun_is after len child found lower =
      let begun = begins_is n.label rest begun_is in
      let t = begun.0 in
      let some : t ≢ [] = λ none. no_greater (sym begun.1 ∙ ap (λ r. n.label ++ r) none ∙ append-nil n.label) in
      let front_is = front_then key n.label t d.len w.front.0 begun.1 in
      let rest_is = left_then key n.label t d.len w.front.0 begun.1 in
      let more = more_within key n.label t d.len w.front.0 begun.1 in
      let es = before t (entries child_siblings) in
      let longer : IsFront item key e.len = rw (len, front_is) (more, IsValid-append item front n.label w.front.1 opens.canonical.valid) in
      record {
        descent = record { front = longer; next_siblings = rw (arena, child) opens.child_at; found = rw arena (found longer) };
        same = rw (arena, child, lower, len, front_is, rest_is) (
            sym (last-append (lower_entry key nodes d.lower) (prefixed (front ++ n.label) (own n.value)) (prefixed (front ++ n.label) es))
            ∙ ap (last_or (lower_entry key nodes d.lower))
            (sym (prefixed-append (front ++ n.label) (own n.value) es) ∙ sym (prefixed-prefixed front n.label (own n.value ++ es)))
            ∙ ap (λ rs. last_or (lower_entry key nodes d.lower) (prefixed front rs))
            (sym (before_down item kind n.label n.value child_siblings sibling_siblings opens.canonical t some))
            ∙ ap (λ k. last_or (lower_entry key nodes d.lower) (prefixed front (before k (entries (node n.label n.value child_siblings sibling_siblings))))) begun.1
            ∙ sym last_is);
        less = rw (arena, child, opens.siblings_are) (omega arith);
        arena = arena;
      }
    where
      no_greater : rest ≡ n.label → ⊥
      no_greater same = let less = nat_list_cmp_total.antisymm n.label rest ∙ ap ordering_reverse after in key_cmp-irreflexive n.label rest (sym same) less

-- at another node, with the one before it found
abbrev pub passed_to : {V : Type 0} → LowerDescent V → ℕ → LowerDescent V
passed_to d to = record d { lower = Below d.len (to - 1); next = Some to }

module _ (item : List ℕ → Type 0) {V : Type 0} (key : List ℕ) where
  -- without a step nothing is passed
  pub passes_none : (d : LowerDescent V) → IsLowerDescent item key d → LowerPasses item key d d
  passes_none d w = record { descent = w; same = refl; few = omega arith; arena = refl }

  -- a step from where siblings are passed is one
  pub moves_behind : (d m e : LowerDescent V) → LowerPasses item key d m → LowerMoves item key m e
      → LowerMoves item key d e
  moves_behind d m e on step = record {
    descent = step.descent;
    same = step.same ∙ on.same;
    less = omega (arith, on.few, step.less);
    arena = step.arena ∙ on.arena;
  }

module _ (item : List ℕ → Type 0) (kind : IsKeyKind item) {V : Type 0} (key : List ℕ) where
  -- past one of a run of siblings the descent is at the next one
  passes_one : (from to : ℕ) (d : LowerDescent V) → from < to → IsLowerDescent item key d
      → d.next ≡ Some from → drop d.len key ≢ []
      → IsRun d.arena.now.nodes (get_or (drop d.len key) 0 0) from to
      → LowerMoves item key d (passed_to d (from + 1))
  passes_one from to d less w next some run =
      let there = node_there _ _ (lower_within item key d from w next) in
      let passes = run.passes from (omega arith) less there.0 there.1 in
      lower_by item kind key d (passed_to d (from + 1)) from there.0 w next there.1 refl some passes.1
      refl (ap (λ at. Below d.len at) (omega arith)) (sym passes.0)

  -- past all of them it is at the last one, with the one before it found
  passes_run : (k from to : ℕ) (d : LowerDescent V) → to ≡ from + k + 1 → IsLowerDescent item key d
      → d.next ≡ Some from → drop d.len key ≢ []
      → IsRun d.arena.now.nodes (get_or (drop d.len key) 0 0) from to
      → LowerPasses item key d (passed_to d to)
  passes_run zero from to d e w next some run =
      let step = passes_one from to d (omega (arith, e)) w next some run in
      let same : from + 1 ≡ to = omega (arith, e) in
      subst (λ t. LowerPasses item key d (passed_to d t)) same
      (record { descent = step.descent; same = step.same; few = omega (arith, step.less); arena = refl })
  passes_run (suc k) from to d e w next some run =
      let step = passes_one from to d (omega (arith, e)) w next some run in
      let further = passes_run k (from + 1) to (passed_to d (from + 1)) (omega (arith, e)) step.descent refl some
      (record { forward = omega (arith, e); passes = λ i behind before. run.passes i (omega (arith, behind)) before }) in
      record {
        descent = further.descent;
        same = further.same ∙ step.same;
        few = omega (arith, further.few, step.less);
        arena = refl;
      }

  module _ (d : LowerDescent V) (from to : ℕ) (w : IsLowerDescent item key d) (next : d.next ≡ Some from)
      (some : drop d.len key ≢ []) (run : IsRun d.arena.now.nodes (get_or (drop d.len key) 0 0) from to) where
    -- the descent behind a run
    pub passes_behind : from < to → LowerPasses item key d (passed_to d to)
    passes_behind less = passes_run (to - from - 1) from to d (omega (arith, less)) w next some run

    -- so the run ends in the vector
    pub lower_run_within : to < length d.arena.now.nodes.items
    lower_run_within = elim (cases_eq from to) [
      | inl same ↦ subst (λ t. t < length d.arena.now.nodes.items) same (lower_within item key d from w next)
      | inr other ↦ lower_within item key (passed_to d to) to
          (passes_behind (omega (arith, run.forward, other))).descent refl
    ]

-- an ordering that is not greater, by its index
pub not_greater : (r : Ordering) → not (nat_eq (ordering_index r) 2) ≡ true → r ≡ Greater → ⊥
not_greater Less e is = absurd (cc)
not_greater Equal e is = absurd (cc)
not_greater Greater e is = absurd (cc)

-- and one that is
pub greater_is : (r : Ordering) → not (nat_eq (ordering_index r) 2) ≡ false → r ≡ Greater
greater_is Less e = absurd (cc)
greater_is Equal e = absurd (cc)
greater_is Greater e = refl

-- a key comes before one that comes after it
pub before_it : (a b : List ℕ) → key_cmp a b ≡ Greater → key_cmp b a ≡ Less
before_it a b e = nat_list_cmp_total.antisymm b a ∙ ap ordering_reverse e

module _ {V : Type 0} (key : List ℕ) (v : Option V) (r : Siblings V) where
  -- at the start the last entry before the key is the last of the value's and those ahead
  pub lower_start : key ≢ []
      → last_or (last_or None (prefixed (take 0 key) (own v))) (prefixed (take 0 key) (before (drop 0 key) (entries r)))
      ≡ last_or None (before key (own v ++ entries r))
  lower_start some =
      let es = before key (entries r) in
      ap (λ xs. last_or (last_or None xs) (prefixed [] es)) (prefixed-nil (own v))
      ∙ ap (last_or (last_or None (own v))) (prefixed-nil es)
      ∙ sym (last-append None (own v) es)
      ∙ ap (last_or None) (sym (before-append key (own v) (entries r) ∙ ap (λ xs. xs ++ es) (before_own key some v)))

  -- and so where it is what was found
  pub last_start : (o : Option (List ℕ × V)) → o ≡ last_or None (prefixed (take 0 key) (own v)) → key ≢ []
      → last_or o (prefixed (take 0 key) (before (drop 0 key) (entries r)))
      ≡ last_or None (before key (own v ++ entries r))
  last_start o is some = ap (λ x. last_or x (prefixed (take 0 key) (before (drop 0 key) (entries r)))) is ∙ lower_start some

  -- no entry comes before the empty key
  pub lower_none : key ≡ [] → None ≡ last_or None (before key (own v ++ entries r))
  lower_none none = rw none (sym (ap (last_or None) (nothing_before (own v ++ entries r))))

-- the front of no byte is one
pub front_start : (item : List ℕ → Type 0) (key : List ℕ) → IsFront item key 0
front_start item key = (omega arith, IsValid-nil item)

-- the siblings of whole nodes
pub siblings_start : (item : List ℕ → Type 0) {V : Type 0} (s : NodeArena V) → IsWellFormed s
    → IsCanonical item (siblings_of s) → AreSiblingsAt item s.nodes.items s.root
siblings_start item s whole ok = record { plan = whole_plan s whole; canonical = ok }

module _ (item : List ℕ → Type 0) (kind : IsKeyKind item) {V : Type 0} (nodes : List (Node V))
    (root : Option ℕ) (w : AreSiblingsAt item nodes root) (v : Option V) where
  -- the last entry of nodes is that of their top siblings, where there is one
  pub last_some : (first : ℕ) → root ≡ Some first
      → last_or None (prefixed [] (entries (siblings_at nodes (Some first)))) ≡ last_or None (own v ++ entries (siblings_at nodes root))
  last_some first is =
      let es = entries (siblings_at nodes (Some first)) in
      let some : es ≢ [] = subst (λ xs. xs ≢ []) (prefixed-nil es) (siblings_filled item kind nodes [] first (subst (AreSiblingsAt item nodes) is w)) in
      ap (last_or None) (prefixed-nil es)
      ∙ sym (last_filled (last_or None (own v)) es some)
      ∙ sym (last-append None (own v) es)
      ∙ ap (λ at. last_or None (own v ++ entries (siblings_at nodes at))) (sym is)

  -- and else that of the empty key
  pub last_none : root ≡ None
      → last_or None (prefixed (take 0 []) (own v)) ≡ last_or None (own v ++ entries (siblings_at nodes root))
  last_none is =
      let none : entries (siblings_at nodes root) ≡ [] = rw (is, siblings_none nodes) refl in
      ap (last_or None) (prefixed-nil (own v) ∙ sym (append-nil (own v)) ∙ ap (λ es. own v ++ es) (sym none))

-- below a node there is an entry
pub below_there : (item : List ℕ → Type 0) (kind : IsKeyKind item) {V : Type 0} (key : List ℕ)
    (nodes : List (Node V)) (lower : Lower V) (len top : ℕ) → lower ≡ Below len top
    → IsLower item key nodes lower → lower_entry key nodes lower ≢ None
below_there item kind key nodes lower len top is w =
    let there : IsFront item key len × AreSiblingsAt item nodes (Some top) = rw is at w in
    rw is (last_there None (entries_below (take len key) (siblings_at nodes (Some top))) (top_filled item kind nodes (take len key) top there.1))

-- what holds, holds at an error
pub at_error : {A E : Type 0} (P : Type 0) (r : Result A E) → P → OnErr r P
at_error P (Ok x) holds = tt
at_error P (Err e) holds = holds

-- what comes of a fact at an error holds there
pub then_at_error : {A E : Type 0} (P Q : Type 0) (r : Result A E) → (P → Q) → OnErr r P → OnErr r Q
then_at_error P Q (Ok x) h holds = tt
then_at_error P Q (Err e) h holds = h holds

-- where an error comes where an entry is there, and the entry is the last of some, it comes where
-- they are
pub filled_error : {A B E : Type 0} (xs : List A) (o : Option A) (r : Result B E) → o ≡ last_or None xs
    → OnErr r (o ≢ None) → OnErr r (xs ≢ [])
filled_error xs o (Ok x) is h = tt
filled_error xs o (Err e) is h = filled_last xs (λ none. h (is ∙ none))
