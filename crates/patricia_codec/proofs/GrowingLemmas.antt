-- How a tree grows: a record is opened, joined to the one before it, laid as a node, or linked.
use Rattle.std.proofs.Common.{◌≡◌, ◌≢◌, ◌⊎◌, inl, inr, ℕ, zero, suc, ◌+◌, ◌<◌, Bool, true, false}
use Rattle.std.proofs.Common.{List, [], ◌∷◌, ◌++◌, length, Option, Some, None, slice_get, set, refl}
use Rattle.std.proofs.Common.{sym, ap, subst, ◌∙◌, arith, append-nil, append_assoc, length-set}
use Rattle.std.proofs.Common.{length-append}
use Rattle.std.specs.Prelude.{is_some, All}
use Rattle.std.specs.Option.{option_to_list}
use Rattle.std.proofs.lemmas.Bool.Decides.{nat_tests}
use Rattle.std.proofs.lemmas.Option.{slice_get_within}
use Rattle.std.proofs.lemmas.List.Elements.{All-nil, All-cons, All-head, All-tail}
use Rattle.patricia_model.specs.Siblings.{Siblings, end, node, prefixed, own, entries}
use Rattle.patricia_model.specs.Siblings.{IsBeforeSiblings}
use Rattle.patricia_model.specs.Walks.{values_of}
use Rattle.patricia_store.specs.Internal.Nodes.{Node}
use Rattle.patricia_nodes.specs.Internal.Plans.{Plan, Nil, Cell, siblings_in, head, size, count}
use Rattle.patricia_nodes.specs.Internal.Plans.{below, one}
use Rattle.patricia_nodes.specs.Internal.Plans.{linked, LaidOut}
use Rattle.patricia_nodes.proofs.WriteLemmas.{get-set_same, get-set_other, get-push_same}
use Rattle.patricia_nodes.proofs.WriteLemmas.{get-push_other}
use Rattle.patricia_wire.specs.Records.{Record}
use Rattle.patricia_wire.specs.Forests.{IsInner}
use Rattle.patricia_wire.specs.Internal.WrittenSiblings.{has_node, record_of, records_of, over}
use Rattle.patricia_wire.specs.Internal.WrittenSiblings.{joined}
use Rattle.patricia_wire.specs.Internal.WrittenSiblings.{IsWritable}
use Rattle.patricia_codec.specs.Internal.Builds.{gap_if}
use Rattle.patricia_codec.specs.Internal.Growing.{Gap, IsLater, Hangs, Unlaid, AreBeside, IsGrown}
use Rattle.patricia_codec.specs.Internal.Growing.{IsOpenBeside, IsOpenAt, IsOpenWithin}

-- the number behind n, if that is to be a link
abbrev pub next_if : Bool → ℕ → Option ℕ
next_if true n = Some (n + 1)
next_if false n = None

-- two numbers are equal, or they differ
same_or : (i k : ℕ) → (i ≡ k) ⊎ (i ≢ k)
same_or zero zero = inl refl
same_or zero (suc k) = inr (λ e. omega arith)
same_or (suc i) zero = inr (λ e. omega arith)
same_or (suc i) (suc k) = elim (same_or i k) [
  | inl e ↦ inl (ap suc e)
  | inr n ↦ inr (λ e. n (omega arith))
]

module _ {V : Type 0} where
  -- the values of two lists of entries are those of the first, then those of the second
  values_of-append : (xs ys : List (List ℕ × V))
      → values_of (xs ++ ys) ≡ values_of xs ++ values_of ys
  values_of-append [] ys = refl
  values_of-append (x ∷ xs) ys = ap (λ r. x.1 ∷ r) (values_of-append xs ys)

  -- a label before the keys leaves the values
  values_of-prefixed : (p : List ℕ) (xs : List (List ℕ × V))
      → values_of (prefixed p xs) ≡ values_of xs
  values_of-prefixed p [] = refl
  values_of-prefixed p (x ∷ xs) = ap (λ r. x.1 ∷ r) (values_of-prefixed p xs)

  -- the empty key's entry, where there is one, has its value
  values_of-own : (v : Option V) → values_of (own v) ≡ option_to_list v
  values_of-own None = refl
  values_of-own (Some x) = refl

  -- the values of a node and what is below it are its own, then those below it
  pub values_inside : (v : Option V) (c : Siblings V)
      → values_of (own v ++ entries c) ≡ option_to_list v ++ values_of (entries c)
  values_inside v c = values_of-append (own v) (entries c) ∙ ap (λ k. k ++ values_of (entries c)) (values_of-own v)

  -- those of siblings are its first node's, then those below it and those beside it
  values_of-node : (l : List ℕ) (v : Option V) (c s : Siblings V)
      → values_of (entries (node l v c s)) ≡ option_to_list v ++ (values_of (entries c) ++ values_of (entries s))
  values_of-node l v c s =
      values_of-append (prefixed l (own v ++ entries c)) (entries s)
      ∙ ap (λ k. k ++ values_of (entries s)) (values_of-prefixed l (own v ++ entries c) ∙ values_inside v c)
      ∙ append_assoc (option_to_list v) (values_of (entries c)) (values_of (entries s))

  -- a node without value over a lone child is that child under both labels
  over_over : (l m : List ℕ) (v : Option V) (c s : Siblings V)
      → over l None (over m v c end) s ≡ over (l ++ m) v c s
  over_over l m (Some x) c s = refl
  over_over l m None end s = refl
  over_over l m None (node k w d end) s = ap (λ p. node p w d s) (sym (append_assoc l m k))
  over_over l m None (node k w d (node k' w' d' s')) s = refl

module _ (item : List ℕ → Type 0) {V : Type 0} where
  -- nodes stand for a tree whichever of equal records, values and numbers it is told by
  regrown : (nodes : List (Node V)) (root : Option ℕ) (value : Option V) (R X : List Record)
      (vs ws : List V) (ids jds : ℕ → ℕ) (n m : ℕ) → X ≡ R → ws ≡ vs → ((at : ℕ) → ids at ≡ jds at)
      → n ≡ m → IsGrown item nodes root value R vs ids n → IsGrown item nodes root value X ws jds m
  regrown nodes root value R X vs ws ids jds n m e f same k g = record {
    plan = g.plan;
    written = g.written;
    hangs = g.hangs;
    records = e ∙ g.records;
    values = f ∙ g.values;
    numbers = λ at. g.numbers at ∙ same at;
    sizes = g.sizes ∙ k;
  }

  module _ (nodes : List (Node V)) (root : Option ℕ) (value : Option V) where
    -- a record below the root is a node that can be written, over and beside siblings that can
    inner_siblings : (level : ℕ) (r : Record) (x : Option V) (c s : Siblings V) → IsInner item level r
        → is_some x ≡ r.value → has_node c ≡ r.child → IsWritable item c → IsWritable item s
        → IsBeforeSiblings item r.label s → IsWritable item (node r.label x c s)
    inner_siblings level r x c s inner vm cm wc ws rises = record {
      valid = inner.valid;
      nonempty = inner.nonempty;
      fits = inner.fits;
      marked = elim inner.marked [
        | inl h ↦ inl (vm ∙ h)
        | inr h ↦ inr (cm ∙ h)
      ];
      rises = rises;
      child = wc;
      sibling = ws;
    }

    -- and the record of that node is the one that was read
    inner_record : (level : ℕ) (r : Record) (x : Option V) (c s : Siblings V) → IsInner item level r
        → is_some x ≡ r.value → has_node c ≡ r.child → has_node s ≡ r.sibling
        → record_of level r.label x c s ≡ r
    inner_record level r x c s inner vm cm sm = λ i. record { level = sym inner.level i; label = r.label; value = vm i; child = cm i; sibling = sm i }

    -- a record whose siblings are due is opened
    pub opened : (Allowed : Siblings V → Type 0) (level : ℕ) (gaps : List Gap) (R : List Record)
        (vs : List V) → IsOpenAt item nodes root value Allowed level gaps R vs
        → (r : Record) (x : Option V) → IsInner item level r → is_some x ≡ r.value
        → ((c s : Siblings V) → has_node s ≡ r.sibling → Allowed (node r.label x c s))
        → IsOpenWithin item nodes root value
        (record {
          label = r.label;
          value = x;
          child = r.child;
          sibling = r.sibling;
          below =
              level + 1;
          level = level;
          own_label = r.label;
        }) gaps (R ++ (r ∷ []))
        (vs ++ option_to_list x)
    opened Allowed level gaps R vs goes r x inner vm allowed later is_later plan c s stands at is_siblings wc ws cm sm rises R2 vs2 ids n beside =
        let written = node r.label x c s in
        let grown = goes later is_later plan written
        (record {
          stands = stands;
          at_is = sym at;
          same = is_siblings;
          writable = inner_siblings
              level r x c s inner vm cm wc ws rises;
        }) refl (allowed c s sm) R2 vs2 ids n beside
        in
        let below = records_of (level + 1) c ++ records_of level s in
        let same = inner_record level r x c s inner vm cm sm in
        let records : (R ++ (r ∷ [])) ++ (below ++ R2) ≡ R ++ (records_of level written ++ R2) =
        append_assoc R (r ∷ []) (below ++ R2) ∙ ap (λ h. R ++ (h ∷ (below ++ R2)))
        (sym same) in
        let inside = values_of (entries c) ++ values_of (entries s) in
        let values : (vs ++ option_to_list x) ++ (inside ++ vs2) ≡ vs ++
        (values_of (entries written) ++ vs2) = append_assoc vs (option_to_list x)
        (inside ++ vs2) ∙ ap (λ l. vs ++ l)
        (sym (append_assoc (option_to_list x) inside vs2)) ∙ ap (λ l. vs ++ (l ++ vs2))
        (sym (values_of-node r.label x c s)) in
        regrown later root value _ _ _ _ _ _ _ _ records values (λ at. refl) refl grown

    -- a record is joined to the one before it, which has no value, where it is its lone child
    pub joined_in : (u : Unlaid V) (gaps : List Gap) (R : List Record) (vs : List V)
        → IsOpenWithin item nodes root value u gaps R vs → u.value ≡ None → u.child ≡ true
        → (r : Record) (x : Option V) → IsInner item u.below r → is_some x ≡ r.value
        → r.sibling ≡ false
        → IsOpenWithin item nodes root value
        (record {
          label = u.label ++ r.label;
          value = x;
          child = r.child;
          sibling = u.sibling;
          below = u.below + 1;
          level = u.level;
          own_label = u.own_label;
        }) gaps (R ++ (r ∷ []))
        (vs ++ option_to_list x)
    joined_in u gaps R vs goes none lone r x inner vm alone later is_later plan c s stands at is_siblings wc ws cm sm rises R2 vs2 ids n beside =
        let over_one = node r.label x c end in
        let is_over : siblings_in plan ≡ over u.label u.value (joined over_one) (joined s) = is_siblings ∙ sym
        (over_over u.label r.label x (joined c) (joined s)) ∙ ap
        (λ v. over u.label v (joined over_one) (joined s)) (sym none) in
        let grown = goes later is_later plan over_one s stands at is_over
        (inner_siblings u.below r x c end inner vm cm wc tt tt) ws (sym lone) sm rises R2 vs2
        ids n beside in
        let under = records_of (u.below + 1) c in
        let others = records_of u.level s in
        let same = inner_record u.below r x c end inner vm cm (sym alone) in
        let records : (R ++ (r ∷ [])) ++ ((under ++ others) ++ R2) ≡ R ++ ((records_of u.below over_one ++ others) ++ R2) =
        append_assoc R (r ∷ []) ((under ++ others) ++ R2) ∙ ap
        (λ l. R ++ (r ∷ ((l ++ others) ++ R2))) (sym (append-nil under)) ∙ ap
        (λ h. R ++ (h ∷ (((under ++ []) ++ others) ++ R2))) (sym same) in
        let inside = values_of (entries c) in
        let beyond = values_of (entries s) in
        let one_value : values_of (entries over_one) ≡ option_to_list x ++ inside = values_of-node
        r.label x c end ∙ ap (λ l. option_to_list x ++ l) (append-nil inside) in
        let values : (vs ++ option_to_list x) ++ ((inside ++ beyond) ++ vs2) ≡ vs ++ ((values_of (entries over_one) ++ beyond) ++ vs2) =
        append_assoc vs (option_to_list x) ((inside ++ beyond) ++ vs2) ∙ ap (λ l. vs ++ l)
        (sym (append_assoc (option_to_list x) (inside ++ beyond) vs2) ∙ ap (λ l. l ++ vs2)
        (sym (append_assoc (option_to_list x) inside beyond))) ∙ ap
        (λ l. vs ++ ((l ++ beyond) ++ vs2)) (sym one_value) in
        regrown later root value _ _ _ _ _ _ _ _ records values (λ at. refl) refl grown

-- no node past the last waits
abbrev pub AreWithin : ℕ → List Gap → Type 0
AreWithin n gaps = All (λ g. g.id < n) gaps

-- open places below a number are not at that number
pub not_at : (n : ℕ) (gaps : List Gap) → AreWithin n gaps → All (λ g. g.id ≢ n) gaps
not_at n [] all = All-nil (λ g. g.id ≢ n)
not_at n (g ∷ gaps) all = All-cons (λ g. g.id ≢ n) g gaps
    (λ e. omega (arith, e, All-head (λ g. g.id < n) g gaps all))
    (not_at n gaps (All-tail (λ g. g.id < n) g gaps all))

-- the numbers below the next one are those below this one, and this one
below_next : (n at : ℕ) → below (n + 1) at ≡ below n at + one n at
below_next n at = grind (arith, nat_tests)

module _ (item : List ℕ → Type 0) {V : Type 0} (nodes : List (Node V)) (root : Option ℕ)
    (value : Option V) where
  -- what is later than nodes with one more is later than these nodes
  later_than : (n : Node V) (more gaps : List Gap) (later : List (Node V))
      → All (λ g. g.id ≡ length nodes) more → IsLater (nodes ++ n ∷ []) (more ++ gaps) later
      → IsLater nodes gaps later
  later_than n more gaps later here is_later i m at =
      let within = slice_get_within nodes i m at in
      let kept = is_later i m (get-push_other nodes i n (λ e. omega (arith, e, within)) ∙ at) in
      (kept.0, kept.1, λ apart. kept.2 (both more here apart within))
    where
      both : (more : List Gap) → All (λ g. g.id ≡ length nodes) more → All (λ g. g.id ≢ i) gaps
          → i < length nodes → All (λ g. g.id ≢ i) (more ++ gaps)
      both [] here apart within = apart
      both (g ∷ more) here apart within = All-cons (λ g. g.id ≢ i) g (more ++ gaps)
          (λ e. omega (arith, e, within, All-head (λ g. g.id ≡ length nodes) g more here))
          (both more (All-tail (λ g. g.id ≡ length nodes) g more here) apart within)

  -- where the next node waits, it waits under its own number
  gap_here : (b : Bool) (level : ℕ) (label : List ℕ)
      → All (λ g. g.id ≡ length nodes) (gap_if b level label (length nodes))
  gap_here true level label = All-cons (λ g. g.id ≡ length nodes)
      (record { level = level; label = label; id = length nodes }) [] refl
      (All-nil (λ g. g.id ≡ length nodes))
  gap_here false level label = All-nil (λ g. g.id ≡ length nodes)

  -- the node that is laid for an open one
  abbrev pub laid_node : Unlaid V → Node V
  laid_node u = linked u.label u.value (next_if u.child (length nodes)) None

  -- the siblings that wait then
  abbrev pub laid_gaps : Unlaid V → List Gap → List Gap
  laid_gaps u gaps = gap_if u.sibling u.level u.own_label (length nodes) ++ gaps

  -- what stands beside the node that is laid, and beside the others that wait
  split_beside : (later : List (Node V)) (l o : List ℕ) (v : Option V) (child : Option ℕ) (b : Bool)
      (level : ℕ) (gaps : List Gap) (R : List Record) (vs : List V) (ids : ℕ → ℕ) (n : ℕ)
      → AreWithin (length nodes) gaps → (sibling : Option ℕ)
      → slice_get later (length nodes) ≡ Some (linked l v child sibling)
      → (All (λ g. g.id ≢ length nodes) (gap_if b level o (length nodes) ++ gaps) → sibling ≡ None)
      → AreBeside item later (gap_if b level o (length nodes) ++ gaps) R vs ids n
      → (plan : Plan V) × (written : Siblings V) × Hangs item later sibling plan written × (has_node written ≡ b) × IsBeforeSiblings item o written
      × (R2 : List Record) × (vs2 : List V) × (ids2 : ℕ → ℕ) × (n2 : ℕ) × AreBeside item later gaps R2 vs2 ids2 n2
      × (R ≡ records_of level written ++ R2) × (vs ≡ values_of (entries written) ++ vs2) × ((at : ℕ) → ids at ≡ count plan at + ids2 at) × (n ≡ size plan + n2)
  split_beside later l o v child true level gaps R vs ids n within sibling at none beside =
      let b = beside.beside in
      let same : Some b.waiting ≡ Some (linked l v child sibling) = sym b.at ∙ at in
      let is : b.waiting ≡ linked l v child sibling = cc in (
        beside.plan,
        beside.written,
        subst (λ (w : Node V). Hangs item later w.sibling beside.plan beside.written) is b.hangs,
        b.there,
        b.rises,
        beside.other_records,
        beside.other_values,
        beside.other_ids,
        beside.other_size,
        beside.others,
        beside.records,
        beside.values,
        beside.numbers,
        beside.sizes,
      )
  split_beside later l o v child false level gaps R vs ids n within sibling at none beside = (
    Nil,
    end,
    record { stands = tt; at_is = none (not_at (length nodes) gaps within); same = refl; writable = tt },
    refl,
    tt,
    R,
    vs,
    ids,
    n,
    beside,
    refl,
    refl,
    λ at. omega arith,
    omega arith,
  )

  -- an open node is laid over the siblings that are below it
  pub laid : (u : Unlaid V) (gaps : List Gap) (R : List Record) (vs : List V)
      → IsOpenWithin item nodes root value u gaps R vs → AreWithin (length nodes) gaps
      → (later : List (Node V)) → IsLater (nodes ++ laid_node u ∷ []) (laid_gaps u gaps) later
      → (plan : Plan V) (c : Siblings V)
      → Hangs item later (next_if u.child (length nodes)) plan c → has_node c ≡ u.child
      → ((s : Siblings V) → over u.label u.value (joined c) s ≡ node u.label u.value (joined c) s)
      → (R2 : List Record) (vs2 : List V) (ids : ℕ → ℕ) (n : ℕ)
      → AreBeside item later (laid_gaps u gaps) R2 vs2 ids n
      → IsGrown item later root value (R ++ (records_of u.below c ++ R2))
      (vs ++ (values_of (entries c) ++ vs2))
      (λ at. below (length nodes + 1) at + (count plan at + ids at))
      (length nodes + 1 + (size plan + n))
  laid u gaps R vs goes within later is_later plan c hangs cm kept R2 vs2 ids n beside =
      let here = is_later (length nodes) (laid_node u) (get-push_same nodes (laid_node u)) in
      let (side, s, hangs2, sm, rises, R3, vs3, ids3, n3, others, records, values, numbers, sizes) =
      split_beside later u.label u.own_label u.value (next_if u.child (length nodes)) u.sibling
      u.level gaps R2 vs2 ids n within here.0 here.1 here.2 beside in
      let cell = Cell (length nodes) u.label u.value plan side in
      let stands : LaidOut later cell = (
        here.1 ∙ ap (λ h. Some (linked u.label u.value h here.0)) hangs.at_is ∙ ap
            (λ h. Some (linked u.label u.value (head plan) h)) hangs2.at_is,
        hangs.stands,
        hangs2.stands,
      ) in
      let is_siblings : siblings_in cell ≡ over u.label u.value (joined c) (joined s) = ap
      (λ r. node u.label u.value r (siblings_in side)) hangs.same ∙ ap
      (λ r. node u.label u.value (joined c) r) hangs2.same ∙ sym (kept (joined s)) in
      let grown = goes later
      (later_than (laid_node u) (gap_if u.sibling u.level u.own_label (length nodes)) gaps
      later (gap_here u.sibling u.level u.own_label) is_later) cell c s stands refl is_siblings
      hangs.writable hangs2.writable cm sm rises R3 vs3 ids3 n3 others in
      let under = records_of u.below c in
      let e : R ++ (under ++ R2) ≡ R ++ ((under ++ records_of u.level s) ++ R3) = ap
      (λ l. R ++ (under ++ l)) records ∙ ap (λ l. R ++ l)
      (sym (append_assoc under (records_of u.level s) R3)) in
      let inside = values_of (entries c) in
      let f : vs ++ (inside ++ vs2) ≡ vs ++ ((inside ++ values_of (entries s)) ++ vs3) = ap
      (λ l. vs ++ (inside ++ l)) values ∙ ap (λ l. vs ++ l)
      (sym (append_assoc inside (values_of (entries s)) vs3)) in
      regrown item later root value _ _ _ _ _ _ _ _ e f (λ at. omega (arith, below_next (length nodes) at, numbers at)) (omega (arith, sizes)) grown

  -- an open node is laid, and its children are due
  pub laid_above : (u : Unlaid V) (gaps : List Gap) (R : List Record) (vs : List V)
      → IsOpenWithin item nodes root value u gaps R vs → AreWithin (length nodes) gaps
      → u.child ≡ true → (Allowed : Siblings V → Type 0)
      → ((c : Siblings V) → Allowed c → (s : Siblings V) → over u.label u.value (joined c) s ≡ node u.label u.value (joined c) s)
      → IsOpenAt item (nodes ++ laid_node u ∷ []) root value Allowed u.below (laid_gaps u gaps) R vs
  laid_above u gaps R vs goes within child Allowed kept later is_later plan c hangs there allowed R2 vs2 ids n beside =
      let len = length-append nodes (laid_node u ∷ []) in
      let link : Some (length (nodes ++ laid_node u ∷ [])) ≡ next_if u.child (length nodes) =
      ap Some len ∙ ap (λ b. next_if b (length nodes)) (sym child) in
      let grown = laid u gaps R vs goes within later is_later plan c
      (subst (λ at. Hangs item later at plan c) link hangs) (there ∙ sym child)
      (kept c allowed) R2 vs2 ids n beside in
      regrown item later root value _ _ _ _ _ _ _ _ refl refl
      (λ at. ap (λ k. below k at + (count plan at + ids at)) (sym len))
      (ap (λ k. k + (size plan + n)) (sym len)) grown

  -- an open node without children is laid
  pub laid_alone : (u : Unlaid V) (gaps : List Gap) (R : List Record) (vs : List V)
      → IsOpenWithin item nodes root value u gaps R vs → AreWithin (length nodes) gaps
      → u.child ≡ false
      → IsOpenBeside item (nodes ++ laid_node u ∷ []) root value (laid_gaps u gaps) R vs
  laid_alone u gaps R vs goes within child later is_later R2 vs2 ids n beside =
      let len = length-append nodes (laid_node u ∷ []) in
      let hangs : Hangs item later (next_if u.child (length nodes)) Nil end =
      record {
        stands = tt;
        at_is = ap (λ b. next_if b (length nodes)) child;
        same = refl;
        writable = tt;
      } in
      let grown = laid u gaps R vs goes within later is_later Nil end hangs (sym child) (over_none u.value) R2 vs2 ids n beside in
      regrown item later root value _ _ _ _ _ _ _ _ refl refl (λ at. omega (arith, ap (λ k. below k at) len)) (omega (arith, len)) grown
    where
      over_none : (v : Option V) (s : Siblings V) → over u.label v end s ≡ node u.label v end s
      over_none None s = refl
      over_none (Some x) s = refl

  -- siblings are due beside the node that waits last
  pub linked_beside : (g : Gap) (gaps : List Gap) (R : List Record) (vs : List V)
      → IsOpenBeside item nodes root value (g ∷ gaps) R vs → (n : Node V)
      → slice_get nodes g.id ≡ Some n → All (λ h. h.id ≢ g.id) gaps
      → IsOpenAt item (set nodes g.id (linked n.label n.value n.child (Some (length nodes)))) root value (IsBeforeSiblings item g.label) g.level gaps R vs
  linked_beside g gaps R vs goes n there apart later is_later plan written hangs some rises R2 vs2 ids k beside =
      let len = length-set nodes g.id (linked n.label n.value n.child (Some (length nodes))) in
      let within = slice_get_within nodes g.id n there in
      let now = linked n.label n.value n.child (Some (length nodes)) in
      let here = is_later g.id now (get-set_same nodes g.id now within) in
      let sibling : here.0 ≡ Some (length nodes) = here.2 apart in
      let hangs2 : Hangs item later here.0 plan written = subst (λ at. Hangs item later at plan written) (ap Some len ∙ sym sibling) hangs in
      let grown = goes later later_here (records_of g.level written ++ R2)
      (values_of (entries written) ++ vs2) (λ at. count plan at + ids at) (size plan + k)
      (record {
        plan = plan;
        written = written;
        beside = record { waiting = linked n.label n.value n.child here.0; at = here.1; hangs = hangs2; there = some; rises = rises };
        other_records = R2;
        other_values = vs2;
        other_ids = ids;
        other_size = k;
        others = beside;
        records = refl;
        values = refl;
        numbers = λ at. refl;
        sizes = refl;
      }) in
      regrown item later root value _ _ _ _ _ _ _ _ refl refl
      (λ at. ap (λ k. below k at + (count plan at + ids at)) (sym len))
      (ap (λ j. j + (size plan + k)) (sym len)) grown
    where
      new : Node V
      new = linked n.label n.value n.child (Some (length nodes))

      later_here : IsLater nodes (g ∷ gaps) later
      later_here i m at = elim (same_or g.id i) [
        | inl e ↦
            let found = is_later g.id new (get-set_same nodes g.id new (slice_get_within nodes g.id n there)) in
            let one : Some n ≡ Some m = sym there ∙ ap (λ j. slice_get nodes j) e ∙ at in
            let is : n ≡ m = cc in
            let same : slice_get later i ≡ Some (linked m.label m.value m.child found.0) = ap
            (λ j. slice_get later j) (sym e) ∙ found.1 ∙ ap
            (λ (h : Node V). Some (linked h.label h.value h.child found.0)) is in
            (found.0, same, λ away. absurd (All-head (λ h. h.id ≢ i) g gaps away e))
        | inr e ↦ (let found = is_later i m (get-set_other nodes g.id i new (λ h. e (sym h)) ∙ at) in
            (found.0, found.1, λ away. found.2 (All-tail (λ h. h.id ≢ i) g gaps away)))
      ]
