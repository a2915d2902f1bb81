-- Where building begins, and what stands at its end.
use Rattle.std.proofs.Common.{◌≡◌, ℕ, ◌+◌, Bool, true, false, List, [], ◌∷◌, ◌++◌, length, Option}
use Rattle.std.proofs.Common.{Some, None, refl, sym, ap, subst, ◌∙◌, arith, append-nil}
use Rattle.std.specs.Prelude.{is_some, reverse}
use Rattle.std.specs.Option.{option_to_list}
use Rattle.std.proofs.lemmas.Bool.Decides.{nat_tests}
use Rattle.patricia_keys.specs.Keys.{IsKeyKind}
use Rattle.patricia_model.specs.Siblings.{Siblings, end, own, entries, keys_of, IsCanonical}
use Rattle.patricia_model.specs.Walks.{values_of}
use Rattle.patricia_store.specs.Internal.Nodes.{Node}
use Rattle.patricia_nodes.specs.declared.arena.NodeArena.{NodeArena}
use Rattle.patricia_nodes.specs.Internal.Plans.{Plan, Nil, siblings_in, size, count, below}
use Rattle.patricia_nodes.specs.Internal.Plans.{siblings_of}
use Rattle.patricia_nodes.specs.Internal.Plans.{entries_of, IsSound, IsWellFormed}
use Rattle.patricia_nodes.proofs.PlanLemmas.{plan_is}
use Rattle.patricia_wire.specs.Records.{Record, EncodeAll}
use Rattle.patricia_wire.specs.Forests.{Root}
use Rattle.patricia_wire.specs.Writings.{Means}
use Rattle.patricia_wire.specs.Internal.Readings.{due_where, due_behind}
use Rattle.patricia_wire.specs.Internal.WrittenSiblings.{has_node, record_of, records_of, joined}
use Rattle.patricia_wire.proofs.JoinedSiblings.{joined_is}
use Rattle.patricia_wire.proofs.SiblingsTrees.{tree_of}
use Rattle.patricia_codec.specs.declared.builder.Next.{Next}
use Rattle.patricia_codec.specs.declared.builder.Next.TheVariants as next
use Rattle.patricia_codec.specs.Internal.Growing.{Gap, Hangs, AreBeside, IsGrown, IsOpenBeside}
use Rattle.patricia_codec.specs.Internal.Growing.{IsOpenAt}
use Rattle.patricia_codec.specs.Internal.Builds.{Building}
use Rattle.patricia_codec.specs.Internal.Builds.{dues, gap_if, count_of, IsBuiltAs}
use Rattle.patricia_codec.specs.Internal.Builds.{IsBuilt}
use Rattle.patricia_codec.proofs.BuildSteps.{AddsRoot, BuildsRecord}
use Rattle.patricia_codec.proofs.GrowingLemmas.{values_inside}
use Rattle.patricia_codec.proofs.BuildLemmas.{some_snoc, due_next}

-- no number is below 0
none_below : (n at : ℕ) → n ≡ 0 → below n at ≡ 0
none_below n at e = grind (arith, nat_tests)

module _ (item : List ℕ → Type 0) {V : Type 0} (nodes : List (Node V)) (root : Option ℕ)
    (value : Option V) where
  -- a root's record, with siblings laid below it, makes the nodes stand for a tree
  rooted : (later : List (Node V)) (plan : Plan V) (written : Siblings V) → nodes ≡ []
      → Hangs item later root plan written → (r : Record) → r.level ≡ 0 → r.label ≡ []
      → r.sibling ≡ false → is_some value ≡ r.value → has_node written ≡ r.child
      → (R2 : List Record) (vs2 : List V) (ids : ℕ → ℕ) (n : ℕ)
      → AreBeside item later [] R2 vs2 ids n
      → IsGrown item later root value ((r ∷ []) ++ (records_of 1 written ++ R2))
      (option_to_list value ++ (values_of (entries written) ++ vs2))
      (λ at. below (length nodes) at + (count plan at + ids at)) (length nodes + (size plan + n))
  rooted later plan written none hangs r level label alone vm cm R2 vs2 ids n (no_records, no_values, no_ids, zero) = record {
    plan = plan;
    written = written;
    hangs = hangs;
    records =
        (λ i. record {
          level = level i;
          label = label i;
          value = sym vm i;
          child = sym cm i;
          sibling = alone i;
        } ∷ (records_of 1 written ++ no_records i)) ∙ ap
        (λ l. record_of 0 [] value written end ∷ l) (append-nil (records_of 1 written));
    values = ap (λ l. option_to_list value ++ (values_of (entries written) ++ l)) no_values ∙ ap
        (λ l. option_to_list value ++ l) (append-nil (values_of (entries written))) ∙ sym
        (values_inside value written);
    numbers = λ at. omega (arith, none_below (length nodes) at (ap length none), no_ids at);
    sizes = omega (arith, ap length none, zero);
  }

  -- a root's record with a child opens the siblings at level 1, of which nothing is laid yet
  start_above : nodes ≡ [] → root ≡ Some 0 → (r : Record) → r.level ≡ 0 → r.label ≡ []
      → r.sibling ≡ false → is_some value ≡ r.value → r.child ≡ true
      → IsOpenAt item nodes root value (λ w. Unit {0}) 1 [] (r ∷ []) (option_to_list value)
  start_above none top r level label alone vm cm later is_later plan written hangs there allowed R2 vs2 ids n beside =
      rooted later plan written none
      (subst (λ at. Hangs item later at plan written)
      (ap (λ (l : List (Node V)). Some (length l)) none ∙ sym top) hangs) r level label alone
      vm (there ∙ sym cm) R2 vs2 ids n beside

  -- a root's record without a child leaves nothing open
  start_alone : nodes ≡ [] → root ≡ None → (r : Record) → r.level ≡ 0 → r.label ≡ []
      → r.sibling ≡ false → is_some value ≡ r.value → r.child ≡ false
      → IsOpenBeside item nodes root value [] (r ∷ []) (option_to_list value)
  start_alone none top r level label alone vm cm later is_later R2 vs2 ids n beside =
      let grown = rooted later Nil end none
      (record { stands = tt; at_is = top; same = refl; writable = tt }) r level label alone
      vm (sym cm) R2 vs2 ids n beside in
      record {
        plan = grown.plan;
        written = grown.written;
        hangs = grown.hangs;
        records = grown.records;
        values = grown.values;
        numbers = λ at. grown.numbers at ∙ omega arith;
        sizes = grown.sizes ∙ omega arith;
      }

module _ (item : List ℕ → Type 0) {V : Type 0} where
  -- the root is added
  pub root_added : (old new : Building V) (r : Record) (x : Option V) → old.next ≡ next.Root
      → AddsRoot old x r.child new → BuildsRecord item old r x new
  root_added old new r x is_root adds R due waiting vs built suits vm = by r.child refl (subst (λ n. IsBuiltAs item n old R (due ∷ waiting) vs) is_root built)
    where
      by : (child : Bool) → r.child ≡ child → IsBuiltAs item next.Root old R (due ∷ waiting) vs
          → IsBuilt item new (R ++ (r ∷ [])) (due_behind r ++ waiting) (vs ++ option_to_list x)
      by true c (none, e, no_values, start) =
          let (level, label, alone) = suits.root none in
          let nodes = adds.nodes ∙ start.nodes in
          let waits = adds.waiting ∙ start.waiting in
          let held = ap option_to_list adds.value_is in
          let goes = start_above item new.nodes new.root new.value nodes (adds.root c) r level label alone (ap is_some adds.value_is ∙ vm) c in
          let tails : waiting ≡ [] = cc in
          subst (λ n. IsBuiltAs item n new (R ++ (r ∷ [])) (due_behind r ++ waiting) (vs ++ option_to_list x)) (sym (adds.below c)) (record {
            level = 1;
            gaps = [];
            goes = subst
                (λ l. IsOpenAt item new.nodes new.root new.value (λ w. Unit {0}) 1 [] l
                (vs ++ option_to_list x)) (ap (λ l. l ++ (r ∷ [])) (sym none))
                (subst (λ l. IsOpenAt item new.nodes new.root new.value (λ w. Unit {0}) 1 []
                (r ∷ []) l) (held ∙ ap (λ l. l ++ option_to_list x) (sym no_values)) goes);
            wait = record { ids_are = ap reverse (sym waits); fall = tt };
            due_is = ap (λ w. due_behind r ++ w) tails ∙ due_next r 0 0 [] level ∙ ap
                (λ b. due_where b (record { level = 1; after = None }) ++ dues
                (gap_if r.sibling 0 r.label 0 ++ [])) c ∙ ap
                (λ b. (record { level = 1; after = None }) ∷ dues (gap_if b 0 r.label 0 ++ []))
                alone;
            label = adds.label ∙ start.label;
            some = some_snoc R r;
          })
      by false c (none, e, no_values, start) =
          let (level, label, alone) = suits.root none in
          let nodes = adds.nodes ∙ start.nodes in
          let waits = adds.waiting ∙ start.waiting in
          let held = ap option_to_list adds.value_is in
          let goes = start_alone item new.nodes new.root new.value nodes
          (adds.no_root c ∙ start.root) r level label alone (ap is_some adds.value_is ∙ vm)
          c in
          let tails : waiting ≡ [] = cc in
          subst (λ n. IsBuiltAs item n new (R ++ (r ∷ [])) (due_behind r ++ waiting) (vs ++ option_to_list x)) (sym (adds.beside c)) (record {
            gaps = [];
            goes = subst
                (λ l. IsOpenBeside item new.nodes new.root new.value [] l
                (vs ++ option_to_list x)) (ap (λ l. l ++ (r ∷ [])) (sym none))
                (subst (λ l. IsOpenBeside item new.nodes new.root new.value [] (r ∷ []) l)
                (held ∙ ap (λ l. l ++ option_to_list x) (sym no_values)) goes);
            wait = record { ids_are = ap reverse (sym waits); fall = tt };
            due_is = ap (λ w. due_behind r ++ w) tails ∙ due_next r 0 0 [] level ∙ ap
                (λ b. due_where b (record { level = 1; after = None }) ++ dues
                (gap_if r.sibling 0 r.label 0 ++ [])) c ∙ ap
                (λ b. dues (gap_if b 0 r.label 0 ++ [])) alone;
            label = adds.label ∙ start.label;
            some = some_snoc R r;
          })

  -- where no record is due, the nodes stand for a tree of the records
  pub grown : (b : Building V) (R : List Record) (vs : List V) → IsBuilt item b R [] vs
      → IsGrown item b.nodes b.root b.value R vs (below (count_of b)) (count_of b)
  grown b R vs built = by b.next built
    where
      open_none : (gaps : List Gap) → [] ≡ dues gaps → gaps ≡ []
      open_none [] e = refl
      open_none (g ∷ gaps) e = absurd (cc)

      by : (n : Next) → IsBuiltAs item n b R [] vs
          → IsGrown item b.nodes b.root b.value R vs (below (count_of b)) (count_of b)
      by next.Root (none, e, no_values, start) = absurd (cc)
      by next.Below s = absurd (let e = s.due_is in cc)
      by next.Within s = absurd (let e = s.due_is in cc)
      by next.Beside s =
          let goes = subst (λ gaps. IsOpenBeside item b.nodes b.root b.value gaps R vs) (open_none s.gaps s.due_is) s.goes in
          let g = goes b.nodes (λ i n at. (n.sibling, at, λ away. refl)) [] [] (λ at. 0) 0 (refl, refl, λ at. refl, refl) in
          record {
            plan = g.plan;
            written = g.written;
            hangs = g.hangs;
            records = sym (append-nil R) ∙ g.records;
            values = sym (append-nil vs) ∙ g.values;
            numbers = λ at. g.numbers at ∙ omega arith;
            sizes = g.sizes ∙ omega arith;
          }

  -- and these are the keys of the tree
  pub grown_tree : (nodes : List (Node V)) (root : Option ℕ) (value : Option V) (R : List Record)
      (vs : List V) (ids : ℕ → ℕ) (n : ℕ) → (g : IsGrown item nodes root value R vs ids n)
      → Root item R (keys_of (own value ++ entries g.written))
  grown_tree nodes root value R vs ids n g = subst
      (λ l. Root item l (keys_of (own value ++ entries g.written))) (sym g.records)
      (tree_of item value g.written g.hangs.writable)

  -- nodes that are grown are whole, and mean what was read
  pub record IsDone (w : ℕ) (s : NodeArena V) (value : Option V) (b : List ℕ) (vs : List V) : Type 0 where
    pub whole : IsWellFormed s
    pub canonical : IsCanonical item (siblings_of s)
    pub means : Means item w b vs (own value ++ entries_of s)

  -- nodes that stand for the same siblings as nodes that are grown are those that the bytes and
  -- values mean
  pub done : (w : ℕ) (kind : IsKeyKind item) (s : NodeArena V) (value : Option V) (R : List Record)
      (vs : List V) (b : List ℕ) (nodes : List (Node V)) (root : Option ℕ) (numbers : ℕ → ℕ) (n : ℕ)
      (g : IsGrown item nodes root value R vs numbers n) (plan : Plan V) (spare : List ℕ)
      → IsSound s.nodes.items s.root s.free plan spare → siblings_in plan ≡ siblings_in g.plan
      → EncodeAll w R b → IsDone w s value b vs
  done w kind s value R vs b nodes root numbers n g plan spare sound alike spelled =
      let is = plan_is s.nodes.items s.root plan sound.plan_ok in
      let siblings_are : siblings_of s ≡ joined g.written = ap siblings_in is ∙ alike ∙ g.hangs.same in
      let j = joined_is item kind g.written g.hangs.writable in
      let same : entries_of s ≡ entries g.written = ap entries siblings_are ∙ j.same in
      record {
        whole = (plan, (spare, sound));
        canonical = subst (IsCanonical item) (sym siblings_are) j.ok;
        means = record {
          records = R;
          spelled = spelled;
          root = subst (λ es. Root item R (keys_of (own value ++ es))) (sym same) (grown_tree nodes root value R vs _ _ g);
          in_place = g.values ∙ ap (λ es. values_of (own value ++ es)) (sym same);
        };
      }

  -- where no record is due, the last one that was read is a leaf
  pub beside_last : (b : Building V) (R : List Record) (vs : List V) → IsBuilt item b R [] vs → b.next ≡ next.Beside
  beside_last b R vs built = by b.next built
    where
      by : (n : Next) → IsBuiltAs item n b R [] vs → n ≡ next.Beside
      by next.Root (none, e, no_values, start) = absurd (cc)
      by next.Below s = absurd (let e = s.due_is in cc)
      by next.Within s = absurd (let e = s.due_is in cc)
      by next.Beside s = refl
