-- A record that is added to what is built.
use Rattle.std.proofs.Common.{◌≡◌, ◌≢◌, ℕ, ◌+◌, ◌<◌, ◌≤◌, Bool, true, false, List, [], ◌∷◌, ◌++◌}
use Rattle.std.proofs.Common.{length, Option, Some, None, slice_get, get_or, set, refl, sym, ap}
use Rattle.std.proofs.Common.{subst, ◌∙◌, arith, append-nil, append_assoc, length-append}
use Rattle.std.proofs.Common.{length-set}
use Rattle.std.specs.Prelude.{is_some, reverse, Result, Ok, Err, OnOk}
use Rattle.std.specs.Option.{option_to_list}
use Rattle.std.proofs.lemmas.Option.{slice_get-get_or}
use Rattle.std.proofs.lemmas.List.{reverse-append}
use Rattle.std.proofs.lemmas.List.Elements.{All-nil, All-cons}
use Rattle.patricia_model.specs.Siblings.{Siblings, end, node, IsBeforeSiblings}
use Rattle.patricia_store.specs.Internal.Nodes.{Node}
use Rattle.patricia_nodes.specs.Internal.Plans.{linked}
use Rattle.patricia_wire.specs.Records.{Record}
use Rattle.patricia_wire.specs.Forests.{IsInner}
use Rattle.patricia_wire.specs.Internal.Readings.{Due, due_where, due_behind}
use Rattle.patricia_wire.specs.Internal.WrittenSiblings.{has_node, over, joined}
use Rattle.patricia_codec.specs.declared.builder.Next.{Next}
use Rattle.patricia_codec.specs.declared.builder.Next.TheVariants.{Root, Below, Within, Beside}
use Rattle.patricia_codec.specs.Internal.Growing.{Gap, Unlaid, IsOpenBeside, IsOpenAt, IsOpenWithin}
use Rattle.patricia_codec.specs.Internal.Builds.{Building}
use Rattle.patricia_codec.specs.Internal.Builds.{number_if, gap_if, ids, dues, Fall}
use Rattle.patricia_codec.specs.Internal.Builds.{count_of}
use Rattle.patricia_codec.specs.Internal.Builds.{Suits, Wait, IsBuiltAs, IsBuilt}
use Rattle.patricia_codec.proofs.BuildSteps.{Lays, HasLinked, Opens, ClosesAs, Prepares, BuildsRecord}
use Rattle.patricia_codec.proofs.GrowingLemmas.{next_if, AreWithin, not_at, laid_node, opened, joined_in}
use Rattle.patricia_codec.proofs.GrowingLemmas.{laid_above, laid_alone, linked_beside}

-- what follows of an answer that is no error
pub on_ok : {T E P Q : Type 0} (r : Result T E) → (P → Q) → OnOk r P → OnOk r Q
on_ok (Ok x) f h = f h
on_ok (Err e) f h = tt

-- a list with one more at its end is not empty
pub some_snoc : (R : List Record) (r : Record) → R ++ (r ∷ []) ≢ []
some_snoc [] r e = cc
some_snoc (x ∷ R) r e = cc

-- numbers that fall from below n fall from below any greater number
fall_up : (n m : ℕ) (gaps : List Gap) → n ≤ m → Fall n gaps → Fall m gaps
fall_up n m [] h f = tt
fall_up n m (g ∷ gaps) h f = (omega (arith, f.0), f.1)

-- numbers that fall from below n are all below n
within : (n : ℕ) (gaps : List Gap) → Fall n gaps → AreWithin n gaps
within n [] f = All-nil (λ g. g.id < n)
within n (g ∷ gaps) f = All-cons (λ g. g.id < n) g gaps f.0 (within n gaps (fall_up g.id n gaps (omega (arith, f.0)) f.1))

-- with the next node's number before them, where it waits, they fall still
fall_next : (b : Bool) (level : ℕ) (label : List ℕ) (n : ℕ) (gaps : List Gap) → Fall n gaps
    → Fall (n + 1) (gap_if b level label n ++ gaps)
fall_next true level label n gaps f = (omega arith, f)
fall_next false level label n gaps f = fall_up n (n + 1) gaps (omega arith) f

-- one node more that waits adds its number at the end of those that wait
ids_next : (b : Bool) (level : ℕ) (label : List ℕ) (n : ℕ) (gaps : List Gap) (w : List ℕ)
    → ids gaps ≡ reverse w → ids (gap_if b level label n ++ gaps) ≡ reverse (w ++ number_if b n)
ids_next true level label n gaps w e = ap (λ l. n ∷ l) e ∙ sym (reverse-append w (n ∷ []))
ids_next false level label n gaps w e = e ∙ ap reverse (sym (append-nil w))

-- what is due beside the node that waits comes before what is due beside the others
dues_next : (b : Bool) (level : ℕ) (label : List ℕ) (n : ℕ) (gaps : List Gap)
    → dues (gap_if b level label n ++ gaps) ≡ due_where b (record { level = level; after = Some label }) ++ dues gaps
dues_next true level label n gaps = refl
dues_next false level label n gaps = refl

-- behind a record its child is due, then its sibling, then what was due before
pub due_next : (r : Record) (level n : ℕ) (gaps : List Gap) → r.level ≡ level
    → due_behind r ++ dues gaps ≡ due_where r.child (record { level = level + 1; after = None }) ++ dues (gap_if r.sibling level r.label n ++ gaps)
due_next r level n gaps e =
    append_assoc (due_where r.child (record { level = r.level + 1; after = None }))
    (due_where r.sibling (record { level = r.level; after = Some r.label })) (dues gaps)
    ∙ (λ i. due_where r.child (record { level = e i + 1; after = None }) ++ (due_where r.sibling (record { level = e i; after = Some r.label }) ++ dues gaps))
    ∙ ap (λ l. due_where r.child (record { level = level + 1; after = None }) ++ l) (sym (dues_next r.sibling level r.label n gaps))

module _ {V : Type 0} where
  -- the siblings have two nodes
  abbrev HasTwo : Siblings V → Type 0
  HasTwo end = ⊥
  HasTwo (node l v c s) = has_node s ≡ true

  -- a node that takes in its lone child where it has to is one node, with the same siblings
  shape : (l : List ℕ) (v : Option V) (c s : Siblings V)
      → (k : List ℕ) × (w : Option V) × (d : Siblings V) × (over l v c s ≡ node k w d s)
  shape l (Some x) c s = (l, Some x, c, refl)
  shape l None end s = (l, None, end, refl)
  shape l None (node m w d end) s = (l ++ m, w, d, refl)
  shape l None (node m w d (node m' w' d' s')) s = (l, None, node m w d (node m' w' d' s'), refl)

  -- a node without value over two stays as it is
  kept_two : (l : List ℕ) (c s : Siblings V) → HasTwo c
      → over l None (joined c) s ≡ node l None (joined c) s
  kept_two l end s two = absurd two
  kept_two l (node m w d end) s two = absurd (cc)
  kept_two l (node m w d (node m' w' d' s')) s two =
      let (k, x, e, first) = shape m w (joined d) (joined (node m' w' d' s')) in
      let (k', x', e', second) = shape m' w' (joined d') (joined s') in
      let same : joined (node m w d (node m' w' d' s')) ≡ node k x e (node k' x' e' (joined s')) = first ∙ ap (λ t. node k x e t) second in
      subst (λ (t : Siblings V). over l None t s ≡ node l None t s) (sym same) refl

module _ (item : List ℕ → Type 0) {V : Type 0} where
  -- open siblings are open for equal nodes, with an equal root and an equal value
  at_same : (nodes now : List (Node V)) (root top : Option ℕ) (value held : Option V)
      (Allowed : Siblings V → Type 0) (level : ℕ) (gaps : List Gap) (R : List Record) (vs : List V)
      → now ≡ nodes → top ≡ root → held ≡ value
      → IsOpenAt item nodes root value Allowed level gaps R vs
      → IsOpenAt item now top held Allowed level gaps R vs
  at_same nodes now root top value held Allowed level gaps R vs e f g h =
      subst (λ n. IsOpenAt item n top held Allowed level gaps R vs) (sym e)
      (subst (λ r. IsOpenAt item nodes r held Allowed level gaps R vs) (sym f)
      (subst (λ v. IsOpenAt item nodes root v Allowed level gaps R vs) (sym g) h))

  -- and so are the places beside the nodes that wait
  beside_same : (nodes now : List (Node V)) (root top : Option ℕ) (value held : Option V)
      (gaps : List Gap) (R : List Record) (vs : List V) → now ≡ nodes → top ≡ root → held ≡ value
      → IsOpenBeside item nodes root value gaps R vs → IsOpenBeside item now top held gaps R vs
  beside_same nodes now root top value held gaps R vs e f g h =
      subst (λ n. IsOpenBeside item n top held gaps R vs) (sym e)
      (subst (λ r. IsOpenBeside item nodes r held gaps R vs) (sym f)
      (subst (λ v. IsOpenBeside item nodes root v gaps R vs) (sym g) h))

  -- and so is an open node
  within_same : (nodes now : List (Node V)) (root top : Option ℕ) (value held : Option V)
      (u : Unlaid V) (gaps : List Gap) (R : List Record) (vs : List V) → now ≡ nodes → top ≡ root
      → held ≡ value → IsOpenWithin item nodes root value u gaps R vs
      → IsOpenWithin item now top held u gaps R vs
  within_same nodes now root top value held u gaps R vs e f g h =
      subst (λ n. IsOpenWithin item n top held u gaps R vs) (sym e)
      (subst (λ r. IsOpenWithin item nodes r held u gaps R vs) (sym f)
      (subst (λ v. IsOpenWithin item nodes root v u gaps R vs) (sym g) h))

  -- a node is open whose label is the label so far
  record IsOpened (b : Building V) (x : Option V) (child : Bool) (R : List Record) (due : List Due) (vs : List V) : Type 0 where
    node : Unlaid V
    gaps : List Gap
    goes : IsOpenWithin item b.nodes b.root b.value node gaps R vs
    label : node.label ≡ b.label
    value : node.value ≡ x
    child_is : node.child ≡ child
    wait : Wait b (count_of b)
        (gap_if node.sibling node.level node.own_label (count_of b) ++ gaps) gaps
    due_is :
        due ≡ due_where child (record { level = node.below; after = None }) ++ dues (gap_if node.sibling node.level node.own_label (count_of b) ++ gaps)
    some : R ≢ []

  -- what is laid behind the nodes is the open node, with its label, value and child
  laid_is : (b new : Building V) (u : Unlaid V) (x : Option V) (child : Bool)
      → u.label ≡ b.label → u.value ≡ x → u.child ≡ child → Lays b x child new
      → new.nodes ≡ b.nodes ++ laid_node item b.nodes b.root b.value u ∷ []
  laid_is b new u x child l v c lays = lays.nodes ∙ (λ i. b.nodes ++ linked (sym l i) (sym v i) (next_if (sym c i) (count_of b)) None ∷ [])

  -- there is one node more
  laid_count : (b new : Building V) (x : Option V) (child : Bool) → Lays b x child new
      → count_of new ≡ count_of b + 1
  laid_count b new x child lays = ap length lays.nodes ∙ length-append b.nodes _

  -- the node that is laid waits before the others, where it has a sibling to come
  laid_wait : (b new : Building V) (u : Unlaid V) (x : Option V) (child : Bool) (gaps : List Gap)
      → Lays b x child new
      → Wait b (count_of b) (gap_if u.sibling u.level u.own_label (count_of b) ++ gaps) gaps
      → Wait new (count_of new) (gap_if u.sibling u.level u.own_label (count_of b) ++ gaps)
      (gap_if u.sibling u.level u.own_label (count_of b) ++ gaps)
  laid_wait b new u x child gaps lays wait = record {
    ids_are = wait.ids_are ∙ ap reverse (sym lays.waiting);
    fall = subst (λ n. Fall n (gap_if u.sibling u.level u.own_label (count_of b) ++ gaps))
        (sym (laid_count b new x child lays))
        (fall_next u.sibling u.level u.own_label (count_of b) gaps wait.fall);
  }

  -- it is laid, or left to take in its child
  closed : (b new : Building V) (x : Option V) (child : Bool) (R : List Record) (due : List Due)
      (vs : List V) → IsOpened b x child R due vs → ClosesAs b x child new
      → IsBuilt item new R due vs
  closed b new None true R due vs o e =
      subst (λ (n : Building V). IsBuilt item n R due vs) (sym e) (record {
        node = o.node;
        gaps = o.gaps;
        goes = o.goes;
        label = o.label;
        value = o.value;
        child = o.child_is;
        wait = record { ids_are = o.wait.ids_are; fall = o.wait.fall };
        due_is = o.due_is;
        some = o.some;
      })
  closed b new (Some x) true R due vs o (lays, next) =
      subst (λ n. IsBuiltAs item n new R due vs) (sym next) (record {
        level = o.node.below;
        gaps = gap_if o.node.sibling o.node.level o.node.own_label (count_of b) ++ o.gaps;
        goes = at_same _ new.nodes _ new.root _ new.value _ _ _ _ _
            (laid_is b new o.node (Some x) true o.label o.value o.child_is lays) lays.keeps.root
            lays.keeps.value
            (laid_above item b.nodes b.root b.value o.node o.gaps R vs o.goes (within (count_of b) o.gaps o.wait.fall) o.child_is (λ w. Unit {0})
            (λ c t s. subst (λ v. over o.node.label v (joined c) s ≡ node o.node.label v (joined c) s) (sym o.value) refl));
        wait = laid_wait b new o.node (Some x) true o.gaps lays o.wait;
        due_is = o.due_is;
        label = lays.label;
        some = o.some;
      })
  closed b new None false R due vs o (lays, next) =
      subst (λ n. IsBuiltAs item n new R due vs) (sym next) (record {
        gaps = gap_if o.node.sibling o.node.level o.node.own_label (count_of b) ++ o.gaps;
        goes = beside_same _ new.nodes _ new.root _ new.value _ _ _
            (laid_is b new o.node None false o.label o.value o.child_is lays) lays.keeps.root
            lays.keeps.value
            (laid_alone item b.nodes b.root b.value o.node o.gaps R vs o.goes (within (count_of b) o.gaps o.wait.fall) o.child_is);
        wait = laid_wait b new o.node None false o.gaps lays o.wait;
        due_is = o.due_is;
        label = lays.label;
        some = o.some;
      })
  closed b new (Some x) false R due vs o (lays, next) =
      subst (λ n. IsBuiltAs item n new R due vs) (sym next) (record {
        gaps = gap_if o.node.sibling o.node.level o.node.own_label (count_of b) ++ o.gaps;
        goes = beside_same _ new.nodes _ new.root _ new.value _ _ _
            (laid_is b new o.node (Some x) false o.label o.value o.child_is lays) lays.keeps.root
            lays.keeps.value
            (laid_alone item b.nodes b.root b.value o.node o.gaps R vs o.goes (within (count_of b) o.gaps o.wait.fall) o.child_is);
        wait = laid_wait b new o.node (Some x) false o.gaps lays o.wait;
        due_is = o.due_is;
        label = lays.label;
        some = o.some;
      })

  -- a record is opened where its siblings are due
  opens_at : (b new : Building V) (Allowed : Siblings V → Type 0) (level : ℕ) (gaps : List Gap)
      (R : List Record) (vs : List V)
      → IsOpenAt item b.nodes b.root b.value Allowed level gaps R vs
      → Wait b (count_of b) gaps gaps → b.label ≡ [] → (r : Record) (x : Option V)
      → IsInner item level r → is_some x ≡ r.value
      → ((c s : Siblings V) → has_node s ≡ r.sibling → Allowed (node r.label x c s)) → Opens b r new
      → IsOpened new x r.child (R ++ (r ∷ [])) (due_behind r ++ dues gaps) (vs ++ option_to_list x)
  opens_at b new Allowed level gaps R vs goes wait none r x inner vm allowed o =
      let items = o.nodes in
      let count : count_of new ≡ count_of b = ap length items in
      let u : Unlaid V = record { label = r.label; value = x; child = r.child; sibling = r.sibling; below = level + 1; level = level; own_label = r.label } in
      record {
        node = u;
        gaps = gaps;
        goes = within_same _ new.nodes _ new.root _ new.value u gaps _ _ items o.keeps.root
            o.keeps.value
            (opened item b.nodes b.root b.value Allowed level gaps R vs goes r x inner vm
            allowed);
        label = sym (o.label ∙ ap (λ l. l ++ r.label) none);
        value = refl;
        child_is = refl;
        wait = record {
          ids_are = ap (λ n. ids (gap_if r.sibling level r.label n ++ gaps)) count ∙ ids_next
              r.sibling level r.label (count_of b) gaps b.waiting wait.ids_are ∙ ap reverse
              (sym o.waiting);
          fall = subst (λ n. Fall n gaps) (sym count) wait.fall;
        };
        due_is = due_next r level (count_of new) gaps inner.level;
        some = some_snoc R r;
      }

  -- a record is joined to the open node above it
  joins_in : (b new : Building V) (due : Due) (waiting : List Due) (R : List Record) (vs : List V)
      → IsBuiltAs item Within b R (due ∷ waiting) vs → (r : Record) (x : Option V)
      → Suits item R due r → is_some x ≡ r.value → r.sibling ≡ false → Opens b r new
      → IsOpened new x r.child (R ++ (r ∷ [])) (due_behind r ++ waiting) (vs ++ option_to_list x)
  joins_in b new due waiting R vs built r x suits vm alone o =
      let u = built.node in
      let items = o.nodes in
      let count : count_of new ≡ count_of b = ap length items in
      let head : due ≡ record { level = u.below; after = None } = (let e = built.due_is in cc) in
      let tails : waiting ≡ dues (gap_if u.sibling u.level u.own_label (count_of b) ++ built.gaps) = (let e = built.due_is in cc) in
      let inner = subst (λ (d : Due). IsInner item d.level r) head (suits.inner built.some) in
      let joined : Unlaid V = record {
        label = u.label ++ r.label;
        value = x;
        child = r.child;
        sibling = u.sibling;
        below = u.below + 1;
        level = u.level;
        own_label = u.own_label;
      } in
      record {
        node = joined;
        gaps = built.gaps;
        goes = within_same _ new.nodes _ new.root _ new.value joined built.gaps _ _ items
            o.keeps.root o.keeps.value
            (joined_in item b.nodes b.root b.value u built.gaps R vs built.goes built.value
            built.child r x inner vm alone);
        label = ap (λ l. l ++ r.label) built.label ∙ sym o.label;
        value = refl;
        child_is = refl;
        wait = record {
          ids_are = ap (λ n. ids (gap_if u.sibling u.level u.own_label n ++ built.gaps)) count ∙
              built.wait.ids_are ∙ ap reverse
              (sym (o.waiting ∙ ap (λ s. b.waiting ++ number_if s (count_of b)) alone ∙
              append-nil b.waiting));
          fall = subst (λ n. Fall n built.gaps) (sym count) built.wait.fall;
        };
        due_is =
            (λ i. (due_where r.child (record { level = inner.level i + 1; after = None }) ++
            due_where (alone i) (record { level = r.level; after = Some r.label })) ++ tails i)
            ∙ ap (λ l. l ++ dues (gap_if u.sibling u.level u.own_label (count_of b) ++ built.gaps))
            (append-nil (due_where r.child (record { level = u.below + 1; after = None })))
            ∙ ap (λ n. due_where r.child (record { level = u.below + 1; after = None }) ++ dues
            (gap_if u.sibling u.level u.own_label n ++ built.gaps)) (sym count);
        some = some_snoc R r;
      }

  -- the open node is laid, and a record with a sibling is opened below it
  opens_over :
      (b mid new : Building V) (due : Due) (waiting : List Due) (R : List Record) (vs : List V)
      → IsBuiltAs item Within b R (due ∷ waiting) vs → (r : Record) (x : Option V)
      → Suits item R due r → is_some x ≡ r.value → r.sibling ≡ true → Lays b None true mid
      → Opens mid r new
      → IsOpened new x r.child (R ++ (r ∷ [])) (due_behind r ++ waiting) (vs ++ option_to_list x)
  opens_over b mid new due waiting R vs built r x suits vm many lays o =
      let u = built.node in
      let gaps = gap_if u.sibling u.level u.own_label (count_of b) ++ built.gaps in
      let head : due ≡ record { level = u.below; after = None } = (let e = built.due_is in cc) in
      let tails : waiting ≡ dues gaps = (let e = built.due_is in cc) in
      let inner = subst (λ (d : Due). IsInner item d.level r) head (suits.inner built.some) in
      let goes = at_same _ mid.nodes _ mid.root _ mid.value HasTwo u.below gaps R vs
      (laid_is b mid u None true built.label built.value built.child lays) lays.keeps.root
      lays.keeps.value
      (laid_above item b.nodes b.root b.value u built.gaps R vs built.goes (within (count_of b) built.gaps built.wait.fall) built.child HasTwo
      (λ c two s. subst (λ v. over u.label v (joined c) s ≡ node u.label v (joined c) s) (sym built.value) (kept_two u.label c s two))) in
      let wait = laid_wait b mid u None true built.gaps lays (record { ids_are = built.wait.ids_are; fall = built.wait.fall }) in
      subst (λ w. IsOpened new x r.child (R ++ (r ∷ [])) (due_behind r ++ w) (vs ++ option_to_list x)) (sym tails)
      (opens_at mid new HasTwo u.below gaps R vs goes wait lays.label r x inner vm (λ c s e. e ∙ many) o)

  -- the node that waits last is linked, and a record is opened beside it
  opens_beside :
      (b mid new : Building V) (due : Due) (waiting : List Due) (R : List Record) (vs : List V)
      → IsBuiltAs item Beside b R (due ∷ waiting) vs → (r : Record) (x : Option V)
      → Suits item R due r → is_some x ≡ r.value → HasLinked b mid → Opens mid r new
      → IsOpened new x r.child (R ++ (r ∷ [])) (due_behind r ++ waiting) (vs ++ option_to_list x)
  opens_beside b mid new due waiting R vs built r x suits vm link o = by built.gaps built.due_is built.goes built.wait
    where
      by : (gaps : List Gap) → due ∷ waiting ≡ dues gaps
          → IsOpenBeside item b.nodes b.root b.value gaps R vs → Wait b (count_of b) gaps gaps
          → IsOpened new x r.child (R ++ (r ∷ [])) (due_behind r ++ waiting)
          (vs ++ option_to_list x)
      by [] e goes wait = absurd (cc)
      by (g ∷ gaps) e goes wait =
          let head : due ≡ record { level = g.level; after = Some g.label } = cc in
          let tails : waiting ≡ dues gaps = cc in
          let stack : g.id ∷ ids gaps ≡ link.id ∷ reverse mid.waiting = wait.ids_are ∙ ap
          reverse link.waiting ∙ reverse-append mid.waiting (link.id ∷ []) in
          let is : g.id ≡ link.id = cc in
          let others : ids gaps ≡ reverse mid.waiting = cc in
          let there = slice_get-get_or b.nodes g.id (linked [] None None None) (wait.fall.0) in
          let n = get_or b.nodes g.id (linked [] None None None) in
          let now = linked n.label n.value n.child (Some (count_of b)) in
          let nodes : mid.nodes ≡ set b.nodes g.id now = link.nodes n
          (ap (slice_get b.nodes) (sym is) ∙ there) ∙ ap
          (λ k. set b.nodes k now) (sym is) in
          let count : count_of mid ≡ count_of b = ap length nodes ∙ length-set b.nodes g.id now in
          let inner = subst (λ (d : Due). IsInner item d.level r) head (suits.inner built.some) in
          let goes_at = at_same _ mid.nodes _ mid.root _ mid.value
          (IsBeforeSiblings item g.label) g.level gaps R vs nodes link.keeps.root
          link.keeps.value
          (linked_beside item b.nodes b.root b.value g gaps R vs goes n there (not_at g.id gaps (within g.id gaps wait.fall.1))) in
          let wait_mid : Wait mid (count_of mid) gaps gaps = record {
            ids_are = others;
            fall = subst (λ k. Fall k gaps) (sym count)
                (fall_up g.id (count_of b) gaps (omega (arith, wait.fall.0)) wait.fall.1);
          } in
          let opened = opens_at mid new (IsBeforeSiblings item g.label) g.level gaps R vs goes_at
          wait_mid (link.label ∙ built.label) r x inner vm
          (λ c s e. suits.order g.label (ap (λ (d : Due). d.after) head)) o in
          subst (λ w. IsOpened new x r.child (R ++ (r ∷ [])) (due_behind r ++ w) (vs ++ option_to_list x)) (sym tails) opened

  -- a record that is not the root is added
  pub added : (old mid open_now new : Building V) (r : Record) (x : Option V) → (old.next ≡ Root → ⊥)
      → Prepares old.next old r.sibling mid → Opens mid r open_now → ClosesAs open_now x r.child new
      → BuildsRecord item old r x new
  added old mid open_now new r x inner prepared o c R due waiting vs built suits vm = closed open_now new x r.child _ _ _ (by old.next inner prepared built) c
    where
      at : mid ≡ old → Opens mid r open_now → Opens old r open_now
      at e = subst (λ (b : Building V). Opens b r open_now) e

      by : (next : Next) → (next ≡ Root → ⊥) → Prepares next old r.sibling mid
          → IsBuiltAs item next old R (due ∷ waiting) vs
          → IsOpened open_now x r.child (R ++ (r ∷ [])) (due_behind r ++ waiting)
          (vs ++ option_to_list x)
      by Root not p b = absurd (not refl)
      by Below not p b =
          let head : due ≡ record { level = b.level; after = None } = (let e = b.due_is in cc) in
          let tails : waiting ≡ dues b.gaps = (let e = b.due_is in cc) in
          let inside = subst (λ (d : Due). IsInner item d.level r) head (suits.inner b.some) in
          subst (λ w. IsOpened open_now x r.child (R ++ (r ∷ [])) (due_behind r ++ w) (vs ++ option_to_list x)) (sym tails)
          (opens_at old open_now (λ w. Unit {0}) b.level b.gaps R vs b.goes b.wait b.label r x inside vm (λ c s e. tt) (at p o))
      by Within not p b = within_by r.sibling refl p b
        where
          within_by : (m : Bool) → r.sibling ≡ m → Prepares Within old m mid
              → IsBuiltAs item Within old R (due ∷ waiting) vs
              → IsOpened open_now x r.child (R ++ (r ∷ [])) (due_behind r ++ waiting)
              (vs ++ option_to_list x)
          within_by true e p b = opens_over old mid open_now due waiting R vs b r x suits vm e p o
          within_by false e p b = joins_in old open_now due waiting R vs b r x suits vm e (at p o)
      by Beside not p b = opens_beside old mid open_now due waiting R vs b r x suits vm p o
