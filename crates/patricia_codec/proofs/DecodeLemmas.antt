-- Reading and building, step by step.
use Rattle.std.proofs.Common.{◌≡◌, ◌≢◌, ◌⊎◌, inl, inr, ℕ, zero, suc, ◌+◌, ◌-◌, ◌<◌, ◌≤◌, Bool, true}
use Rattle.std.proofs.Common.{false, List, [], ◌∷◌, ◌++◌, drop, length, Option, Some, None, refl, sym, ap}
use Rattle.std.proofs.Common.{subst, ◌∙◌, arith, append-nil, append_assoc, length-append}
use Rattle.std.specs.Prelude.{is_some, reverse, IsSome}
use Rattle.std.specs.Option.{option_to_list}
use Rattle.std.proofs.lemmas.List.{reverse-append, reverse-reverse, nil_from_length}
use Rattle.std.proofs.lemmas.List.Elements.{All-nil, All-cons}
use Rattle.patricia_keys.specs.Keys.{IsKeyKind}
use Rattle.patricia_nodes.specs.declared.arena.NodeArena.{NodeArena}
use Rattle.patricia_store.specs.Internal.Nodes.{Nodes}
use Rattle.patricia_store.specs.Internal.Renumbering.{moved}
use Rattle.patricia_nodes.specs.Internal.Plans.{Plan, below, first, siblings_in, IsSound}
use Rattle.patricia_wire.specs.Records.{Record, bit_if}
use Rattle.patricia_wire.specs.Forests.{Root}
use Rattle.patricia_wire.specs.Faults.{value_marks}
use Rattle.patricia_wire.specs.Internal.Readings.{level, root_label, root_sibling, empty_label}
use Rattle.patricia_wire.specs.Internal.Readings.{no_value_no_child, Due, IsRead, nothing, IsAfter}
use Rattle.patricia_wire.proofs.Readings.{same_number, root_due, first_due}
use Rattle.patricia_wire.proofs.ReadingsFaults.{marks_more}
use Rattle.patricia_codec.specs.declared.builder.Builder.{Builder}
use Rattle.patricia_codec.specs.declared.reader.Reader.{Reader}
use Rattle.patricia_codec.specs.Internal.Growing.{Gap, IsGrown}
use Rattle.patricia_codec.specs.Internal.Builds.{Building}
use Rattle.patricia_codec.specs.Internal.Builds.{ids, dues, Fall, Suits}
use Rattle.patricia_codec.specs.Internal.Builds.{IsBuiltAs, IsBuilt}
use Rattle.patricia_codec.specs.Internal.Steps.{IsReaderStart, IsAccepted, IsReading, ReachesEnd}
use Rattle.patricia_codec.specs.Internal.Placing.{IsPlaced, StandsFor, LinksEmpty, next_place}
use Rattle.patricia_codec.proofs.BuildSteps.{CanAdd, CanLink}
use Rattle.patricia_codec.proofs.EndLemmas.{grown, grown_tree, IsDone, done, beside_last}
use Rattle.patricia_codec.proofs.PlacedTrees.{sound_at}
use Rattle.patricia_codec.proofs.ReaderLemmas.{spelled_all}

module _ (item : List ℕ → Type 0) where
  -- at the start the root is due
  pub started : (w n : ℕ) (p : Reader) → IsReaderStart p
      → IsReading item w n p [] ((record { level = 0; after = None }) ∷ [])
  started w n p start = record {
    read = nothing;
    reads = rw start.offset (record { read = []; spelled = refl; joined = refl; ends = refl });
    due_is = ap reverse start.due;
    after = All-cons (IsAfter item) (record { level = 0; after = None }) [] (λ l none. absurd (cc)) (All-nil (IsAfter item));
  }

  -- fewer bytes are left where a reader has read on
  pub fewer_left : (w n : ℕ) (p q : Reader) (before : List Record) (due : List Due)
      → q.bytes.now ≡ p.bytes.now → p.offset < q.offset → IsReading item w n q before due
      → length q.bytes.now - q.offset < length p.bytes.now - p.offset
  fewer_left w n p q before due bytes further reading =
      let whole = ap length reading.reads.joined in
      let parts = length-append reading.reads.read (drop q.offset q.bytes.now) in
      omega (arith, further, reading.reads.ends, whole, parts, ap length bytes)

  -- where a record is due beside a node, this node waits
  pub can_add :
      {V : Type 0} (b : Building V) (R : List Record) (due : Due) (waiting : List Due) (vs : List V)
      → IsBuilt item b R (due ∷ waiting) vs → CanAdd b
  can_add b R due waiting vs built beside =
      (let s = subst (λ n. IsBuiltAs item n b R (due ∷ waiting) vs) beside built in by s.gaps
      s.due_is s.wait.ids_are s.wait.fall)
    where
      by : (gaps : List Gap) → due ∷ waiting ≡ dues gaps → ids gaps ≡ reverse b.waiting
          → Fall (length b.nodes) gaps → CanLink b
      by [] e same fall = absurd (cc)
      by (g ∷ gaps) e same fall = record {
        others = reverse (ids gaps);
        id = g.id;
        waiting = sym (reverse-reverse b.waiting) ∙ ap reverse (sym same) ∙ reverse-append (g.id ∷ []) (ids gaps);
        within = fall.0;
      }

  -- of two marks that are not both unset, one is set
  some_mark : (v c : Bool) → ((v ≡ false) × (c ≡ false) → ⊥) → (v ≡ true) ⊎ (c ≡ true)
  some_mark true c h = inl refl
  some_mark false true h = inr refl
  some_mark false false h = absurd (h (refl, refl))

  -- a label that cannot have bytes is empty
  some_bytes : (l : List ℕ) → (l ≢ [] → ⊥) → l ≡ []
  some_bytes [] h = refl
  some_bytes (x ∷ l) h = absurd (h (λ e. cc))

  -- a mark that cannot be set is unset
  unset : (b : Bool) → (b ≡ true → ⊥) → b ≡ false
  unset true h = absurd (h refl)
  unset false h = refl

  -- a record that keeps the rules suits the place that is due
  pub suited : (n left : ℕ) (before : List Record) (due : Due) (waiting : List Due) (r : Record)
      → IsRead item n before (due ∷ waiting) → IsAccepted item due left r → length r.label ≤ 255
      → Suits item before due r
  suited n left before due waiting r read keeps fits = record {
    root = λ none.
        let first = first_due item n before due waiting read none in
        let zero = first.0 in
        (at_level ∙ zero, some_bytes r.label (λ some. keeps.rules root_label (zero, some)), unset r.sibling (λ many. keeps.rules root_sibling (zero, many)));
    inner = λ some.
        let deep : due.level ≢ 0 = λ z. some (root_due item n before due waiting read z) in
        record {
          level = at_level;
          fits = fits;
          nonempty = λ none. keeps.rules empty_label (deep, none);
          valid = keeps.label.0;
          marked = some_mark r.value r.child (λ none. keeps.rules no_value_no_child (deep, none.0, none.1));
        };
    order = λ l is. keeps.label.1 l is;
  }
    where
      at_level : r.level ≡ due.level
      at_level = same_number r.level due.level (keeps.rules level)

module _ {V : Type 0} where
  -- the values left and the value marks read are together as many as all values
  pub counted : (all taken items : List V) (before : List Record) (left : ℕ) → all ≡ taken ++ items
      → length taken ≡ value_marks before → left ≡ length items
      → left + value_marks before ≡ length all
  counted all taken items before left split marks is = omega (arith, ap length split, length-append taken items, marks, is)

  -- a value is taken off the front of those that are left
  pub split_on : (all taken items rest : List V) (value : Option V) → all ≡ taken ++ items
      → items ≡ option_to_list value ++ rest → all ≡ (taken ++ option_to_list value) ++ rest
  split_on all taken items rest value split e = split ∙ ap (λ l. taken ++ l) e ∙ sym (append_assoc taken (option_to_list value) rest)

  -- one value is taken where the mark is set, and none where it is not
  given_mark : (value : Option V) (b : Bool) → is_some value ≡ b
      → length (option_to_list value) ≡ bit_if b 1
  given_mark (Some x) true e = refl
  given_mark (Some x) false e = absurd (cc)
  given_mark None true e = absurd (cc)
  given_mark None false e = refl

  -- as many values are taken as there are marks
  pub marks_on : (taken : List V) (value : Option V) (before : List Record) (r : Record)
      → length taken ≡ value_marks before → is_some value ≡ r.value
      → length (taken ++ option_to_list value) ≡ value_marks (before ++ (r ∷ []))
  marks_on taken value before r marks is = omega (arith, length-append taken (option_to_list value), marks, given_mark value r.value is, marks_more before r)

  -- the count less a value that is taken is that of the values left
  pub left_on : (items rest : List V) (value : Option V) (len was : ℕ)
      → items ≡ option_to_list value ++ rest → len + length (option_to_list value) ≡ was
      → was ≡ length items → len ≡ length rest
  left_on items rest value len was e step is = omega (arith, ap length e, length-append (option_to_list value) rest, step, is)

  -- a record takes a value where it has the mark
  pub record Takes (mark : Bool) (value : Option V) (all rest : List V) (was left : ℕ) : Type 0 where
    pub is : is_some value ≡ mark
    pub items : all ≡ option_to_list value ++ rest
    pub len : left + length (option_to_list value) ≡ was

  -- a record with a value mark takes a value
  pub takes_some : (mark : Bool) → mark ≡ true
      → (value : Option V) (items rest : List V) (was len : ℕ) → IsSome value
      → items ≡ option_to_list value ++ rest → len + length (option_to_list value) ≡ was
      → Takes mark value items rest was len
  takes_some mark set value items rest was len some e step = record { is = some ∙ sym set; items = e; len = step }

  -- and one without takes none
  pub takes_none : (mark : Bool) → mark ≡ false → (items : List V) (was : ℕ)
      → Takes mark None items items was was
  takes_none mark unset items was = record { is = sym unset; items = refl; len = omega arith }

-- where the number is not 0, a value is left
pub some_left : (left len : ℕ) → left ≡ len → (left ≡ 0 → ⊥) → 0 < len
some_left zero len e h = absurd (h refl)
some_left (suc left) len e h = omega (arith, e)

-- where the number is 0, all values are taken
pub all_taken : {V : Type 0} (all taken rest : List V) (len : ℕ) → all ≡ taken ++ rest
    → len ≡ length rest → len ≡ 0 → all ≡ taken
all_taken all taken rest len split is z = split ∙ ap (λ l. taken ++ l) (nil_from_length rest (omega (arith, is, z))) ∙ append-nil taken

-- records are read and built with these values, and nothing more is due
module _ (item : List ℕ → Type 0) (w : ℕ) {V : Type 0} (b : Builder V) (p q : Reader) (n : ℕ)
    (R : List Record) (due : List Due) (taken : List V) (reading : IsReading item w n p R due)
    (placed : IsPlaced item b R due taken) (ends : ReachesEnd item w p q) where
  -- no record is due behind those that were read
  pub read_all : IsReading item w n q R []
  read_all = let on = ends n R due reading in on.1

  abbrev a : Building V
  a = placed.ordered

  built_all : IsBuilt item a R [] taken
  built_all = let on = ends n R due reading in subst (λ l. IsBuilt item a R l taken) on.0 placed.built

  -- the nodes in the order of keys stand for a tree of these records and values, in which each
  -- number stands once
  grown_all : IsGrown item a.nodes a.root a.value R taken (below (length a.nodes)) (length a.nodes)
  grown_all = grown item a R taken built_all

  -- they are a whole tree
  pub tree_of_all : (E : List (List ℕ)) × Root item R E
  tree_of_all = (_, grown_tree item a.nodes a.root a.value R taken _ _ grown_all)

  -- where neither bytes nor values are left, the bytes and the values are decoded
  pub decoded : (kind : IsKeyKind item) (bytes : List ℕ) → q.bytes.now ≡ bytes
      → (items rest : List V) (left : ℕ) → items ≡ taken ++ rest → left ≡ length rest
      → (q.offset ≡ length q.bytes.now) × (left ≡ 0)
      → (nodes : Nodes V) (free : Option ℕ) (chain : List ℕ) → LinksEmpty b.nodes.items nodes.items chain
      → free ≡ first chain → (edits : ℕ)
      → IsDone item w (record { nodes = nodes; root = b.root; free = free; edits = edits }) b.value bytes items
  decoded kind bytes same items rest left split count over nodes free chain links free_is edits =
      subst (λ l. IsDone item w s b.value l items) same (subst (IsDone item w s b.value q.bytes.now) (sym (all_taken items taken rest left split count over.1))
      (subst (λ v. IsDone item w s v q.bytes.now taken) stands.value
      (done item w kind s a.value R taken q.bytes.now a.nodes a.root _ _ grown_all there.0 chain
      (subst (λ r. IsSound nodes.items r free there.0 chain) (sym root) (subst (λ f. IsSound nodes.items (moved placed.places a.root) f there.0 chain) (sym free_is) there.1))
      there.2 (spelled_all item w q n R [] read_all (omega (arith, over.0))))))
    where
      s : NodeArena V
      s = record { nodes = nodes; root = b.root; free = free; edits = edits }

      stands : StandsFor b a placed.places []
      stands = subst (λ n. StandsFor b a placed.places (next_place n b.at)) (sym placed.next ∙ beside_last item a R taken built_all) placed.stands

      root : b.root ≡ moved placed.places a.root
      root = stands.root ∙ ap (λ l. moved l a.root) (append-nil placed.places)

      there : (q : Plan V) × IsSound nodes.items (moved placed.places a.root) (first chain) q chain
          × (siblings_in q ≡ siblings_in grown_all.plan)
      there = sound_at b.nodes.items nodes.items a.nodes placed.places chain stands.lie links a.root grown_all.plan
          grown_all.hangs.stands grown_all.hangs.at_is grown_all.numbers
