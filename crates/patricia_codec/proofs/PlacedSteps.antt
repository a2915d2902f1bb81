-- What the builder does, as it would be done in the order of keys.
use Rattle.std.proofs.Common.{◌≡◌, ◌≢◌, inl, inr, ℕ, zero, suc, ◌+◌, ◌<◌, ◌≤◌, Bool, true, false}
use Rattle.std.proofs.Common.{List, [], ◌∷◌, ◌++◌, length, replicate, Option, Some, None, slice_get}
use Rattle.std.proofs.Common.{set, map, refl, sym, ap, subst, ◌∙◌, arith, length-append}
use Rattle.std.proofs.Common.{length-set, append-nil}
use Rattle.std.specs.Prelude.{All}
use Rattle.std.proofs.lemmas.Option.{slice_get_within, get_or_from_slice_get}
use Rattle.std.proofs.lemmas.List.{nil_from_length}
use Rattle.std.proofs.lemmas.List.Elements.{All-nil, All-cons, All-head, All-tail, All-append}
use Rattle.patricia_store.specs.Internal.Nodes.{blank, Node}
use Rattle.patricia_store.specs.Internal.Renumbering.{place_of, moved, renumbered}
use Rattle.patricia_codec.proofs.GrowingLemmas.{next_if}
use Rattle.patricia_nodes.specs.Internal.Plans.{linked}
use Rattle.patricia_nodes.specs.Internal.Writes.{IsWithin}
use Rattle.patricia_nodes.proofs.WriteLemmas.{get-push_same}
use Rattle.patricia_wire.specs.Records.{Record}
use Rattle.patricia_codec.specs.declared.builder.Builder.{Builder}
use Rattle.patricia_codec.specs.declared.builder.Next.{Next}
use Rattle.patricia_codec.specs.declared.builder.Next.TheVariants.{Root, Below, Within, Beside}
use Rattle.patricia_codec.specs.Internal.Builds.{IsUnbuilt, Building, count_of, number_if}
use Rattle.patricia_codec.specs.Internal.Placing.{LieAt, IsOutside, made_of, next_place}
use Rattle.patricia_codec.specs.Internal.Placing.{LaysAt, LinksAt, OpensAt, ClosesAt}
use Rattle.patricia_codec.specs.Internal.Placing.{PreparesAt, AddsRootAt, StandsFor}
use Rattle.patricia_codec.proofs.BuildSteps.{Lays, HasLinked, Opens, ClosesAs, Prepares, AddsRoot}
use Rattle.patricia_codec.proofs.PlacingLemmas.{lie-row, lie-laid, lie-linked, moved-more, place-more}
use Rattle.patricia_codec.proofs.PlacingLemmas.{renumbered-more, within-more, get-places}

-- a list whose image ends with an item ends with one that has it for its image
map-end : {X Y : Type 0} (f : X → Y) (xs : List X) (ys : List Y) (y : Y) → map f xs ≡ ys ++ y ∷ []
    → (zs : List X) × (z : X) × (xs ≡ zs ++ z ∷ []) × (map f zs ≡ ys) × (f z ≡ y)
map-end f [] [] y e = absurd (cc)
map-end f [] (w ∷ ys) y e = absurd (cc)
map-end f (x ∷ []) [] y e = ([], x, refl, refl, cc)
map-end f (x ∷ z ∷ xs) [] y e = absurd (cc)
map-end f (x ∷ xs) (w ∷ ys) y e =
    let (zs, z, is, same, last) = map-end f xs ys y cc in
    (x ∷ zs, z, ap (λ l. x ∷ l) is, (λ i. first i ∷ same i), last)
  where
    first : f x ≡ w
    first = cc

-- the image of a list and one more
pub map-push : {X Y : Type 0} (f : X → Y) (xs : List X) (x : X) → map f (xs ++ x ∷ []) ≡ map f xs ++ f x ∷ []
map-push f [] x = refl
map-push f (y ∷ xs) x = ap (λ l. f y ∷ l) (map-push f xs x)

-- the item below the length
pub item_at : {X : Type 0} (xs : List X) (i : ℕ) → i < length xs → (x : X) × (slice_get xs i ≡ Some x)
item_at [] i h = absurd (omega (arith, h))
item_at (x ∷ xs) zero h = (x, refl)
item_at (x ∷ xs) (suc i) h = item_at xs i (omega (arith, h))

-- numbers whose places are known have the same, whatever places come behind
places-more : (xs ys : List ℕ) (ks : List ℕ) → All (λ k. k < length xs) ks
    → map (place_of (xs ++ ys)) ks ≡ map (place_of xs) ks
places-more xs ys [] h = refl
places-more xs ys (k ∷ ks) h =
    (λ i. place-more xs ys k (All-head (λ k. k < length xs) k ks h) i ∷ places-more xs ys ks (All-tail (λ k. k < length xs) k ks h) i)

-- numbers below a length are below a greater one
all-more : (n m : ℕ) (ks : List ℕ) → n ≤ m → All (λ k. k < n) ks → All (λ k. k < m) ks
all-more n m [] h a = All-nil (λ k. k < m)
all-more n m (k ∷ ks) h a =
    All-cons (λ k. k < m) k ks (omega (arith, h, All-head (λ k. k < n) k ks a)) (all-more n m ks h (All-tail (λ k. k < n) k ks a))

-- what is so of each of two lists is so of the first
All-front : {X : Type 0} (P : X → Type 0) (xs ys : List X) → All P (xs ++ ys) → All P xs
All-front P [] ys h = All-nil P
All-front P (x ∷ xs) ys h = All-cons P x xs (All-head P x (xs ++ ys) h) (All-front P xs ys (All-tail P x (xs ++ ys) h))

-- and of the last item
All-last : {X : Type 0} (P : X → Type 0) (xs : List X) (x : X) → All P (xs ++ x ∷ []) → P x
All-last P [] x h = All-head P x [] h
All-last P (y ∷ xs) x h = All-last P xs x (All-tail P y (xs ++ x ∷ []) h)

module _ {V : Type 0} where
  -- a node without label has no place
  outside : (nodes ordered : List (Node V)) (places next : List ℕ) (to : ℕ) (n : Node V)
      → LieAt nodes ordered places next → slice_get nodes to ≡ Some n → n.label ≡ [] → IsOutside places to
  outside nodes ordered places next to n lie at none k is =
      let (m, there) = item_at ordered k (omega (arith, slice_get_within places k to is, lie.long)) in
      let same : n ≡ renumbered (places ++ next) m = some-node (sym at ∙ lie.node k to m is there) in
      lie.filled k m there (sym (ap (λ (n : Node V). n.label) same) ∙ none)
    where
      some-node : {x y : Node V} → Some x ≡ Some y → x ≡ y
      some-node e = cc

  -- the first blank node that is made has no place
  outside-made : (nodes ordered : List (Node V)) (places next : List ℕ) → LieAt nodes ordered places next
      → IsOutside places (length nodes)
  outside-made nodes ordered places next lie k is =
      let (m, there) = item_at ordered k (omega (arith, slice_get_within places k (length nodes) is, lie.long)) in
      omega (arith, slice_get_within nodes (length nodes) (renumbered (places ++ next) m) (lie.node k (length nodes) m is there))

  -- the next node is laid
  pub laid_at : (old new : Builder V) (a : Building V) (places : List ℕ) (value : Option V) (child : Bool)
      → StandsFor old a places (old.at ∷ []) → old.label.items ≢ [] → LaysAt old value child new
      → (b : Building V) × Lays a value child b × (b.next ≡ new.next)
      × StandsFor new b (places ++ old.at ∷ []) (next_place new.next new.at)
  laid_at old new a places value child stands some lays = by child lays
    where
      ordered : Bool → Next → Building V
      ordered child next = record {
        value = a.value;
        root = a.root;
        nodes = a.nodes ++ linked a.label value (next_if child (count_of a)) None ∷ [];
        label = [];
        waiting = a.waiting;
        next = next;
      }

      is_laid : (child : Bool) (next : Next) → Lays a value child (ordered child next)
      is_laid child next = record { nodes = refl; label = refl; waiting = refl; keeps = record { root = refl; value = refl } }

      away : IsOutside places old.at
      away = let t = All-head (λ at. (at < made_of old) × IsOutside places at) old.at [] stands.there in t.1

      -- what stands at places that are known stands there with more behind
      rest : (b : Builder V) (child : Bool) (next : Next) (later : List ℕ)
          → LieAt b.nodes.items (ordered child next).nodes (places ++ old.at ∷ []) later
          → All (λ at. (at < made_of b) × IsOutside (places ++ old.at ∷ []) at) later
          → b.label.items ≡ [] → b.waiting ≡ old.waiting → b.value ≡ old.value → b.root ≡ old.root
          → StandsFor b (ordered child next) (places ++ old.at ∷ []) later
      rest b child next later lie there none waits value root = record {
        lie = lie;
        there = there;
        label = sym none;
        waiting = ap (λ w. w.items) waits ∙ stands.waiting ∙ sym (places-more (places ++ old.at ∷ []) later a.waiting stands.waits);
        waits = all-more _ (length ((places ++ old.at ∷ []) ++ later)) a.waiting (omega (arith, length-append (places ++ old.at ∷ []) later)) stands.waits;
        value = stands.value ∙ sym value;
        root = root ∙ stands.root ∙ sym (moved-more (places ++ old.at ∷ []) later a.root stands.rooted);
        rooted = within-more a.root _ (length ((places ++ old.at ∷ []) ++ later)) (omega (arith, length-append (places ++ old.at ∷ []) later)) stands.rooted;
      }

      by : (child : Bool) → LaysAt old value child new
          → (b : Building V) × Lays a value child b × (b.next ≡ new.next)
          × StandsFor new b (places ++ old.at ∷ []) (next_place new.next new.at)
      by false (put, puts, is) =
          let lie = lie-laid old.nodes.items a.nodes places old.at [] a.label value false 0 puts.was
          stands.lie away puts.there (λ none. some (sym stands.label ∙ none)) (λ e. absurd (cc)) in
          let here : LieAt put.nodes.items (ordered false Beside).nodes (places ++ old.at ∷ []) [] =
          subst (λ n. LieAt n (ordered false Beside).nodes (places ++ old.at ∷ []) [])
          (ap (λ l. set old.nodes.items old.at (linked l value None puts.was.sibling)) stands.label ∙ sym puts.nodes) lie in (
            ordered false Beside,
            is_laid false Beside,
            sym (ap (λ (b : Builder V). b.next) is),
            subst (λ (b : Builder V). StandsFor b (ordered false Beside) (places ++ old.at ∷ []) (next_place b.next b.at)) (sym is)
                (rest (record put { next = Beside }) false Beside [] here (All-nil (λ at. (at < made_of put) × IsOutside (places ++ old.at ∷ []) at)) puts.label
                (ap (λ (b : Builder V). b.waiting) puts.rest) (ap (λ (b : Builder V). b.value) puts.rest) (ap (λ (b : Builder V). b.root) puts.rest)),
          )
      by true (row, put, makes, puts, is) =
          let below = made_of old in
          let at_row : row.at ≡ old.at = ap (λ (b : Builder V). b.at) makes.rest in
          let label_row : row.label ≡ old.label = ap (λ (b : Builder V). b.label) makes.rest in
          let grown = lie-row old.nodes.items a.nodes places (old.at ∷ []) (suc makes.more) stands.lie in
          let row_lie : LieAt row.nodes.items a.nodes places (old.at ∷ []) = subst (λ n. LieAt n a.nodes places (old.at ∷ [])) (sym makes.nodes) grown in
          let there : slice_get row.nodes.items old.at ≡ Some puts.was = ap (slice_get row.nodes.items) (sym at_row) ∙ puts.there in
          let lie = lie-laid row.nodes.items a.nodes places old.at (below ∷ []) a.label value true below puts.was
          row_lie away there (λ none. some (sym stands.label ∙ none)) (λ e. refl) in
          let here : LieAt put.nodes.items (ordered true Below).nodes (places ++ old.at ∷ []) (below ∷ []) =
          subst (λ n. LieAt n (ordered true Below).nodes (places ++ old.at ∷ []) (below ∷ []))
          ((λ i. set row.nodes.items (sym at_row i) (linked ((stands.label ∙ ap (λ l. l.items) (sym label_row)) i) value (Some below) puts.was.sibling)) ∙ sym puts.nodes) lie in
          let more : made_of put ≡ length row.nodes.items = ap length puts.nodes ∙ length-set row.nodes.items row.at _ in
          let many : length row.nodes.items ≡ below + length (replicate (suc makes.more) (blank {V = V})) = ap length makes.nodes ∙ length-append old.nodes.items (replicate (suc makes.more) blank) in
          let outer : IsOutside (places ++ old.at ∷ []) below = λ k e. elim (get-places places old.at k below e) [
            | inl z ↦ let t = All-head (λ at. (at < made_of old) × IsOutside places at) old.at [] stands.there in
                omega (arith, z.1, t.0)
            | inr z ↦ outside-made old.nodes.items a.nodes places (old.at ∷ []) stands.lie k z.1
          ] in (
            ordered true Below,
            is_laid true Below,
            sym (ap (λ (b : Builder V). b.next) is),
            subst (λ (b : Builder V). StandsFor b (ordered true Below) (places ++ old.at ∷ []) (next_place b.next b.at)) (sym is)
                (rest (record put { at = below; next = Below }) true Below (below ∷ []) here
                (All-cons (λ at. (at < made_of put) × IsOutside (places ++ old.at ∷ []) at) below [] (omega (arith, more, many), outer)
                (All-nil (λ at. (at < made_of put) × IsOutside (places ++ old.at ∷ []) at))) puts.label
                (ap (λ (b : Builder V). b.waiting) (puts.rest) ∙ ap (λ (b : Builder V). b.waiting) makes.rest)
                (ap (λ (b : Builder V). b.value) (puts.rest) ∙ ap (λ (b : Builder V). b.value) makes.rest)
                (ap (λ (b : Builder V). b.root) (puts.rest) ∙ ap (λ (b : Builder V). b.root) makes.rest)),
          )

  -- the node that waits last is linked to the next one
  pub linked_at : (old new : Builder V) (a : Building V) (places : List ℕ) → StandsFor old a places []
      → LinksAt old new → (b : Building V) × HasLinked a b × StandsFor new b places (new.at ∷ [])
  linked_at old new a places stands links = (
    b,
    record {
      id = k;
      waiting = is;
      nodes = λ n at. ap (λ (n : Node V). set a.nodes k (linked n.label n.value n.child (Some (count_of a)))) (some-node (sym there ∙ at));
      label = refl;
      keeps = record { root = refl; value = refl };
    },
    record {
      lie = here;
      there = All-cons (λ at. (at < made_of new) × IsOutside places at) new.at [] (
        omega (arith, slice_get_within found.nodes.items new.at links.finds.empty links.finds.at, ap length links.nodes, length-set found.nodes.items links.id (record links.was { sibling = Some new.at })),
        outside found.nodes.items a.nodes places [] new.at links.finds.empty grown links.finds.at links.finds.at_empty,
      ) (All-nil (λ at. (at < made_of new) × IsOutside places at));
      label = stands.label ∙ ap (λ l. l.items) (sym same_label);
      waiting = ap (λ w. w.items) same_waiting ∙ sym same ∙ none_more ws few ∙ sym (places-more places (new.at ∷ []) ws few);
      waits = all-more _ _ ws (omega (arith, length-append places (new.at ∷ []))) few;
      value = stands.value ∙ sym same_value;
      root = same_root ∙ stands.root ∙ ap (λ l. moved l a.root) (append-nil places) ∙ sym (moved-more places (new.at ∷ []) a.root within_root);
      rooted = within-more a.root _ _ (omega (arith, length-append places (new.at ∷ []))) within_root;
    },
  )
    where
      found : Builder V
      found = links.found

      -- the numbers that wait, without the last
      ends : (zs : List ℕ) × (z : ℕ) × (a.waiting ≡ zs ++ z ∷ []) × (map (place_of (places ++ [])) zs ≡ links.popped.waiting.items)
          × (place_of (places ++ []) z ≡ links.id)
      ends = map-end (place_of (places ++ [])) a.waiting links.popped.waiting.items links.id (sym stands.waiting ∙ links.waiting)

      ws : List ℕ
      ws = ends.0

      k : ℕ
      k = ends.1

      is : a.waiting ≡ ws ++ k ∷ []
      is = ends.2

      same : map (place_of (places ++ [])) ws ≡ links.popped.waiting.items
      same = ends.3

      last : place_of (places ++ []) k ≡ links.id
      last = ends.4

      waits : All (λ k. k < length places) (ws ++ k ∷ [])
      waits = subst (λ l. All (λ k. k < length places) l) is (subst (λ l. All (λ k. k < length l) a.waiting) (append-nil places) stands.waits)

      few : All (λ k. k < length places) ws
      few = All-front (λ k. k < length places) ws (k ∷ []) waits

      short : k < length a.nodes
      short = omega (arith, stands.lie.long, All-last (λ k. k < length places) ws k waits)

      item : (m : Node V) × (slice_get a.nodes k ≡ Some m)
      item = item_at a.nodes k short

      m : Node V
      m = item.0

      there : slice_get a.nodes k ≡ Some m
      there = item.1

      b : Building V
      b = record a { nodes = set a.nodes k (linked m.label m.value m.child (Some (count_of a))); waiting = ws }

      none_more : (ks : List ℕ) → All (λ k. k < length places) ks → map (place_of (places ++ [])) ks ≡ map (place_of places) ks
      none_more ks h = places-more places [] ks h

      some-node : {x y : Node V} → Some x ≡ Some y → x ≡ y
      some-node e = cc

      within_root : IsWithin a.root (length places)
      within_root = subst (λ l. IsWithin a.root (length l)) (append-nil places) stands.rooted

      -- what the steps leave alone
      same_waiting : new.waiting ≡ links.popped.waiting
      same_waiting = ap (λ (b : Builder V). b.waiting) links.rest ∙ ap (λ (b : Builder V). b.waiting) links.finds.rest

      same_label : new.label ≡ old.label
      same_label = ap (λ (b : Builder V). b.label) links.rest ∙ ap (λ (b : Builder V). b.label) links.finds.rest ∙ ap (λ (b : Builder V). b.label) links.pops

      same_value : new.value ≡ old.value
      same_value = ap (λ (b : Builder V). b.value) links.rest ∙ ap (λ (b : Builder V). b.value) links.finds.rest ∙ ap (λ (b : Builder V). b.value) links.pops

      same_root : new.root ≡ old.root
      same_root = ap (λ (b : Builder V). b.root) links.rest ∙ ap (λ (b : Builder V). b.root) links.finds.rest ∙ ap (λ (b : Builder V). b.root) links.pops

      grown : LieAt found.nodes.items a.nodes places []
      grown = subst (λ n. LieAt n a.nodes places [])
          (ap (λ n. n ++ replicate links.finds.made blank) (sym (ap (λ (b : Builder V). b.nodes.items) links.pops)) ∙ sym links.finds.nodes)
          (lie-row old.nodes.items a.nodes places [] links.finds.made stands.lie)

      place : place_of places k ≡ links.id
      place = sym (place-more places [] k (All-last (λ k. k < length places) ws k waits)) ∙ last

      here : LieAt new.nodes.items b.nodes places (new.at ∷ [])
      here = subst (λ n. LieAt n b.nodes places (new.at ∷ []))
          ((λ i. set found.nodes.items (place i) (linked links.was.label links.was.value links.was.child (Some new.at))) ∙ sym links.nodes)
          (lie-linked found.nodes.items a.nodes places k new.at links.was m grown there (ap (slice_get found.nodes.items) place ∙ links.there))

  -- a record's label is taken behind the label so far
  pub opened_at : (old new : Builder V) (a : Building V) (places : List ℕ) (r : Record)
      → StandsFor old a places (old.at ∷ []) → OpensAt old r new
      → (b : Building V) × Opens a r b × StandsFor new b places (new.at ∷ [])
  opened_at old new a places r stands opens = (
    b,
    record { label = refl; waiting = refl; nodes = refl; keeps = record { root = refl; value = refl } },
    record {
      lie = subst (λ n. LieAt n a.nodes places (new.at ∷ [])) (sym (nodes)) (subst (λ i. LieAt old.nodes.items a.nodes places (i ∷ [])) (sym at) stands.lie);
      there = subst (λ i. All (λ at. (at < made_of new) × IsOutside places at) (i ∷ [])) (sym at)
          (subst (λ n. All (λ at. (at < length n) × IsOutside places at) (old.at ∷ [])) (sym nodes) stands.there);
      label = ap (λ l. l ++ r.label) stands.label ∙ sym opens.label;
      waiting = opens.waiting ∙ waits_on r.sibling ∙ ap (λ i. map (place_of (places ++ i ∷ [])) (a.waiting ++ number_if r.sibling (count_of a))) (sym at);
      waits = subst (λ n. All (λ k. k < n) (a.waiting ++ number_if r.sibling (count_of a))) (sym (length-append places (new.at ∷ [])))
          (All-append (λ k. k < length places + 1) a.waiting (number_if r.sibling (count_of a))
          (subst (λ n. All (λ k. k < n) a.waiting) (length-append places (old.at ∷ [])) stands.waits) (last_waits r.sibling));
      value = stands.value ∙ sym (ap (λ (b : Builder V). b.value) opens.rest);
      root = ap (λ (b : Builder V). b.root) opens.rest ∙ stands.root ∙ ap (λ i. moved (places ++ i ∷ []) a.root) (sym at);
      rooted = subst (λ n. IsWithin a.root n) (length-append places (old.at ∷ []) ∙ sym (length-append places (new.at ∷ []))) stands.rooted;
    },
  )
    where
      b : Building V
      b = record a { label = a.label ++ r.label; waiting = a.waiting ++ number_if r.sibling (count_of a) }

      at : new.at ≡ old.at
      at = ap (λ (b : Builder V). b.at) opens.rest

      nodes : new.nodes.items ≡ old.nodes.items
      nodes = ap (λ (b : Builder V). b.nodes.items) opens.rest

      next_here : place_of (places ++ old.at ∷ []) (count_of a) ≡ old.at
      next_here = get_or_from_slice_get (places ++ old.at ∷ []) (count_of a) old.at (count_of a)
          (ap (λ i. slice_get (places ++ old.at ∷ []) i) (sym stands.lie.long) ∙ get-push_same places old.at)

      waits_on : (mark : Bool) → old.waiting.items ++ number_if mark old.at
          ≡ map (place_of (places ++ old.at ∷ [])) (a.waiting ++ number_if mark (count_of a))
      waits_on true = (λ i. stands.waiting i ++ sym next_here i ∷ []) ∙ sym (map-push (place_of (places ++ old.at ∷ [])) a.waiting (count_of a))
      waits_on false = append-nil old.waiting.items ∙ stands.waiting ∙ ap (map (place_of (places ++ old.at ∷ []))) (sym (append-nil a.waiting))

      last_waits : (mark : Bool) → All (λ k. k < length places + 1) (number_if mark (count_of a))
      last_waits true = All-cons (λ k. k < length places + 1) (count_of a) [] (omega (arith, stands.lie.long)) (All-nil (λ k. k < length places + 1))
      last_waits false = All-nil (λ k. k < length places + 1)

-- where the next record belongs once a node is laid
abbrev after : Bool → Next
after true = Below
after false = Beside

module _ {V : Type 0} where
  -- it is there that it belongs
  lays_next : (old new : Builder V) (value : Option V) (child : Bool) → LaysAt old value child new
      → new.next ≡ after child
  lays_next old new value true (row, put, makes, puts, is) = ap (λ (b : Builder V). b.next) is
  lays_next old new value false (put, puts, is) = ap (λ (b : Builder V). b.next) is

  -- the node that was opened is laid, or takes in its child
  pub closed_at : (old new : Builder V) (a : Building V) (places : List ℕ) (value : Option V) (child : Bool)
      → StandsFor old a places (old.at ∷ []) → old.label.items ≢ [] → ClosesAt old value child new
      → (b : Building V) × (now : List ℕ) × ClosesAs a value child b × (b.next ≡ new.next)
      × StandsFor new b now (next_place new.next new.at) × (new.next ≡ Within → new.label.items ≢ [])
  closed_at old new a places None true stands some is = (
    record a { next = Within },
    places,
    refl,
    sym (ap (λ (b : Builder V). b.next) is),
    subst (λ (b : Builder V). StandsFor b (record a { next = Within }) places (next_place b.next b.at)) (sym is) (record {
      lie = stands.lie;
      there = stands.there;
      label = stands.label;
      waiting = stands.waiting;
      waits = stands.waits;
      value = stands.value;
      root = stands.root;
      rooted = stands.rooted;
    }),
    λ w none. some (ap (λ (b : Builder V). b.label.items) (sym is) ∙ none),
  )
  closed_at old new a places (Some x) true stands some lays =
      let (b, is, next, on) = laid_at old new a places (Some x) true stands some lays in
      let there = lays_next old new (Some x) true lays in
      (b, places ++ old.at ∷ [], (is, next ∙ there), next, on, λ w. absurd (let e = sym there ∙ w in cc))
  closed_at old new a places None false stands some lays =
      let (b, is, next, on) = laid_at old new a places None false stands some lays in
      let there = lays_next old new None false lays in
      (b, places ++ old.at ∷ [], (is, next ∙ there), next, on, λ w. absurd (let e = sym there ∙ w in cc))
  closed_at old new a places (Some x) false stands some lays =
      let (b, is, next, on) = laid_at old new a places (Some x) false stands some lays in
      let there = lays_next old new (Some x) false lays in
      (b, places ++ old.at ∷ [], (is, next ∙ there), next, on, λ w. absurd (let e = sym there ∙ w in cc))

  -- all is ready for a record that is not the root
  pub prepared_at : (old mid : Builder V) (a : Building V) (places : List ℕ) (sibling : Bool) (next : Next)
      → (next ≡ Root → ⊥) → StandsFor old a places (next_place next old.at)
      → (next ≡ Within → old.label.items ≢ []) → PreparesAt next old sibling mid
      → (b : Building V) × (now : List ℕ) × Prepares next a sibling b × StandsFor mid b now (mid.at ∷ [])
  prepared_at old mid a places sibling Root not stands some is = absurd (not refl)
  prepared_at old mid a places sibling Below not stands some is =
      (a, places, refl, subst (λ (b : Builder V). StandsFor b a places (b.at ∷ [])) (sym is) stands)
  prepared_at old mid a places true Within not stands some lays =
      let (b, is, next, on) = laid_at old mid a places None true stands (some refl) lays in
      let there = lays_next old mid None true lays in
      (b, places ++ old.at ∷ [], is, subst (λ n. StandsFor mid b (places ++ old.at ∷ []) (next_place n mid.at)) there on)
  prepared_at old mid a places false Within not stands some is =
      (a, places, refl, subst (λ (b : Builder V). StandsFor b a places (b.at ∷ [])) (sym is) stands)
  prepared_at old mid a places sibling Beside not stands some links =
      let (b, is, on) = linked_at old mid a places stands links in (b, places, is, on)

  -- the place of the next node is known
  lie-next : (nodes ordered : List (Node V)) (places next : List ℕ) → LieAt nodes ordered places []
      → LieAt nodes ordered places next
  lie-next nodes ordered places next lie = record {
    long = lie.long;
    node = λ k id n is at. lie.node k id n is at ∙ ap Some (same n (lie.child k n at) (lie.sibling k n at));
    apart = lie.apart;
    filled = lie.filled;
    child = λ k n at. within-more n.child _ _ more (lie.child k n at);
    sibling = λ k n at. within-more n.sibling _ _ more (lie.sibling k n at);
    empty = lie.empty;
  }
    where
      more : length (places ++ []) ≤ length (places ++ next)
      more = omega (arith, length-append places [], length-append places next)

      same : (n : Node V) → IsWithin n.child (length (places ++ [])) → IsWithin n.sibling (length (places ++ []))
          → renumbered (places ++ []) n ≡ renumbered (places ++ next) n
      same n c s =
          let none = append-nil places in
          ap (λ (l : List ℕ). renumbered l n) none
          ∙ sym (renumbered-more places next n (subst (λ l. IsWithin n.child (length l)) none c) (subst (λ l. IsWithin n.sibling (length l)) none s))

  -- the root is added
  pub root_at : (old new : Builder V) (a : Building V) (places : List ℕ) (value : Option V) (child : Bool)
      → StandsFor old a places [] → IsUnbuilt a → AddsRootAt old value child new
      → (b : Building V) × AddsRoot a value child b × (b.next ≡ new.next)
      × StandsFor new b places (next_place new.next new.at) × (new.next ≡ Within → ⊥)
  root_at old new a places value false stands start is = (
    b,
    record {
      value_is = refl;
      root = λ e. absurd (cc);
      no_root = λ e. refl;
      below = λ e. absurd (cc);
      beside = λ e. refl;
      nodes = refl;
      label = refl;
      waiting = refl;
    },
    sym (ap (λ (b : Builder V). b.next) is),
    subst (λ (n : Builder V). StandsFor n b places (next_place n.next n.at)) (sym is) (record {
      lie = stands.lie;
      there = stands.there;
      label = stands.label;
      waiting = stands.waiting;
      waits = stands.waits;
      value = refl;
      root = stands.root;
      rooted = stands.rooted;
    }),
    λ w. absurd (let e = sym (ap (λ (b : Builder V). b.next) is) ∙ w in cc),
  )
    where
      b : Building V
      b = record a { value = value; next = Beside }
  root_at old new a places value true stands start (row, makes, is) = (
    b,
    record {
      value_is = refl;
      root = λ e. refl;
      no_root = λ e. absurd (cc);
      below = λ e. refl;
      beside = λ e. absurd (cc);
      nodes = refl;
      label = refl;
      waiting = refl;
    },
    sym (ap (λ (b : Builder V). b.next) is),
    subst (λ (n : Builder V). StandsFor n b places (next_place n.next n.at)) (sym is) (record {
      lie = lie-next row.nodes.items a.nodes places (made_of old ∷ []) here;
      there = All-cons (λ at. (at < made_of row) × IsOutside places at) (made_of old) [] (
        omega (arith, ap length makes.nodes, length-append old.nodes.items (replicate (suc makes.more) (blank {V = V}))),
        outside-made old.nodes.items a.nodes places [] stands.lie,
      ) (All-nil (λ at. (at < made_of row) × IsOutside places at));
      label = stands.label ∙ ap (λ (b : Builder V). b.label.items) (sym makes.rest);
      waiting = ap (λ (b : Builder V). b.waiting.items) makes.rest ∙ stands.waiting
          ∙ (λ i. map (place_of (places ++ [])) (start.waiting i)) ∙ (λ i. map (place_of (places ++ made_of old ∷ [])) (sym start.waiting i));
      waits = subst (λ l. All (λ k. k < length (places ++ made_of old ∷ [])) l) (sym start.waiting) (All-nil (λ k. k < length (places ++ made_of old ∷ [])));
      value = sym (ap (λ (b : Builder V). b.value) makes.rest);
      root = ap (λ l. moved (l ++ made_of old ∷ []) (Some 0)) (sym no_places);
      rooted = omega (arith, length-append places (made_of old ∷ []));
    }),
    λ w. absurd (let e = sym (ap (λ (b : Builder V). b.next) is) ∙ w in cc),
  )
    where
      b : Building V
      b = record a { value = value; root = Some 0; next = Below }

      no_places : places ≡ []
      no_places = nil_from_length places (omega (arith, stands.lie.long, ap length start.nodes))

      here : LieAt row.nodes.items a.nodes places []
      here = subst (λ n. LieAt n a.nodes places []) (sym makes.nodes) (lie-row old.nodes.items a.nodes places [] (suc makes.more) stands.lie)
