-- A record that is added, and its node laid at its place.
use Rattle.std.proofs.Common.{◌≡◌, ◌≢◌, ℕ, ◌<◌, List, [], ◌∷◌, ◌++◌, length, Option}
use Rattle.std.proofs.Common.{None, slice_get, map, refl, sym, ap, subst, ◌∙◌, arith, append-nil}
use Rattle.std.specs.Prelude.{All}
use Rattle.std.proofs.lemmas.Option.{slice_get_within, get_or_from_slice_get}
use Rattle.std.proofs.lemmas.List.Elements.{All-nil, All-head}
use Rattle.patricia_store.specs.Internal.Renumbering.{place_of, renumbered}
use Rattle.patricia_wire.specs.Records.{Record}
use Rattle.patricia_wire.specs.Internal.Readings.{Due}
use Rattle.patricia_codec.specs.declared.builder.Builder.{Builder}
use Rattle.patricia_codec.specs.declared.builder.Next.{Next}
use Rattle.patricia_codec.specs.declared.builder.Next.TheVariants.{Root, Below, Within, Beside}
use Rattle.patricia_codec.specs.Internal.Builds.{IsUnbuilt, Building, IsBuiltAs, IsBuilt}
use Rattle.patricia_codec.specs.Internal.Placing.{IsNew, IsOutside, made_of, next_place, OpensAt, ClosesAt, PreparesAt}
use Rattle.patricia_codec.specs.Internal.Placing.{AddsRootAt, StandsFor, IsPlaced, AddsRecord, CanAddAt}
use Rattle.patricia_codec.proofs.BuildSteps.{CanLink, Prepares}
use Rattle.patricia_codec.proofs.BuildLemmas.{added}
use Rattle.patricia_codec.proofs.DecodeLemmas.{can_add}
use Rattle.patricia_codec.proofs.EndLemmas.{root_added}
use Rattle.patricia_codec.proofs.PlacedSteps.{closed_at, opened_at, prepared_at, root_at, item_at, map-push}

-- a list with some bytes behind it has some
some_behind : (l m : List ℕ) → m ≢ [] → l ++ m ≢ []
some_behind [] m some none = some none
some_behind (x ∷ l) m some none = cc

module _ (item : List ℕ → Type 0) {V : Type 0} where
  -- where the root is read, records are
  some_read : (next : Next) → (next ≡ Root → ⊥) → (a : Building V) (R : List Record) (due : List Due) (vs : List V)
      → IsBuiltAs item next a R due vs → R ≢ []
  some_read Root not a R due vs built = absurd (not refl)
  some_read Below not a R due vs built = built.some
  some_read Within not a R due vs built = built.some
  some_read Beside not a R due vs built = built.some

  -- a record that is not the root is added
  pub added_at : (old mid opened new : Builder V) (r : Record) (x : Option V) → (old.next ≡ Root → ⊥)
      → PreparesAt old.next old r.sibling mid → OpensAt mid r opened → ClosesAt opened x r.child new
      → AddsRecord item old r x new
  added_at old mid opened new r x not prepares opens closes R due waiting vs placed suits vm =
      let a = placed.ordered in
      let some = some_read a.next (λ e. not (sym placed.next ∙ e)) a R (due ∷ waiting) vs placed.built in
      let (b, at_b, prepared, stands_b) = prepared_at old mid a placed.places r.sibling old.next not placed.stands placed.begun prepares in
      let (c, opened_is, stands_c) = opened_at mid opened b at_b r stands_b opens in
      let label : opened.label.items ≢ [] = λ none. some_behind mid.label.items r.label (λ e. (suits.inner some).nonempty e) (sym opens.label ∙ none) in
      let (d, at_d, closed_is, next_d, stands_d, begun_d) = closed_at opened new c at_b x r.child stands_c label closes in
      record {
        ordered = d;
        places = at_d;
        stands = stands_d;
        next = next_d;
        begun = begun_d;
        built = added item a b c d r x (λ e. not (sym placed.next ∙ e)) (subst (λ n. Prepares n a r.sibling b) (sym placed.next) prepared) opened_is closed_is R due waiting vs placed.built suits vm;
      }

  -- the root is added
  pub rooted_at : (old new : Builder V) (r : Record) (x : Option V) → old.next ≡ Root
      → AddsRootAt old x r.child new → AddsRecord item old r x new
  rooted_at old new r x is_root adds R due waiting vs placed suits vm =
      let a = placed.ordered in
      let start : IsUnbuilt a = unbuilt a (placed.next ∙ is_root) placed.built in
      let (b, adds_b, next_b, stands_b, begun_b) = root_at old new a placed.places x r.child
      (subst (λ n. StandsFor old a placed.places (next_place n old.at)) is_root placed.stands) start adds in
      record {
        ordered = b;
        places = placed.places;
        stands = stands_b;
        next = next_b;
        begun = λ w. absurd (begun_b w);
        built = root_added item a b r x (placed.next ∙ is_root) adds_b R due waiting vs placed.built suits vm;
      }
    where
      unbuilt : (a : Building V) → a.next ≡ Root → IsBuilt item a R (due ∷ waiting) vs → IsUnbuilt a
      unbuilt a e built = let b = subst (λ n. IsBuiltAs item n a R (due ∷ waiting) vs) e built in b.3

  -- nothing is laid where nothing is read
  pub new_placed : (b : Builder V) → IsNew b
      → IsPlaced item b [] ((record { level = 0; after = None }) ∷ []) []
  new_placed b new = record {
    ordered = record { value = b.value; root = None; nodes = []; label = []; waiting = []; next = Root };
    places = [];
    stands = subst (λ n. StandsFor b (record { value = b.value; root = None; nodes = []; label = []; waiting = []; next = Root }) [] (next_place n b.at)) (sym new.next) (record {
      lie = record {
        long = refl;
        node = λ k id n is at. absurd (cc);
        apart = λ k j id is at. absurd (cc);
        filled = λ k n at. absurd (cc);
        child = λ k n at. absurd (cc);
        sibling = λ k n at. absurd (cc);
        empty = λ id n at away. absurd (omega (arith, slice_get_within b.nodes.items id n at, ap length new.nodes));
      };
      there = All-nil (λ at. (at < made_of b) × IsOutside [] at);
      label = sym new.label;
      waiting = new.waiting;
      waits = All-nil (λ k. k < 0);
      value = refl;
      root = new.root;
      rooted = tt;
    });
    next = sym new.next;
    begun = λ w. absurd (let e = sym new.next ∙ w in cc);
    built = (refl, refl, refl, record { next = refl; root = refl; nodes = refl; label = refl; waiting = refl });
  }

  -- a record can be added where one is due
  pub can_add_at : (b : Builder V) (R : List Record) (due : Due) (waiting : List Due) (vs : List V)
      → IsPlaced item b R (due ∷ waiting) vs → CanAddAt b.next b
  can_add_at b R due waiting vs placed = by b.next refl
    where
      here : next_place b.next b.at ≡ b.at ∷ [] → b.at < made_of b
      here e =
          let there = subst (λ l. All (λ at. (at < made_of b) × IsOutside placed.places at) l) e placed.stands.there in
          let t = All-head (λ at. (at < made_of b) × IsOutside placed.places at) b.at [] there in t.0

      by : (n : Next) → b.next ≡ n → CanAddAt n b
      by Root e = tt
      by Below e = here (ap (λ n. next_place n b.at) e)
      by Within e = here (ap (λ n. next_place n b.at) e)
      by Beside e =
          let a = placed.ordered in
          let stands = subst (λ n. StandsFor b a placed.places (next_place n b.at)) e placed.stands in
          let can : CanLink a = can_add item a R due waiting vs placed.built (placed.next ∙ e) in
          let f = place_of (placed.places ++ []) in
          let k = can.id in
          let (m, there) = item_at a.nodes k can.within in
          let (id, at) = item_at (placed.places ++ []) k (omega (arith, can.within, stands.lie.long, ap length (append-nil placed.places))) in
          let is : f k ≡ id = get_or_from_slice_get (placed.places ++ []) k id k at in
          let laid = stands.lie.node k id m (ap (λ l. slice_get l k) (sym (append-nil placed.places)) ∙ at) there in
          record {
            others = map f can.others;
            id = f k;
            waiting = stands.waiting ∙ ap (map f) can.waiting ∙ map-push f can.others k;
            within = subst (λ i. i < made_of b) (sym is) (slice_get_within b.nodes.items id (renumbered (placed.places ++ []) m) laid);
          }
