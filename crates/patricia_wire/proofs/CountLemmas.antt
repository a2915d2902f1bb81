-- The points of the keys of a tight tree, counted by its records.
use Rattle.std.proofs.Common.{◌≡◌, ◌∷◌, ℕ, suc, ◌+◌, ◌≤◌, List, [], ◌++◌, Option, Some, None}
use Rattle.std.proofs.Common.{length, map, inl, refl, sym, ap, subst, ◌∙◌, arith, length-append}
use Rattle.std.proofs.Common.{◌≢◌, ◌*◌}
use Rattle.std.proofs.lemmas.List.{length-map}
use Rattle.patricia_keys.specs.Keys.{IsKeyKind}
use Rattle.patricia_model.specs.Siblings.{Siblings, end, node, own, entries, keys_of, paths}
use Rattle.patricia_model.specs.Siblings.{EarnsWithin, IsCanonicalWithin, IsCanonical, prefixed}
use Rattle.patricia_model.specs.Internal.Removals.{width}
use Rattle.patricia_model.specs.Points.{Has, IsPoint}
use Rattle.patricia_keys.proofs.KeyLemmas.{first_of}
use Rattle.patricia_model.proofs.UniqueLemmas.{has_entry}
use Rattle.patricia_model.proofs.PointLemmas.{IsPoint-within, has_prefixed, has_after, own_within}
use Rattle.patricia_model.proofs.PointLemmas.{within_own, paths_points, paths_apart}
use Rattle.patricia_wire.specs.Records.{Record}
use Rattle.patricia_wire.specs.Forests.{Root}
use Rattle.patricia_wire.specs.Internal.WrittenSiblings.{records_of}
use Rattle.patricia_wire.specs.Writings.{IsTight}
use Rattle.patricia_wire.specs.Counts.{IsCount, AreShort, AreFew, RecordsArePoints}
use Rattle.patricia_wire.proofs.OneTree.{tight_within}
use Rattle.patricia_wire.proofs.SiblingsTrees.{Nothing, stands_tree}

module _ {V : Type 0} where
  -- siblings have as many records as their nodes have paths
  as_many : (d : ℕ) (r : Siblings V) → length (records_of d r) ≡ length (paths r)
  as_many d end = refl
  as_many d (node l v c s) = omega (
    arith,
    as_many (d + 1) c,
    as_many d s,
    length-append (records_of (d + 1) c)
        (records_of d s),
    length-append (map (λ p. l ++ p) (paths c)) (paths s),
    length-map (paths c)
        (λ p. l ++ p),
  )

module _ (item : List ℕ → Type 0) (kind : IsKeyKind item) {V : Type 0} where
  -- where keys are short, a node that earns its place under the wire's limit does under none
  earns_short : (l : List ℕ) (v : Option V) (c s : Siblings V) → IsCanonicalWithin item (Some 255) c
      → AreShort (keys_of (entries (node l v c s))) → EarnsWithin item (Some 255) l v c
      → EarnsWithin item None l v c
  earns_short l (Some x) c s ok short earns = tt
  earns_short l None end s ok short earns = absurd earns
  earns_short l None (node m w d end) s ok short earns = λ i p begun room. earns i p begun (
      let some = has_entry item kind (Some 255) m w d end ok in
      let inner : Has (keys_of (own w ++ entries d)) some.0.0 = subst (λ es. Has (keys_of es) some.0.0) (sym some.2) (inl refl) in
      let below = has_prefixed m (own w ++ entries d) [] some.0.0 inner in
      let whole = short (l ++ (m ++ some.0.0)) (has_prefixed l (entries (node m w d end)) (entries s) (m ++ some.0.0) below) in
      omega (arith, length-append l i, length-append l (m ++ some.0.0), length-append m some.0.0, length-append i begun.0, ap length begun.1))
  earns_short l None (node m w d (node m' w' d' t')) s ok short earns = tt

  -- where keys are short, siblings that keep to the wire's limit keep the invariant in memory
  pub in_memory : (r : Siblings V) → IsCanonicalWithin item (Some 255) r
      → AreShort (keys_of (entries r)) → IsCanonical item r
  in_memory end ok short = tt
  in_memory (node l v c s) ok short = record {
    valid = ok.valid;
    nonempty = ok.nonempty;
    fits = tt;
    earns = earns_short l v c s ok.child short ok.earns;
    rises = ok.rises;
    child = in_memory c ok.child
        (λ k h. let whole = short (l ++ k) (has_prefixed l (own v ++ entries c) (entries s) k (has_after (own v) (entries c) k h)) in omega (arith, length-append l k));
    sibling = in_memory s ok.sibling (λ k h. short k (has_after _ (entries s) k h));
  }

module _ (item : List ℕ → Type 0) (kind : IsKeyKind item) where
  -- where keys are short, a tight tree has a record for each point, and the root's
  pub records_are_points : (R : List Record) (E : List (List ℕ)) → Root item R E → IsTight item R
      → RecordsArePoints item R E
  records_are_points R E root tight short =
      let stood = stands_tree item R E root in
      let es = entries stood.siblings in
      let short' : AreShort (keys_of es) = λ k h. short k (subst (λ S. Has S k) stood.keys (has_after (own stood.value) es k h)) in
      let ok = in_memory item kind stood.siblings (tight_within item R E stood tight) short' in
      let count : IsCount (IsPoint item (keys_of (own stood.value ++ es))) (length (paths stood.siblings)) = record {
        counted = paths stood.siblings;
        once = paths_apart item kind stood.siblings ok;
        exactly = λ p. (
          λ h. IsPoint-within item kind (keys_of es) (keys_of (own stood.value ++ es))
              (own_within stood.value es) p ((paths_points item kind stood.siblings ok p).0 h),
          λ h. (paths_points item kind stood.siblings ok p).1
              (IsPoint-within item kind (keys_of (own stood.value ++ es)) (keys_of es)
              (within_own stood.value es) p h),
        );
        is = refl;
      } in (
        length (paths stood.siblings),
        subst (λ S. IsCount (IsPoint item S) (length (paths stood.siblings)))
            stood.keys count,
        sym (ap length stood.records) ∙ ap suc (as_many 1 stood.siblings) ∙ omega
            arith,
      )

module _ {V : Type 0} where
  -- entries under a label are as many
  pub length-prefixed : (p : List ℕ) (es : List (List ℕ × V)) → length (prefixed p es) ≡ length es
  length-prefixed p [] = refl
  length-prefixed p (e ∷ es) = ap suc (length-prefixed p es)

module _ (item : List ℕ → Type 0) (kind : IsKeyKind item) where
  -- each node without value has two children
  few_paths : (r : Siblings Nothing) → IsCanonical item r
      → length (paths r) + width r ≤ 2 * length (entries r)
  few_paths end ok = omega arith
  few_paths (node l v c s) ok = go v c ok.child ok.earns (few_paths c ok.child) (few_paths s ok.sibling)
    where
      all : (v : Option Nothing) (c : Siblings Nothing)
          → (length (paths (node l v c s)) ≡ suc (length (paths c) + length (paths s))) ×
          (length (entries (node l v c s)) ≡ length (own v) + length (entries c) + length
          (entries s))
      all v c = (
        omega (
          arith,
          length-append (map (λ p. l ++ p) (paths c)) (paths s),
          length-map
              (paths c) (λ p. l ++ p),
        ),
        omega (
          arith,
          length-append (prefixed l (own v ++ entries c)) (entries s),
          length-prefixed l
              (own v ++ entries c),
          length-append (own v) (entries c),
        ),
      )

      go : (v : Option Nothing) (c : Siblings Nothing) → IsCanonical item c
          → EarnsWithin item None l v c → length (paths c) + width c ≤ 2 * length (entries c)
          → length (paths s) + width s ≤ 2 * length (entries s)
          → length (paths (node l v c s)) + width (node l v c s) ≤ 2 * length (entries (node l v c s))
      go (Some x) c okc earns below beside = let sizes = all (Some x) c in omega (arith, sizes.0, sizes.1, beside)
      go None end okc earns below beside = absurd earns
      go None (node m w d end) okc earns below beside = let first = first_of item m okc.valid okc.nonempty in absurd (earns first.0 first.1 first.2 tt)
      go None (node m w d (node m' w' d' t')) okc earns below beside =
          let sizes = all None (node m w d (node m' w' d' t')) in
          omega (arith, sizes.0, sizes.1, beside)

  -- there is a record for each point and one more, where no key is longer than 255 bytes
  pub records_are_few : (R : List Record) (E : List (List ℕ)) → Root item R E → IsTight item R
      → AreFew R E
  records_are_few R E root tight short some =
      let stood = stands_tree item R E root in
      let es = entries stood.siblings in
      let short' : AreShort (keys_of es) = λ k h. short k (subst (λ S. Has S k) stood.keys (has_after (own stood.value) es k h)) in
      let ok = in_memory item kind stood.siblings (tight_within item R E stood tight) short' in
      let few = few_paths stood.siblings ok in
      let records : length R ≡ suc (length (paths stood.siblings)) = sym (ap length stood.records) ∙ ap suc (as_many 1 stood.siblings) in
      let keys : length E ≡ length (own stood.value) + length es = sym (ap length stood.keys) ∙
      length-map (own stood.value ++ es) (λ e. e.0) ∙ length-append (own stood.value) es in
      by (length (own stood.value)) stood.siblings few records keys some
    where
      at_least : (E : List (List ℕ)) → E ≢ [] → 1 ≤ length E
      at_least [] some = absurd (some refl)
      at_least (k ∷ E) some = omega arith

      by : (n : ℕ) (siblings : Siblings Nothing)
          → length (paths siblings) + width siblings ≤ 2 * length (entries siblings)
          → length R ≡ suc (length (paths siblings)) → length E ≡ n + length (entries siblings) → E ≢ []
          → length R ≤ 2 * length E
      by n end few records keys some = omega (arith, at_least E some)
      by n (node l v c s) few records keys some = omega arith
