-- Trees have the same entries, with equal values, exactly where they have the same nodes.
use Rattle.std.proofs.Common.{◌≡◌, ℕ, Bool, true, false, nat_eq, List, [], ◌∷◌, ◌++◌, length}
use Rattle.std.proofs.Common.{Option, Some, None, map, refl, sym, ap, ◌∙◌, arith}
use Rattle.std.proofs.Math.Bool.{and_assoc}
use Rattle.std.proofs.lemmas.List.{map-append, length-map}
use Rattle.std.specs.Prelude.{◌&&◌}
use Rattle.std.specs.Cmp.{nat_eq_equiv, first_so, second_so}
use Rattle.std.specs.Cmp.Lexicographic.{pointwise, bytes_decides}
use Rattle.std.specs.Option.{option_eq, option_map}
use Rattle.patricia_keys.specs.Keys.{IsKeyKind}
use Rattle.patricia_model.specs.Siblings.{Siblings, end, node, prefixed, own, entries}
use Rattle.patricia_model.specs.Siblings.{EarnsWithin, IsBeforeSiblings, IsCanonical}
use Rattle.patricia_model.proofs.UniqueLemmas.{insides, same_siblings}
use Rattle.patricia_walks.specs.Equality.{is_same_entry, are_same_entries}
use Rattle.patricia_walks.specs.Internal.Comparisons.{are_same_nodes}
use Rattle.patricia_walks.proofs.DepthLemmas.{length-prefixed}

-- lists that are as long, with more behind each
pointwise-append : {A B : Type 0} (E : A → B → Bool) (xs ys : List A) (us vs : List B)
    → length xs ≡ length us → pointwise E (xs ++ ys) (us ++ vs) ≡ (pointwise E xs us && pointwise E ys vs)
pointwise-append E [] ys [] vs long = refl
pointwise-append E [] ys (u ∷ us) vs long = absurd (omega (arith, long))
pointwise-append E (x ∷ xs) ys [] vs long = absurd (omega (arith, long))
pointwise-append E (x ∷ xs) ys (u ∷ us) vs long =
    by (E x u) (pointwise-append E xs ys us vs (omega (arith, long)))
  where
    by : (b : Bool) → pointwise E (xs ++ ys) (us ++ vs) ≡ (pointwise E xs us && pointwise E ys vs)
        → (b && pointwise E (xs ++ ys) (us ++ vs)) ≡ ((b && pointwise E xs us) && pointwise E ys vs)
    by true rest = rest
    by false rest = refl

-- the same bytes before two keys
same_front : (p k m : List ℕ) → pointwise nat_eq (p ++ k) (p ++ m) ≡ pointwise nat_eq k m
same_front [] k m = refl
same_front (b ∷ p) k m = ap (λ t. t && pointwise nat_eq (p ++ k) (p ++ m)) (nat_eq_equiv.refl b) ∙ same_front p k m

-- tests that hold of one another's cases are the same
same_tests : (a b : Bool) → (a ≡ true → a ≡ b) → (b ≡ true → a ≡ b) → a ≡ b
same_tests true b first second = first refl
same_tests false true first second = second refl
same_tests false false first second = refl

module _ {V : Type 0} where
  -- that there is a value
  abbrev there : Option V → Option (Unit {0})
  there v = option_map (λ _. tt) v

  -- the siblings without their values
  abbrev shape : Siblings V → Siblings (Unit {0})
  shape end = end
  shape (node l v c s) = node l (there v) (shape c) (shape s)

  -- the entries without their values
  abbrev keyed : List (List ℕ × V) → List (List ℕ × Unit {0})
  keyed es = map (λ e. (e.0, tt)) es

  keyed-prefixed : (p : List ℕ) (es : List (List ℕ × V)) → keyed (prefixed p es) ≡ prefixed p (keyed es)
  keyed-prefixed p [] = refl
  keyed-prefixed p (e ∷ es) = ap (λ r. (p ++ e.0, tt) ∷ r) (keyed-prefixed p es)

  keyed-own : (v : Option V) → keyed (own v) ≡ own (there v)
  keyed-own None = refl
  keyed-own (Some x) = refl

  -- siblings without their values have the entries without theirs
  keyed-shape : (r : Siblings V) → keyed (entries r) ≡ entries (shape r)
  keyed-shape end = refl
  keyed-shape (node l v c s) =
      map-append (λ (e : List ℕ × V). (e.0, tt)) (prefixed l (own v ++ entries c)) (entries s)
      ∙ (λ i. keyed-prefixed l (own v ++ entries c) i ++ keyed-shape s i)
      ∙ ap (λ es. prefixed l es ++ entries (shape s))
      (map-append (λ (e : List ℕ × V). (e.0, tt)) (own v) (entries c) ∙ (λ i. keyed-own v i ++ keyed-shape c i))

  -- the same with a value of the empty key
  keyed-parts : (v : Option V) (r : Siblings V) → keyed (own v ++ entries r) ≡ own (there v) ++ entries (shape r)
  keyed-parts v r =
      map-append (λ (e : List ℕ × V). (e.0, tt)) (own v) (entries r) ∙ (λ i. keyed-own v i ++ keyed-shape r i)

  -- so there are as many entries where the same values are there
  parts_long : (v w : Option V) (r s : Siblings V) → there v ≡ there w → shape r ≡ shape s
      → length (own v ++ entries r) ≡ length (own w ++ entries s)
  parts_long v w r s value alike =
      sym (length-map (own v ++ entries r) (λ e. (e.0, tt)))
      ∙ ap length (keyed-parts v r)
      ∙ (λ i. length (own (value i) ++ entries (alike i)))
      ∙ sym (ap length (keyed-parts w s))
      ∙ length-map (own w ++ entries s) (λ e. (e.0, tt))

  module _ (item : List ℕ → Type 0) where
    earns-shape : (l : List ℕ) (v : Option V) (c : Siblings V) → EarnsWithin item None l v c
        → EarnsWithin item None l (there v) (shape c)
    earns-shape l (Some x) c earns = tt
    earns-shape l None end earns = earns
    earns-shape l None (node m w d end) earns = earns
    earns-shape l None (node m w d (node m' w' d' t)) earns = tt

    before-shape : (l : List ℕ) (s : Siblings V) → IsBeforeSiblings item l s → IsBeforeSiblings item l (shape s)
    before-shape l end before = tt
    before-shape l (node m w d t) before = before

    -- they keep the invariant
    canonical-shape : (r : Siblings V) → IsCanonical item r → IsCanonical item (shape r)
    canonical-shape end ok = tt
    canonical-shape (node l v c s) ok = record {
      valid = ok.valid;
      nonempty = ok.nonempty;
      fits = ok.fits;
      earns = earns-shape l v c ok.earns;
      rises = before-shape l s ok.rises;
      child = canonical-shape c ok.child;
      sibling = canonical-shape s ok.sibling;
    }

module _ {V : Type 0} (eq : V → V → Bool) where
  -- the same bytes before the keys of entries
  same-prefixed : (p : List ℕ) (es fs : List (List ℕ × V))
      → are_same_entries eq (prefixed p es) (prefixed p fs) ≡ are_same_entries eq es fs
  same-prefixed p [] [] = refl
  same-prefixed p [] (f ∷ fs) = refl
  same-prefixed p (e ∷ es) [] = refl
  same-prefixed p (e ∷ es) (f ∷ fs) = λ i. (same_front p e.0 f.0 i && eq e.1 f.1) && same-prefixed p es fs i

  -- the entries of the empty key
  same-own : (v w : Option V) → there v ≡ there w → are_same_entries eq (own v) (own w) ≡ option_eq eq v w
  same-own None None alike = refl
  same-own None (Some y) alike = absurd (cc)
  same-own (Some x) None alike = absurd (cc)
  same-own (Some x) (Some y) alike = by (eq x y)
    where
      by : (b : Bool) → (b && true) ≡ b
      by true = refl
      by false = refl

  own_long : (v w : Option V) → there v ≡ there w → length (own v) ≡ length (own w)
  own_long None None alike = refl
  own_long None (Some y) alike = absurd (cc)
  own_long (Some x) None alike = absurd (cc)
  own_long (Some x) (Some y) alike = refl

  -- entries that are the same have the same keys
  same_keys : (es fs : List (List ℕ × V)) → are_same_entries eq es fs ≡ true → keyed es ≡ keyed fs
  same_keys [] [] same = refl
  same_keys [] (f ∷ fs) same = absurd (cc)
  same_keys (e ∷ es) [] same = absurd (cc)
  same_keys (e ∷ es) (f ∷ fs) same =
      let first = first_so (is_same_entry eq e f) (are_same_entries eq es fs) same in
      let key = (bytes_decides e.0 f.0).0 (first_so (pointwise nat_eq e.0 f.0) (eq e.1 f.1) first) in
      let rest = same_keys es fs (second_so (is_same_entry eq e f) (are_same_entries eq es fs) same) in
      λ i. (key i, tt) ∷ rest i

  -- values that are equal are there together
  same_there : (v w : Option V) → option_eq eq v w ≡ true → there v ≡ there w
  same_there None None same = refl
  same_there None (Some y) same = absurd (cc)
  same_there (Some x) None same = absurd (cc)
  same_there (Some x) (Some y) same = refl

  -- nodes that are the same have the same shape
  same_shape : (r s : Siblings V) → are_same_nodes eq r s ≡ true → shape r ≡ shape s
  same_shape end end same = refl
  same_shape end (node m w d t) same = absurd (cc)
  same_shape (node l v c s) end same = absurd (cc)
  same_shape (node l v c s) (node m w d t) same =
      let one = first_so (pointwise nat_eq l m && option_eq eq v w) (are_same_nodes eq c d && are_same_nodes eq s t) same in
      let rest = second_so (pointwise nat_eq l m && option_eq eq v w) (are_same_nodes eq c d && are_same_nodes eq s t) same in
      let label = (bytes_decides l m).0 (first_so (pointwise nat_eq l m) (option_eq eq v w) one) in
      let value = same_there v w (second_so (pointwise nat_eq l m) (option_eq eq v w) one) in
      let child = same_shape c d (first_so (are_same_nodes eq c d) (are_same_nodes eq s t) rest) in
      let sibling = same_shape s t (second_so (are_same_nodes eq c d) (are_same_nodes eq s t) rest) in
      λ i. node (label i) (value i) (child i) (sibling i)

  -- where values are there together and siblings have the same shape, the entries are the same where
  -- the values and the nodes are
  parts_alike : (v w : Option V) (es fs : List (List ℕ × V)) (same : Bool) → there v ≡ there w
      → are_same_entries eq es fs ≡ same
      → are_same_entries eq (own v ++ es) (own w ++ fs) ≡ (option_eq eq v w && same)
  parts_alike v w es fs same alike is =
      pointwise-append (is_same_entry eq) (own v) es (own w) fs (own_long v w alike)
      ∙ (λ i. same-own v w alike i && is i)

  shapes_alike : (r s : Siblings V) → shape r ≡ shape s
      → are_same_entries eq (entries r) (entries s) ≡ are_same_nodes eq r s
  shapes_alike end end alike = refl
  shapes_alike end (node m w d t) alike = absurd (cc)
  shapes_alike (node l v c s) end alike = absurd (cc)
  shapes_alike (node l v c s) (node m w d t) alike =
      let label : l ≡ m = cc in
      let value : there v ≡ there w = cc in
      let child : shape c ≡ shape d = cc in
      let sibling : shape s ≡ shape t = cc in
      let below = parts_alike v w (entries c) (entries d) (are_same_nodes eq c d) value (shapes_alike c d child) in
      let long : length (prefixed l (own v ++ entries c)) ≡ length (prefixed l (own w ++ entries d)) =
      length-prefixed l (own v ++ entries c) ∙ parts_long v w c d value child ∙ sym (length-prefixed l (own w ++ entries d)) in
      rw (sym label)
      (pointwise-append (is_same_entry eq) (prefixed l (own v ++ entries c)) (entries s) (prefixed l (own w ++ entries d)) (entries t) long
      ∙ (λ i. same-prefixed l (own v ++ entries c) (own w ++ entries d) i && shapes_alike s t sibling i)
      ∙ ap (λ b. b && are_same_nodes eq s t) below
      ∙ and_assoc (option_eq eq v w) (are_same_nodes eq c d) (are_same_nodes eq s t)
      ∙ ap (λ b. (b && option_eq eq v w) && (are_same_nodes eq c d && are_same_nodes eq s t))
      (sym ((bytes_decides l l).1 refl)))

  -- trees have the same entries where they have the same value of the empty key and the same nodes
  module _ (item : List ℕ → Type 0) (kind : IsKeyKind item) (v w : Option V) (r s : Siblings V)
      (ok : IsCanonical item r) (ok' : IsCanonical item s) where
    same_trees : are_same_entries eq (own v ++ entries r) (own w ++ entries s)
        ≡ (option_eq eq v w && are_same_nodes eq r s)
    same_trees = same_tests _ _
        (λ same.
        let keys = sym (keyed-parts v r) ∙ same_keys (own v ++ entries r) (own w ++ entries s) same ∙ keyed-parts w s in
        let inside = insides item kind None (there v) (there w) (shape r) (shape s)
        (canonical-shape item r ok) (canonical-shape item s ok') keys in
        let alike = same_siblings item kind None (shape r) (shape s) (canonical-shape item r ok) (canonical-shape item s ok') inside.1 in
        parts_alike v w (entries r) (entries s) (are_same_nodes eq r s) inside.0 (shapes_alike r s alike))
        (λ same. parts_alike v w (entries r) (entries s) (are_same_nodes eq r s)
        (same_there v w (first_so (option_eq eq v w) (are_same_nodes eq r s) same))
        (shapes_alike r s (same_shape r s (second_so (option_eq eq v w) (are_same_nodes eq r s) same))))

    module _ (a b : Option V) (a_is : a ≡ v) (b_is : b ≡ w) (test : Bool) (told : test ≡ option_eq eq a b) where
      told_of : option_eq eq v w ≡ test
      told_of = rw (a_is, b_is) at (sym told)

      -- so not where the values differ
      pub other_values : test ≡ false → false ≡ are_same_entries eq (own v ++ entries r) (own w ++ entries s)
      other_values differ = sym (same_trees ∙ ap (λ t. t && are_same_nodes eq r s) (told_of ∙ differ))

      -- and else where the nodes are
      pub same_values : test ≡ true
          → are_same_nodes eq r s ≡ are_same_entries eq (own v ++ entries r) (own w ++ entries s)
      same_values alike = sym (same_trees ∙ ap (λ t. t && are_same_nodes eq r s) (told_of ∙ alike))
