-- The steps of a walk that takes entries out where it stands.
use Rattle.std.proofs.Common.{◌≡◌, inl, ℕ, ◌≤◌, List, [], ◌∷◌, ◌++◌, length}
use Rattle.std.proofs.Common.{Option, Some, None, refl, sym, ap, subst, ◌∙◌, arith}
use Rattle.std.proofs.Common.{append_assoc, length-append}
use Rattle.std.proofs.lemmas.List.{append-nil, append_cancel_left}
use Rattle.patricia_keys.specs.Keys.{IsKeyKind, IsValid}
use Rattle.patricia_keys.proofs.KeyLemmas.{IsValid-append, IsValid-nil}
use Rattle.patricia_model.specs.Points.{Has}
use Rattle.patricia_model.specs.Siblings.{prefixed, own, entries, keys_of, IsCanonical}
use Rattle.patricia_model.proofs.SiblingsLemmas.{prefixed-append, prefixed-prefixed}
use Rattle.patricia_model.proofs.UniqueLemmas.{has_entry}
use Rattle.patricia_model.proofs.WalkLemmas.{prefixed-nil}
use Rattle.patricia_nodes.specs.Internal.Plans.{Plan, Cell, siblings_in}
use Rattle.patricia_nodes.specs.Internal.Places.{Frame, InChild, InSibling, fill}
use Rattle.patricia_nodes.specs.Internal.Trails.{path_of}
use Rattle.patricia_nodes.proofs.FillLemmas.{siblings-within}
use Rattle.patricia_nodes.proofs.TrailLemmas.{filled_length}
use Rattle.patricia_edits.specs.declared.pruning.Upper.{Upper}
use Rattle.patricia_edits.specs.Internal.Prunings.{upper_at, uppers, behind, ahead, passed}

-- the last items of two lists that are the same are the same, and so are the others
pub snoc_same : {A : Type 0} (xs ys : List A) (x y : A) → xs ++ x ∷ [] ≡ ys ++ y ∷ []
    → (xs ≡ ys) × (x ≡ y)
snoc_same [] [] x y e = (refl, cc)
snoc_same [] (b ∷ ys) x y e =
    absurd (omega (arith, ap length e, length-append ys (y ∷ [])))
snoc_same (a ∷ xs) [] x y e =
    absurd (omega (arith, ap length e, length-append xs (x ∷ [])))
snoc_same (a ∷ xs) (b ∷ ys) x y e =
    let left : xs ++ x ∷ [] ≡ ys ++ y ∷ [] = cc in
    let first : a ≡ b = cc in
    let more = snoc_same xs ys x y left in
    (cc, more.1)

module _ {V : Type 0} where
  -- the node above a place, where there is one, the outermost last
  pub record Above (fs : List (Frame V)) (q : Plan V) (ups : List Upper) (upper : Upper) : Type 0
    where
      pub id : ℕ
      pub label : List ℕ
      pub value : Option V
      pub sibling : Plan V
      pub outer : List (Frame V)
      pub inner : Plan V
      pub filled : fill fs q ≡ fill outer (Cell id label value inner sibling)
      pub behind_is : behind fs ≡ prefixed (path_of outer) (entries (siblings_in sibling)) ++ behind outer
      pub path_is : path_of fs ≡ path_of outer ++ label
      pub ups_is : ups ≡ uppers outer
      pub upper_is : upper ≡ upper_at outer id

  pub above_is : (fs : List (Frame V)) (q : Plan V) (ups : List Upper) (upper : Upper)
      → uppers fs ≡ ups ++ upper ∷ [] → Above fs q ups upper
  above_is [] q ups upper e = absurd (omega (arith, ap length e, length-append ups (upper ∷ [])))
  above_is (InChild id l v d ∷ fs) q ups upper e =
      let same = snoc_same (uppers fs) ups (upper_at fs id) upper e in
      record {
        id = id;
        label = l;
        value = v;
        sibling = d;
        outer = fs;
        inner = q;
        filled = refl;
        behind_is = refl;
        path_is = refl;
        ups_is = sym same.0;
        upper_is = sym same.1;
      }
  above_is (InSibling id l v c ∷ fs) q ups upper e =
      let more = above_is fs (Cell id l v c q) ups upper e in
      record {
        id = more.id;
        label = more.label;
        value = more.value;
        sibling = more.sibling;
        outer = more.outer;
        inner = more.inner;
        filled = more.filled;
        behind_is = more.behind_is;
        path_is = more.path_is;
        ups_is = more.ups_is;
        upper_is = more.upper_is;
      }

  -- where there is none, no entry is behind the place
  pub behind_none : (fs : List (Frame V)) → uppers fs ≡ [] → behind fs ≡ []
  behind_none [] e = refl
  behind_none (InChild id l v d ∷ fs) e = absurd (omega (arith, ap length e, length-append (uppers fs) (upper_at fs id ∷ [])))
  behind_none (InSibling id l v c ∷ fs) e = behind_none fs e

  -- ahead of a node are its own entry, those below it and those behind it
  pub ahead_down : (fs : List (Frame V)) (id : ℕ) (l : List ℕ) (v : Option V) (d q : Plan V)
      → ahead fs (Cell id l v q d)
      ≡ prefixed (path_of fs ++ l) (own v) ++ ahead (InChild id l v d ∷ fs) q
  ahead_down fs id l v d q =
      let p = path_of fs in
      let below = entries (siblings_in q) in
      let beside = entries (siblings_in d) in
      ap (λ r. r ++ behind fs)
      (prefixed-append p (prefixed l (own v ++ below)) beside
      ∙ ap (λ r. r ++ prefixed p beside)
      (prefixed-prefixed p l (own v ++ below) ∙ prefixed-append (p ++ l) (own v) below))
      ∙ simp append_assoc

  -- or its own entry with those below it, and those behind it
  pub ahead_beside : (fs : List (Frame V)) (id : ℕ) (l : List ℕ) (v : Option V) (c q : Plan V)
      → ahead fs (Cell id l v c q)
      ≡ prefixed (path_of fs) (prefixed l (own v ++ entries (siblings_in c)))
      ++ ahead (InSibling id l v c ∷ fs) q
  ahead_beside fs id l v c q =
      let p = path_of fs in
      let below = prefixed l (own v ++ entries (siblings_in c)) in
      ap (λ r. r ++ behind fs) (prefixed-append p below (entries (siblings_in q)))
      ∙ append_assoc (prefixed p below) (prefixed p (entries (siblings_in q))) (behind fs)

  -- all entries are those before a place, those in it and those behind it
  pub entries-fill : (fs : List (Frame V)) (q : Plan V)
      → entries (siblings_in (fill fs q)) ≡ passed fs ++ ahead fs q
  entries-fill [] q = sym (append-nil _ ∙ prefixed-nil (entries (siblings_in q)))
  entries-fill (InChild id l v d ∷ fs) q =
      entries-fill fs (Cell id l v q d) ∙ ap (λ r. passed fs ++ r) (ahead_down fs id l v d q)
      ∙ sym (append_assoc (passed fs) (prefixed (path_of fs ++ l) (own v)) (ahead (InChild id l v d ∷ fs) q))
  entries-fill (InSibling id l v c ∷ fs) q =
      entries-fill fs (Cell id l v c q) ∙ ap (λ r. passed fs ++ r) (ahead_beside fs id l v c q)
      ∙ sym (append_assoc (passed fs) (prefixed (path_of fs) (prefixed l (own v ++ entries (siblings_in c))))
      (ahead (InSibling id l v c ∷ fs) q))

  -- what is ahead of a place is what all entries have behind those before it
  pub ahead_is : (fs : List (Frame V)) (q : Plan V) (left : List (List ℕ × V))
      → entries (siblings_in (fill fs q)) ≡ passed fs ++ left → left ≡ ahead fs q
  ahead_is fs q left e = append_cancel_left (passed fs) left (ahead fs q) (sym e ∙ entries-fill fs q)

  -- one value at a path
  own_at : (p : List ℕ) (v : V) → prefixed p (own (Some v)) ≡ (p ++ [], v) ∷ []
  own_at p v = refl

  -- the first key of a node begins with its path
  pub first_key : (item : List ℕ → Type 0) (kind : IsKeyKind item) (fs : List (Frame V)) (id : ℕ)
      (l : List ℕ) (v : Option V) (c d : Plan V) → IsCanonical item (siblings_in (Cell id l v c d))
      → (k : List ℕ) × Has (keys_of (ahead fs (Cell id l v c d))) (path_of fs ++ (l ++ k))
  first_key item kind fs id l v c d ok =
      let some = has_entry item kind None l v (siblings_in c) (siblings_in d) ok in (
        some.0.0,
        subst (λ r. Has (keys_of (prefixed (path_of fs) (prefixed l r ++ entries (siblings_in d)) ++ behind fs))
            (path_of fs ++ (l ++ some.0.0))) (sym some.2) (inl refl),
      )

  -- no more nodes are above a place than the path has bytes
  pub depth : (item : List ℕ → Type 0) (fs : List (Frame V)) (q : Plan V)
      → IsCanonical item (siblings_in (fill fs q)) → length (uppers fs) ≤ length (path_of fs)
  depth item [] q ok = omega arith
  depth item (InChild id l v d ∷ fs) q ok =
      let inner = siblings-within item fs (Cell id l v q d) ok in
      let some = filled_length l inner.nonempty in
      let less = depth item fs (Cell id l v q d) ok in
      omega (arith, some, less, length-append (uppers fs) (upper_at fs id ∷ []), length-append (path_of fs) l)
  depth item (InSibling id l v c ∷ fs) q ok = depth item fs (Cell id l v c q) ok

  -- the path is valid
  pub path_valid : (item : List ℕ → Type 0) (fs : List (Frame V)) (q : Plan V)
      → IsCanonical item (siblings_in (fill fs q)) → IsValid item (path_of fs)
  path_valid item [] q ok = IsValid-nil item
  path_valid item (InChild id l v d ∷ fs) q ok =
      IsValid-append item (path_of fs) l (path_valid item fs (Cell id l v q d) ok)
      (siblings-within item fs (Cell id l v q d) ok).valid
  path_valid item (InSibling id l v c ∷ fs) q ok = path_valid item fs (Cell id l v c q) ok
