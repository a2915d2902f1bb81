-- A plan put together from frames and what is in their place.
use Rattle.std.proofs.Common.{◌≡◌, ◌≢◌, ℕ, suc, ◌+◌, List, [], ◌∷◌, length, Option, sym, ap, subst}
use Rattle.std.proofs.Common.{◌∙◌, arith}
use Rattle.std.specs.FinMap.{find, put}
use Rattle.patricia_store.specs.Internal.Nodes.{Node}
use Rattle.patricia_keys.specs.Keys.{IsKeyKind, key_cmp}
use Rattle.patricia_model.specs.Siblings.{entries, IsCanonical}
use Rattle.patricia_model.specs.Internal.LabelCmp.{Passes}
use Rattle.patricia_model.specs.Internal.Counts.{IsCounted}
use Rattle.patricia_nodes.specs.Internal.Plans.{Plan, Cell, head, siblings_in, size, count, LaidOut}
use Rattle.patricia_nodes.specs.Internal.Plans.{IsPlan}
use Rattle.patricia_nodes.specs.Internal.Places.{Frame, InChild, InSibling, fill, count_frames}
use Rattle.patricia_nodes.specs.Internal.Places.{size_frames, Leads}
use Rattle.patricia_model.proofs.GetLemmas.{find_past, find_deeper}
use Rattle.patricia_model.proofs.InsertLemmas.{put_past, put_through, put_child, siblings_past}
use Rattle.patricia_model.proofs.InsertLemmas.{siblings_child}
use Rattle.patricia_model.proofs.CountLemmas.{counted_past, counted_through}

module _ {V : Type 0} where
  -- what is in the place of a plan that stands, stands
  pub stands-within : (nodes : List (Node V)) (fs : List (Frame V)) (q : Plan V)
      → LaidOut nodes (fill fs q) → LaidOut nodes q
  stands-within nodes [] q s = s
  stands-within nodes (InChild id l v d ∷ fs) q s = (stands-within nodes fs (Cell id l v q d) s).1
  stands-within nodes (InSibling id l v c ∷ fs) q s = (stands-within nodes fs (Cell id l v c q) s).2

  -- the nodes of a filled place are those of its frames and those in it
  pub size-fill : (fs : List (Frame V)) (q : Plan V) → size (fill fs q) ≡ size_frames fs + size q
  size-fill [] q = omega arith
  size-fill (InChild id l v d ∷ fs) q = omega (arith, size-fill fs (Cell id l v q d))
  size-fill (InSibling id l v c ∷ fs) q = omega (arith, size-fill fs (Cell id l v c q))

  -- a number stands in a filled place as often as in the frames and in the plan
  pub count-fill : (fs : List (Frame V)) (q : Plan V) (at : ℕ)
      → count (fill fs q) at ≡ count_frames fs at + count q at
  count-fill [] q at = omega arith
  count-fill (InChild id l v d ∷ fs) q at = omega (arith, count-fill fs (Cell id l v q d) at)
  count-fill (InSibling id l v c ∷ fs) q at = omega (arith, count-fill fs (Cell id l v c q) at)

  -- what stands in a place is read from its link
  pub plan_within : (nodes : List (Node V)) (root at : Option ℕ) (fs : List (Frame V)) (q : Plan V)
      → IsPlan nodes root (fill fs q) → at ≡ head q → IsPlan nodes at q
  plan_within nodes root at fs q w e = record { stands = stands-within nodes fs q w.stands; at_is = e; fits = omega (arith, w.fits, size-fill fs q) }

-- more behind a label is more than nothing
pub passed_filled : (item : List ℕ → Type 0) (k l t : List ℕ) → Passes item k l t → t ≢ [] → k ≢ []
passed_filled item k [] t p nonempty none = nonempty (p.splits ∙ none)
passed_filled item k (b ∷ l) t p nonempty none = let e = p.splits in absurd (cc)

module _ (item : List ℕ → Type 0) {V : Type 0} where
  -- where the top siblings keep the invariant, the siblings in the place do too
  pub siblings-within : (fs : List (Frame V)) (q : Plan V) → IsCanonical item (siblings_in (fill fs q))
      → IsCanonical item (siblings_in q)
  siblings-within [] q ok = ok
  siblings-within (InChild id l v d ∷ fs) q ok = (siblings-within fs (Cell id l v q d) ok).child
  siblings-within (InSibling id l v c ∷ fs) q ok = (siblings-within fs (Cell id l v c q) ok).sibling

module _ (item : List ℕ → Type 0) (kind : IsKeyKind item) {V : Type 0} where
  -- the place decides what is found
  pub find-fill : (fs : List (Frame V)) (q : Plan V) → IsCanonical item (siblings_in (fill fs q))
      → (key rest : List ℕ) → Leads item fs key rest
      → find key_cmp key (entries (siblings_in (fill fs q))) ≡ find key_cmp rest (entries (siblings_in q))
  find-fill [] q ok key rest e = ap (λ k. find key_cmp k (entries (siblings_in q))) (sym e)
  find-fill (InChild id l v d ∷ fs) q ok key rest (before, passes, nonempty, leads) =
      find-fill fs (Cell id l v q d) ok key before leads
      ∙ find_deeper item kind l v (siblings_in q) (siblings_in d) (siblings-within item fs (Cell id l v q d) ok) before rest passes nonempty
  find-fill (InSibling id l v c ∷ fs) q ok key rest (before, leads) =
      find-fill fs (Cell id l v c q) ok key rest leads
      ∙ find_past item kind l v (siblings_in c) (siblings_in q) (siblings-within item fs (Cell id l v c q) ok) rest before

  -- a write in the place is a write in the whole
  pub put-fill : (x : V) (fs : List (Frame V)) (q p : Plan V) → IsCanonical item (siblings_in (fill fs q))
      → (key rest : List ℕ) → Leads item fs key rest → IsCanonical item (siblings_in p)
      → entries (siblings_in p) ≡ put key_cmp rest x (entries (siblings_in q))
      → IsCanonical item (siblings_in (fill fs p)) × (entries (siblings_in (fill fs p)) ≡ put key_cmp key x (entries (siblings_in (fill fs q))))
  put-fill x [] q p ok key rest e okp w = (okp, w ∙ ap (λ k. put key_cmp k x (entries (siblings_in q))) e)
  put-fill x (InChild id l v d ∷ fs) q p ok key rest (before, passes, nonempty, leads) okp w =
      let inner = siblings-within item fs (Cell id l v q d) ok in
      put-fill x fs (Cell id l v q d) (Cell id l v p d) ok key before leads
      (siblings_child item kind x l v (siblings_in q) (siblings_in d) inner rest (siblings_in p) okp w)
      (put_through item kind x l v (siblings_in q) (siblings_in d) inner before rest v (siblings_in p) passes (put_child item kind x rest v (siblings_in q) (siblings_in p) nonempty w))
  put-fill x (InSibling id l v c ∷ fs) q p ok key rest (before, leads) okp w =
      let inner = siblings-within item fs (Cell id l v c q) ok in
      put-fill x fs (Cell id l v c q) (Cell id l v c p) ok key rest leads
      (siblings_past item kind x l v (siblings_in c) (siblings_in q) inner rest (siblings_in p) before okp w)
      (put_past item kind x l v (siblings_in c) (siblings_in q) inner rest (siblings_in p) before w)

  -- a look-up makes a step for each frame, and then those in the place
  pub counted-fill : (fs : List (Frame V)) (q : Plan V) → IsCanonical item (siblings_in (fill fs q))
      → (key rest : List ℕ) → Leads item fs key rest → rest ≢ [] → (n m : ℕ)
      → IsCounted item (siblings_in q) rest (n + length fs) m → IsCounted item (siblings_in (fill fs q)) key n m
  counted-fill [] q ok key rest e some n m counted = rw (← e) (subst (λ k. IsCounted item (siblings_in q) rest k m) (omega arith) counted)
  counted-fill (InChild id l v d ∷ fs) q ok key rest (before, passes, nonempty, leads) some n m counted =
      let inner = siblings-within item fs (Cell id l v q d) ok in
      let held = passed_filled item before l rest passes nonempty in
      counted-fill fs (Cell id l v q d) ok key before leads held n m
      (counted_through item kind l v (siblings_in q) (siblings_in d) inner before held (n + length fs) (n + suc (length fs)) (omega arith) m rest passes nonempty counted)
  counted-fill (InSibling id l v c ∷ fs) q ok key rest (before, leads) some n m counted =
      let inner = siblings-within item fs (Cell id l v c q) ok in
      counted-fill fs (Cell id l v c q) ok key rest leads some n m
      (counted_past item kind l v (siblings_in c) (siblings_in q) inner rest some (n + length fs) (n + suc (length fs)) (omega arith) m before counted)
