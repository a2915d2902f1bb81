-- Entries under a prefix and common prefixes of a key, where the entries are made of others.
use Rattle.std.proofs.Common.{◌≡◌, ◌≢◌, ℕ, inl, inr, Bool, true, false, ◌&&◌, cond, List, [], ◌∷◌}
use Rattle.std.proofs.Common.{◌++◌, Option, None, Some, refl, sym, ap, subst, ◌∙◌}
use Rattle.std.specs.Prelude.{filter, nat_eq, IfSome}
use Rattle.std.specs.Option.{option_map}
use Rattle.std.specs.declared.cmp.Ordering.TheVariants.{Less}
use Rattle.std.specs.List.{last_or}
use Rattle.std.proofs.lemmas.Bool.{eq-eqb, eqb-true, and_from}
use Rattle.std.specs.Cmp.Lexicographic.{nat_list_cmp_total}
use Rattle.std.proofs.lemmas.List.{append_assoc, append-nil}
use Rattle.std.proofs.lemmas.List.Elements.{filter-append}
use Rattle.patricia_keys.specs.Keys.{Begins, IsKeyKind, key_cmp}
use Rattle.patricia_model.specs.Prefixes.{begins, under, along, longest}
use Rattle.patricia_model.specs.Internal.LabelCmp.{SharesItem, Passes}
use Rattle.patricia_model.specs.Siblings.{Siblings, node, prefixed, own, entries, IsBefore}
use Rattle.patricia_model.specs.Siblings.{IsBeforeSiblings, IsCanonical}
use Rattle.patricia_keys.proofs.KeyLemmas.{Begins-trans, begins_either, key_cmp-irreflexive}
use Rattle.patricia_model.proofs.SiblingsLemmas.{AllKeys, AllKeys-append, AllKeys-prefixed}
use Rattle.patricia_model.proofs.SiblingsLemmas.{all_begin}
use Rattle.patricia_model.proofs.SiblingsLemmas.{lacks_item}
use Rattle.patricia_model.proofs.ListLemmas.{IsBelow, key_cmp-extends, key_cmp-front}
use Rattle.patricia_model.proofs.OrderLemmas.{IsBefore-less, below_siblings}

-- a common front changes no answer
pub begins-front : (l p k : List ℕ) → begins (l ++ p) (l ++ k) ≡ begins p k
begins-front [] p k = refl
begins-front (c ∷ l) p k = ap (λ b. b && begins (l ++ p) (l ++ k)) (eq-eqb c c refl) ∙ begins-front l p k

-- the test finds what begins the key
pub begins_from : (p k : List ℕ) → Begins p k → begins p k ≡ true
begins_from p k b = subst (λ q. begins p q ≡ true) b.1 (front p b.0)
  where
    front : (p rest : List ℕ) → begins p (p ++ rest) ≡ true
    front [] rest = refl
    front (c ∷ p) rest = and_from _ _ (eq-eqb c c refl) (front p rest)

-- where two tests hold together, each holds
both : (a b : Bool) → (a && b) ≡ true → (a ≡ true) × (b ≡ true)
both true b h = (refl, h)
both false b h = absurd (cc)

-- and nothing else
pub begins_is : (p k : List ℕ) → begins p k ≡ true → Begins p k
begins_is [] k h = (k, refl)
begins_is (c ∷ p) [] h = absurd (cc)
begins_is (c ∷ p) (d ∷ k) h =
    let parts = both (nat_eq c d) (begins p k) h in
    let same = eqb-true c d parts.0 in
    let rest = begins_is p k parts.1 in
    (rest.0, let is = rest.1 in cc)

-- the test fails where one list does not begin the other
pub begins_not : (p k : List ℕ) → (Begins p k → ⊥) → begins p k ≡ false
begins_not p k lacks = by (begins p k) refl
  where
    by : (b : Bool) → begins p k ≡ b → begins p k ≡ false
    by true e = absurd (lacks (begins_is p k e))
    by false e = e

-- a prefix of a key is not above it
pub not_above : (q k : List ℕ) → Begins k q → key_cmp q k ≡ Less → ⊥
not_above q k b less =
    let turned : key_cmp (k ++ b.0) (k ++ []) ≡ Less = rw (b.1, append-nil) less in
    after b.0 (sym (key_cmp-front k b.0 []) ∙ turned)
  where
    after : (rest : List ℕ) → key_cmp rest [] ≡ Less → ⊥
    after [] e = absurd (cc)
    after (c ∷ rest) e = absurd (cc)

-- and where it fails, it does not
pub begins_other : (p k : List ℕ) → begins p k ≡ false → Begins p k → ⊥
begins_other p k none b = let some = begins_from p k b in absurd (cc)

module _ {V : Type 0} where
  -- the entries of two lists under a prefix are those of the first, then those of the second
  pub under-append : (p : List ℕ) (xs ys : List (List ℕ × V))
      → under p (xs ++ ys) ≡ under p xs ++ under p ys
  under-append p xs ys = filter-append _ xs ys

  -- the common prefixes in two lists are those of the first, then those of the second
  pub along-append : (k : List ℕ) (xs ys : List (List ℕ × V))
      → along k (xs ++ ys) ≡ along k xs ++ along k ys
  along-append k xs ys = filter-append _ xs ys

  -- a test of keys behind a front lets through what the test of their rest does
  pub filter-prefixed : (f g : List ℕ → Bool) (l : List ℕ) → ((k : List ℕ) → f (l ++ k) ≡ g k)
      → (es : List (List ℕ × V))
      → filter (λ e. f e.0) (prefixed l es) ≡ prefixed l (filter (λ e. g e.0) es)
  filter-prefixed f g l same [] = refl
  filter-prefixed f g l same (e ∷ es) =
      ap (λ b. cond b ((l ++ e.0, e.1) ∷ filter (λ e. f e.0) (prefixed l es)) (filter (λ e. f e.0) (prefixed l es))) (same e.0)
      ∙ ap (λ r. cond (g e.0) ((l ++ e.0, e.1) ∷ r) r) (filter-prefixed f g l same es)
      ∙ elim (g e.0) as
      (λ b. cond b ((l ++ e.0, e.1) ∷ prefixed l (filter (λ e. g e.0) es))
      (prefixed l (filter (λ e. g e.0) es)) ≡ prefixed l
      (cond b (e ∷ filter (λ e. g e.0) es) (filter (λ e. g e.0) es))) [
        | true ↦ refl
        | false ↦ refl
      ]

  -- a front that both have goes before all answers
  pub under-prefixed : (l p : List ℕ) (es : List (List ℕ × V))
      → under (l ++ p) (prefixed l es) ≡ prefixed l (under p es)
  under-prefixed l p es = filter-prefixed (begins (l ++ p)) (begins p) l (begins-front l p) es

  -- and below a common prefix
  pub along-prefixed : (l k : List ℕ) (es : List (List ℕ × V))
      → along (l ++ k) (prefixed l es) ≡ prefixed l (along k es)
  along-prefixed l k es = filter-prefixed (λ q. begins q (l ++ k)) (λ q. begins q k) l (λ q. begins-front l q k) es

  -- where no key has the prefix, no entry is under it
  pub under_none : (p : List ℕ) (es : List (List ℕ × V)) → AllKeys (λ k. Begins p k → ⊥) es
      → under p es ≡ []
  under_none p [] all = refl
  under_none p (e ∷ es) all = rw (begins_not p e.0 all.0) (under_none p es all.1)

  -- where each key has the prefix, all entries are under it
  pub under_all : (p : List ℕ) (es : List (List ℕ × V)) → AllKeys (Begins p) es → under p es ≡ es
  under_all p [] all = refl
  under_all p (e ∷ es) all = rw (begins_from p e.0 all.0) (ap (λ r. e ∷ r) (under_all p es all.1))

  -- where no key is a prefix of the key, it has no common prefix
  pub along_none : (k : List ℕ) (es : List (List ℕ × V)) → AllKeys (λ q. Begins q k → ⊥) es
      → along k es ≡ []
  along_none k [] all = refl
  along_none k (e ∷ es) all = rw (begins_not e.0 k all.0) (along_none k es all.1)

  -- what follows from a fact of a key holds of all keys where the fact does
  pub AllKeys-follows : (P Q : List ℕ → Type 0) → ((k : List ℕ) → P k → Q k) → (es : List (List ℕ × V))
      → AllKeys P es → AllKeys Q es
  AllKeys-follows P Q follows [] all = tt
  AllKeys-follows P Q follows (e ∷ es) all = (follows e.0 all.0, AllKeys-follows P Q follows es all.1)

  -- the empty key is on the way to each key
  pub along_own : (k : List ℕ) (v : Option V) → along k (own v) ≡ own v
  along_own k None = refl
  along_own k (Some v) = refl

  -- and under no other prefix
  pub under_own : (p : List ℕ) → p ≢ [] → (v : Option V) → under p (own v) ≡ []
  under_own [] some v = absurd (some refl)
  under_own (c ∷ p) some None = refl
  under_own (c ∷ p) some (Some v) = refl

  -- all entries are under the empty prefix
  pub under_empty : (es : List (List ℕ × V)) → under [] es ≡ es
  under_empty es = under_all [] es (all_begin es)

  -- a key that comes before each entry has no common prefix
  along_above : (q : List ℕ) (es : List (List ℕ × V)) → IsBelow q es → along q es ≡ []
  along_above q es above = along_none q es (AllKeys-follows (λ k. key_cmp q k ≡ Less) (λ k. Begins k q → ⊥) (λ k less b. not_above q k b less) es above)

module _ (item : List ℕ → Type 0) (kind : IsKeyKind item) {V : Type 0} (l : List ℕ) (v : Option V)
    (c s : Siblings V) (ok : IsCanonical item (node l v c s)) where
  -- the common prefixes of a key that the label begins are the node's own entry and those of its
  -- children
  pub along_down : (t : List ℕ)
      → along (l ++ t) (entries (node l v c s)) ≡ prefixed l (own v ++ along t (entries c))
  along_down t =
      along-append (l ++ t) (prefixed l (own v ++ entries c)) (entries s)
      ∙ ap (λ r. along (l ++ t) (prefixed l (own v ++ entries c)) ++ r) (along_above (l ++ t) (entries s) (below_siblings item kind l t s ok.sibling ok.rises))
      ∙ append-nil _
      ∙ along-prefixed l t (own v ++ entries c)
      ∙ ap (prefixed l) (along-append t (own v) (entries c) ∙ ap (λ r. r ++ along t (entries c)) (along_own t v))

  -- those of another key are among the siblings alone
  pub along_past : (q : List ℕ) → (Begins l q → ⊥)
      → along q (entries (node l v c s)) ≡ along q (entries s)
  along_past q other =
      along-append q (prefixed l (own v ++ entries c)) (entries s)
      ∙ ap (λ r. r ++ along q (entries s))
      (along_none q _
      (AllKeys-prefixed (λ k. Begins k q → ⊥) l
      (λ t b. other (Begins-trans l (l ++ t) q (t, refl) b)) (own v ++ entries c)))

  -- a key that is before the label, and that the label does not begin, is below all entries
  pub stop_below : (q : List ℕ) → (Begins l q → ⊥) → key_cmp q l ≡ Less
      → IsBelow q (entries (node l v c s))
  stop_below q other less =
      AllKeys-append _ (prefixed l (own v ++ entries c)) (entries s)
      (AllKeys-prefixed _ l below (own v ++ entries c))
      (AllKeys-follows (λ k. key_cmp (l ++ []) k ≡ Less) (λ k. key_cmp q k ≡ Less)
      (λ k more. nat_list_cmp_total.trans q l k less (rw append-nil at more)) (entries s)
      (below_siblings item kind l [] s ok.sibling ok.rises))
    where
      nonempty : (rest t : List ℕ) → rest ≢ [] → key_cmp [] (rest ++ t) ≡ Less
      nonempty [] t some = absurd (some refl)
      nonempty (d ∷ rest) t some = refl

      below : (t : List ℕ) → key_cmp q (l ++ t) ≡ Less
      below t = elim (key_cmp-extends q l [] t less) [
        | inl h ↦ rw append-nil at h
        | inr b ↦
            let some : b.0 ≢ [] = λ none. other ([], append-nil l ∙ sym b.1 ∙ ap (λ r. q ++ r) none ∙ append-nil q) in
            let split : l ++ t ≡ q ++ (b.0 ++ t) = ap (λ k. k ++ t) (sym b.1) ∙ append_assoc q b.0 t in
            ap (λ k. key_cmp q k) split ∙ ap (λ k. key_cmp k (q ++ (b.0 ++ t))) (sym (append-nil q)) ∙ key_cmp-front q [] (b.0 ++ t) ∙ nonempty b.0 t some
      ]

  -- and none where the key is before the label
  pub along_stop : (q : List ℕ) → (Begins l q → ⊥) → key_cmp q l ≡ Less
      → along q (entries (node l v c s)) ≡ []
  along_stop q other less = along_above q _ (stop_below q other less)

  -- under a prefix that comes after the label is no entry of the node
  pub first_none : (p : List ℕ) → IsBefore item l p → under p (prefixed l (own v ++ entries c)) ≡ []
  first_none p before = under_none p _
      (AllKeys-prefixed (λ k. Begins p k → ⊥) l
      (λ t b. key_cmp-irreflexive (l ++ t) (p ++ b.0) (sym b.1)
      (IsBefore-less item kind l p t b.0 before)) (own v ++ entries c))

  -- no entry under a prefix is among siblings that come before it
  pub under_past : (p : List ℕ) → IsBefore item l p
      → under p (entries (node l v c s)) ≡ under p (entries s)
  under_past p before = under-append p (prefixed l (own v ++ entries c)) (entries s) ∙ ap (λ r. r ++ under p (entries s)) (first_none p before)

  -- siblings that come after the first item of a prefix have no entry under it
  lacks : (p i k : List ℕ) → item i → Begins i k → Begins i p → (r : Siblings V)
      → IsCanonical item r → IsBeforeSiblings item k r → under p (entries r) ≡ []
  lacks p i k is b d r canonical before = under_none p _
      (AllKeys-follows (λ q. Begins i q → ⊥) (λ q. Begins p q → ⊥)
      (λ q none more. none (Begins-trans i p q d more)) (entries r)
      (lacks_item item kind None i k is b r canonical before))

  -- none is there where the prefix comes before all siblings
  pub under_before : (p : List ℕ) → IsBefore item p l → under p (entries (node l v c s)) ≡ []
  under_before p before = lacks p before.first p before.first_item before.first_begins before.first_begins (node l v c s) ok before

  -- none is among the siblings behind the one whose first item it shares
  pub past_none : (p : List ℕ) → SharesItem item p l → under p (entries s) ≡ []
  past_none p share = lacks p share.shared l share.is_item share.begins_second share.begins_first s ok.sibling ok.rises

  -- under one that goes on past the label are the node's entries under its rest
  pub under_through : (p t : List ℕ) → Passes item p l t
      → under p (entries (node l v c s)) ≡ prefixed l (under t (own v ++ entries c))
  under_through p t passes =
      under-append p (prefixed l (own v ++ entries c)) (entries s)
      ∙ ap (λ r. under p (prefixed l (own v ++ entries c)) ++ r) (past_none p passes.shares)
      ∙ append-nil _
      ∙ ap (λ q. under q (prefixed l (own v ++ entries c))) (sym passes.splits)
      ∙ under-prefixed l t (own v ++ entries c)

  -- the entries under a prefix that passes a label are among the children
  pub under_deeper : (p t : List ℕ) → Passes item p l t → t ≢ []
      → under p (entries (node l v c s)) ≡ prefixed l (under t (entries c))
  under_deeper p t passes some =
      under_through p t passes ∙ ap (prefixed l) (under-append t (own v) (entries c) ∙ ap (λ r. r ++ under t (entries c)) (under_own t some v))

  -- under one that ends at the node are all its entries
  pub under_here : (p : List ℕ) → Passes item p l []
      → under p (entries (node l v c s)) ≡ prefixed l (own v ++ entries c)
  under_here p passes = under_through p [] passes ∙ ap (prefixed l) (under_empty (own v ++ entries c))

  -- and so where the prefix ends in its label
  pub under_within : (p : List ℕ) → SharesItem item p l → Begins p l
      → under p (entries (node l v c s)) ≡ prefixed l (own v ++ entries c)
  under_within p share begun =
      under-append p (prefixed l (own v ++ entries c)) (entries s)
      ∙ ap (λ r. under p (prefixed l (own v ++ entries c)) ++ r) (past_none p share)
      ∙ append-nil _
      ∙ under_all p _ (AllKeys-prefixed (Begins p) l (λ t. Begins-trans p l (l ++ t) begun (t, refl)) (own v ++ entries c))

  -- and none where it ends beside the label
  pub under_beside : (p : List ℕ) → SharesItem item p l → (Begins p l → ⊥) → (Begins l p → ⊥)
      → under p (entries (node l v c s)) ≡ []
  under_beside p share other longer =
      under-append p (prefixed l (own v ++ entries c)) (entries s)
      ∙ ap (λ r. r ++ under p (entries s)) (under_none p _ (AllKeys-prefixed (λ k. Begins p k → ⊥) l beside (own v ++ entries c)))
      ∙ past_none p share
    where
      beside : (t : List ℕ) → Begins p (l ++ t) → ⊥
      beside t b = elim (begins_either p l b.0 t b.1) [
        | inl h ↦ other h
        | inr h ↦ longer h
      ]

module _ {V : Type 0} where
  -- the common prefixes of a key begin it
  along_begin : (k : List ℕ) (es : List (List ℕ × V)) → AllKeys (λ q. Begins q k) (along k es)
  along_begin k [] = tt
  along_begin k (e ∷ es) = by (begins e.0 k) refl (along_begin k es)
    where
      by : (b : Bool) → begins e.0 k ≡ b → AllKeys (λ q. Begins q k) (along k es)
          → AllKeys (λ q. Begins q k) (along k (e ∷ es))
      by true f rest = rw f (begins_is e.0 k f, rest)
      by false f rest = rw f rest

  -- the last of some entries is one of them
  last_of :
      (P : List ℕ → Type 0) (o : Option (List ℕ × V)) (es : List (List ℕ × V)) (r : List ℕ × V)
      → AllKeys P es → ((x : List ℕ × V) → o ≡ Some x → P x.0) → last_or o es ≡ Some r → P r.0
  last_of P o [] r all start e = start r e
  last_of P o (x ∷ es) r all start e = last_of P (Some x) es r all.1 (λ y same. let is : x ≡ y = cc in subst (λ z. P z.0) is all.0) e

  -- so does that of the longest
  pub longest_begins : (k : List ℕ) (es : List (List ℕ × V)) (r : List ℕ × V)
      → longest k es ≡ Some r → Begins r.0 k
  longest_begins k es r e = last_of (λ q. Begins q k) None (along k es) r (along_begin k es) (λ x none. absurd (cc)) e

  -- the longest prefix is a prefix of the key
  pub some_begins :
      {A : Type 0} (shows : A → List ℕ × V) (k : List ℕ) (es : List (List ℕ × V)) (o : Option A)
      → option_map shows o ≡ longest k es → IfSome o (λ x. Begins (shows x).0 k)
  some_begins shows k es None e = tt
  some_begins shows k es (Some x) e = longest_begins k es (shows x) (sym e)
