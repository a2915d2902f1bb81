-- Each finite map with valid keys is the map of a tree in memory: siblings take in one key after
-- the other.
use Rattle.std.proofs.Common.{◌≡◌, ◌≢◌, ℕ, ◌⊎◌, inl, inr, T, List, [], ◌∷◌}
use Rattle.std.proofs.Common.{◌++◌, Option, Some, None, refl, sym, ap, subst, ◌∙◌}
use Rattle.std.specs.declared.cmp.Ordering.{Ordering}
use Rattle.std.specs.declared.cmp.Ordering.TheVariants.{Less, Equal, Greater}
use Rattle.std.specs.Cmp.Lexicographic.{nat_list_cmp_total}
use Rattle.std.specs.FinMap as map
use Rattle.std.specs.FinMap.{put, is_sorted, same_entries_map}
use Rattle.std.specs.FinMap.Entries.{below_all}
use Rattle.std.specs.List.{All, AllByRecursion, concat}
use Rattle.std.specs.Ordering.{ordering_reverse}
use Rattle.std.proofs.lemmas.List.{append_assoc, append-nil}
use Rattle.std.proofs.lemmas.List.Elements.{All-head, All-tail}
use Rattle.patricia_keys.specs.Keys.{Begins, IsKeyKind, IsValid, key_cmp}
use Rattle.patricia_keys.proofs.KeyLemmas.{IsValid-nil, IsValid-item, IsValid-append, first_of}
use Rattle.patricia_keys.proofs.KeyLemmas.{begins_same, item-nonempty, key_cmp-same}
use Rattle.patricia_model.specs.Internal.LabelCmp.{SharesItem}
use Rattle.patricia_model.specs.Siblings.{Siblings, end, node, own, entries, IsBefore, IsCanonical}
use Rattle.patricia_model.specs.Siblings.{keys_of}
use Rattle.patricia_model.specs.Trees.{map_of}
use Rattle.patricia_model.proofs.DivideLemmas.{Divides, ends_at_cut, put_at_cut}
use Rattle.patricia_model.proofs.DivideLemmas.{siblings_before_cut}
use Rattle.patricia_model.proofs.DivideLemmas.{put_before_cut, siblings_after_cut, put_after_cut}
use Rattle.patricia_model.proofs.InsertLemmas.{single, put_own, put_child, put_front, put_before}
use Rattle.patricia_model.proofs.InsertLemmas.{put_past, siblings_past, siblings_valued}
use Rattle.patricia_model.proofs.InsertLemmas.{siblings_child}
use Rattle.patricia_model.proofs.ListLemmas.{IsBelow, key_cmp-equal, put_below}
use Rattle.patricia_model.proofs.TestLemmas.{first_part, second_part, less_so}
use Rattle.patricia_model.proofs.TreeLemmas.{entries_map}

module _ (item : List ℕ → Type 0) (kind : IsKeyKind item) where
  -- a key and a label fall into a common front and two rests that share no first item
  record Parts (q l : List ℕ) : Type 0 where
    front : List ℕ
    key_rest : List ℕ
    label_rest : List ℕ
    key : front ++ key_rest ≡ q
    label : front ++ label_rest ≡ l
    front_valid : IsValid item front
    key_valid : IsValid item key_rest
    label_valid : IsValid item label_rest
    apart : SharesItem item key_rest label_rest → ⊥

  -- no item is a prefix of the empty key
  no_item : (i k : List ℕ) → k ≡ [] → item i → Begins i k → ⊥
  no_item [] k none is begun = item-nonempty item kind [] is refl
  no_item (x ∷ i) k none is begun = absurd (let h : (x ∷ i) ++ begun.0 ≡ [] = begun.1 ∙ none in cc)

  -- lists of items have a common front, and rests that share no first item
  parted : (is js : List (List ℕ)) → AllByRecursion item is → AllByRecursion item js
      → Parts (concat is) (concat js)
  parted [] js p q = record {
    front = [];
    key_rest = [];
    label_rest = concat js;
    key = refl;
    label = refl;
    front_valid = IsValid-nil item;
    key_valid = IsValid-nil item;
    label_valid = (js, q, refl);
    apart = λ share. no_item share.shared [] refl share.is_item share.begins_first;
  }
  parted (i ∷ is) [] p q = record {
    front = [];
    key_rest = concat (i ∷ is);
    label_rest = [];
    key = refl;
    label = refl;
    front_valid = IsValid-nil item;
    key_valid = (i ∷ is, p, refl);
    label_valid = IsValid-nil item;
    apart = λ share. no_item share.shared [] refl share.is_item share.begins_second;
  }
  parted (i ∷ is) (j ∷ js) p q = by (key_cmp i j) refl (parted is js p.1 q.1)
    where
      different : (key_cmp i j ≡ Equal → ⊥) → Parts (concat (i ∷ is)) (concat (j ∷ js))
      different other = record {
        front = [];
        key_rest = concat (i ∷ is);
        label_rest = concat (j ∷ js);
        key = refl;
        label = refl;
        front_valid = IsValid-nil item;
        key_valid = (i ∷ is, p, refl);
        label_valid = (j ∷ js, q, refl);
        apart = λ share.
            let first = begins_same item kind share.shared i (concat (i ∷ is)) share.is_item p.0 share.begins_first (concat is, refl) in
            let second = begins_same item kind share.shared j (concat (j ∷ js)) share.is_item q.0 share.begins_second (concat js, refl) in
            other (ap (key_cmp i) (sym second ∙ first) ∙ key_cmp-same i);
      }

      by : (r : Ordering) → key_cmp i j ≡ r → Parts (concat is) (concat js)
          → Parts (concat (i ∷ is)) (concat (j ∷ js))
      by Less e rest = different (λ f. cc)
      by Greater e rest = different (λ f. cc)
      by Equal e rest = record {
        front = i ++ rest.front;
        key_rest = rest.key_rest;
        label_rest = rest.label_rest;
        key = append_assoc i rest.front rest.key_rest ∙ ap (λ k. i ++ k) rest.key;
        label = append_assoc i rest.front rest.label_rest ∙ (let same = key_cmp-equal i j e in λ x. same x ++ rest.label x);
        front_valid = IsValid-append item i rest.front (IsValid-item item i p.0) rest.front_valid;
        key_valid = rest.key_valid;
        label_valid = rest.label_valid;
        apart = rest.apart;
      }

  -- and so have a valid key and a valid label
  parts : (q l : List ℕ) → IsValid item q → IsValid item l → Parts q l
  parts q l v w = subst (λ k. Parts k l) v.2 (subst (Parts (concat v.0)) w.2 (parted v.0 w.0 v.1 w.1))

  -- of two keys that share no first item one comes first
  either_before : (a b : List ℕ) → IsValid item a → IsValid item b → a ≢ [] → b ≢ []
      → (SharesItem item a b → ⊥) → IsBefore item a b ⊎ IsBefore item b a
  either_before a b v w some other apart = by (key_cmp first.0 second.0) refl
    where
      first : (i : List ℕ) × (item i) × Begins i a
      first = first_of item a v some

      second : (i : List ℕ) × (item i) × Begins i b
      second = first_of item b w other

      by : (r : Ordering) → key_cmp first.0 second.0 ≡ r → IsBefore item a b ⊎ IsBefore item b a
      by Less e = inl
          (record {
            first = first.0;
            second = second.0;
            first_item = first.1;
            second_item =
                second.1;
            first_begins = first.2;
            second_begins = second.2;
            less = e;
          })
      by Equal e = absurd
          (apart (record {
            shared = first.0;
            is_item = first.1;
            begins_first = first.2;
            begins_second = subst (λ i. Begins i b) (sym (key_cmp-equal first.0 second.0 e)) second.2;
          }))
      by Greater e = inr
          (record {
            first = second.0;
            second = first.0;
            first_item = second.1;
            second_item =
                first.1;
            first_begins = second.2;
            second_begins = first.2;
            less = nat_list_cmp_total.antisymm second.0 first.0 ∙ ap ordering_reverse e;
          })

  -- a key is empty, or it has bytes
  empty_or_not : (k : List ℕ) → (k ≡ []) ⊎ (k ≢ [])
  empty_or_not [] = inl refl
  empty_or_not (x ∷ k) = inr (λ e. cc)

  module _ {V : Type 0} where
    -- siblings with one more key
    record Grown (q : List ℕ) (x : V) (r : Siblings V) : Type 0 where
      siblings : Siblings V
      ok : IsCanonical item siblings
      put : entries siblings ≡ put key_cmp q x (entries r)

    -- siblings take in one more valid key, which their entries then have
    grown : (q : List ℕ) (x : V) (r : Siblings V) → IsValid item q → q ≢ [] → IsCanonical item r
        → Grown q x r
    grown q x end valid nonempty ok = record {
      siblings = node q (Some x) end end;
      ok = record {
        valid = valid;
        nonempty = nonempty;
        fits = tt;
        earns = tt;
        rises = tt;
        child = tt;
        sibling = tt;
      };
      put = single item kind x q;
    }
    grown q x (node l v c s) valid nonempty ok = go (parts q l valid ok.valid) (λ t v some. grown t x c v some ok.child) (grown q x s valid nonempty ok.sibling)
      where
        before : IsBefore item q l → Grown q x (node l v c s)
        before b = record {
          siblings = node q (Some x) end (node l v c s);
          ok = record {
            valid = valid;
            nonempty = nonempty;
            fits = tt;
            earns = tt;
            rises = b;
            child = tt;
            sibling = ok;
          };
          put = put_before item kind x l v c s ok q b;
        }

        past : IsBefore item l q → Grown q x s → Grown q x (node l v c s)
        past b rest = record {
          siblings = node l v c rest.siblings;
          ok = siblings_past item kind x l v c s ok q rest.siblings b rest.ok rest.put;
          put = put_past item kind x l v c s ok q rest.siblings b rest.put;
        }

        -- the label begins the key
        through : (t : List ℕ) → l ++ t ≡ q → IsValid item t → (t ≢ [] → Grown t x c)
            → Grown q x (node l v c s)
        through t e t_valid deeper = elim (empty_or_not t) [
          | inl none ↦ record {
            siblings = node l (Some x) c s;
            ok = siblings_valued item kind x l v c s ok;
            put = put_front item kind x l v c s ok.sibling ok.rises q t (Some x) c e
                (put_own item kind x v c ok.child ∙ ap (λ k. put key_cmp k x (own v ++ entries c))
                (sym none));
          }
          | inr some ↦
              (let below = deeper some in
              record {
                siblings = node l v below.siblings s;
                ok = siblings_child item kind x l v c s ok t below.siblings below.ok below.put;
                put = put_front item kind x l v c s ok.sibling ok.rises q t v below.siblings e
                    (put_child item kind x t v c below.siblings some below.put);
              })
        ]

        -- the key leaves the label, or ends within it
        into : (p t d : List ℕ) → Divides item q l p t d → Grown q x (node l v c s)
        into p t d div = elim (empty_or_not t) [
          | inl none ↦ record {
            siblings = node p (Some x) (node d v c end) s;
            ok = ends_at_cut item kind x l v c s ok q p t d div none;
            put = put_at_cut item kind x l v c s ok q p t d div none;
          }
          | inr some ↦ elim (either_before t d div.key_valid div.label_valid some div.label_nonempty div.apart) [
            | inl b ↦ record {
              siblings = node p None (node t (Some x) end (node d v c end)) s;
              ok = siblings_before_cut item kind x l v c s ok q p t d div some b;
              put = put_before_cut item kind x l v c s ok q p t d div b;
            }
            | inr b ↦ record {
              siblings = node p None (node d v c (node t (Some x) end end)) s;
              ok = siblings_after_cut item kind x l v c s ok q p t d div some b;
              put = put_after_cut item kind x l v c s ok q p t d div b;
            }
          ]
        ]

        go : Parts q l → ((t : List ℕ) → IsValid item t → t ≢ [] → Grown t x c) → Grown q x s
            → Grown q x (node l v c s)
        go m below beside = elim (empty_or_not m.label_rest) [
          | inl none ↦
              let whole : l ≡ m.front = sym m.label ∙ ap (λ d. m.front ++ d) none ∙ append-nil m.front in
              through m.key_rest (ap (λ k. k ++ m.key_rest) whole ∙ m.key) m.key_valid (below m.key_rest m.key_valid)
          | inr some ↦ elim (empty_or_not m.front) [
            | inr front ↦ into m.front m.key_rest m.label_rest
                (record {
                  key = m.key;
                  label = m.label;
                  front_valid = m.front_valid;
                  front_filled =
                      front;
                  key_valid = m.key_valid;
                  label_valid = m.label_valid;
                  label_nonempty = some;
                  apart = m.apart;
                })
            | inl none ↦
                let key : m.key_rest ≡ q = ap (λ p. p ++ m.key_rest) (sym none) ∙ m.key in
                let label : m.label_rest ≡ l = ap (λ p. p ++ m.label_rest) (sym none) ∙ m.label in
                elim (either_before q l valid ok.valid nonempty ok.nonempty
                (λ share. m.apart
                (subst (λ k. SharesItem item k m.label_rest) (sym key)
                (subst (SharesItem item q) (sym label) share)))) [
                  | inl b ↦ before b
                  | inr b ↦ past b beside
                ]
          ]
        ]

    -- a key that is tested to be below all entries is
    below_from : (q : List ℕ) (es : List (List ℕ × V)) → T (below_all key_cmp q es) → IsBelow q es
    below_from q [] t = tt
    below_from q (e ∷ es) t = (less_so _ (first_part _ _ t), below_from q es (second_part _ _ t))

    -- a value of the empty key and siblings that hold these entries
    pub record Holds (es : List (List ℕ × V)) : Type 0 where
      pub value : Option V
      pub siblings : Siblings V
      pub ok : IsCanonical item siblings
      pub same : own value ++ entries siblings ≡ es

    -- a tree with sorted entries takes in a valid key that is below them all
    one_more : (k : List ℕ) (x : V) (es : List (List ℕ × V)) → IsValid item k → IsBelow k es
        → Holds es → Holds ((k, x) ∷ es)
    one_more k x es valid below held = elim (empty_or_not k) [
      | inl none ↦ record {
        value = Some x;
        siblings = held.siblings;
        ok = held.ok;
        same = put_own item kind x held.value held.siblings held.ok ∙ ap
            (λ q. put key_cmp q x (own held.value ++ entries held.siblings)) (sym none) ∙ whole;
      }
      | inr some ↦
          (let more = grown k x held.siblings valid some held.ok in
          record {
            value = held.value;
            siblings = more.siblings;
            ok = more.ok;
            same = put_child item kind x k held.value held.siblings more.siblings some more.put ∙ whole;
          })
    ]
      where
        whole : put key_cmp k x (own held.value ++ entries held.siblings) ≡ (k, x) ∷ es
        whole = ap (put key_cmp k x) held.same ∙ put_below k x es below

    -- sorted entries with valid keys are those of a tree
    holds : (es : List (List ℕ × V)) → All (IsValid item) (keys_of es) → T (is_sorted key_cmp es)
        → Holds es
    holds [] valid sorted = record { value = None; siblings = end; ok = tt; same = refl }
    holds (e ∷ es) valid sorted = one_more e.0 e.1 es
        (All-head (IsValid item) e.0 (keys_of es) valid) (below_from e.0 es (first_part _ _ sorted))
        (holds es (All-tail (IsValid item) e.0 (keys_of es) valid) (second_part _ _ sorted))

    -- each finite map with valid keys is that of some canonical siblings
    pub held : (m : map.FinMap key_cmp V) → All (IsValid item) (map.keys m)
        → (v : Option V) × (r : Siblings V) × IsCanonical item r × (map_of v r ≡ m)
    held m valid =
        let h = holds (map.entries m) valid (map.entries_sorted m) in
        (h.value, h.siblings, h.ok, same_entries_map _ _ (entries_map item kind h.value h.siblings h.ok ∙ h.same))
