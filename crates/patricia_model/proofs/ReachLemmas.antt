-- The common length of a key with the keys of siblings.
use Rattle.std.proofs.Common.{◌≡◌, ℕ, ◌+◌, ◌-◌, ◌≤◌, ◌⊎◌, inl, inr, List, [], ◌∷◌, ◌++◌, Option}
use Rattle.std.proofs.Common.{None, Some, length, take, drop, refl, sym, ap, ◌∙◌, arith}
use Rattle.std.proofs.lemmas.List.{append-nil, take-append-drop, length-take-le, length-append}
use Rattle.std.proofs.lemmas.List.{append_cancel_left, append_assoc}
use Rattle.std.proofs.Math.Seq.{take-append-add}
use Rattle.std.proofs.lemmas.Bool.{cases_lt}
use Rattle.patricia_keys.specs.Keys.{Begins, IsKeyKind, IsValid, IsCommon}
use Rattle.patricia_keys.proofs.KeyLemmas.{Begins-trans, begins_either, begins_same}
use Rattle.patricia_keys.proofs.KeyLemmas.{key_cmp-irreflexive, IsValid-nil, IsValid-append}
use Rattle.patricia_keys.proofs.KeyLemmas.{valid_rest}
use Rattle.patricia_model.specs.Points.{Has}
use Rattle.patricia_model.specs.Prefixes.{IsReach}
use Rattle.patricia_model.specs.Internal.LabelCmp.{SharesItem, EndsWithin, Passes}
use Rattle.patricia_model.specs.Siblings.{Siblings, node, prefixed, own, entries, keys_of, IsBefore}
use Rattle.patricia_model.specs.Siblings.{IsCanonical}
use Rattle.patricia_model.proofs.SiblingsLemmas.{lacks_item}
use Rattle.patricia_model.proofs.GetLemmas.{common_whole}
use Rattle.patricia_model.proofs.PointLemmas.{has_prefixed, has_after, has_one}
use Rattle.patricia_model.proofs.JoinLemmas.{AllKeys-at, some_key}

-- the first n bytes of q are a valid key and begin a key of S, or are none, and no more bytes do
pub record Reaches (item : List ℕ → Type 0) (S : List (List ℕ)) (q : List ℕ) (n : ℕ) : Type 0 where
  pub within : n ≤ length q
  pub valid : IsValid item (take n q)
  pub met : (n ≡ 0) ⊎ ((k : List ℕ) × Has S k × Begins (take n q) k)
  pub furthest : (k : List ℕ) (m : ℕ) → Has S k → m ≤ length q → IsValid item (take m q)
      → Begins (take m q) k → m ≤ n

module _ (item : List ℕ → Type 0) where
  -- some valid bytes of a key are none, or begin with its first item
  none_or_item : (q : List ℕ) (m : ℕ) → m ≤ length q → IsValid item (take m q)
      → (m ≡ 0) ⊎ ((i : List ℕ) × item i × Begins i (take m q))
  none_or_item q m within ([], ok, e) = inl (let none = ap length e in let long = length-take-le m q within in omega arith)
  none_or_item q m within (i ∷ is, ok, e) = inr (i, ok.0, (_, e))

  -- the first bytes of a key begin it
  front_begins : (q : List ℕ) (m : ℕ) → Begins (take m q) q
  front_begins q m = (drop m q, take-append-drop m q)

  -- the empty key has no byte in common
  pub reaches_nothing : (S : List (List ℕ)) → Reaches item S [] 0
  reaches_nothing S = record { within = omega arith; valid = IsValid-nil item; met = inl refl; furthest = λ k m has within valid b. within }

  -- where there is no key, no byte is common
  pub reaches_end : (q : List ℕ) → Reaches item [] q 0
  reaches_end q = record { within = omega arith; valid = IsValid-nil item; met = inl refl; furthest = λ k m has within valid b. absurd has }

  -- the empty key changes nothing
  pub reaches_own : {V : Type 0} (q : List ℕ) (v : Option V) (es : List (List ℕ × V)) (n : ℕ)
      → Reaches item (keys_of es) q n → Reaches item (keys_of (own v ++ es)) q n
  reaches_own q None es n r = r
  reaches_own q (Some v) es n r = record {
    within = r.within;
    valid = r.valid;
    met = elim r.met [
      | inl none ↦ inl none
      | inr some ↦ inr (some.0, inr some.1, some.2)
    ];
    furthest = λ k m has within valid b. elim has [
      | inl e ↦
          let long = length-take-le m q within in
          let total = length-append (take m q) b.0 in
          let all = ap length b.1 in
          let none = ap length e in
          omega arith
      | inr h ↦ r.furthest k m h within valid b
    ];
  }

  -- the greatest of all common lengths
  pub reach_is : (S : List (List ℕ)) (q : List ℕ) (n : ℕ) → Reaches item S q n → IsReach item S q n
  reach_is S q n r = record { reached = by S r; furthest = λ k m has c. r.furthest k m has c.within c.valid c.begins }
    where
      by : (S : List (List ℕ)) → Reaches item S q n
          → ((S ≡ []) × (n ≡ 0)) ⊎ ((k : List ℕ) × Has S k × IsCommon item q k n)
      by [] r = elim r.met [
        | inl none ↦ inl (refl, none)
        | inr some ↦ absurd (some.1)
      ]
      by (x ∷ S) r = elim r.met [
        | inl none ↦ inr (
          x,
          inl refl,
          record {
            within = r.within;
            valid = r.valid;
            begins = rw none (x, refl);
            greatest = λ m within valid b. r.furthest x m (inl refl) within valid b;
          },
        )
        | inr some ↦ inr (
          some.0,
          some.1,
          record {
            within = r.within;
            valid = r.valid;
            begins = some.2;
            greatest = λ m within valid b. r.furthest some.0 m some.1 within valid b;
          },
        )
      ]

module _ (item : List ℕ → Type 0) (kind : IsKeyKind item) {V : Type 0} (l : List ℕ) (v : Option V)
    (c s : Siblings V) (ok : IsCanonical item (node l v c s)) (q : List ℕ) where
  -- the keys of the siblings
  abbrev S : List (List ℕ)
  S = keys_of (entries (node l v c s))

  -- no byte is common with a key that another first item begins
  none_common : (i k : List ℕ) → item i → Begins i q → (Begins i k → ⊥) → (m : ℕ) → m ≤ length q
      → IsValid item (take m q) → Begins (take m q) k → m ≤ 0
  none_common i k is b other m within valid begun = elim (none_or_item item q m within valid) [
    | inl none ↦ omega arith
    | inr some ↦
        let same = begins_same item kind i some.0 q is some.1 b (Begins-trans some.0 (take m q) q some.2 (front_begins item q m)) in
        absurd (other (rw same (Begins-trans some.0 (take m q) k some.2 begun)))
  ]

  -- keys go with one that comes after the label as far as those of the siblings do
  pub reaches_past : IsBefore item l q → (n : ℕ) → Reaches item (keys_of (entries s)) q n
      → Reaches item S q n
  reaches_past before n r = record {
    within = r.within;
    valid = r.valid;
    met = elim r.met [
      | inl none ↦ inl none
      | inr some ↦ inr (some.0, has_after (prefixed l (own v ++ entries c)) (entries s) some.0 some.1, some.2)
    ];
    furthest = λ k m has within valid b. elim (has_one l (own v ++ entries c) (entries s) k has) [
      | inl mine ↦
          let other : Begins before.second k → ⊥ = λ d.
          let same = begins_same item kind before.first before.second k before.first_item
          before.second_item
          (Begins-trans before.first l k before.first_begins (mine.0, mine.1)) d in
          key_cmp-irreflexive before.first before.second same before.less in
          let none = none_common before.second k before.second_item before.second_begins other m within valid b in
          omega arith
      | inr later ↦ r.furthest k m later within valid b
    ];
  }

  -- no key goes with one that comes before the label
  pub reaches_before : IsBefore item q l → Reaches item S q 0
  reaches_before before = record {
    within = omega arith;
    valid = IsValid-nil item;
    met = inl refl;
    furthest = λ k m has within valid b.
        none_common before.first k before.first_item before.first_begins
        (AllKeys-at (λ k. Begins before.first k → ⊥) (entries (node l v c s)) k
        (lacks_item item kind None before.first q before.first_item before.first_begins
        (node l v c s) ok before) has)
        m within valid b;
  }

  -- the keys beside a label that shares the first item have no common byte
  beside_none : SharesItem item q l → (k : List ℕ) → Has (keys_of (entries s)) k → (m : ℕ)
      → m ≤ length q → IsValid item (take m q) → Begins (take m q) k → m ≤ 0
  beside_none share k has m within valid b =
      none_common share.shared k share.is_item share.begins_first
      (AllKeys-at (λ k. Begins share.shared k → ⊥) (entries s) k
      (lacks_item item kind None share.shared l share.is_item share.begins_second s ok.sibling
      ok.rises) has)
      m within valid b

  -- where the key leaves the label or ends in it, keys go with it as far as the label does
  pub reaches_within : (n : ℕ) → EndsWithin item q l n → Reaches item S q n
  reaches_within n ends = record {
    within = ends.common.within;
    valid = ends.common.valid;
    met = let some = some_key item kind l v c s ok in inr (l ++ some.0, some.1, Begins-trans (take n q) l (l ++ some.0) ends.common.begins (some.0, refl));
    furthest = λ k m has within valid b. elim (has_one l (own v ++ entries c) (entries s) k has) [
      | inl mine ↦ elim (begins_either (take m q) l b.0 mine.0 (b.1 ∙ sym mine.1)) [
        | inl front ↦ ends.common.greatest m within valid front
        | inr whole ↦
            let long = common_whole item q l n ok.valid ends.common (Begins-trans l (take m q) q whole (front_begins item q m)) in
            let short = ends.short in
            absurd (omega arith)
      ]
      | inr later ↦ let none = beside_none ends.shares k later m within valid b in omega arith
    ];
  }

  -- through the label keys go with it as far as the label, and as those below do
  pub reaches_through : (t : List ℕ) → Passes item q l t → (n : ℕ)
      → Reaches item (keys_of (own v ++ entries c)) t n → Reaches item S q (length l + n)
  reaches_through t passes n r = record {
    within = omega (arith, r.within, total);
    valid = rw front (IsValid-append item l (take n t) ok.valid r.valid);
    met = elim r.met [
      | inl none ↦ let some = some_key item kind l v c s ok in inr (l ++ some.0, some.1, rw front (rw none (some.0, ap (λ p. p ++ some.0) (append-nil l))))
      | inr some ↦ inr (
        l ++ some.0,
        has_prefixed l (own v ++ entries c) (entries s) some.0 some.1,
        rw front
            (some.2.0, append_assoc l (take n t) some.2.0 ∙ ap (λ p. l ++ p) some.2.1),
      )
    ];
    furthest = λ k m has within valid b. elim (has_one l (own v ++ entries c) (entries s) k has) [
      | inl mine ↦ deeper mine.0 mine.2 m within valid (b.0, b.1 ∙ sym mine.1)
      | inr later ↦ let none = beside_none passes.shares k later m within valid b in omega arith
    ];
  }
    where
      front : take (length l + n) q ≡ l ++ take n t
      front = ap (take (length l + n)) (sym passes.splits) ∙ take-append-add l t n

      total : length q ≡ length l + length t
      total = ap length (sym passes.splits) ∙ length-append l t

      deeper : (k : List ℕ) → Has (keys_of (own v ++ entries c)) k → (m : ℕ) → m ≤ length q
          → IsValid item (take m q) → Begins (take m q) (l ++ k) → m ≤ length l + n
      deeper k has m within valid b = elim (cases_lt (length l) m) [
        | inl more ↦
            let d = m - length l in
            let split : m ≡ length l + d = omega arith in
            let is : take m q ≡ l ++ take d t = ap (λ i. take i q) split ∙ ap (take (length l + d)) (sym passes.splits) ∙ take-append-add l t d in
            let rest = append_cancel_left l (take d t ++ b.0) k (sym (append_assoc l (take d t) b.0) ∙ ap (λ p. p ++ b.0) (sym is) ∙ b.1) in
            let less = r.furthest k d has (omega (arith, total)) (valid_rest item kind l (take d t) ok.valid (rw is at valid)) (b.0, rest) in
            omega arith
        | inr short ↦ omega arith
      ]
