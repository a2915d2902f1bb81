-- A tree without its first or its last entry, by what is left of its value and its nodes.
use Rattle.std.proofs.Common.{◌≡◌, ◌≢◌, ℕ, List, [], ◌∷◌, ◌++◌, Option, Some, None, is_some, true}
use Rattle.std.proofs.Common.{refl, sym, ap, ◌∙◌}
use Rattle.std.specs.Prelude.{IfOk, OnOk, OnErr, Result, Ok, Err}
use Rattle.std.specs.FinMap as map
use Rattle.std.specs.FinMap.{FinMap}
use Rattle.std.specs.Map.Iter.{TakesFirst, TakesLast}
use Rattle.std.specs.Option.{option_map}
use Rattle.std.proofs.lemmas.List.{append_assoc}
use Rattle.patricia_keys.specs.Keys.{IsKeyKind, key_cmp}
use Rattle.patricia_model.specs.Siblings.{Siblings, own, entries, IsCanonical}
use Rattle.patricia_model.specs.Trees.{map_of}
use Rattle.patricia_model.proofs.TreeLemmas.{entries_map}

-- what is shown is the entry, where there is one
shown : {A V : Type 0} (shows : A → List ℕ × V) (v : V) (o : Option A)
    → option_map shows o ≡ option_map {U = List ℕ × V} (λ v. ([], v)) (Some v)
    → (a : A) × (o ≡ Some a) × (shows a ≡ ([], v))
shown shows v None is = absurd (cc)
shown shows v (Some a) is = (a, refl, let same : shows a ≡ ([], v) = cc in same)

-- nothing is shown, where there is none
shown_none : {A V : Type 0} (shows : A → List ℕ × V) (o : Option A)
    → option_map shows o ≡ option_map {U = List ℕ × V} (λ v. ([], v)) None → o ≡ None
shown_none shows None is = refl
shown_none shows (Some a) is = absurd (cc)

module _ (item : List ℕ → Type 0) (kind : IsKeyKind item) {V : Type 0} where
  -- the entries of a tree without the empty key are those of its nodes
  entries_none : (v : Option V) (r : Siblings V) → IsCanonical item r → v ≡ None
      → map.entries (map_of v r) ≡ entries r
  entries_none v r ok none = entries_map item kind v r ok ∙ ap (λ w. own w ++ entries r) none

  -- where its nodes have entries, it has
  pub nodes_filled : (v : Option V) (r : Siblings V) (m : FinMap key_cmp V) → IsCanonical item r
      → map_of v r ≡ m
      → entries r ≢ [] → map.entries m ≢ []
  nodes_filled v r m ok is some none = by v (sym (entries_map item kind v r ok) ∙ ap map.entries is
      ∙ none)
    where
      by : (v : Option V) → own v ++ entries r ≡ [] → ⊥
      by None e = some e
      by (Some x) e = absurd (cc)

  -- and so it has with the empty key
  pub value_filled : {A E : Type 0} (v : Option V) (s : Siblings V) (m : FinMap key_cmp V)
      → IsCanonical item s
      → map_of v s ≡ m → (r : Result A E) → OnErr r (v ≢ None) → OnErr r (map.entries m ≢ [])
  value_filled v s m ok is (Ok x) h = tt
  value_filled v s m ok is (Err e) h = λ none. by v h
      (sym (entries_map item kind v s ok) ∙ ap map.entries is ∙ none)
    where
      by : (v : Option V) → v ≢ None → own v ++ entries s ≡ [] → ⊥
      by None some e = some refl
      by (Some x) some e = absurd (cc)

  module _ {A : Type 0} (shows : A → List ℕ × V) where
    -- the first entry of the nodes is that of a tree without the empty key
    pub pops_first : (v : Option V) (r s : Siblings V) (m : FinMap key_cmp V) → IsCanonical item r
        → IsCanonical item s → map_of v r ≡ m → v ≡ None → (o p : Option A) → o ≡ p
        → TakesFirst shows (entries r) o (entries s)
        → TakesFirst shows (map.entries m) p (map.entries (map_of v s))
    pops_first v r s m ok ok' is none o p same taken =
        let old : map.entries m ≡ entries r = ap map.entries (sym is) ∙ entries_none v r ok none in
        let new : map.entries (map_of v s) ≡ entries s = entries_none v s ok' none in
        rw (← same, old, new) taken

    -- and the last one that of any tree
    pub pops_last : (v : Option V) (r s : Siblings V) (m : FinMap key_cmp V) → IsCanonical item r
        → IsCanonical item s → map_of v r ≡ m → (a : A)
        → TakesLast shows (entries r) (Some a) (entries s)
        → TakesLast shows (map.entries m) (Some a) (map.entries (map_of v s))
    pops_last v r s m ok ok' is a taken =
        ap map.entries (sym is) ∙ entries_map item kind v r ok ∙ ap (λ es. own v ++ es) taken
        ∙ sym (append_assoc (own v) (entries s) (shows a ∷ []))
        ∙ ap (λ es. es ++ shows a ∷ []) (sym (entries_map item kind v s ok'))

    module _ (v w : Option V) (s : Siblings V) (m : FinMap key_cmp V) (ok : IsCanonical item s)
        (is : map_of v s ≡ m) {E : Type 0} where
      -- the empty key is the first
      pub empty_first : is_some v ≡ true → (r : Result (Option A) E)
          → IfOk r (λ o. option_map shows o ≡ option_map {U = List ℕ × V} (λ v. ([], v)) v)
          → OnOk r (w ≡ None) → IfOk r (λ o. TakesFirst shows (map.entries m) o
          (map.entries (map_of w s)))
      empty_first some (Err e) got left = tt
      empty_first some (Ok o) got left = by v refl some got
        where
          by : (u : Option V) → v ≡ u → is_some u ≡ true
              → option_map shows o ≡ option_map {U = List ℕ × V} (λ v. ([], v)) u
              → TakesFirst shows (map.entries m) o (map.entries (map_of w s))
          by None same none got = absurd (cc)
          by (Some x) same some got =
              let a = shown shows x o got in
              let old : map.entries m ≡ ([], x) ∷ entries s = ap map.entries (sym is)
              ∙ entries_map item kind v s ok ∙ ap (λ u. own u ++ entries s) same in
              let new : map.entries (map_of w s) ≡ entries s = entries_none w s ok left in
              rw a.1 (rw (a.2, new) old)

      -- and the last where the nodes have no entry
      pub empty_last : (t : Siblings V) → IsCanonical item t → entries s ≡ [] → entries t ≡ []
          → (r : Result (Option A) E)
          → IfOk r (λ o. option_map shows o ≡ option_map {U = List ℕ × V} (λ v. ([], v)) v)
          → OnOk r (w ≡ None) → IfOk r (λ o. TakesLast shows (map.entries m) o
          (map.entries (map_of w t)))
      empty_last t ok' none none' (Err e) got left = tt
      empty_last t ok' none none' (Ok o) got left = by v refl got
        where
          new : map.entries (map_of w t) ≡ []
          new = entries_none w t ok' left ∙ none'

          by : (u : Option V) → v ≡ u
              → option_map shows o ≡ option_map {U = List ℕ × V} (λ v. ([], v)) u
              → TakesLast shows (map.entries m) o (map.entries (map_of w t))
          by None same got =
              let old : map.entries m ≡ [] = ap map.entries (sym is) ∙ entries_none v s ok same
              ∙ none in
              rw (shown_none shows o got) (old, new)
          by (Some x) same got =
              let a = shown shows x o got in
              let old : map.entries m ≡ ([], x) ∷ [] = ap map.entries (sym is)
              ∙ entries_map item kind v s ok ∙ ap (λ u. own u ++ entries s) same
              ∙ ap (λ es. ([], x) ∷ es) none in
              rw a.1 (rw (a.2, new) old)
