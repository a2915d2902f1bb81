-- Entries that leave a tree: the entry of a key, or those under a prefix.
use Rattle.std.proofs.Common.{◌≡◌, ◌≢◌, ℕ, List, [], ◌++◌, Option, sym, ap, subst, ◌∙◌}
use Rattle.patricia_keys.specs.Keys.{IsKeyKind}
use Rattle.patricia_model.specs.Prefixes.{outside}
use Rattle.patricia_model.specs.Internal.LabelCmp.{Passes}
use Rattle.patricia_model.specs.Internal.Removals.{others}
use Rattle.patricia_model.specs.Siblings.{Siblings, node, prefixed, own, entries, IsBefore}
use Rattle.patricia_model.specs.Siblings.{IsCanonical}
use Rattle.patricia_model.proofs.SiblingsLemmas.{AllKeys}
use Rattle.patricia_model.proofs.InsertLemmas.{keys_rise, rises_by_keys}
use Rattle.patricia_model.proofs.OutsideLemmas.{AllKeys-outside, outside_past, outside_deeper}
use Rattle.patricia_model.proofs.RemovalLemmas.{AllKeys-others, others_past, others_deeper}

-- what is left without a key, or without a prefix, by how it compares with the first label
pub record Leaves (item : List ℕ → Type 0) {V : Type 0} (left : List ℕ → List (List ℕ × V) → List (List ℕ × V)) : Type 0 where
  pub past : (l : List ℕ) (v : Option V) (c s : Siblings V) → IsCanonical item (node l v c s)
      → (q : List ℕ) → IsBefore item l q
      → left q (entries (node l v c s)) ≡ prefixed l (own v ++ entries c) ++ left q (entries s)
  pub deeper : (l : List ℕ) (v : Option V) (c s : Siblings V) → IsCanonical item (node l v c s)
      → (q t : List ℕ) → Passes item q l t → t ≢ []
      → left q (entries (node l v c s)) ≡ prefixed l (own v ++ left t (entries c)) ++ entries s
  pub keys : (l q : List ℕ) (es : List (List ℕ × V)) → AllKeys (λ k. IsBefore item l k) es
      → AllKeys (λ k. IsBefore item l k) (left q es)

module _ (item : List ℕ → Type 0) (kind : IsKeyKind item) {V : Type 0} where
  -- the entries of the keys other than one are entries that stay
  pub others_leave : Leaves item {V = V} others
  others_leave = record {
    past = λ l v c s ok q before. others_past item kind l v c s ok q before;
    deeper = λ l v c s ok q t passes some. others_deeper item kind l v c s ok q t passes some;
    keys = λ l q es all. AllKeys-others _ q es all;
  }

  -- the entries outside a prefix are entries that stay
  pub outside_leave : Leaves item {V = V} outside
  outside_leave = record {
    past = λ l v c s ok q before. outside_past item kind l v c s ok q before;
    deeper = λ l v c s ok q t passes some. outside_deeper item kind l v c s ok q t passes some;
    keys = λ l q es all. AllKeys-outside _ q es all;
  }

  module _ (left : List ℕ → List (List ℕ × V) → List (List ℕ × V)) (leaves : Leaves item left)
      (l : List ℕ) (v : Option V) (c s : Siblings V) (ok : IsCanonical item (node l v c s)) where
    -- where entries leave the siblings behind a node, all of the siblings keep the invariant
    pub siblings_past_left : (q : List ℕ) (s' : Siblings V) → IsCanonical item s'
        → entries s' ≡ left q (entries s) → IsCanonical item (node l v c s')
    siblings_past_left q s' ok' e = record {
      valid = ok.valid;
      nonempty = ok.nonempty;
      fits = tt;
      earns = ok.earns;
      rises = rises_by_keys item kind l s' ok'
          (subst (AllKeys (λ k. IsBefore item l k)) (sym e)
          (leaves.keys l q (entries s) (keys_rise item kind l s ok.sibling ok.rises)));
      child = ok.child;
      sibling = ok';
    }

    -- what leaves later siblings leaves all of them
    pub entries_past_left : (q : List ℕ) (s' : Siblings V) → IsBefore item l q
        → entries s' ≡ left q (entries s)
        → entries (node l v c s') ≡ left q (entries (node l v c s))
    entries_past_left q s' before e = ap (λ es. prefixed l (own v ++ entries c) ++ es) e ∙ sym (leaves.past l v c s ok q before)
