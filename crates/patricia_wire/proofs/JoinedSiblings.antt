-- Writable siblings have the entries of siblings in memory, with their lone children taken in.
use Rattle.std.proofs.Common.{◌≡◌, ℕ, ◌⊎◌, inl, inr, true, List, ◌++◌, Option, Some, None, refl}
use Rattle.std.proofs.Common.{◌∙◌}
use Rattle.std.specs.Prelude.{is_some}
use Rattle.patricia_keys.specs.Keys.{IsKeyKind}
use Rattle.patricia_keys.proofs.KeyLemmas.{Begins-trans}
use Rattle.patricia_model.specs.Siblings.{Siblings, end, node, prefixed, own, entries, IsBefore}
use Rattle.patricia_model.specs.Siblings.{IsBeforeSiblings, EarnsWithin, IsCanonical}
use Rattle.patricia_model.proofs.RemovalLemmas.{taken_in_siblings, taken_in_entries}
use Rattle.patricia_wire.specs.Internal.WrittenSiblings.{has_node, over, joined, IsWritable}

module _ (item : List ℕ → Type 0) where
  -- what comes before a label comes before it with more behind
  before_longer : (k l m : List ℕ) → IsBefore item k l → IsBefore item k (l ++ m)
  before_longer k l m b = record {
    first = b.first;
    second = b.second;
    first_item = b.first_item;
    second_item = b.second_item;
    first_begins = b.first_begins;
    second_begins = Begins-trans b.second l (l ++ m) b.second_begins (m, refl);
    less = b.less;
  }

module _ (item : List ℕ → Type 0) (kind : IsKeyKind item) {V : Type 0} where
  -- siblings that stand for others: what comes before the ones comes before the others
  pub record IsJoined (r siblings : Siblings V) : Type 0 where
    pub ok : IsCanonical item siblings
    pub same : entries siblings ≡ entries r
    pub there : has_node siblings ≡ has_node r
    pub before : (k : List ℕ) → IsBeforeSiblings item k r → IsBeforeSiblings item k siblings

  -- where children and siblings are joined, a node is, once it takes in a lone child
  joined_node : (l : List ℕ) (v : Option V) (c s d t : Siblings V) → IsWritable item (node l v c s)
      → IsJoined c d → IsJoined s t → IsJoined (node l v c s) (over l v d t)
  joined_node l v c s d t ok child sibling = go v d ok.marked child.ok child.there child.same
    where
      kept : (w : Option V) (d : Siblings V) → EarnsWithin item None l w d → IsCanonical item d
          → entries d ≡ entries c → IsJoined (node l w c s) (node l w d t)
      kept w d earns okd same = record {
        ok = record {
          valid = ok.valid;
          nonempty = ok.nonempty;
          fits = tt;
          earns = earns;
          rises = sibling.before l ok.rises;
          child = okd;
          sibling = sibling.ok;
        };
        same = λ i. prefixed l (own w ++ same i) ++ sibling.same i;
        there = refl;
        before = λ k b. b;
      }

      go : (w : Option V) (d : Siblings V) → (is_some w ≡ true) ⊎ (has_node c ≡ true)
          → IsCanonical item d → has_node d ≡ has_node c → entries d ≡ entries c
          → IsJoined (node l w c s) (over l w d t)
      go (Some x) d marked okd there same = kept (Some x) d tt okd same
      go None end marked okd there same = elim marked [
        | inl e ↦ absurd (cc)
        | inr e ↦ absurd (cc)
      ]
      go None (node m w d end) marked okd there same = record {
        ok = taken_in_siblings item kind l None m w d t ok.valid ok.nonempty (sibling.before l ok.rises) sibling.ok okd;
        same = taken_in_entries item kind l m w d t ∙ (λ i. prefixed l (same i) ++ sibling.same i);
        there = refl;
        before = λ k b. before_longer item k l m b;
      }
      go None (node m w d (node m' w' d' t')) marked okd there same = kept None (node m w d (node m' w' d' t')) tt okd same

  -- writable siblings with their lone children joined keep the invariant, and their entries
  pub joined_is : (r : Siblings V) → IsWritable item r → IsJoined r (joined r)
  joined_is end ok = record { ok = tt; same = refl; there = refl; before = λ k b. b }
  joined_is (node l v c s) ok = joined_node l v c s (joined c) (joined s) ok (joined_is c ok.child) (joined_is s ok.sibling)
