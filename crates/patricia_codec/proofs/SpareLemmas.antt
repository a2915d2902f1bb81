-- Nodes without label that are linked to one another, from the last to the first.
use Rattle.std.proofs.Common.{◌≡◌, ◌≢◌, ℕ, ◌+◌, ◌<◌, ◌≤◌, List, [], ◌∷◌, length, set, Some}
use Rattle.std.proofs.Common.{slice_get, get_or, refl, sym, ap, ◌∙◌, arith, length-set}
use Rattle.std.proofs.lemmas.Bool.Decides.{nat_tests}
use Rattle.patricia_store.specs.Internal.Nodes.{Node}
use Rattle.patricia_store.specs.Internal.Heads.{short_len_of}
use Rattle.patricia_nodes.specs.Internal.Plans.{times, one, below, first, IsChain}
use Rattle.patricia_nodes.proofs.PlanLemmas.{below_in, below_out}
use Rattle.patricia_store.proofs.HeadLemmas.{short_exact}
use Rattle.patricia_nodes.proofs.FreeLemmas.{there_read}
use Rattle.patricia_nodes.proofs.WriteLemmas.{get-set_same, get-set_other, chain-keep}
use Rattle.patricia_codec.specs.Internal.Placing.{LinksEmpty}

-- another number does not stand in itself
one-other : (id at : ℕ) → at ≢ id → one id at ≡ 0
one-other id at other = grind (arith, nat_tests)

-- what is below a bound is below the one before, or is that
below-step : (i j at : ℕ) → i ≡ j + 1 → one j at + below j at ≡ below i at
below-step i j at step = grind (arith, nat_tests)

-- a label whose short length is 0 has no byte
pub no_byte : (label : List ℕ) → 0 ≡ short_len_of label → label ≡ []
no_byte [] e = refl
no_byte (b ∷ label) e = absurd (omega (arith, short_exact (b ∷ label) 0 e (omega arith)))

-- a label whose short length is another has one
pub some_byte : (label : List ℕ) (n : ℕ) → n ≡ short_len_of label → n ≢ 0 → label ≢ []
some_byte label n e some empty = some (e ∙ ap short_len_of empty)

module _ {V : Type 0} where
  -- from the number i on, the nodes without label are linked; below it all are as they were
  pub record LinksFrom (old new : List (Node V)) (i : ℕ) (chain : List ℕ) : Type 0 where
    pub linked_so : IsChain new chain
    pub within : i ≤ length old
    pub kept : (id : ℕ) → id < i → slice_get new id ≡ slice_get old id
    pub each : (id : ℕ) (n : Node V) → slice_get old id ≡ Some n → n.label ≡ []
        → times chain id + below i id ≡ 1
    pub none_else : (id : ℕ) → ((n : Node V) → slice_get old id ≡ Some n → n.label ≢ [])
        → times chain id ≡ 0
    pub others : (id : ℕ) (n : Node V) → slice_get old id ≡ Some n → n.label ≢ []
        → slice_get new id ≡ Some n
    pub long : length new ≡ length old

  -- from the first node on, all are
  pub links_done : (old new : List (Node V)) (i : ℕ) (chain : List ℕ) → LinksFrom old new i chain
      → i ≤ 0 → LinksEmpty old new chain
  links_done old new i chain links none = record {
    linked_so = links.linked_so;
    each = λ id n at empty. omega (arith, links.each id n at empty, below_out i id (omega arith));
    none_else = links.none_else;
    others = links.others;
    long = links.long;
  }

module _ {V : Type 0} (old new : List (Node V)) (i j : ℕ) (chain : List ℕ) (n : Node V)
    (links : LinksFrom old new i chain) (step : i ≡ j + 1) (reads : n ≡ get_or new j n) where
  -- the node before is there, as it was
  at_step : slice_get old j ≡ Some n
  at_step = sym (links.kept j (omega arith)) ∙ there_read new j n (omega arith) reads

  -- a node that is not the same has another number
  apart : (id : ℕ) (m : Node V) → slice_get old id ≡ Some m → (m ≡ n → ⊥) → id ≢ j
  apart id m at differ e = differ (cc at_step)

  -- where it has a label, no more is linked
  pub links_skip : n.label ≢ [] → LinksFrom old new j chain
  links_skip some = record {
    linked_so = links.linked_so;
    within = omega arith;
    kept = λ id short. links.kept id (omega arith);
    each = λ id m at empty. omega (
      arith,
      links.each id m at empty,
      below-step i j id step,
      one-other j id (apart id m at (λ e. some (cc))),
    );
    none_else = links.none_else;
    others = links.others;
    long = links.long;
  }

  -- where it has none, it is linked to the first of the chain, and is the first then
  pub links_one : (last : List (Node V)) → n.label ≡ []
      → last ≡ set new j (record n { sibling = first chain }) → LinksFrom old last j (j ∷ chain)
  links_one last empty is =
      let alone : times chain j ≡ 0 =
      omega (arith, links.each j n at_step empty, below_in i j (omega arith)) in
      let other : (id : ℕ) → id ≢ j → slice_get last id ≡ slice_get new id =
      λ id differs. rw is (get-set_other new j id _ differs) in
      record {
        linked_so = (
          (record n { sibling = first chain }, rw is (get-set_same new j _ (omega arith)), refl),
          chain-keep new last chain (λ id stands. other id (λ e. stands (ap (times chain) e ∙ alone)))
              links.linked_so,
        );
        within = omega arith;
        kept = λ id short. other id (λ e. absurd (omega arith)) ∙ links.kept id (omega arith);
        each = λ id m at none. omega (arith, links.each id m at none, below-step i j id step);
        none_else = λ id no. omega (
          arith,
          links.none_else id no,
          one-other j id (λ e. no n (ap (slice_get old) e ∙ at_step) empty),
        );
        others = λ id m at some. other id (apart id m at (λ e. some (cc))) ∙ links.others id m at some;
        long = ap length is ∙ length-set new j _ ∙ links.long;
      }
