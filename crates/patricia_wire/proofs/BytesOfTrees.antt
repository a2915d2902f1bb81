-- An encoding of the keys of entries is their tree bytes.
use Rattle.std.proofs.Common.{◌≡◌, ℕ, List, refl, sym, subst}
use Rattle.patricia_keys.specs.Keys.{IsKeyKind}
use Rattle.patricia_model.specs.Siblings.{keys_of}
use Rattle.patricia_wire.specs.Records.{Record, EncodeAll}
use Rattle.patricia_wire.specs.Writings.{Canon}
use Rattle.patricia_wire.specs.Counts.{LabelsAreFronts, RecordsArePoints, AreFew}
use Rattle.patricia_wire.specs.TreeBytes.{AreTreeBytes}
use Rattle.patricia_wire.specs.WireLaws.{TellsKeySets, DependsOnKeysAlone}
use Rattle.patricia_wire.proofs.Spellings.{one_list}
use Rattle.patricia_wire.proofs.OneTree as tree
use Rattle.patricia_wire.proofs.OneMeaning as meaning
use Rattle.patricia_wire.proofs.WrittenOrDeep.{never_both}
use Rattle.patricia_wire.proofs.FrontLemmas.{labels_are_fronts}
use Rattle.patricia_wire.proofs.CountLemmas.{records_are_points, records_are_few}

module _ (item : List ℕ → Type 0) (kind : IsKeyKind item) where
  -- the encoding of the keys of entries is the tree bytes of the entries
  pub tree_bytes : {V : Type 0} (w : ℕ) (b : List ℕ) (entries : List (List ℕ × V))
      → Canon item w b (keys_of entries) → AreTreeBytes item w b entries
  tree_bytes w b entries x =
      let S = keys_of entries in
      let one : (R : List Record) → EncodeAll w R b → x.records ≡ R = λ R spelled. one_list w x.records R b (meaning.writing_spells item w b S x) spelled in
      record {
        means = meaning.writing_means item w b entries x;
        one_writing = λ c. (λ y. tree.one_writing item kind w c b S y x, λ e. subst (λ d. Canon item w d S) (sym e) x);
        one_key_set = λ T. (λ y. meaning.one_key_set item w b T S y x, λ e. subst (Canon item w b) (sym e) x);
        not_too_deep = never_both item kind w b S x;
        fronts = λ R spelled. subst (λ X. LabelsAreFronts item X S) (one R spelled) (labels_are_fronts item kind x.records S x.root x.tight);
        points = λ R spelled. subst (λ X. RecordsArePoints item X S) (one R spelled) (records_are_points item kind x.records S x.root x.tight);
        few = λ R spelled. subst (λ X. AreFew X S) (one R spelled) (records_are_few item kind x.records S x.root x.tight);
      }

  -- the tree bytes of entries are the encoding of their keys
  canon : {V : Type 0} (w : ℕ) (b : List ℕ) (entries : List (List ℕ × V)) → AreTreeBytes item w b entries
      → Canon item w b (keys_of entries)
  canon w b entries x = (let one = x.one_key_set (keys_of entries) in one.1 refl)

  -- tree bytes are equal exactly where the key sets are
  pub tells_key_sets : (V W : Type 0) → TellsKeySets item V W
  tells_key_sets V W w b c entries others x y = (
    λ e. (let one = y.one_key_set (keys_of entries) in one.0 (subst (λ d. Canon item w d (keys_of entries)) e (canon w b entries x))),
    λ e. (let one = y.one_writing b in one.0 (subst (Canon item w b) e (canon w b entries x))),
  )

  -- which bytes are the tree bytes does not depend on the values
  pub depends_on_keys_alone : (V W : Type 0) → DependsOnKeysAlone item V W
  depends_on_keys_alone V W w b entries others e = (
    λ x. tree_bytes w b others (subst (Canon item w b) e (canon w b entries x)),
    λ y. tree_bytes w b entries (subst (Canon item w b) (sym e) (canon w b others y)),
  )
