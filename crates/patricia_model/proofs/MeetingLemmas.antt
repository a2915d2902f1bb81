-- What the first bytes and the common bytes of a key and a label tell of their first items.
use Rattle.std.proofs.Common.{◌≡◌, ℕ, ◌<◌, ◌≤◌, ◌≢◌, List, [], ◌++◌, length, take, drop, get_or, ap}
use Rattle.std.proofs.Common.{arith}
use Rattle.std.proofs.Common.{length-append}
use Rattle.std.proofs.lemmas.List.{length-take-le, take-append-drop}
use Rattle.patricia_keys.specs.Keys.{IsKeyKind, IsValid, IsCommon}
use Rattle.patricia_model.specs.Internal.LabelCmp.{SharesItem, Passes}
use Rattle.patricia_model.specs.Siblings.{IsBefore}
use Rattle.patricia_keys.proofs.KeyLemmas.{Begins-trans, first_of, first_bytes_decide}

module _ (item : List ℕ → Type 0) where
  -- of two keys the one with the lesser first byte comes first
  pub before_by_first_byte : (kind : IsKeyKind item) (a b : List ℕ) → IsValid item a
      → IsValid item b → a ≢ [] → b ≢ [] → get_or a 0 0 < get_or b 0 0 → IsBefore item a b
  before_by_first_byte kind a b v w some other less =
      let first = first_of item a v some in
      let second = first_of item b w other in
      record {
        first = first.0;
        second = second.0;
        first_item = first.1;
        second_item = second.1;
        first_begins = first.2;
        second_begins = second.2;
        less = first_bytes_decide item kind a b first.0 second.0 first.1 second.1 first.2 second.2 less;
      }

  -- the common bytes are no more than the second key
  pub common-within : (a b : List ℕ) (n : ℕ) → IsCommon item a b n → n ≤ length b
  common-within a b n common =
      let long = length-take-le n a common.within in
      let total = length-append (take n a) common.begins.0 in
      omega (arith, ap length common.begins.1)

  -- keys with common bytes have one first item
  pub shares_common : (a b : List ℕ) (n : ℕ) → IsCommon item a b n → 0 < n → SharesItem item a b
  shares_common a b n common some =
      let long = length-take-le n a common.within in
      let first = first_of item (take n a) common.valid (λ none. let empty = ap length none in omega arith) in
      record {
        shared = first.0;
        is_item = first.1;
        begins_first = Begins-trans first.0 (take n a) a first.2 (drop n a, take-append-drop n a);
        begins_second = Begins-trans first.0 (take n a) b first.2 common.begins;
      }

  -- a key passes a label that is its first bytes
  pub passes_taken : (key label : List ℕ) (n : ℕ) → IsValid item label → label ≢ []
      → label ≡ take n key → Passes item key label (drop n key)
  passes_taken key label n valid some is =
      let first = first_of item label valid some in
      let splits : label ++ drop n key ≡ key = rw is (take-append-drop n key) in
      record {
        shares = record {
          shared = first.0;
          is_item = first.1;
          begins_first = Begins-trans first.0 label key first.2 (drop n key, splits);
          begins_second = first.2;
        };
        splits = splits;
      }
