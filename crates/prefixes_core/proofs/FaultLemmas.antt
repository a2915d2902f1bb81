-- What is wrong with bytes that are no packed list.
use Rattle.std.proofs.Common.{◌≡◌, ℕ, ◌+◌, ◌-◌, ◌⊎◌, inl, inr, true, false, List, [], ◌∷◌}
use Rattle.std.proofs.Common.{◌++◌, map, length, take, refl, sym, ap, subst, ◌∙◌, arith}
use Rattle.std.specs.List.{concat}
use Rattle.std.specs.Str.{bytes_eq}
use Rattle.std.proofs.lemmas.List.{append_assoc, length-append}
use Rattle.patricia_tree.specs.Faults.{IsFirst, IsRefusal}
use Rattle.patricia_tree.specs.TextKind.{IsTextItem}
use Rattle.patricia_tree.specs.declared.DecodeError.{DecodeError}
use Rattle.patricia_tree.specs.declared.DecodeError.TheVariants.{Memory}
use Rattle.prefixes_core.specs.Packings.{head, counted}
use Rattle.prefixes_core.specs.UnpackFaults.{IsCut, IsUnpackFault, IsValueFault}
use Rattle.prefixes_core.specs.declared.packing.UnpackError.{UnpackError}
use Rattle.prefixes_core.specs.declared.packing.UnpackError.TheVariants as Faults

-- bytes that are tested not to begin with the head do not
pub head_named : (bytes : List ℕ) → bytes_eq (take 9 bytes) head ≡ false
    → IsUnpackFault bytes Faults.Head
head_named bytes other begun =
    let no : true ≡ false = subst (λ b. bytes_eq (take 9 b) head ≡ false) (sym begun.1) other in
    absurd (cc)

-- the first bytes behind the head are cut short
pub front_named : (bytes rest : List ℕ) → bytes ≡ head ++ rest
    → ((field more : List ℕ) → rest ≡ counted field ++ more → ⊥)
    → IsUnpackFault bytes (Faults.Truncated 9)
front_named bytes rest e cut =
    (rest, e, record { whole = []; rest = rest; is = refl; place = refl; cut = cut })

-- values that are cut short, behind whole ones
pub value_cut : (bytes : List ℕ) (start : ℕ) (values : List (List ℕ)) (rest : List ℕ)
    → concat (map counted values) ++ rest ≡ bytes
    → ((field more : List ℕ) → rest ≡ counted field ++ more → ⊥)
    → IsCut bytes start (start + (length bytes - length rest))
value_cut bytes start values rest e cut =
    let both = length-append (concat (map counted values)) rest in
    record {
      whole = values;
      rest = rest;
      is = sym e;
      place = omega (arith, both, ap length e);
      cut = cut;
    }

-- a fault of the values is one of the bytes
pub values_named : (bytes tree rest : List ℕ) (start : ℕ) (fault : UnpackError)
    → bytes ≡ head ++ (counted tree ++ rest) → start ≡ length bytes - length rest
    → IsValueFault rest start fault → IsUnpackFault bytes fault
values_named bytes tree rest start Faults.Head e place is = absurd is
values_named bytes tree rest start (Faults.Truncated at) e place is =
    let outer = length-append head (counted tree ++ rest) in
    let inner = length-append (counted tree) rest in
    let more = length-append (counted tree) (concat (map counted is.whole)) in
    let size = ap length e in (
      counted tree ++ rest,
      e,
      record {
        whole = tree ∷ is.whole;
        rest = is.rest;
        is = ap (λ l. counted tree ++ l) is.is
            ∙ sym (append_assoc (counted tree) (concat (map counted is.whole)) is.rest);
        place = omega (arith, outer, inner, more, size, place, is.place);
        cut = is.cut;
      },
    )
values_named bytes tree rest start (Faults.Tree at fault) e place is = absurd is
values_named bytes tree rest start Faults.Memory e place is = tt

-- a refusal of tree bytes that is not out of memory names their first fault
first_of : (tree : List ℕ) (n : ℕ) (fault : DecodeError) → (fault ≡ Memory → ⊥)
    → IsRefusal IsTextItem 2 tree n fault → IsFirst IsTextItem 2 tree n fault
first_of tree n fault other (inl memory) = absurd (other memory)
first_of tree n fault other (inr first) = first

-- a fault of the tree bytes is named with the offset at which they begin
pub tree_named : (bytes tree rest : List ℕ) (values : List (List ℕ)) (fault : DecodeError)
    (named : UnpackError) → bytes ≡ head ++ (counted tree ++ rest)
    → rest ≡ concat (map counted values) → IsRefusal IsTextItem 2 tree (length values) fault
    → (named ≡ Faults.Memory) ⊎ ((fault ≡ Memory → ⊥) × (named ≡ Faults.Tree 17 fault))
    → IsUnpackFault bytes named
tree_named bytes tree rest values fault named e f refused (inl memory) =
    subst (IsUnpackFault bytes) (sym memory) tt
tree_named bytes tree rest values fault named e f refused (inr other) =
    subst (IsUnpackFault bytes) (sym other.1) (
      refl,
      record {
        tree = tree;
        values = values;
        is = e ∙ ap (λ l. head ++ (counted tree ++ l)) f;
        first = first_of tree (length values) fault other.0 refused;
      },
    )
