use Rattle.std.proofs.Common.{List, ℕ, [], ◌∷◌, inl, inr, true, false, refl, subst}
use Rattle.patricia_keys.specs.ByteKind.{IsByteItem}
use Rattle.patricia_model.specs.Siblings.{end}
use Rattle.patricia_wire.specs.Records.{Record}
use Rattle.patricia_wire.specs.Forests.{Root}
use Rattle.patricia_wire.specs.Internal.Readings.{empty_label}
use Rattle.patricia_wire.specs.Faults.{IsUnfinished, IsDue, below, in_record, other_level}
use Rattle.patricia_wire.proofs.Places.{low_head}
use Rattle.patricia_wire.proofs.Readings.{back_split, one_due, unfinished}
use Rattle.patricia_wire.proofs.SiblingsTrees.{stands_tree}
use Rattle.patricia_wire.proofs.Spellings.{clean_spells}
use Rattle.patricia_wire.proofs.TestedReadings.{opened, opened_read, first_child, reads_clean}
use Rattle.patricia_wire.proofs.TestedReadings.{first_below}
use Rattle.patricia_wire.proofs.TestedSiblings.{byte_room}
use Rattle.patricia_wire.proofs.TightSiblings.{EndsLow}
use Rattle.patricia_wire.proofs.examples.later_fault.Goals as goal

abbrev hollow : Record
hollow = record { level = 1; label = []; value = false; child = true; sibling = false }

abbrev deep : Record
deep = record { level = 5; label = 97 ∷ []; value = true; child = false; sibling = false }

-- a tree does not end with a child mark
no_tree : (E : List (List ℕ)) → Root IsByteItem (opened ∷ hollow ∷ []) E → ⊥
no_tree E tree =
    let t = stands_tree IsByteItem (opened ∷ hollow ∷ []) E tree in
    let low = subst EndsLow t.records (low_head 0 [] t.value t.siblings end) in
    cc

-- and its prefixes are none
begun : IsUnfinished IsByteItem (opened ∷ hollow ∷ [])
begun P X E e tree = elim (back_split (opened ∷ []) hollow P X e) [
  | inl whole ↦ no_tree E (subst (λ R. Root IsByteItem R E) whole.1 tree)
  | inr part ↦ unfinished IsByteItem 1 (opened ∷ []) first_child [] (opened_read IsByteItem 1) P part.0 E part.2 tree
]

-- level 2 is due behind it
not_due : IsDue (opened ∷ hollow ∷ []) 5 → ⊥
not_due given = (let same = one_due (opened ∷ hollow ∷ []) 5 2 given (below (opened ∷ []) hollow refl) in cc)

pub returns-clause-first : goal.returns-clause-first
returns-clause-first c = first_below 1 hollow (3 ∷ 1 ∷ 0 ∷ 5 ∷ 97 ∷ []) empty_label refl (λ none. cc, refl) refl

pub returns-clause-later : goal.returns-clause-later
returns-clause-later c =
    in_record (opened ∷ hollow ∷ []) deep (3 ∷ 1 ∷ 0 ∷ 5 ∷ 97 ∷ []) []
    (reads_clean 2 (opened ∷ hollow ∷ []) (3 ∷ 1 ∷ 0 ∷ 5 ∷ 97 ∷ []) refl) begun (clean_spells 2 deep (byte_room 2 deep refl)) (other_level not_due)
