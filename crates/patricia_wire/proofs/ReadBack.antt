-- What was written is read back, unless an allocation fails.
use Rattle.std.proofs.Common.{◌≡◌, ℕ, List, length, inl, inr}
use Rattle.patricia_model.specs.Walks.{values_of}
use Rattle.patricia_wire.specs.Writings.{Means}
use Rattle.patricia_wire.specs.Faults.{IsFirst, IsRefusal}
use Rattle.patricia_wire.specs.declared.error.DecodeError.{DecodeError}
use Rattle.patricia_wire.specs.declared.error.DecodeError.TheVariants.{Memory}
use Rattle.patricia_wire.specs.TreeBytes.{AreTreeBytes}
use Rattle.patricia_wire.proofs.NoFault.{no_fault_meant}
use Rattle.patricia_wire.proofs.OneMeaning.{one_meaning}

module _ (item : List ℕ → Type 0) {V : Type 0} where
  -- tree bytes mean their entries, and there is one meaning
  pub reads_back : (w : ℕ) (b : List ℕ) (entries M : List (List ℕ × V)) → AreTreeBytes item w b entries
      → Means item w b (values_of entries) M → M ≡ entries
  reads_back w b entries M x means = one_meaning item w b (values_of entries) M entries means x.means

  -- bytes and values that mean entries have no first fault
  pub no_first_fault :
      (w : ℕ) (b : List ℕ) (values : List V) (M : List (List ℕ × V)) (e : DecodeError)
      → Means item w b values M → IsFirst item w b (length values) e → ⊥
  no_first_fault w b values M e means first = no_fault_meant item w b values M first.number first.at e means first.stands

  -- so nothing but out of memory refuses them
  pub memory_alone :
      (w : ℕ) (b : List ℕ) (values : List V) (M : List (List ℕ × V)) (e : DecodeError)
      → Means item w b values M → IsRefusal item w b (length values) e → e ≡ Memory
  memory_alone w b values M e means (inl memory) = memory
  memory_alone w b values M e means (inr first) = absurd (no_first_fault w b values M e means first)
