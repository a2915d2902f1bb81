-- A full `SharedPointer` and a `RawBox` own what a box at the same types owns.
use mir.Syntax.{impl, tnil, dnil}
use mathlib.Core.List.{[]}
use denote.Signature.{Slot, plain}
use Rattle.std_alloc.proofs.BoxSteps.Form.{Bx}
use Rattle.std_heap.specs.contracts.Global as Heap
use Rattle.std_heap.specs.contracts.GlobalAllocator.TheImpl.{ghosts, dict}
use Rattle.std_heap.proofs.Global.TheLaws as heap
use Rattle.patricia_c.specs.contracts.shared_pointer.SharedMap as Stored
use Rattle.patricia_c.proofs.shared_pointer.SharedMap.TheLaws as stored
use Rattle.patricia_c.specs.contracts.raw_box.RawBox as RawBox
use Rattle.patricia_c.specs.contracts.shared_pointer.SharedPointer as SharedPointer

abbrev pub E : Bx
E = record { row = Stored.the_row; laws = stored.the_row_laws; al = record { row = Heap.the_row; laws = heap.the_row_laws; g = ghosts; d = dict; drops = impl [] tnil dnil } }

abbrev pub FromRawBox : Slot 0
FromRawBox = plain (λ _. RawBox.the_row Stored.the_row Heap.the_row ghosts)

abbrev pub FromPointer : Slot 0
FromPointer = plain (λ _. SharedPointer.the_row)
