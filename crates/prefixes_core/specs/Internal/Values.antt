-- How a value of a list keeps its bytes.
use Rattle.std.specs.Prelude.{ℕ, List, ◌≤◌, ⊤, take}
use Rattle.prefixes_core.specs.declared.value.Stored.{Stored}
use Rattle.prefixes_core.specs.declared.value.Stored.TheVariants.{Inline, OnHeap}
use Rattle.prefixes_core.specs.declared.value.TheConstants.{INLINE}

-- the bytes: the first of an array, or those on the heap
abbrev pub bytes_of : Stored → List ℕ
bytes_of (Inline len bytes) = take len bytes
bytes_of (OnHeap bytes) = bytes.value.items

-- there are no more bytes than the array has
abbrev pub HasItsBytes : Stored → Type 0
HasItsBytes (Inline len bytes) = len ≤ INLINE
HasItsBytes (OnHeap bytes) = ⊤
