-- A `SharedPointer` may go to another thread: a full one as a box of a map may, and an empty one owns nothing.
use mir.Raw.{raw}
use denote.Memory.{lone}
use denote.Struct.Struct.{exits_of}
use denote.Struct.Owning.{shape, fields, to}
use denote.Param.Send.{IsSend, AllSend, owning_send, struct_send, sendable}
use Rattle.std.proofs.Crossing as heap
use Rattle.std_alloc.proofs.SendSync.{quiet, lies}
use Rattle.std_heap.proofs.Global.TheSendSync as handle
use base.Shift.{Keyless}
use denote.RawPtr.{Ptr}
use Rattle.std.specs.Global.{Global}
use Rattle.std.specs.Prelude.{Option, None, Some}
use Rattle.patricia_c.specs.Internal.OwnedShared.{shared_owns}
use Rattle.patricia_c.specs.contracts.shared_pointer.SharedMap as Stored
use Rattle.patricia_c.proofs.shared_pointer.SharedMap.TheSendSync.{the_send as stored}
use Rattle.patricia_c.specs.contracts.shared_pointer.SharedPointer.{the_row, the_type}

owned : (a : Global) (p : Ptr) (m : Option Stored.the_row.Denot) → Keyless (shared_owns a p m)
owned a p None = tt
owned a p (Some w) = (lies Stored.the_row stored p w, heap.frees.frees a (raw (lone Stored.the_row.mir)) p)

pub send : IsSend the_row
send =
    let all : AllSend (fields the_type) = (search sendable, (handle.the_field_send, tt)) in
    owning_send the_type all (λ d. owned d.alloc d.at d.stored)
    (λ k. quiet (to the_type) (exits_of k (fields the_type)) ((struct_send (shape the_type) all).leaving k))
