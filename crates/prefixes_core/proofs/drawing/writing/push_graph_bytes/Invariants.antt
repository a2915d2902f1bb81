use Rattle.std.proofs.Common.{◌≡◌, ◌++◌, drop}
use Rattle.std.specs.List.{flat_map}
use Rattle.prefixes_core.specs.Drawings.{graph_byte}
use Rattle.prefixes_core.proofs.drawing.writing.push_graph_bytes.Given as goal

-- what is written, and then the bytes that are left
abbrev pub invariant-loop-byte : goal.invariant-loop-byte
invariant-loop-byte l =
    l.out.items ++ flat_map graph_byte (drop l.byte-index l.bytes)
    ≡ l.fn.out.items ++ flat_map graph_byte l.bytes
