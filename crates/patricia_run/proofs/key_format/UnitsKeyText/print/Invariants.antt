use Rattle.std.proofs.Common.{◌≡◌, ◌++◌, drop}
use Rattle.hex.specs.Hex.{encode_lower}
use Rattle.patricia_run.proofs.key_format.UnitsKeyText.print.Given as goal

-- what is written, and the digits of the bytes that are left
abbrev pub invariant-loop-byte : goal.invariant-loop-byte
invariant-loop-byte l = l.out.items ++ encode_lower (drop l.byte-index l.key) ≡ l.fn.out.items ++ encode_lower l.key
