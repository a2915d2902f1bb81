use Rattle.std.proofs.Common.{◌≡◌, ◌∷◌, ◌++◌, drop}
use Rattle.std.specs.List.{flat_map}
use Rattle.prefixes_core.proofs.answering.writing.push_others.Given as goal

-- what is written, and then the fields that are left, each behind a byte 9
abbrev pub invariant-loop-field : goal.invariant-loop-field
invariant-loop-field g l =
    l.out.items ++ flat_map (λ field. 9 ∷ g.Q.BorrowedBytes.key field)
    (drop l.field-index l.fields)
    ≡ l.fn.out.items ++ flat_map (λ field. 9 ∷ g.Q.BorrowedBytes.key field) l.fields
