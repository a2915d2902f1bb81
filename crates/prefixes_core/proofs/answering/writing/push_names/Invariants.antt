use Rattle.std.proofs.Common.{◌≡◌, [], ◌∷◌, ◌++◌, drop, string_bytes}
use Rattle.std.specs.List.{flat_map}
use Rattle.prefixes_core.specs.Answers.{fields_line}
use Rattle.prefixes_core.proofs.answering.writing.push_names.Given as goal

-- what is written, and then the lines of the names that are left
abbrev pub invariant-loop-name : goal.invariant-loop-name
invariant-loop-name l =
    l.out.items ++ flat_map (λ name. fields_line l.end ([] ∷ string_bytes name.0 ∷ []))
    (drop l.name-index l.found)
    ≡ l.fn.out.items
    ++ flat_map (λ name. fields_line l.end ([] ∷ string_bytes name.0 ∷ [])) l.found
