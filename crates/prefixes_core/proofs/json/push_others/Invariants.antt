use Rattle.std.proofs.Common.{◌≡◌, ◌∷◌, ◌++◌, drop}
use Rattle.std.specs.List.{flat_map}
use Rattle.prefixes_core.proofs.json.push_others.Given as goal

-- what is written, and then the values that are left
abbrev pub invariant-loop-value : goal.invariant-loop-value
invariant-loop-value g l =
    l.out.items ++ flat_map (λ value. 44 ∷ g.T.ToJson.text value) (drop l.value-index l.values)
    ≡ l.fn.out.items ++ flat_map (λ value. 44 ∷ g.T.ToJson.text value) l.values
