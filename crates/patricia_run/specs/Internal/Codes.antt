-- How a state is stored.
use Rattle.std.specs.Prelude.{refl}
use Rattle.std.specs.FinMap as map
use Rattle.std.specs.Coded.{Coded, code_by, coded_ℕ, coded_list, coded×}
use Rattle.patricia_tree.specs.Keys.{key_cmp}
use Rattle.patricia_run.specs.Machine.{State}

-- a state is stored as its two maps
abbrev pub state_code : {V : Type 0} → Coded V → Coded (State V)
state_code {V} values = code_by
    (map.FinMap key_cmp V × map.FinMap key_cmp V)
    (coded× (map.code (coded_list coded_ℕ) values) (map.code (coded_list coded_ℕ) values))
    (λ s. (s.main, s.aside))
    (λ m. record { main = m.0; aside = m.1 })
    (λ _. refl)
