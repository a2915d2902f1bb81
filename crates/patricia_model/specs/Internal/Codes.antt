-- How the values that contracts see are stored, which says nothing of what calls do.
use Rattle.std.specs.Prelude.{ℕ, List, Option, refl}
use Rattle.std.specs.Coded.{Coded, code_by, coded×, coded_ℕ, coded_list, coded_option}
use Rattle.std.specs.FinMap as map
use Rattle.patricia_keys.specs.Keys.{key_cmp}
use Rattle.patricia_model.specs.Cursors.{CursorView, ReadCursorView}

-- what a cursor is seen as is stored as its map, its prefix and its last key
abbrev pub cursor_view_code : {V : Type 0} → Coded V → Coded (CursorView V)
cursor_view_code {V} code =
    code_by (map.FinMap key_cmp V × (List ℕ × Option (List ℕ)))
    (coded× (map.code {R = key_cmp} (coded_list coded_ℕ) code)
    (coded× (coded_list coded_ℕ) (coded_option (coded_list coded_ℕ))))
    (λ s. (s.map, (s.prefix, s.last)))
    (λ p. record { map = p.0; prefix = p.1.0; last = p.1.1 }) (λ _. refl)

-- and that of a cursor that only reads as its entry and the entries that are left
abbrev pub read_cursor_view_code : {V : Type 0} → Coded V → Coded (ReadCursorView V)
read_cursor_view_code {V} code =
    code_by (Option (List ℕ × V) × List (List ℕ × V))
    (coded× (coded_option (coded× (coded_list coded_ℕ) code))
    (coded_list (coded× (coded_list coded_ℕ) code)))
    (λ c. (c.at, c.left)) (λ p. record { at = p.0; left = p.1 }) (λ _. refl)
