-- The keys of maps that three keys are put into.
use Rattle.std.proofs.Common.{◌≡◌, ℕ, List, [], map, sym, ap, ◌∙◌}
use Rattle.std.specs.FinMap.{FinMap, put, insert, entries, keys, empty, entries-insert, len-entries}
use Rattle.std.specs.FinMap.{len-empty}
use Rattle.std.specs.Cmp.Lexicographic.{nat_list_cmp_total}
use Rattle.std.proofs.lemmas.List.{nil_from_length}
use Rattle.patricia_core.specs.Keys.{key_cmp}

-- the empty map has no entries
entries_none : entries {R = key_cmp} (empty {K = List ℕ} {X = ℕ}) ≡ []
entries_none = nil_from_length (entries (empty {K = List ℕ} {X = ℕ} {R = key_cmp})) (sym (len-entries empty) ∙ len-empty key_cmp ℕ)

-- three writes, one after the other
pub keys_of_three : (a b c : List ℕ) (x y z : ℕ) (none one two three : FinMap key_cmp ℕ)
    → none ≡ empty → one ≡ insert none a x → two ≡ insert one b y → three ≡ insert two c z
    → keys three ≡ map (λ (e : List ℕ × ℕ). e.0) (put key_cmp c z (put key_cmp b y (put key_cmp a x [])))
keys_of_three a b c x y z none one two three d e f g =
    let first = ap entries e ∙ entries-insert nat_list_cmp_total none a x ∙ ap (put key_cmp a x) (ap entries d ∙ entries_none) in
    let second = ap entries f ∙ entries-insert nat_list_cmp_total one b y ∙ ap (put key_cmp b y) first in
    let third = ap entries g ∙ entries-insert nat_list_cmp_total two c z ∙ ap (put key_cmp c z) second in
    ap (λ es. map (λ (e : List ℕ × ℕ). e.0) es) third
