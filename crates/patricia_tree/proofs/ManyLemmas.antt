-- Lists of what was looked up, one item for each key.
use Rattle.std.proofs.Common.{◌≡◌, ℕ, List, ◌++◌, length, map, take, sym, ap, ◌∙◌, arith}
use Rattle.std.proofs.lemmas.List.{take_all, take_at}

-- where as many are written as there are keys, each key has its item
pub all_found : {X Q Y : Type 0} (f : X → Y) (g : Q → Y) (keys : List Q) (found rest : List X) (n len : ℕ)
    → length found ≡ length keys → n ≡ length keys → len ≡ length keys → map f (take n found) ≡ map g (take n keys)
    → map f (take len (found ++ rest)) ≡ map g keys
all_found f g keys found rest n len long whole all are =
    ap (map f) (take_at found rest len (long ∙ sym all)) ∙ ap (map f) (sym (take_all n found (omega (arith, long, whole))))
    ∙ are ∙ ap (map g) (take_all n keys (omega (arith, whole)))
