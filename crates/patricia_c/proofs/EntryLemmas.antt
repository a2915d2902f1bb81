-- Laws of entries.
use Rattle.std.proofs.Common.{◌≡◌, ℕ, suc, List, [], ◌∷◌, ◌++◌, refl, sym, ap, ◌∙◌}
use Rattle.std.proofs.lemmas.List.{append_assoc}
use Rattle.std.specs.Prelude.{Vec, length}
use Rattle.std.specs.Global.{Global}
use Rattle.patricia_c.specs.EntriesLeft.{pairs_of}

pub pairs_of-append : (entries : List (Vec ℕ Global × ℕ)) (entry : Vec ℕ Global × ℕ) → pairs_of (entries ++ entry ∷ []) ≡ pairs_of entries ++ (entry.0.items, entry.1) ∷ []
pairs_of-append [] entry = refl
pairs_of-append (r ∷ entries) entry = ap (λ l. (r.0.items, r.1) ∷ l) (pairs_of-append entries entry)

-- one more entry goes from those that are left to those so far
pub one_more_entry : (entries : List (Vec ℕ Global × ℕ)) (entry : Vec ℕ Global × ℕ) (left later whole : List (List ℕ × ℕ)) → left ≡ (entry.0.items, entry.1) ∷ later → pairs_of entries ++ left ≡ whole → pairs_of (entries ++ entry ∷ []) ++ later ≡ whole
one_more_entry entries entry left later whole e same =
    ap (λ l. l ++ later) (pairs_of-append entries entry) ∙ append_assoc (pairs_of entries) ((entry.0.items, entry.1) ∷ []) later ∙ ap (λ l. pairs_of entries ++ l) (sym e) ∙ same

pub pairs_of-length : (entries : List (Vec ℕ Global × ℕ)) → length (pairs_of entries) ≡ length entries
pairs_of-length [] = refl
pairs_of-length (_ ∷ entries) = ap suc (pairs_of-length entries)

pub ruleset lengths = (pairs_of-length)
