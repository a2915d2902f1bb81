-- Laws of entries.
use Rattle.std.proofs.Common.{◌≡◌, ℕ, ◌≢◌, List, [], ◌∷◌, ◌++◌, refl, sym, ap, ◌∙◌}
use Rattle.std.proofs.lemmas.List.{append_assoc}
use Rattle.std.specs.Prelude.{Result, Ok, Err, OnErr}
use Rattle.patricia_tree.specs.Bulk.{by_bytes}

-- what holds holds on an error
pub OnErr-from : {T E P : Type 0} (r : Result T E) → P → OnErr r P
OnErr-from (Ok x) p = tt
OnErr-from (Err e) p = p

module _ {K V : Type 0} (key_of : K → List ℕ) where
  -- one more entry comes last, with the bytes of its key
  by_bytes-append : (entries : List (K × V)) (entry : K × V)
      → by_bytes key_of (entries ++ entry ∷ []) ≡ by_bytes key_of entries ++ (key_of entry.0, entry.1) ∷ []
  by_bytes-append [] entry = refl
  by_bytes-append (r ∷ entries) entry = ap (λ l. (key_of r.0, r.1) ∷ l) (by_bytes-append entries entry)

  -- one more entry goes from those that are left to those so far
  pub one_more_entry : (entries : List (K × V)) (entry : K × V) (left later whole : List (List ℕ × V))
      → left ≡ (key_of entry.0, entry.1) ∷ later → by_bytes key_of entries ++ left ≡ whole
      → by_bytes key_of (entries ++ entry ∷ []) ++ later ≡ whole
  one_more_entry entries entry left later whole e same =
      ap (λ l. l ++ later) (by_bytes-append entries entry) ∙ append_assoc (by_bytes key_of entries)
      ((key_of entry.0, entry.1) ∷ []) later ∙ ap (λ l. by_bytes key_of entries ++ l) (sym e) ∙ same

  -- where an entry is left there is an entry
  pub some_entry : (entries : List (K × V)) (left whole : List (List ℕ × V)) → left ≢ []
      → by_bytes key_of entries ++ left ≡ whole → whole ≢ []
  some_entry entries left whole nonempty same none = nonempty (last entries left (same ∙ none))
    where
      last : (entries : List (K × V)) (left : List (List ℕ × V)) → by_bytes key_of entries ++ left ≡ []
          → left ≡ []
      last [] left e = e
      last (r ∷ entries) left e = absurd (cc)
