-- Laws of a search for near keys, whose entries are copied.
use Rattle.std.proofs.Common.{◌≡◌, ◌≢◌, ℕ, inl, inr, List, [], ◌∷◌, ◌++◌, Option, Some, None, refl, sym, ap, subst, ◌∙◌}
use Rattle.std.specs.List.{AllByRecursion}
use Rattle.std.specs.Option.{option_map}
use Rattle.std.proofs.lemmas.List.{append_assoc}
use Rattle.patricia_tree.specs.ByteKind.{IsByteItem}
use Rattle.patricia_tree.specs.Edits.{IsNear}
use Rattle.patricia_tree.specs.Searches.{SearchView, AllFar, FindsNear}
use Rattle.patricia_c.specs.Near.{Picks}

module _ {A : Type 0} (P : A → Type 0) where
  -- where nothing more is picked, more elements are passed
  picks_far : (xs passed picked : List A) → AllByRecursion (λ x. P x → ⊥) passed → Picks P xs picked → Picks P (xs ++ passed) picked
  picks_far [] [] picked all is = is
  picks_far [] (x ∷ passed) picked all is = inr (all.0, picks_far [] passed picked all.1 is)
  picks_far (x ∷ xs) passed picked all (inl is) = inl (is.0, (is.1.0, is.1.1, picks_far xs passed is.1.0 all is.1.2))
  picks_far (x ∷ xs) passed picked all (inr is) = inr (is.0, picks_far xs passed picked all is.1)

  -- one more element is picked
  picks_more : (xs picked : List A) (x : A) → P x → Picks P xs picked → Picks P (xs ++ x ∷ []) (picked ++ x ∷ [])
  picks_more [] picked x p is = inl (p, ([], ap (λ l. l ++ x ∷ []) is, refl))
  picks_more (y ∷ xs) picked x p (inl is) =
      inl (is.0, (is.1.0 ++ x ∷ [], ap (λ l. l ++ x ∷ []) is.1.1, picks_more xs is.1.0 x p is.1.2))
  picks_more (y ∷ xs) picked x p (inr is) = inr (is.0, picks_more xs picked x p is.1)

-- of the entries that the search has passed, those are copied of which it holds
pub record Copies (P : List ℕ × ℕ → Type 0) (entries : List (List ℕ × ℕ)) (sought : List ℕ) (limit : ℕ)
    (copied : List (List ℕ × ℕ)) (s : SearchView ℕ) : Type 0 where
  pub sought_is : s.sought ≡ sought
  pub limit_is : s.limit ≡ limit
  pub seen : List (List ℕ × ℕ)
  pub joined : seen ++ s.left ≡ entries
  pub picks : Picks P seen copied

-- at first none is passed
pub copies_none : (P : List ℕ × ℕ → Type 0) (s : SearchView ℕ) → Copies P s.left s.sought s.limit [] s
copies_none P s = record { sought_is = refl; limit_is = refl; seen = []; joined = refl; picks = refl }

-- what the search passes is far, and of nothing far it holds
module _ (P : List ℕ × ℕ → Type 0) (entries : List (List ℕ × ℕ)) (sought : List ℕ) (limit : ℕ)
    (far : (e : List ℕ × ℕ) → (IsNear IsByteItem limit e.0 sought → ⊥) → P e → ⊥)
    (copied : List (List ℕ × ℕ)) (s : SearchView ℕ) (is : Copies P entries sought limit copied s) where
  far_is : (passed : List (List ℕ × ℕ)) → AllFar IsByteItem s passed → AllByRecursion (λ e. P e → ⊥) passed
  far_is [] all = tt
  far_is (e ∷ passed) all = (
    far e (subst (λ n. IsNear IsByteItem n e.0 sought → ⊥) is.limit_is (subst (λ q. IsNear IsByteItem s.limit e.0 q → ⊥) is.sought_is all.0)),
    far_is passed all.1,
  )

  -- where all that is left is far, all are copied
  pub copies_all : AllFar IsByteItem s s.left → Picks P entries copied
  copies_all all = subst (λ l. Picks P l copied) is.joined (picks_far P is.seen s.left copied (far_is s.left all) is.picks)

  module _ (t : SearchView ℕ) (finds : FindsNear IsByteItem s t) where
    -- what is near, as the search says
    pub near_is : IsNear IsByteItem limit finds.entry.0 sought
    near_is = subst (λ n. IsNear IsByteItem n finds.entry.0 sought) is.limit_is
        (subst (λ q. IsNear IsByteItem s.limit finds.entry.0 q) is.sought_is finds.near)

    joined_more : ((is.seen ++ finds.passed) ++ finds.entry ∷ []) ++ t.left ≡ entries
    joined_more = append_assoc (is.seen ++ finds.passed) (finds.entry ∷ []) t.left
        ∙ append_assoc is.seen finds.passed (finds.entry ∷ t.left)
        ∙ ap (λ l. is.seen ++ l) (sym finds.entries) ∙ is.joined

    passed_picks : Picks P (is.seen ++ finds.passed) copied
    passed_picks = picks_far P is.seen finds.passed copied (far_is finds.passed finds.far) is.picks

    pub same_entry : (entry : List ℕ × ℕ) → Some entry ≡ t.at → entry ≡ finds.entry
    same_entry entry at = let there = ap (λ u. u.at) finds.is in cc

    -- the next one is copied
    pub copies_more : (entry : List ℕ × ℕ) → Some entry ≡ t.at → P entry → Copies P entries sought limit (copied ++ entry ∷ []) t
    copies_more entry at holds =
        let same = same_entry entry at in
        record {
          sought_is = ap (λ u. u.sought) finds.is ∙ is.sought_is;
          limit_is = ap (λ u. u.limit) finds.is ∙ is.limit_is;
          seen = (is.seen ++ finds.passed) ++ finds.entry ∷ [];
          joined = joined_more;
          picks = subst (λ e. Picks P ((is.seen ++ finds.passed) ++ e ∷ []) (copied ++ entry ∷ [])) same
              (picks_more P (is.seen ++ finds.passed) copied entry holds passed_picks);
        }

    -- or it does not hold of it, and it is passed
    pub copies_pass : (entry : List ℕ × ℕ) → Some entry ≡ t.at → (P entry → ⊥) → Copies P entries sought limit copied t
    copies_pass entry at fails =
        let same = same_entry entry at in
        record {
          sought_is = ap (λ u. u.sought) finds.is ∙ is.sought_is;
          limit_is = ap (λ u. u.limit) finds.is ∙ is.limit_is;
          seen = (is.seen ++ finds.passed) ++ finds.entry ∷ [];
          joined = joined_more;
          picks = subst (λ e. Picks P ((is.seen ++ finds.passed) ++ e ∷ []) copied) same
              (picks_far P (is.seen ++ finds.passed) (entry ∷ []) copied (fails, tt) passed_picks);
        }

    -- the search does not stand before the first one
    pub stands : t.at ≢ None
    stands none = let there = ap (λ u. u.at) finds.is in absurd (cc)

-- of nothing nothing is picked
pub picks_none : {A : Type 0} (P : A → Type 0) (xs picked : List A) → xs ≡ [] → picked ≡ [] → Picks P xs picked
picks_none P xs picked none empty = subst (λ l. Picks P l picked) (sym none) empty

-- a key and a value that are those of an entry make it
pub entry_of : (o : Option (List ℕ × ℕ)) (k : List ℕ) (v : ℕ) → Some k ≡ option_map (λ e. e.0) o → Some v ≡ option_map (λ e. e.1) o → Some (k, v) ≡ o
entry_of None k v one two = absurd (cc)
entry_of (Some e) k v one two = let a : k ≡ e.0 = cc in let b : v ≡ e.1 = cc in ap Some (λ i. (a i, b i))

-- where there is no key or no value there is no entry
pub none_of : {A : Type 0} (o : Option (List ℕ × ℕ)) (f : List ℕ × ℕ → A) → None ≡ option_map f o → o ≡ None
none_of None f none = refl
none_of (Some e) f none = absurd (cc)

-- where it holds of none, none is picked
pub picks_no : {A : Type 0} (P : A → Type 0) (xs : List A) → ((x : A) → P x → ⊥) → Picks P xs []
picks_no P [] never = refl
picks_no P (x ∷ xs) never = inr (never x, picks_no P xs never)
