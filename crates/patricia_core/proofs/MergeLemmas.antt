-- An entry that is put into the map of a tree, where a closure makes one value of two.
use Rattle.std.proofs.Common.{◌≡◌, ◌≢◌, ℕ, List, [], Option, Some, None, refl, ap, ◌∙◌}
use Rattle.std.specs.Prelude.{MatchOption}
use Rattle.std.specs.Borrow.{MutBor}
use Rattle.std.specs.Fn.{Mut, CalledWithState}
use Rattle.std.specs.FinMap as map
use Rattle.std.specs.FinMap.{find, put}
use Rattle.patricia_keys.specs.Keys.{IsKeyKind, key_cmp}
use Rattle.patricia_model.specs.Siblings.{Siblings, entries, IsCanonical}
use Rattle.patricia_model.specs.Trees.{map_of}
use Rattle.patricia_model.proofs.TreeLemmas.{get_empty, get_filled, insert_empty, insert_filled}
use Rattle.patricia_core.specs.Merges.{MergesEntry}

module _ {F V : Type 0}
    (call : Mut F (MutBor V × (V × Unit {0})) (Unit {0} × (MutBor V × Unit {0}))) where
  -- an entry whose key is new
  merges_new : (f : F) (m n : map.FinMap key_cmp V) (key : List ℕ) (u : V)
      → map.get m key ≡ None → n ≡ map.insert m key u → MergesEntry call (f, m) (key, u) (f, n)
  merges_new f m n key u none new = rw none (refl, new)

  -- an entry whose key is there, with what the closure left
  merges_there : (f g : F) (m n : map.FinMap key_cmp V) (key : List ℕ) (v u w : V)
      → map.get m key ≡ Some v → CalledWithState call f v u tt g w → n ≡ map.insert m key w
      → MergesEntry call (f, m) (key, u) (g, n)
  merges_there f g m n key v u w is called new = rw is (w, called, new)

  module _ (item : List ℕ → Type 0) (kind : IsKeyKind item) where
    -- an entry of the empty key
    pub merges_empty : (f g : F) (o n : Option V) (r : Siblings V) (u : V) → IsCanonical item r
        → MatchOption o ((g ≡ f) × (n ≡ Some u))
        (λ v. (w : V) × CalledWithState call f v u tt g w × (n ≡ Some w))
        → MergesEntry call (f, map_of o r) ([], u) (g, map_of n r)
    merges_empty f g None n r u ok (same, new) = rw same
        (merges_new f _ _ [] u (get_empty item kind None r ok)
        (ap (λ x. map_of x r) new ∙ insert_empty item kind None r u ok))
    merges_empty f g (Some v) n r u ok (w, called, new) =
        merges_there f g _ _ [] v u w (get_empty item kind (Some v) r ok) called
        (ap (λ x. map_of x r) new ∙ insert_empty item kind (Some v) r w ok)

    module _ (o : Option V) (r r' : Siblings V) (q : List ℕ) (u : V) (ok : IsCanonical item r)
        (nonempty : q ≢ []) where
      -- an entry of a new nonempty key
      pub merges_among : (f : F) → find key_cmp q (entries r) ≡ None
          → entries r' ≡ put key_cmp q u (entries r)
          → MergesEntry call (f, map_of o r) (q, u) (f, map_of o r')
      merges_among f none put_is =
          merges_new f _ _ q u (get_filled item kind o r q ok nonempty ∙ none)
          (insert_filled item kind o r r' q u ok nonempty put_is)

      -- and of one that is there
      pub merges_found : (f g : F) (v w : V) → find key_cmp q (entries r) ≡ Some v
          → CalledWithState call f v u tt g w → entries r' ≡ put key_cmp q w (entries r)
          → MergesEntry call (f, map_of o r) (q, u) (g, map_of o r')
      merges_found f g v w some called put_is =
          merges_there f g _ _ q v u w (get_filled item kind o r q ok nonempty ∙ some) called
          (insert_filled item kind o r r' q w ok nonempty put_is)
