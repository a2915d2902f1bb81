-- The entries of a map, retained or removed one after the other.
use Rattle.std.proofs.Common.{◌≡◌, ℕ, T, Bool, true, false, cond, List, [], ◌∷◌, ◌++◌, Option, Some, None}
use Rattle.std.proofs.Common.{refl, sym, ap, subst, ◌∙◌}
use Rattle.std.specs.Cmp.Lexicographic.{nat_list_cmp_total}
use Rattle.std.specs.List.{FoldsTo}
use Rattle.std.specs.Ordering.{eq_by_cmp}
use Rattle.std.specs.Fn.{Mut}
use Rattle.std.specs.Borrow.{Bor, MutBor}
use Rattle.std.specs.declared.cmp.Ordering.{Ordering}
use Rattle.std.specs.declared.cmp.Ordering.TheVariants.{Less, Equal, Greater}
use Rattle.std.specs.FinMap as map
use Rattle.std.specs.FinMap.{FinMap, find, is_sorted, entries_sorted, get-entries, get-insert, get-remove, same_map}
use Rattle.patricia_core.specs.Keys.{key_cmp}
use Rattle.patricia_core.specs.Points.{Joins}
use Rattle.patricia_keys.proofs.KeyLemmas.{key_cmp-same}
use Rattle.patricia_model.proofs.ListLemmas.{key_cmp-equal}
use Rattle.patricia_model.proofs.TestLemmas.{first_part, second_part}
use Rattle.patricia_tree.specs.Retains.{IsAskedAtEntry, RetainsEntry, IsRetainStopped}
use Rattle.patricia_tree.proofs.FoldLemmas.{IsFolding, folding_starts, folding_on, folding_ends}
use Rattle.patricia_tree.proofs.RetainLemmas.{keys_of_entries}
use Rattle.patricia_tree.proofs.WholeLemmas.{below_none}

module _ {V : Type 0} where
  -- a value that was written and then removed
  pub removed_written : (m : FinMap key_cmp V) (k : List ℕ) (w : V)
      → map.remove (map.insert m k w) k ≡ map.remove m k
  removed_written m k w = same_map nat_list_cmp_total key_cmp-equal _ _ (λ q.
      get-remove nat_list_cmp_total (map.insert m k w) k q
      ∙ ap (cond (eq_by_cmp key_cmp q k) None) (get-insert nat_list_cmp_total m k w q)
      ∙ by (eq_by_cmp key_cmp q k) (map.get m q) ∙ sym (get-remove nat_list_cmp_total m k q))
    where
      by : (b : Bool) (o : Option V) → cond b None (cond b (Some w) o) ≡ cond b None o
      by true o = refl
      by false o = refl

  -- a key that a change of one key leaves alone
  get_of_other : (m : FinMap key_cmp V) (k : List ℕ) (w : V) (stays : Bool) (q : List ℕ)
      → eq_by_cmp key_cmp q k ≡ false
      → map.get (cond stays (map.insert m k w) (map.remove m k)) q ≡ map.get m q
  get_of_other m k w true q other = get-insert nat_list_cmp_total m k w q ∙ rw other refl
  get_of_other m k w false q other = get-remove nat_list_cmp_total m k q ∙ rw other refl

  -- these entries, in order, are in the map
  pub record AreThere (m : FinMap key_cmp V) (entries : List (List ℕ × V)) : Type 0 where
    pub sorted : T (is_sorted key_cmp entries)
    pub there : (q : List ℕ) (v : V) → find key_cmp q entries ≡ Some v → map.get m q ≡ Some v

  all_there : (m : FinMap key_cmp V) → AreThere m (map.entries m)
  all_there m = record { sorted = entries_sorted m; there = λ q v is. get-entries m q ∙ is }

  first_there : (m : FinMap key_cmp V) (entry : List ℕ × V) (later : List (List ℕ × V))
      → AreThere m (entry ∷ later) → map.get m entry.0 ≡ Some entry.1
  first_there m entry later all = all.there entry.0 entry.1 (rw (key_cmp-same entry.0) refl)

  later_there : (m n : FinMap key_cmp V) (entry : List ℕ × V) (later : List (List ℕ × V))
      → ((q : List ℕ) → eq_by_cmp key_cmp q entry.0 ≡ false → map.get n q ≡ map.get m q)
      → AreThere m (entry ∷ later) → AreThere n later
  later_there m n entry later others all = record {
    sorted = second_part _ _ all.sorted;
    there = λ q v is. by q v is (key_cmp q entry.0) refl;
  }
    where
      by : (q : List ℕ) (v : V) → find key_cmp q later ≡ Some v → (o : Ordering) → key_cmp q entry.0 ≡ o
          → map.get n q ≡ Some v
      by q v is Less o = others q (rw o refl) ∙ all.there q v (rw o is)
      by q v is Greater o = others q (rw o refl) ∙ all.there q v (rw o is)
      by q v is Equal o =
          let none : find key_cmp q later ≡ None = subst (λ k. find key_cmp k later ≡ None)
          (sym (key_cmp-equal q entry.0 o)) (below_none entry.0 later (first_part _ _ all.sorted)) in
          absurd (let no : None ≡ Some v = sym none ∙ is in cc)

module _ {F V : Type 0}
    (call : Mut F (Bor (List ℕ) × (MutBor V × Unit {0})) (Bool × (MutBor V × Unit {0})))
    (f : F) (old : FinMap key_cmp V) where
  -- the closure was called at the entries before those of the keys that are left, which are there
  pub record IsRetaining (keys : List (List ℕ)) (g : F) (m : FinMap key_cmp V) : Type 0 where
    pub left : List (List ℕ × V)
    pub are_keys : keys ≡ keys_of_entries left
    pub there : AreThere m left
    pub folding : IsFolding (RetainsEntry call) (f, old) (map.entries old) (g, m) left

  pub retaining_starts : (keys : List (List ℕ)) → keys ≡ map.keys old → IsRetaining keys f old
  retaining_starts keys are = record {
    left = map.entries old;
    are_keys = are;
    there = all_there old;
    folding = folding_starts (RetainsEntry call) (f, old) (map.entries old);
  }

  pub retaining_on : (keys later : List (List ℕ)) (k : List ℕ) (g h : F) (m n : FinMap key_cmp V)
      → keys ≡ k ∷ later
      → ((v : V) → map.get m k ≡ Some v → RetainsEntry call (g, m) (k, v) (h, n))
      → IsRetaining keys g m → IsRetaining later h n
  retaining_on keys later k g h m n is step so_far = by so_far.left refl
    where
      by : (left : List (List ℕ × V)) → so_far.left ≡ left → IsRetaining later h n
      by [] none = absurd (let no : k ∷ later ≡ [] = sym is ∙ so_far.are_keys ∙ ap keys_of_entries none in cc)
      by (entry ∷ entries) some =
          let both : k ∷ later ≡ entry.0 ∷ keys_of_entries entries = sym is ∙ so_far.are_keys ∙ ap keys_of_entries some in
          let key : k ≡ entry.0 = cc in
          let keys_left : later ≡ keys_of_entries entries = cc in
          let there : AreThere m (entry ∷ entries) = subst (AreThere m) some so_far.there in
          let turn : RetainsEntry call (g, m) entry (h, n) = subst (λ x. RetainsEntry call (g, m) (x, entry.1) (h, n)) key
          (step entry.1 (ap (map.get m) key ∙ first_there m entry entries there)) in
          record {
            left = entries;
            are_keys = keys_left;
            there = later_there m n entry entries (λ q other. ap (λ x. map.get x q) turn.is_new
                ∙ get_of_other m entry.0 turn.left turn.stays q other) there;
            folding = folding_on (RetainsEntry call) (f, old) (map.entries old) (g, m) (h, n) so_far.left entries entry some turn so_far.folding;
          }

  -- an entry whose removal is refused
  pub retaining_stops : (item : List ℕ → Type 0) (keys later : List (List ℕ)) (k : List ℕ) (g h : F)
      (m n : FinMap key_cmp V) → keys ≡ k ∷ later
      → ((v : V) → map.get m k ≡ Some v
      → (w : V) × IsAskedAtEntry call g (k, v) false h w × (n ≡ map.insert m k w))
      → Joins item (map.keys n) k → IsRetaining keys g m → IsRetainStopped call item f old n
  retaining_stops item keys later k g h m n is step joins so_far = by so_far.left refl
    where
      by : (left : List (List ℕ × V)) → so_far.left ≡ left → IsRetainStopped call item f old n
      by [] none = absurd (let no : k ∷ later ≡ [] = sym is ∙ so_far.are_keys ∙ ap keys_of_entries none in cc)
      by (entry ∷ entries) some =
          let both : k ∷ later ≡ entry.0 ∷ keys_of_entries entries = sym is ∙ so_far.are_keys ∙ ap keys_of_entries some in
          let key : k ≡ entry.0 = cc in
          let there : AreThere m (entry ∷ entries) = subst (AreThere m) some so_far.there in
          let turn = step entry.1 (ap (map.get m) key ∙ first_there m entry entries there) in
          record {
            done = so_far.folding.done;
            refused = entry;
            behind = entries;
            are_entries = so_far.folding.are_entries ∙ ap (λ l. so_far.folding.done ++ l) some;
            before = (g, m);
            retained = so_far.folding.ran;
            last = h;
            left = turn.0;
            asked = subst (λ x. IsAskedAtEntry call g (x, entry.1) false h turn.0) key turn.1;
            is_new = turn.2 ∙ ap (λ x. map.insert m x turn.0) key;
            joins = subst (Joins item (map.keys n)) key joins;
          }

  -- where a key is left, there were entries
  pub retaining_filled : (keys later : List (List ℕ)) (k : List ℕ) (g : F) (m : FinMap key_cmp V)
      → keys ≡ k ∷ later → IsRetaining keys g m → map.entries old ≡ [] → ⊥
  retaining_filled keys later k g m is so_far none = by so_far.left refl so_far.folding.done refl
    where
      by : (left : List (List ℕ × V)) → so_far.left ≡ left → (done : List (List ℕ × V))
          → so_far.folding.done ≡ done → ⊥
      by [] empty done e = let gone : k ∷ later ≡ [] = sym is ∙ so_far.are_keys ∙ ap keys_of_entries empty in cc
      by (entry ∷ entries) some [] e =
          let all : [] ++ entry ∷ entries ≡ [] = sym (so_far.folding.are_entries ∙ ap (λ l. l ++ so_far.left) e ∙ ap (λ l. [] ++ l) some) ∙ none in cc
      by (entry ∷ entries) some (x ∷ xs) e =
          let all : (x ∷ xs) ++ so_far.left ≡ [] = sym (so_far.folding.are_entries ∙ ap (λ l. l ++ so_far.left) e) ∙ none in cc

  pub retaining_ends : (g : F) (m : FinMap key_cmp V) → IsRetaining [] g m
      → FoldsTo (RetainsEntry call) (f, old) (map.entries old) (g, m)
  retaining_ends g m so_far = folding_ends (RetainsEntry call) (f, old) (map.entries old) (g, m) so_far.left (by so_far.left so_far.are_keys) so_far.folding
    where
      by : (left : List (List ℕ × V)) → [] ≡ keys_of_entries left → left ≡ []
      by [] is = refl
      by (entry ∷ entries) is = absurd (cc)

-- an entry at which the closure returned false, and which is removed then
pub gone_at : {F V : Type 0}
    (call : Mut F (Bor (List ℕ) × (MutBor V × Unit {0})) (Bool × (MutBor V × Unit {0})))
    (f g : F) (m mid n : FinMap key_cmp V) (k : List ℕ) (v : V) (stays : Bool) (w : V) → stays ≡ false
    → IsAskedAtEntry call f (k, v) stays g w → mid ≡ map.insert m k w → n ≡ map.remove mid k
    → RetainsEntry call (f, m) (k, v) (g, n)
gone_at call f g m mid n k v stays w goes asked put gone = record {
  stays = false;
  left = w;
  asked = subst (λ b. IsAskedAtEntry call f (k, v) b g w) goes asked;
  is_new = gone ∙ ap (λ x. map.remove x k) put ∙ removed_written m k w;
}
