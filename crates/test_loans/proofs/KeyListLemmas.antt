-- The keys of maps that a few calls made.
use Rattle.std.proofs.Common.{◌≡◌, ℕ, Bool, true, false, cond, List, [], ◌∷◌, map, Some, None, refl}
use Rattle.std.proofs.Common.{sym, ap, ◌∙◌}
use Rattle.std.specs.FinMap.{FinMap, empty, insert, remove, get, keys, entries, len-entries}
use Rattle.std.specs.FinMap.{len-empty, get-empty, get-insert, get-remove, get_tied, entries-insert}
use Rattle.std.specs.FinMap.{same_map, put, nat_cmp-IsAntisymmetric, slice_cmp-IsAntisymmetric}
use Rattle.std.specs.Cmp.Lexicographic.{nat_list_cmp_total}
use Rattle.std.specs.declared.cmp.Ordering.{Ordering}
use Rattle.std.specs.declared.cmp.Ordering.TheVariants.{Less, Equal, Greater}
use Rattle.std.specs.Ordering.{eq_by_cmp, is_eq}
use Rattle.std.proofs.lemmas.List.{nil_from_length}
use Rattle.patricia_tree.specs.Keys.{key_cmp}

-- an order that is tested to be equal is equal
is_equal : (o : Ordering) → is_eq o ≡ true → o ≡ Equal
is_equal Less e = absurd (cc)
is_equal Equal e = refl
is_equal Greater e = absurd (cc)

-- the keys a, ab and b
abbrev a : List ℕ
a = 97 ∷ []

abbrev ab : List ℕ
ab = 97 ∷ 98 ∷ []

abbrev b : List ℕ
b = 98 ∷ []

module _ {V : Type 0} where
  -- a map that is empty has no entries
  no_entries : (m : FinMap key_cmp V) → m ≡ empty → entries m ≡ []
  no_entries m is = ap entries is ∙ nil_from_length (entries empty) (sym (len-entries empty) ∙ len-empty key_cmp V)

  -- an insert into a map is a write to its entries
  entries_put : (m n : FinMap key_cmp V) (k : List ℕ) (v : V) → n ≡ insert m k v → entries n ≡ put key_cmp k v (entries m)
  entries_put m n k v is = ap entries is ∙ entries-insert nat_list_cmp_total m k v

  -- a new key that is inserted and removed again leaves no trace
  remove_new : (m : FinMap key_cmp V) (k : List ℕ) (v : V) → get m k ≡ None → remove (insert m k v) k ≡ m
  remove_new m k v lacks =
      same_map nat_list_cmp_total (slice_cmp-IsAntisymmetric nat_cmp-IsAntisymmetric)
      (remove (insert m k v) k) m
      (λ q. get-remove nat_list_cmp_total (insert m k v) k q ∙ at q (eq_by_cmp key_cmp q k) refl)
    where
      at : (q : List ℕ) (t : Bool) → eq_by_cmp key_cmp q k ≡ t → cond t None (get (insert m k v) q) ≡ get m q
      at q true e = sym lacks ∙ get_tied nat_list_cmp_total m q k (is_equal (key_cmp q k) e)
      at q false e = get-insert nat_list_cmp_total m k v q ∙ ap (λ t. cond t (Some v) (get m q)) e

  -- an insert at a key, or its removal, where the key is known by an equation
  pub at_key : (m n : FinMap key_cmp V) (k l : List ℕ) (v : V) → n ≡ insert m k v → k ≡ l → n ≡ insert m l v
  at_key m n k l v is same = is ∙ ap (λ q. insert m q v) same

  -- a removal at a key is one at a key that equals it
  pub at_removal : (m n : FinMap key_cmp V) (k l : List ℕ) → n ≡ remove m k → k ≡ l → n ≡ remove m l
  at_removal m n k l is same = is ∙ ap (λ q. remove m q) same

  -- with a inserted into the empty map, the only key is a
  pub keys_one : (m n : FinMap key_cmp V) (v : V) → m ≡ empty → n ≡ insert m a v → keys n ≡ a ∷ []
  keys_one m n v none first = ap (map (λ e. e.0)) (entries_put m n a v first ∙ ap (put key_cmp a v) (no_entries m none))

  -- with a and then b inserted, the keys are a and b
  pub keys_two : (m n o : FinMap key_cmp V) (v x : V) → m ≡ empty → n ≡ insert m a v → o ≡ insert n b x → keys o ≡ a ∷ b ∷ []
  keys_two m n o v x none first second = ap (map (λ e. e.0)) (entries_put n o b x second ∙ ap (put key_cmp b x) (entries_put m n a v first ∙ ap (put key_cmp a v) (no_entries m none)))

  -- and so they are with b and then a inserted
  pub keys_turned : (m n o : FinMap key_cmp V) (v x : V) → m ≡ empty → n ≡ insert m b v → o ≡ insert n a x → keys o ≡ a ∷ b ∷ []
  keys_turned m n o v x none first second = ap (map (λ e. e.0)) (entries_put n o a x second ∙ ap (put key_cmp a x) (entries_put m n b v first ∙ ap (put key_cmp b v) (no_entries m none)))

  -- a map of a and b alone has no value at ab
  lacks_ab : (m n o : FinMap key_cmp V) (v x : V) → m ≡ empty → n ≡ insert m b v → o ≡ insert n a x → get o ab ≡ None
  lacks_ab m n o v x none first second =
      ap (λ q. get q ab) second ∙ get-insert nat_list_cmp_total n a x ab ∙ ap (λ q. get q ab) first ∙ get-insert nat_list_cmp_total m b v ab ∙ ap (λ q. get q ab) none ∙ get-empty key_cmp ab

  -- with ab inserted there and removed again, the keys are a and b
  pub keys_after_removal : (m n o p q : FinMap key_cmp V) (v x y : V) → m ≡ empty → n ≡ insert m b v → o ≡ insert n a x → p ≡ insert o ab y → q ≡ remove p ab → keys q ≡ a ∷ b ∷ []
  keys_after_removal m n o p q v x y none first second third fourth =
      ap keys (fourth ∙ ap (λ r. remove r ab) third ∙ remove_new o ab y (lacks_ab m n o v x none first second)) ∙
      keys_turned m n o v x none first second

-- the list of both keys is not that of a alone
pub two_are_not_one : a ∷ b ∷ [] ≡ a ∷ [] → ⊥
two_are_not_one same = cc
