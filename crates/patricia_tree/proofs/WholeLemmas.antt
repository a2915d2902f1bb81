-- Maps and sets compared, and sets made of two.
use Rattle.std.proofs.Common.{◌≡◌, ◌≢◌, ◌≤◌, ℕ, T, Bool, true, false, not, cond, List, [], ◌∷◌, ◌++◌, length}
use Rattle.std.proofs.Common.{Option, Some, None, drop, slice_get, refl, sym, ap, subst, ◌∙◌, arith}
use Rattle.std.proofs.lemmas.List.{nil_from_length}
use Rattle.std.specs.Prelude.{Result, Ok, Err, IfOk}
use Rattle.std.specs.Prelude.{◌↔◌, ◌&&◌, ◌||◌, IsTrue, is_some, nat_eq, filter}
use Rattle.std.specs.Cmp.{eq_by_cmp_equiv}
use Rattle.std.specs.Cmp.Lexicographic.{nat_list_cmp_total, pointwise, as_long, pointwise_decides, bytes_decides}
use Rattle.std.specs.List.{list_all, list_any}
use Rattle.std.specs.Option.{option_or}
use Rattle.std.specs.Ordering.{eq_by_cmp, is_eq}
use Rattle.std.specs.declared.cmp.Ordering.{Ordering}
use Rattle.std.specs.declared.cmp.Ordering.TheVariants.{Less, Equal, Greater}
use Rattle.std.specs.FinMap as map
use Rattle.std.specs.FinMap.{FinMap, find, is_sorted, entries_sorted, get-entries, get-empty, get-insert}
use Rattle.std.specs.FinMap.{get-remove, get-retain_keys, same_map, same_entries_map, contains_key-keys, len-entries}
use Rattle.std.specs.FinMap.Entries.{below_all, is_sorted-where_key, find-where_key}
use Rattle.patricia_core.specs.Cursors.{ReadCursorView, advanced}
use Rattle.patricia_core.specs.Keys.{key_cmp}
use Rattle.patricia_model.proofs.ListLemmas.{key_cmp-equal}
use Rattle.patricia_model.proofs.TestLemmas.{first_part, second_part, less_so}
use Rattle.patricia_tree.proofs.AfterLemmas.{nothing_left}
use Rattle.patricia_tree.specs.Bulk.{insert_all}
use Rattle.patricia_walks.specs.Equality.{is_same_entry, are_same_entries}

module _ {V : Type 0} (eq : V → V → Bool) where
  -- lists of other lengths are not the same
  pub other_len : (xs ys : List (List ℕ × V)) → length xs ≢ length ys → false ≡ are_same_entries eq xs ys
  other_len xs ys other = by (are_same_entries eq xs ys) refl
    where
      by : (b : Bool) → are_same_entries eq xs ys ≡ b → false ≡ b
      by true is = absurd (other (as_long (is_same_entry eq) xs ys is))
      by false is = refl

-- what two maps of `()` hold is the same exactly where they are
module _ (eq : Unit {0} → Unit {0} → Bool) (all : (u v : Unit {0}) → eq u v ≡ true) where
  entry_decides : (e f : List ℕ × Unit {0}) → (is_same_entry eq e f ≡ true → e ≡ f) × (e ≡ f → is_same_entry eq e f ≡ true)
  entry_decides e f = (
    λ is. ap (λ k. (k, tt)) ((bytes_decides e.0 f.0).0 (first_of_two (pointwise nat_eq e.0 f.0) (eq e.1 f.1) is)),
    λ is. both_of_two (pointwise nat_eq e.0 f.0) (eq e.1 f.1) ((bytes_decides e.0 f.0).1 (ap (λ r. r.0) is)) (all e.1 f.1),
  )
    where
      first_of_two : (a b : Bool) → (a && b) ≡ true → a ≡ true
      first_of_two true b h = refl
      first_of_two false b h = h

      both_of_two : (a b : Bool) → a ≡ true → b ≡ true → (a && b) ≡ true
      both_of_two a b p q = rw (p, q) refl

  pub same_sets : (s t : FinMap key_cmp (Unit {0})) (b : Bool) → b ≡ are_same_entries eq (map.entries s) (map.entries t)
      → IsTrue b ↔ (s ≡ t)
  same_sets s t b is =
      let decides = pointwise_decides entry_decides (map.entries s) (map.entries t) in (
        λ yes. same_entries_map s t (decides.0 (sym is ∙ yes)),
        λ same. is ∙ decides.1 (ap map.entries same),
      )

module _ {V : Type 0} where
  -- a key below all entries is not found among them
  pub below_none : (q : List ℕ) (es : List (List ℕ × V)) → T (below_all key_cmp q es) → find key_cmp q es ≡ None
  below_none q [] h = refl
  below_none q (e ∷ es) h = rw (less_so (key_cmp q e.0) (first_part _ _ h)) (below_none q es (second_part _ _ h))

  -- where entries in order are inserted, a key has the value of its entry, or else that of before
  pub get-insert_all : (es : List (List ℕ × V)) → T (is_sorted key_cmp es) → (m : FinMap key_cmp V) (q : List ℕ)
      → map.get (insert_all m es) q ≡ option_or (find key_cmp q es) (map.get m q)
  get-insert_all [] sorted m q = refl
  get-insert_all (e ∷ es) sorted m q =
      get-insert_all es (second_part _ _ sorted) (map.insert m e.0 e.1) q
      ∙ ap (option_or (find key_cmp q es)) (get-insert nat_list_cmp_total m e.0 e.1 q)
      ∙ by (key_cmp q e.0) refl
    where
      by : (o : Ordering) → key_cmp q e.0 ≡ o
          → option_or (find key_cmp q es) (cond (is_eq o) (Some e.1) (map.get m q))
          ≡ option_or (cond (is_eq o) (Some e.1) (find key_cmp q es)) (map.get m q)
      by Less is = refl
      by Equal is =
          let same = key_cmp-equal q e.0 is in
          let none : find key_cmp q es ≡ None = subst (λ k. find key_cmp k es ≡ None) (sym same) (below_none e.0 es (first_part _ _ sorted)) in
          rw none refl
      by Greater is = refl

  -- an option before none
  or_none : (o : Option V) → option_or o None ≡ o
  or_none None = refl
  or_none (Some v) = refl

  -- the entries whose keys pass a test, inserted into the empty map, are what is retained by it
  pub retained : (m : FinMap key_cmp V) (p : List ℕ → Bool)
      → insert_all map.empty (filter (λ e. p e.0) (map.entries m)) ≡ map.retain_keys m p
  retained m p = same_map nat_list_cmp_total key_cmp-equal _ _ (λ q. at q)
    where
      alike : (q x : List ℕ) → key_cmp q x ≡ Equal → p x ≡ p q
      alike q x tie = ap p (sym (key_cmp-equal q x tie))

      at : (q : List ℕ) → map.get (insert_all map.empty (filter (λ e. p e.0) (map.entries m))) q
          ≡ map.get (map.retain_keys m p) q
      at q =
          get-insert_all (filter (λ e. p e.0) (map.entries m)) (is_sorted-where_key key_cmp p (map.entries m) (entries_sorted m)) map.empty q
          ∙ ap (option_or (find key_cmp q (filter (λ e. p e.0) (map.entries m)))) (get-empty key_cmp q)
          ∙ or_none _
          ∙ find-where_key key_cmp p q (alike q) (map.entries m)
          ∙ ap (λ o. cond (p q) o None) (sym (get-entries m q))
          ∙ sym (get-retain_keys m p q (alike q))

-- where no entry was found, none is left
pub none_left : {A : Type 0} (entries : List A) (b : Bool) → b ≡ false → (IsTrue b ↔ (entries ≢ [])) → entries ≡ []
none_left entries b e found = nil_from_length entries (nothing_left entries b e found)

-- a map with a length has entries
pub len_filled : {V : Type 0} (m : FinMap key_cmp V) → map.len m ≢ 0 → map.entries m ≢ []
len_filled m some none = some (len-entries m ∙ ap length none)

-- two lists have items together where one has
pub filled_left : {A : Type 0} (xs ys : List A) → xs ≢ [] → xs ++ ys ≢ []
filled_left [] ys some none = some refl
filled_left (x ∷ xs) ys some none = absurd (cc)

pub filled_right : {A : Type 0} (xs ys : List A) → ys ≢ [] → xs ++ ys ≢ []
filled_right [] ys some none = some none
filled_right (x ∷ xs) ys some none = absurd (cc)

-- a map that is no shorter than one with entries has entries
pub filled_too : {V W : Type 0} (m : FinMap key_cmp V) (n : FinMap key_cmp W) → map.len m ≤ map.len n
    → map.entries m ≢ [] → map.entries n ≢ []
filled_too m n most some none =
    some (nil_from_length (map.entries m) (omega (arith, len-entries m, len-entries n, ap length none)))

-- of two maps with entries together the one that is no shorter has entries
pub filled_longer : {V : Type 0} (m n : FinMap key_cmp V) → map.len n ≤ map.len m
    → map.entries m ++ map.entries n ≢ [] → map.entries m ≢ []
filled_longer m n most some none =
    let none_too = nil_from_length (map.entries n) (omega (arith, len-entries m, len-entries n, ap length none, most)) in
    some (subst (λ entries. entries ++ map.entries n ≡ []) (sym none) none_too)

-- the same elements, inserted the other way round
pub all_turned : (s t : FinMap key_cmp (Unit {0})) → insert_all s (map.entries t) ≡ insert_all t (map.entries s)
all_turned s t = same_map nat_list_cmp_total key_cmp-equal _ _ (λ q.
    at s t q ∙ turned (map.get t q) (map.get s q) ∙ sym (at t s q))
  where
    turned : (a b : Option (Unit {0})) → option_or a b ≡ option_or b a
    turned None None = refl
    turned None (Some v) = refl
    turned (Some u) None = refl
    turned (Some u) (Some v) = refl

    at : (m n : FinMap key_cmp (Unit {0})) (q : List ℕ)
        → map.get (insert_all m (map.entries n)) q ≡ option_or (map.get n q) (map.get m q)
    at m n q = get-insert_all (map.entries n) (entries_sorted n) m q ∙ ap (λ o. option_or o (map.get m q)) (sym (get-entries n q))

-- what is in both is the same either way round
pub both_turned : (s t : FinMap key_cmp (Unit {0}))
    → map.retain_keys s (map.contains_key t) ≡ map.retain_keys t (map.contains_key s)
both_turned s t = same_map nat_list_cmp_total key_cmp-equal _ _ (λ q.
    at s t q ∙ turned (map.get s q) (map.get t q) ∙ sym (at t s q))
  where
    turned : (a b : Option (Unit {0})) → cond (is_some b) a None ≡ cond (is_some a) b None
    turned None None = refl
    turned None (Some v) = refl
    turned (Some u) None = refl
    turned (Some u) (Some v) = refl

    at : (m n : FinMap key_cmp (Unit {0})) (q : List ℕ)
        → map.get (map.retain_keys m (map.contains_key n)) q ≡ cond (is_some (map.get n q)) (map.get m q) None
    at m n q = get-retain_keys m (map.contains_key n) q (λ x tie. ap (map.contains_key n) (sym (key_cmp-equal q x tie)))

module _ {V W : Type 0} where
  -- what is left of a map where the keys of entries are removed
  abbrev pub without_keys : FinMap key_cmp V → List (List ℕ × W) → FinMap key_cmp V
  without_keys m entries = map.retain_keys m (λ k. not (is_some (find key_cmp k entries)))

  get-without_keys : (m : FinMap key_cmp V) (entries : List (List ℕ × W)) (q : List ℕ)
      → map.get (without_keys m entries) q ≡ cond (not (is_some (find key_cmp q entries))) (map.get m q) None
  get-without_keys m entries q = get-retain_keys m (λ k. not (is_some (find key_cmp k entries))) q
      (λ x tie. ap (λ k. not (is_some (find key_cmp k entries))) (sym (key_cmp-equal q x tie)))

  pub without_none : (m : FinMap key_cmp V) (entries : List (List ℕ × W)) → entries ≡ [] → without_keys m entries ≡ m
  without_none m [] none = same_map nat_list_cmp_total key_cmp-equal _ _ (λ q. get-without_keys m [] q)
  without_none m (e ∷ entries) none = absurd (cc)

  -- a key that was removed already need not be any more
  without_one : (m : FinMap key_cmp V) (e : List ℕ × W) (entries : List (List ℕ × W))
      → without_keys (map.remove m e.0) entries ≡ without_keys m (e ∷ entries)
  without_one m e entries = same_map nat_list_cmp_total key_cmp-equal _ _ (λ q.
      get-without_keys (map.remove m e.0) entries q
      ∙ ap (λ o. cond (not (is_some (find key_cmp q entries))) o None) (get-remove nat_list_cmp_total m e.0 q)
      ∙ by (map.get m q) (eq_by_cmp key_cmp q e.0) (find key_cmp q entries)
      ∙ sym (get-without_keys m (e ∷ entries) q))
    where
      by : (v : Option V) (b : Bool) (o : Option W)
          → cond (not (is_some o)) (cond b None v) None ≡ cond (not (is_some (cond b (Some e.1) o))) v None
      by v true None = refl
      by v true (Some w) = refl
      by v false o = refl

  -- where a cursor advances, the key at which it stands then is removed
  pub without_on : (made mid : FinMap key_cmp V) (c d : ReadCursorView W) → d ≡ advanced c → c.left ≢ []
      → ((e : List ℕ × W) → d.at ≡ Some e → mid ≡ map.remove made e.0) → without_keys mid d.left ≡ without_keys made c.left
  without_on made mid c d is some gone =
      subst (λ left. without_keys mid left ≡ without_keys made c.left) (sym (ap (λ (v : ReadCursorView W). v.left) is))
      (by c.left some (λ e at. gone e (ap (λ (v : ReadCursorView W). v.at) is ∙ at)))
    where
      by : (left : List (List ℕ × W)) → left ≢ []
          → ((e : List ℕ × W) → slice_get left 0 ≡ Some e → mid ≡ map.remove made e.0)
          → without_keys mid (drop 1 left) ≡ without_keys made left
      by [] some gone = absurd (some refl)
      by (e ∷ left) some gone = ap (λ m. without_keys m left) (gone e refl) ∙ without_one made e left

  -- the keys of all entries are those that the other map has
  pub without_entries : (m : FinMap key_cmp V) (n : FinMap key_cmp W)
      → without_keys m (map.entries n) ≡ map.retain_keys m (λ k. not (map.contains_key n k))
  without_entries m n = same_map nat_list_cmp_total key_cmp-equal _ _ (λ q.
      get-without_keys m (map.entries n) q
      ∙ ap (λ o. cond (not (is_some o)) (map.get m q) None) (sym (get-entries n q))
      ∙ sym (get-retain_keys m (λ k. not (map.contains_key n k)) q
      (λ x tie. ap (λ k. not (map.contains_key n k)) (sym (key_cmp-equal q x tie)))))

-- where a cursor over a set advances, the element at which it stands then is inserted
pub inserted_on : (made mid : FinMap key_cmp (Unit {0})) (c d : ReadCursorView (Unit {0}))
    → d ≡ advanced c → c.left ≢ []
    → ((e : List ℕ × Unit {0}) → d.at ≡ Some e → mid ≡ map.insert made e.0 tt)
    → insert_all mid d.left ≡ insert_all made c.left
inserted_on made mid c d is some put =
    subst (λ left. insert_all mid left ≡ insert_all made c.left) (sym (ap (λ (v : ReadCursorView (Unit {0})). v.left) is))
    (by c.left some (λ e at. put e (ap (λ (v : ReadCursorView (Unit {0})). v.at) is ∙ at)))
  where
    by : (left : List (List ℕ × Unit {0})) → left ≢ []
        → ((e : List ℕ × Unit {0}) → slice_get left 0 ≡ Some e → mid ≡ map.insert made e.0 tt)
        → insert_all mid (drop 1 left) ≡ insert_all made left
    by [] some put = absurd (some refl)
    by (e ∷ left) some put = ap (λ m. insert_all m left) (put e refl)

-- the same where those elements alone are inserted that pass a test, and this one passes
pub chosen_on : (p : List ℕ → Bool) (made mid : FinMap key_cmp (Unit {0})) (c d : ReadCursorView (Unit {0}))
    → d ≡ advanced c → c.left ≢ []
    → ((e : List ℕ × Unit {0}) → d.at ≡ Some e → p e.0 ≡ true)
    → ((e : List ℕ × Unit {0}) → d.at ≡ Some e → mid ≡ map.insert made e.0 tt)
    → insert_all mid (filter (λ e. p e.0) d.left) ≡ insert_all made (filter (λ e. p e.0) c.left)
chosen_on p made mid c d is some passes put =
    let at = ap (λ (v : ReadCursorView (Unit {0})). v.at) is in
    subst (λ left. insert_all mid (filter (λ e. p e.0) left) ≡ insert_all made (filter (λ e. p e.0) c.left))
    (sym (ap (λ (v : ReadCursorView (Unit {0})). v.left) is))
    (by c.left some (λ e e_at. passes e (at ∙ e_at)) (λ e e_at. put e (at ∙ e_at)))
  where
    by : (left : List (List ℕ × Unit {0})) → left ≢ []
        → ((e : List ℕ × Unit {0}) → slice_get left 0 ≡ Some e → p e.0 ≡ true)
        → ((e : List ℕ × Unit {0}) → slice_get left 0 ≡ Some e → mid ≡ map.insert made e.0 tt)
        → insert_all mid (filter (λ e. p e.0) (drop 1 left)) ≡ insert_all made (filter (λ e. p e.0) left)
    by [] some passes put = absurd (some refl)
    by (e ∷ left) some passes put =
        rw (passes e refl) (ap (λ m. insert_all m (filter (λ e. p e.0) left)) (put e refl))

module _ {B : Type 0} where
  -- one of a list passes one of two tests where one passes the first, or one the second
  any_or : (f g : B → Bool) (ys : List B) → list_any (λ y. f y || g y) ys ≡ (list_any f ys || list_any g ys)
  any_or f g [] = refl
  any_or f g (y ∷ ys) = by (f y) (g y) (list_any f ys) (list_any g ys) (any_or f g ys)
    where
      by : (a b c d : Bool) {l : Bool} → l ≡ (c || d) → ((a || b) || l) ≡ ((a || c) || (b || d))
      by true b c d is = refl
      by false true true d is = refl
      by false true false d is = refl
      by false false c d is = is

  any_none : (ys : List B) → list_any (λ _. false) ys ≡ false
  any_none [] = refl
  any_none (y ∷ ys) = any_none ys

module _ {A B : Type 0} where
  -- two searches, one in the other, may be exchanged
  any_exchanged : (r : A → B → Bool) (xs : List A) (ys : List B)
      → list_any (λ x. list_any (r x) ys) xs ≡ list_any (λ y. list_any (λ x. r x y) xs) ys
  any_exchanged r [] ys = sym (any_none ys)
  any_exchanged r (x ∷ xs) ys =
      ap (λ b. list_any (r x) ys || b) (any_exchanged r xs ys)
      ∙ sym (any_or (r x) (λ y. list_any (λ x. r x y) xs) ys)

-- tests that answer alike find alike
any_alike : {A : Type 0} (f g : A → Bool) (xs : List A) → ((x : A) → f x ≡ g x) → list_any f xs ≡ list_any g xs
any_alike f g [] is = refl
any_alike f g (x ∷ xs) is = rw (is x, any_alike f g xs is) refl

-- whether two maps have a key in common is the same either way round
pub shared_turned : {V W : Type 0} (s : FinMap key_cmp V) (t : FinMap key_cmp W)
    → list_any (map.contains_key t) (map.keys s) ≡ list_any (map.contains_key s) (map.keys t)
shared_turned s t =
    any_alike _ _ (map.keys s) (λ k. contains_key-keys t k)
    ∙ any_exchanged (eq_by_cmp key_cmp) (map.keys s) (map.keys t)
    ∙ any_alike _ _ (map.keys t) (λ k. any_alike _ _ (map.keys s) (λ x. (eq_by_cmp_equiv nat_list_cmp_total).symm x k) ∙ sym (contains_key-keys s k))

-- all pass a test where none fails it
pub all_pass : {A : Type 0} (p : A → Bool) (xs : List A) → not (list_any (λ x. not (p x)) xs) ≡ list_all p xs
all_pass p [] = refl
all_pass p (x ∷ xs) = by (p x) (all_pass p xs)
  where
    by : (b : Bool) → not (list_any (λ x. not (p x)) xs) ≡ list_all p xs
        → not (not b || list_any (λ x. not (p x)) xs) ≡ (b && list_all p xs)
    by true rest = rest
    by false rest = refl

-- what is returned is also what that is
pub ok_along : {A E : Type 0} (r : Result A E) (x y : A) → x ≡ y → IfOk r (λ a. a ≡ x) → IfOk r (λ a. a ≡ y)
ok_along (Ok a) x y is h = h ∙ is
ok_along (Err e) x y is h = tt

-- two lists with items have them the other way round too
pub filled_turned : {A : Type 0} (xs ys : List A) → ys ++ xs ≢ [] → xs ++ ys ≢ []
filled_turned [] ys some none = some (ap (λ l. l ++ []) none)
filled_turned (x ∷ xs) ys some none = absurd (cc)

-- the result of comparing two sets
pub same_sets_if : {E : Type 0} (eq : Unit {0} → Unit {0} → Bool) → ((u v : Unit {0}) → eq u v ≡ true)
    → (s t : FinMap key_cmp (Unit {0})) (r : Result Bool E)
    → IfOk r (λ b. b ≡ are_same_entries eq (map.entries s) (map.entries t)) → IfOk r (λ b. IsTrue b ↔ (s ≡ t))
same_sets_if eq all s t (Ok b) is = same_sets eq all s t b is
same_sets_if eq all s t (Err e) is = tt
