-- Names of a block list, and the keys that it keeps them by.
use Rattle.std.proofs.Common.{◌≡◌, ℕ, suc, ◌-◌, ◌+◌, ◌≤◌, inl, inr, Bool, true, false, cond, ◌||◌}
use Rattle.std.proofs.Common.{Option, None, Some, List, [], ◌∷◌, ◌++◌, map as list_map, length}
use Rattle.std.proofs.Common.{Bor, MatchOption, drop, get_or, refl, sym, ap, subst, ◌∙◌, arith}
use Rattle.std.specs.Prelude.{reverse, is_some, not, Result, Ok, Err, IfOk, OnOk, OnErr}
use Rattle.std.specs.Option.{option_map}
use Rattle.std.specs.Ordering.{eq_by_cmp}
use Rattle.std.specs.Cmp.Lexicographic.{nat_list_cmp_total}
use Rattle.std.specs.FinMap as map
use Rattle.std.specs.FinMap.{slice_cmp-IsAntisymmetric, nat_cmp-IsAntisymmetric}
use Rattle.std.proofs.lemmas.List.{append-nil, append_assoc, reverse-reverse, reverse-append}
use Rattle.std.proofs.lemmas.List.{get_or-map, length-reverse, length-append, length-map}
use Rattle.std.proofs.lemmas.List.Prefix.{end_rest}
use Rattle.std.proofs.lemmas.Simd.{map-map}
use Rattle.patricia_tree.specs.Keys.{Begins, key_cmp}
use Rattle.patricia_tree.specs.Points.{Has}
use Rattle.patricia_tree.specs.Prefixes.{longest}
use Rattle.patricia_tree.specs.Sets.{KeySet}
use Rattle.prefixes_core.specs.Blocks.{Covers, Blocks, Passes}
use Rattle.prefixes_core.specs.Internal.Reversed.{key_of, name_of, names_of}
use Rattle.prefixes_core.specs.Internal.Reversed.{AreKeysOfNames, AreKeysFound}
use Rattle.prefixes_core.proofs.ListLemmas.{stripped}
use Rattle.prefixes_core.proofs.LongestLemmas.{IsLongestKey, found_has, has_found, tied_is}
use Rattle.prefixes_core.proofs.LongestLemmas.{tied_from, longest_part, no_part}

-- the name of the key of a name is that name
name_of-key_of : (name : List ℕ) → name_of (key_of name) ≡ name
name_of-key_of name =
    ap reverse (sym (stripped 46 46 (reverse name) (key_of name) (reverse-append (46 ∷ []) name)
    refl))
    ∙ reverse-reverse name

-- a key is one byte longer than its name
key_of-length : (name : List ℕ) → length (key_of name) ≡ suc (length name)
key_of-length name = length-reverse (46 ∷ name)

-- two tests of which each holds where the other does are one
same_test : (a b : Bool) → (a ≡ true → b ≡ true) → (b ≡ true → a ≡ true) → a ≡ b
same_test true b f g = sym (f refl)
same_test false true f g = g refl
same_test false false f g = refl

-- something that is there or not, where there is one value, is told by a test
one_value : (x y : Option (Unit {0})) → is_some x ≡ is_some y → x ≡ y
one_value None None e = refl
one_value None (Some u) e = absurd (cc)
one_value (Some u) None e = absurd (cc)
one_value (Some u) (Some w) e = refl

-- whether one of two is there
some_or : (b : Bool) (x : Option (Unit {0})) → is_some (cond b (Some tt) x) ≡ (b || is_some x)
some_or true x = refl
some_or false x = refl

-- a set with one more key has it and all before
contains-insert : (keys : KeySet) (k q : List ℕ)
    → map.contains_key (map.insert keys k tt) q ≡ (eq_by_cmp key_cmp q k || map.contains_key keys q)
contains-insert keys k q = ap is_some (map.get-insert nat_list_cmp_total keys k tt q) ∙ some_or _ _

-- the names of entries, each with nothing beside it
abbrev named_entries : List (List ℕ × Unit {0}) → List (List ℕ × Unit {0})
named_entries entries = list_map (λ entry. (name_of entry.0, tt)) entries

-- a name of some entries is that of one of them
named : (n : List ℕ) (entries : List (List ℕ × Unit {0})) → Has (named_entries entries) (n, tt)
    → (k : List ℕ) × Has entries (k, tt) × (name_of k ≡ n)
named n [] h = absurd h
named n (entry ∷ entries) (inl same) = (entry.0, inl refl, ap (λ (r : List ℕ × Unit {0}). r.0) same)
named n (entry ∷ entries) (inr h) = let more = named n entries h in (more.0, inr more.1, more.2)

-- the name of one of some entries is a name of them
has_name : (k : List ℕ) (entries : List (List ℕ × Unit {0})) → Has entries (k, tt)
    → Has (named_entries entries) (name_of k, tt)
has_name k [] h = absurd h
has_name k (entry ∷ entries) (inl same) = inl (ap (λ (r : List ℕ × Unit {0}). (name_of r.0, tt)) same)
has_name k (entry ∷ entries) (inr h) = inr (has_name k entries h)

-- what a set contains stands in its entries
contained : (keys : KeySet) (q : List ℕ) → map.contains_key keys q ≡ true
    → Has (map.entries keys) (q, tt)
contained keys q h = (found_has q (map.entries keys) (ap is_some (sym (map.get-entries keys q))
    ∙ h)).1

-- and what stands in its entries it contains
contains : (keys : KeySet) (q : List ℕ) → Has (map.entries keys) (q, tt)
    → map.contains_key keys q ≡ true
contains keys q h = ap is_some (map.get-entries keys q) ∙ has_found q tt (map.entries keys) h

module _ (keys : KeySet) (named_all : AreKeysOfNames keys) where
  -- a name that is listed has its key in the set
  there : (n : List ℕ) → map.contains_key (names_of keys) n ≡ true
      → map.contains_key keys (key_of n) ≡ true
  there n h =
      let entries = named_entries (map.entries keys) in
      let one = found_has n entries (ap is_some (sym (map.get-from_entries nat_list_cmp_total entries n))
      ∙ h) in
      let found = named n (map.entries keys) one.1 in
      let in_keys = contains keys found.0 found.1 in
      let is : found.0 ≡ key_of n = sym (named_all found.0 in_keys) ∙ ap key_of found.2 in
      subst (λ k. map.contains_key keys k ≡ true) is in_keys

  -- and a name whose key is in the set is listed
  back : (n : List ℕ) → map.contains_key keys (key_of n) ≡ true
      → map.contains_key (names_of keys) n ≡ true
  back n h =
      let entries = named_entries (map.entries keys) in
      let one = has_name (key_of n) (map.entries keys) (contained keys (key_of n) h) in
      let found : Has entries (n, tt) = subst (λ x. Has entries (x, tt)) (name_of-key_of n) one in
      ap is_some (map.get-from_entries nat_list_cmp_total entries n) ∙ has_found n tt entries found

  -- a name is listed exactly where its key is in the set
  pub listed_is : (n : List ℕ) → map.contains_key (names_of keys) n ≡ map.contains_key keys
      (key_of n)
  listed_is n = same_test _ _ (there n) (back n)

  -- with one more name each key is still that of a name
  pub named_more : (n : List ℕ) → AreKeysOfNames (map.insert keys (key_of n) tt)
  named_more n k h = by (eq_by_cmp key_cmp k (key_of n)) refl
    where
      by : (b : Bool) → eq_by_cmp key_cmp k (key_of n) ≡ b → key_of (name_of k) ≡ k
      by true f =
          let is = tied_is k (key_of n) f in
          subst (λ x. key_of (name_of x) ≡ x) (sym is) (ap key_of (name_of-key_of n))
      by false f =
          named_all k (subst (λ b. (b || map.contains_key keys k) ≡ true) f (sym
          (contains-insert keys (key_of n) k) ∙ h))

-- names tie where their keys do
tied_keys : (q n : List ℕ) → eq_by_cmp key_cmp (key_of q) (key_of n) ≡ eq_by_cmp key_cmp q n
tied_keys q n = same_test _ _
    (λ h. let is = tied_is (key_of q) (key_of n) h in tied_from q n (sym (name_of-key_of q)
    ∙ ap name_of is ∙ name_of-key_of n))
    (λ h. tied_from (key_of q) (key_of n) (ap key_of (tied_is q n h)))

-- one more key is one more name
pub names_more : (keys : KeySet) → AreKeysOfNames keys → (n : List ℕ)
    → names_of (map.insert keys (key_of n) tt) ≡ map.insert (names_of keys) n tt
names_more keys named_all n =
    map.same_map nat_list_cmp_total (slice_cmp-IsAntisymmetric nat_cmp-IsAntisymmetric) _ _
    (λ q. one_value _ _ (listed_is (map.insert keys (key_of n) tt) (named_more keys named_all n) q
    ∙ contains-insert keys (key_of n) (key_of q)
    ∙ ap (λ b. b || map.contains_key keys (key_of q)) (tied_keys q n)
    ∙ ap (λ b. eq_by_cmp key_cmp q n || b) (sym (listed_is keys named_all q))
    ∙ sym (contains-insert (names_of keys) n q)))

-- the empty set contains nothing
pub nothing_named : AreKeysOfNames map.empty
nothing_named k h = absurd (let none = map.get-empty {X = Unit {0}} key_cmp k in let no = ap
    is_some none in cc)

-- and has no names
pub no_names : names_of map.empty ≡ map.empty
no_names =
    map.same_map nat_list_cmp_total (slice_cmp-IsAntisymmetric nat_cmp-IsAntisymmetric) _ _
    (λ q. one_value _ _ (listed_is map.empty nothing_named q
    ∙ ap is_some (map.get-empty key_cmp (key_of q))
    ∙ sym (ap is_some (map.get-empty key_cmp q))))

-- the key of a name that covers a host begins that of the host
covers_begins : (name host : List ℕ) → Covers name host → Begins (key_of name) (key_of host)
covers_begins name host (inl same) = ([], append-nil (key_of name) ∙ ap key_of (sym same))
covers_begins name host (inr below) = (
  key_of below.0,
  sym (reverse-append (46 ∷ below.0) (46 ∷ name)) ∙ ap key_of below.1,
)

-- and where the key of a name begins that of a host, the name covers the host
begins_covers : (name host : List ℕ) → Begins (key_of name) (key_of host) → Covers name host
begins_covers name host (rest, e) =
    by (reverse rest)
    (sym (ap (λ l. reverse rest ++ l) (reverse-reverse (46 ∷ name)))
    ∙ sym (reverse-append (key_of name) rest) ∙ ap reverse e ∙ reverse-reverse (46 ∷ host))
  where
    by : (front : List ℕ) → front ++ 46 ∷ name ≡ 46 ∷ host → Covers name host
    by [] f = inl (cc)
    by (c ∷ front) f = inr (front, cc)

module _ (keys : KeySet) (named_all : AreKeysOfNames keys) (host : List ℕ) where
  module _ (part : List ℕ) (long : IsLongestKey keys (key_of host) part) where
    abbrev name : List ℕ
    name = name_of part

    is : key_of name ≡ part
    is = named_all part long.listed

    count : length part ≡ suc (length name)
    count = ap length (sym is) ∙ key_of-length name

    covers : Covers name host
    covers = begins_covers name host (subst (λ k. Begins k (key_of host)) (sym is) long.begins)

    -- the longest key that begins that of a host is that of the name that blocks it
    pub key_blocks : Blocks (names_of keys) host (name_of part)
    key_blocks = record {
      listed = listed_is keys named_all name ∙ subst (λ k. map.contains_key keys k ≡ true)
          (sym is) long.listed;
      covers = covers;
      longest = λ other in_names covered.
          let in_keys = sym (listed_is keys named_all other) ∙ in_names in
          let short = long.longest (key_of other) in_keys (covers_begins other host covered) in
          omega (arith, short, key_of-length other, count);
    }

    front_of : Covers name host → (front : List ℕ) × (host ≡ front ++ name)
    front_of (inl same) = ([], same)
    front_of (inr below) = (
      below.0 ++ 46 ∷ [],
      sym below.1
          ∙ sym (append_assoc below.0 (46 ∷ []) name),
    )

    -- that name is the end of the host
    pub blocks : (n : ℕ) → n + length part ≡ suc (length host)
        → Blocks (names_of keys) host (drop n host)
    blocks n size =
        let front = front_of covers in
        let place : n ≡ length host - length name = omega (arith, size, count) in
        subst (Blocks (names_of keys) host)
        (sym (ap (λ i. drop i host) place ∙ end_rest host name front.0 front.1)) key_blocks

  -- where no key begins that of a host, no name covers the host
  pub passes : ((q : List ℕ) → map.contains_key keys q ≡ true → Begins q (key_of host) → ⊥)
      → Passes (names_of keys) host
  passes none name listed covered = none (key_of name) (sym (listed_is keys named_all name)
      ∙ listed) (covers_begins name host covered)

  -- so many bytes are not of a name that covers a host, which are no more than those of the host
  pub front_short : (part : List ℕ) → IsLongestKey keys (key_of host) part
      → (length part ≤ suc (length host)) × (suc (length host) ≤ length host + length part)
  front_short part long =
      let front = long.begins in
      let size = length-append part front.0 in
      let whole = key_of-length host in
      let own = key_of-length (name_of part) in
      let same = ap length (named_all part long.listed) in
      (omega (arith, size, whole, ap length front.1), omega (arith, own, same))

-- the key of a host is one byte longer
pub host_key : (key host : List ℕ) → key ≡ key_of host → length key ≡ suc (length host)
host_key key host e = ap length e ∙ key_of-length host

-- what an insert of the key of a name leaves, whether it succeeds or not
module _ {E : Type 0} (old new : KeySet) (k n : List ℕ) (named_all : AreKeysOfNames old)
    (is : k ≡ key_of n) where
  -- each key is still that of a name
  pub named_after : (r : Result Bool E) → OnOk r (new ≡ map.insert old k tt) → OnErr r (new ≡ old)
      → AreKeysOfNames new
  named_after (Ok b) ok err = subst AreKeysOfNames (sym (ok ∙ ap (λ q. map.insert old q tt) is))
      (named_more old named_all n)
  named_after (Err e) ok err = subst AreKeysOfNames (sym err) named_all

  -- it returns whether the name is new
  pub name_is_new : (r : Result Bool E) → IfOk r (λ b. b ≡ not (map.contains_key old k))
      → IfOk r (λ b. b ≡ not (map.contains_key (names_of old) n))
  name_is_new (Ok b) new_is = new_is ∙ ap not (ap (map.contains_key old) is
      ∙ sym (listed_is old named_all n))
  name_is_new (Err e) new_is = tt

  -- on success the name is among the names
  pub name_added : (r : Result Bool E) → OnOk r (new ≡ map.insert old k tt)
      → OnOk r (names_of new ≡ map.insert (names_of old) n tt)
  name_added (Ok b) ok = ap names_of (ok ∙ ap (λ q. map.insert old q tt) is)
      ∙ names_more old named_all n
  name_added (Err e) ok = tt

  -- else the names are those from before
  pub name_refused : (r : Result Bool E) → OnErr r (new ≡ old)
      → OnErr r (names_of new ≡ names_of old)
  name_refused (Ok b) err = tt
  name_refused (Err e) err = ap names_of err

module _ (keys : KeySet) (named_all : AreKeysOfNames keys) where
  -- what is found for the key of a host
  found_for : (key host : List ℕ) → key ≡ key_of host
      → MatchOption (option_map (λ e. e.0) (longest key (map.entries keys)))
      (Passes (names_of keys) host) (λ part. Blocks (names_of keys) host (name_of part))
  found_for key host is = by (option_map (λ e. e.0) (longest key (map.entries keys))) refl
    where
      by : (part : Option (List ℕ))
          → part ≡ option_map (λ e. e.0) (longest key (map.entries keys))
          → MatchOption part (Passes (names_of keys) host)
          (λ part. Blocks (names_of keys) host (name_of part))
      by None none = passes keys named_all host (λ q listed begun.
          no_part keys key none q listed (subst (Begins q) (sym is) begun))
      by (Some part) some = key_blocks keys named_all host part
          (subst (λ k. IsLongestKey keys k part) is (longest_part keys key part some))

  -- what is found for keys
  pub keys_found : (asked : List (Bor (List ℕ))) (found : List (Option (Bor (List ℕ))))
      → list_map (option_map (λ key. key.now)) found
      ≡ list_map (λ key. option_map (λ e. e.0) (longest key.now (map.entries keys))) asked
      → AreKeysFound (names_of keys) (list_map (λ key. key.now) asked)
      (list_map (option_map (λ key. key.now)) found)
  keys_found asked found all =
      let looks_up : List ℕ → Option (List ℕ) =
      λ key. option_map (λ e. e.0) (longest key (map.entries keys)) in
      let own = list_map (λ key. key.now) asked in
      let same : list_map (option_map (λ key. key.now)) found ≡ list_map looks_up own =
      all ∙ sym (map-map looks_up (λ key. key.now) asked) in
      record {
        as_many = ap length same ∙ length-map own looks_up;
        each = λ i host inside is.
            subst (λ o. MatchOption o (Passes (names_of keys) host)
            (λ key. Blocks (names_of keys) host (name_of key)))
            (sym (ap (λ l. get_or l i None) same ∙ get_or-map looks_up own i [] None inside))
            (found_for (get_or own i []) host is);
      }
