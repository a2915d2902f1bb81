-- What a cursor has ahead, over entries in key order.
use Rattle.std.proofs.Common.{◌≡◌, ◌≤◌, ◌<◌, ◌⊎◌, ℕ, zero, suc, Bool, true, false, T, not, cond, inl, inr, List, [], ◌∷◌, ◌++◌}
use Rattle.std.proofs.Common.{Option, None, Some, length, take, drop, slice_get, refl, sym, ap, ap₂, subst, ◌∙◌, arith}
use Rattle.std.specs.Ordering.{is_lt, ordering_reverse, ordering_then}
use Rattle.std.specs.Cmp.{nat_cmp_is, nat_cmp_total}
use Rattle.std.proofs.Common.{nat_cmp}
use Rattle.std.specs.declared.cmp.Ordering.{Ordering}
use Rattle.std.specs.declared.cmp.Ordering.TheVariants.{Less, Equal, Greater}
use Rattle.std.specs.FinMap as map
use Rattle.std.specs.FinMap.{is_sorted, len-entries}
use Rattle.std.specs.Prelude.{IsTrue}
use Rattle.std.specs.FinMap.Entries.{below_all, is_sorted-where_key}
use Rattle.std.specs.Cmp.Lexicographic.{nat_list_cmp_total}
use Rattle.std.proofs.lemmas.List.{append-nil, nil_from_length, take_all, take-append-drop, take-append-le}
use Rattle.patricia_keys.specs.Keys.{Begins, key_cmp}
use Rattle.patricia_keys.proofs.KeyLemmas.{Begins-trans, key_cmp-irreflexive}
use Rattle.patricia_tree.specs.Prefixes.{begins, under}
use Rattle.patricia_tree.specs.Ranges.{from}
use Rattle.patricia_tree.specs.Cursors.{after}
use Rattle.patricia_tree.specs.Points.{Has}
use Rattle.patricia_model.proofs.FilterLemmas.{has_filter}
use Rattle.patricia_model.proofs.ListLemmas.{key_cmp-equal, key_cmp-extends}
use Rattle.patricia_model.proofs.PrefixLemmas.{begins_from, begins_is, not_above, under_none, under_empty}
use Rattle.patricia_model.proofs.RangeLemmas.{IsFrom, before_first, from_below, from_sorted_entries, from_start, is_less}
use Rattle.patricia_model.proofs.SiblingsLemmas.{AllKeys}
use Rattle.patricia_model.proofs.TestLemmas.{first_part, second_part, less_so}
use Rattle.patricia_c.specs.Cursors.{ahead_of, beyond, end_of, until}
use Rattle.patricia_c.specs.Internal.Filling.{IsFullFirst, IsNoneFirst}
use Rattle.std.specs.Option.{option_map, option_map_or}
use Rattle.patricia_c.specs.declared.cursor_pointer.Position.{Position}

-- where one key is greater, the other one is less
greater_turned : (a b : List ℕ) → key_cmp a b ≡ Greater → key_cmp b a ≡ Less
greater_turned a b e = nat_list_cmp_total.antisymm b a ∙ ap ordering_reverse e

-- what is behind a key with a front, and before another one with it, has that front, too
between : (p r t e : List ℕ) → key_cmp (p ++ r) e ≡ Less → key_cmp e (p ++ t) ≡ Less → Begins p e
between p r t e above less = by (key_cmp p e) refl
  where
    by : (o : Ordering) → key_cmp p e ≡ o → Begins p e
    by Less f = elim (key_cmp-extends p e t [] f) [
      | inl past ↦
          let past' : key_cmp (p ++ t) e ≡ Less = rw append-nil at past in
          absurd (key_cmp-irreflexive e e refl (nat_list_cmp_total.trans e (p ++ t) e less past'))
      | inr begun ↦ begun
    ]
    by Equal f = ([], append-nil p ∙ key_cmp-equal p e f)
    by Greater f = elim (key_cmp-extends e p [] r (greater_turned p e f)) [
      | inl past ↦
          let past' : key_cmp e (p ++ r) ≡ Less = rw append-nil at past in
          absurd (key_cmp-irreflexive e e refl (nat_list_cmp_total.trans e (p ++ r) e past' above))
      | inr begun ↦ absurd (not_above (p ++ r) e (Begins-trans e p (p ++ r) begun (r, refl)) above)
    ]

-- the same where the key with the front may be that one
from_between : (p r t e : List ℕ) → IsFrom (p ++ r) e → key_cmp e (p ++ t) ≡ Less → Begins p e
from_between p r t e is less = by (key_cmp e (p ++ r)) refl
  where
    by : (o : Ordering) → key_cmp e (p ++ r) ≡ o → Begins p e
    by Less f = absurd (let no = rw f at is in cc)
    by Equal f = (r, sym (key_cmp-equal e (p ++ r) f))
    by Greater f = between p r t e (greater_turned e (p ++ r) f) less

-- so many bytes of a key that a list begins are that list
pub same_prefix : (p next : List ℕ) → begins p next ≡ true → take (length p) next ≡ p
same_prefix p next is =
    let begun = begins_is p next is in
    ap (take (length p)) (sym begun.1) ∙ take-append-le (length p) p begun.0 (omega arith) ∙ take_all (length p) p (omega arith)

module _ {V : Type 0} where
  -- in order, from a key with a prefix on: where the first entry is not under the prefix, none is
  none_under : (p r : List ℕ) (e : List ℕ × V) (es : List (List ℕ × V))
      → T (is_sorted key_cmp (e ∷ es)) → IsFrom (p ++ r) e.0 → begins p e.0 ≡ false
      → under p (e ∷ es) ≡ []
  none_under p r e es sorted is other =
      under_none p (e ∷ es) (lacks, rest es (first_part _ _ sorted))
    where
      lacks : Begins p e.0 → ⊥
      lacks b = let yes = begins_from p e.0 b in let no = rw other at yes in cc

      rest : (fs : List (List ℕ × V)) → T (below_all key_cmp e.0 fs)
          → AllKeys (λ k. Begins p k → ⊥) fs
      rest [] h = tt
      rest (f ∷ fs) h =
          let less = less_so (key_cmp e.0 f.0) (first_part _ _ h) in
          (λ b. lacks (from_between p r b.0 e.0 is (subst (λ k. key_cmp e.0 k ≡ Less) (sym b.1) less)), rest fs (second_part _ _ h))

  -- an entry that is first under a prefix begins with it
  pub first_begins : (p : List ℕ) (entries : List (List ℕ × V)) (e : List ℕ × V)
      → slice_get (under p entries) 0 ≡ Some e → begins p e.0 ≡ true
  first_begins p entries e first = by (under p entries) refl first
    where
      by : (us : List (List ℕ × V)) → under p entries ≡ us → slice_get us 0 ≡ Some e
          → begins p e.0 ≡ true
      by [] is some = absurd (cc)
      by (u ∷ us) is some =
          let same : u ≡ e = cc in
          (has_filter (λ x. begins p x.0) entries e (rw is (inl same))).1

  -- all entries under a prefix are from it on
  under_from : (p : List ℕ) (entries : List (List ℕ × V)) → under p (from p entries) ≡ under p entries
  under_from p [] = refl
  under_from p (e ∷ es) = by (is_lt (key_cmp e.0 p)) (begins p e.0) refl refl (under_from p es)
    where
      by : (b c : Bool) → is_lt (key_cmp e.0 p) ≡ b → begins p e.0 ≡ c
          → under p (from p es) ≡ under p es
          → under p (cond (not b) (e ∷ from p es) (from p es)) ≡ cond c (e ∷ under p es) (under p es)
      by true true f h same = absurd (not_above e.0 p (begins_is p e.0 h) (is_less (key_cmp e.0 p) f))
      by true false f h same = same
      by false true f h same = rw (h, same) refl
      by false false f h same = rw (h, same) refl

  -- so a key that is whole in the prefix bounds nothing
  pub under_whole : (n : ℕ) (key : List ℕ) → length key ≤ n → (entries : List (List ℕ × V))
      → under (take n key) (from key entries) ≡ under key entries
  under_whole n key long entries = ap (λ p. under p (from key entries)) (take_all n key long) ∙ under_from key entries

  -- from the empty key on, under no prefix
  pub under_start : (entries : List (List ℕ × V)) → under [] (from [] entries) ≡ entries
  under_start entries = under_empty (from [] entries) ∙ from_start entries

  -- so under as many of its bytes as there may be
  pub under_taken : (n : ℕ) (entries : List (List ℕ × V)) → under (take n []) (from [] entries) ≡ entries
  under_taken n entries = ap (λ p. under p (from [] entries)) (take_all n [] (omega arith)) ∙ under_start entries

-- the entries before an end are in order
until_sorted : (end : Option (List ℕ)) (es : List (List ℕ × ℕ)) → T (is_sorted key_cmp es)
    → T (is_sorted key_cmp (until end es))
until_sorted None es sorted = sorted
until_sorted (Some end) es sorted = is_sorted-where_key key_cmp (λ q. is_lt (key_cmp q end)) es sorted

-- and are among all of them
until_has : (end : Option (List ℕ)) (es : List (List ℕ × ℕ)) (e : List ℕ × ℕ) → Has (until end es) e → Has es e
until_has None es e has = has
until_has (Some end) es e has = (has_filter (λ x. is_lt (key_cmp x.0 end)) es e has).0

until_empty : (end : Option (List ℕ)) → until end [] ≡ []
until_empty None = refl
until_empty (Some end) = refl

-- where there is no entry, none is before an end
pub until_none : (end : Option (List ℕ)) (es : List (List ℕ × ℕ)) → None ≡ slice_get es 0
    → None ≡ slice_get (until end es) 0
until_none end [] none = ap (λ (l : List (List ℕ × ℕ)). slice_get l 0) (sym (until_empty end))
until_none end (x ∷ es) none = absurd (cc)

-- the first entry is the first before an end, where its key is
pub until_some : (end : Option (List ℕ)) (es : List (List ℕ × ℕ)) (e : List ℕ × ℕ) → Some e ≡ slice_get es 0
    → option_map_or (λ q. is_lt (key_cmp e.0 q)) end true ≡ true
    → Some e ≡ slice_get (until end es) 0
until_some end [] e some is = absurd (cc)
until_some None (x ∷ es) e some is = some
until_some (Some end) (x ∷ es) e some is = let same : e ≡ x = cc in rw (← same, is) refl

-- and else none is
pub until_other : (end : Option (List ℕ)) (es : List (List ℕ × ℕ)) (e : List ℕ × ℕ) → T (is_sorted key_cmp es)
    → Some e ≡ slice_get es 0 → option_map_or (λ q. is_lt (key_cmp e.0 q)) end true ≡ false
    → None ≡ slice_get (until end es) 0
until_other end [] e sorted some is = absurd (cc)
until_other None (x ∷ es) e sorted some is = absurd (cc)
until_other (Some end) (x ∷ es) e sorted some is =
    let same : e ≡ x = cc in
    ap (λ (l : List (List ℕ × ℕ)). slice_get l 0) (sym (before_first end x es sorted (rw (← same) is)))

-- the entries from a place on are in order
pub beyond_sorted : (passed : Bool) (key : List ℕ) (es : List (List ℕ × ℕ)) → T (is_sorted key_cmp es)
    → T (is_sorted key_cmp (beyond passed key es))
beyond_sorted true key es sorted = is_sorted-where_key key_cmp (λ q. is_lt (key_cmp key q)) es sorted
beyond_sorted false key es sorted = from_sorted_entries key es sorted

-- and none of them is before the key
beyond_has : (passed : Bool) (key : List ℕ) (es : List (List ℕ × ℕ)) (e : List ℕ × ℕ)
    → Has (beyond passed key es) e → IsFrom key e.0
beyond_has true key es e has =
    from_below key e.0 (is_less _ (has_filter (λ x. is_lt (key_cmp key x.0)) es e has).1)
beyond_has false key es e has =
    by (is_lt (key_cmp e.0 key)) refl (has_filter (λ x. not (is_lt (key_cmp x.0 key))) es e has).1
  where
    by : (b : Bool) → is_lt (key_cmp e.0 key) ≡ b → not (is_lt (key_cmp e.0 key)) ≡ true → IsFrom key e.0
    by true f h = absurd (let no = rw f at h in cc)
    by false f h = f

module _ (end : Option (List ℕ)) (passed : Bool) (n : ℕ) (key : List ℕ) (es : List (List ℕ × ℕ)) (sorted : T (is_sorted key_cmp es)) where
  -- the entries from the place on that come before the end
  abbrev there : List (List ℕ × ℕ)
  there = until end (beyond passed key es)

  -- where there is none, none is under the prefix
  pub ahead_none : None ≡ slice_get there 0 → None ≡ slice_get (under (take n key) there) 0
  ahead_none none = by there none
    where
      by : (entries : List (List ℕ × ℕ)) → None ≡ slice_get entries 0
          → None ≡ slice_get (under (take n key) entries) 0
      by [] none = refl
      by (e ∷ entries) none = absurd (cc)

  -- the first of them is the first under the prefix, where it is under it
  pub ahead_some : (e : List ℕ × ℕ) → Some e ≡ slice_get there 0 → begins (take n key) e.0 ≡ true
      → Some e ≡ slice_get (under (take n key) there) 0
  ahead_some e some is = by there some
    where
      by : (entries : List (List ℕ × ℕ)) → Some e ≡ slice_get entries 0
          → Some e ≡ slice_get (under (take n key) entries) 0
      by [] some = absurd (cc)
      by (x ∷ entries) some = let same : e ≡ x = cc in rw (← same, is) refl

  -- and else none is
  pub ahead_other : (e : List ℕ × ℕ) → Some e ≡ slice_get there 0 → begins (take n key) e.0 ≡ false
      → None ≡ slice_get (under (take n key) there) 0
  ahead_other e some other = by there refl some
    where
      by : (entries : List (List ℕ × ℕ)) → there ≡ entries → Some e ≡ slice_get entries 0
          → None ≡ slice_get (under (take n key) entries) 0
      by [] is some = absurd (cc)
      by (x ∷ entries) is some =
          let same : e ≡ x = cc in
          let whole = take-append-drop n key in
          let has = until_has end (beyond passed key es) x (rw is (inl refl)) in
          let bound = subst (λ k. IsFrom k x.0) (sym whole) (beyond_has passed key es x has) in
          let order = subst (λ l. T (is_sorted key_cmp l)) is (until_sorted end _ (beyond_sorted passed key es sorted)) in
          let none = none_under (take n key) (drop n key) x entries order bound (rw (← same) other) in
          rw none refl

-- nothing of no entries is ahead
pub ahead_empty : (o : Option Position) (entries : List (List ℕ × ℕ)) → entries ≡ []
    → slice_get (ahead_of o entries) 0 ≡ None
ahead_empty o entries none = subst (λ (l : List (List ℕ × ℕ)). slice_get (ahead_of o l) 0 ≡ None) (sym none) (by o)
  where
    by : (o : Option Position) → slice_get (ahead_of o []) 0 ≡ None
    by None = refl
    by (Some p) = ap (λ (l : List (List ℕ × ℕ)). slice_get (under (take p.common p.key.items) l) 0)
        (ap (until (end_of (Some p))) (past p.passed p.key.items) ∙ until_empty (end_of (Some p)))
      where
        past : (passed : Bool) (key : List ℕ) → beyond passed key [] ≡ []
        past true key = refl
        past false key = refl

-- a map of no length has no entry, and one that has no entry has no length
pub emptied : (m : map.FinMap key_cmp ℕ) → map.len m ≡ 0 → map.entries m ≡ []
emptied m none = nil_from_length (map.entries m) (sym (len-entries m) ∙ none)

pub filled : (m : map.FinMap key_cmp ℕ) → (map.len m ≡ 0 → IsTrue false) → map.entries m ≡ [] → ⊥
filled m some none = let no = some (len-entries m ∙ ap length none) in cc

-- a key is not below another one with a byte of 0 behind it exactly where it comes after that one
next_key : (key e : List ℕ) → not (is_lt (key_cmp e (key ++ 0 ∷ []))) ≡ is_lt (key_cmp key e)
next_key [] [] = refl
next_key [] (zero ∷ []) = refl
next_key [] (zero ∷ x ∷ t) = refl
next_key [] (suc b ∷ t) = let more : Greater ≡ nat_cmp (suc b) 0 = nat_cmp_is (suc b) 0 Greater (omega arith) in rw (← more) refl
next_key (a ∷ key) [] = refl
next_key (a ∷ key) (b ∷ t) = by (nat_cmp a b) refl (next_key key t)
  where
    turned : nat_cmp b a ≡ ordering_reverse (nat_cmp a b)
    turned = nat_cmp_total.antisymm b a

    by : (o : Ordering) → nat_cmp a b ≡ o → not (is_lt (key_cmp t (key ++ 0 ∷ []))) ≡ is_lt (key_cmp key t)
        → not (is_lt (ordering_then (nat_cmp b a) (key_cmp t (key ++ 0 ∷ [])))) ≡ is_lt (ordering_then (nat_cmp a b) (key_cmp key t))
    by Less f same = rw (turned, f) refl
    by Equal f same = rw (turned, f) same
    by Greater f same = rw (turned, f) refl

-- so the entries from there on are those that come after the key
pub from_next : {V : Type 0} (key : List ℕ) (entries : List (List ℕ × V))
    → from (key ++ 0 ∷ []) entries ≡ after (Some key) entries
from_next key [] = refl
from_next key (e ∷ es) = ap₂ (λ b l. cond b (e ∷ l) l) (next_key key e.0) (from_next key es)

module _ (end : Option (List ℕ)) (passed : Bool) (n : ℕ) (key : List ℕ) (es : List (List ℕ × ℕ)) (sorted : T (is_sorted key_cmp es)) where
  -- where the first entry from the place on is not under the prefix, or there is none, none is under it
  pub ahead_unlike : (left : List (List ℕ × ℕ)) → left ≡ until end (beyond passed key es) → IsNoneFirst (take n key) left
      → slice_get (under (take n key) (until end (beyond passed key es))) 0 ≡ None
  ahead_unlike [] is none = sym (ahead_none end passed n key es sorted (ap (λ (l : List (List ℕ × ℕ)). slice_get l 0) is))
  ahead_unlike (x ∷ left) is none = sym (ahead_other end passed n key es sorted x (ap (λ (l : List (List ℕ × ℕ)). slice_get l 0) is) none)

  -- where it is under the prefix it is the first there
  pub ahead_like : (left : List (List ℕ × ℕ)) (m r l v : ℕ) → left ≡ until end (beyond passed key es) → IsFullFirst (take n key) left m r l v
      → option_map (λ e. length e.0) (slice_get (under (take n key) (until end (beyond passed key es))) 0) ≡ Some m
  ahead_like [] m r l v is full = absurd full
  ahead_like (x ∷ left) m r l v is full =
      ap (option_map (λ e. length e.0)) (sym (ahead_some end passed n key es sorted x (ap (λ (l : List (List ℕ × ℕ)). slice_get l 0) is) full.0)) ∙ ap Some full.1

-- an array has no room for it then
pub no_room : (p : List ℕ) (left : List (List ℕ × ℕ)) (m r l v : ℕ) → IsFullFirst p left m r l v → (r < m) ⊎ (l ≡ 0) ⊎ (v ≡ 0)
no_room p [] m r l v full = absurd full
no_room p (x ∷ left) m r l v full = full.2
