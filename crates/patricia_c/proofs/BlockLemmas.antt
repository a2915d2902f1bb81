-- Laws of entries that are written to arrays, many at once.
use Rattle.std.proofs.Common.{◌≡◌, ◌≢◌, ◌≤◌, ◌<◌, ◌+◌, ◌-◌, ◌⊎◌, ℕ, true, inl, inr, List, [], ◌∷◌, ◌++◌}
use Rattle.std.proofs.Common.{Option, None, Some, length, take, drop, set, slice_get, refl, sym, ap, subst, ◌∙◌, arith}
use Rattle.std.proofs.Common.{length-append, take-add}
use Rattle.std.specs.Prelude.{map as list_map}
use Rattle.std.specs.List.{last_or}
use Rattle.std.specs.Option.{option_map}
use Rattle.std.proofs.lemmas.List.{append-nil, append_assoc, map-append, nil_from_length, length-set}
use Rattle.std.proofs.lemmas.List.{take_at, take_more_set, drop_at, drop-drop, drop-set-lt}
use Rattle.std.proofs.lemmas.List.{length-take-le, length-drop}
use Rattle.std.proofs.lemmas.Slice.{take-put_mid, drop-put_mid}
use borrow.Rule.Slice.PartMut.{put_mid, same_len_mid}
use Rattle.patricia_tree.specs.Prefixes.{begins, under}
use Rattle.patricia_tree.specs.Points.{Has}
use Rattle.patricia_model.proofs.FilterLemmas.{has_filter}
use Rattle.patricia_model.proofs.PrefixLemmas.{under-append}
use Rattle.patricia_c.specs.Blocks.{joined, WritesBlock}
use Rattle.patricia_c.specs.Internal.Filling.{AreWritten, Fills, HasNoRoom, IsFullFirst}
use Rattle.patricia_c.specs.declared.blocks.Filled.{Filled}

abbrev Entries : Type 0
Entries = List (List ℕ × ℕ)

joined-append : (es : Entries) (e : List ℕ × ℕ) → joined (es ++ e ∷ []) ≡ joined es ++ e.0
joined-append [] e = append-nil e.0
joined-append (x ∷ es) e = ap (λ l. x.0 ++ l) (joined-append es e) ∙ sym (append_assoc x.0 (joined es) e.0)

last-append : (es : Entries) (e : List ℕ × ℕ) → last_or None (es ++ e ∷ []) ≡ Some e
last-append [] e = refl
last-append (x ∷ []) e = refl
last-append (x ∷ y ∷ es) e = last-append (y ∷ es) e

last_has : (o : Option (List ℕ × ℕ)) (xs : Entries) (x : List ℕ × ℕ) → last_or o xs ≡ Some x → (o ≡ Some x) ⊎ Has xs x
last_has o [] x is = inl is
last_has o (y ∷ xs) x is = elim (last_has (Some y) xs x is) [
  | inl same ↦ inr (inl (cc))
  | inr later ↦ inr (inr later)
]

-- where all entries begin with a prefix the last one does
begins_last : (p : List ℕ) (es : Entries) (e : List ℕ × ℕ) → under p es ≡ es → last_or None es ≡ Some e → begins p e.0 ≡ true
begins_last p es e all last = elim (last_has None es e last) [
  | inl none ↦ absurd (cc)
  | inr has ↦ (has_filter (λ x. begins p x.0) es e (subst (λ l. Has l e) (sym all) has)).1
]

-- a part of a list, as the code takes it and as the front of the list has it
part_is : (l u : ℕ) (xs : List ℕ) → l ≤ u → u ≤ length xs → take (u - l) (drop l xs) ≡ drop l (take u xs)
part_is l u xs below within =
    let whole : u ≡ l + (u - l) = omega arith in
    sym (ap (λ n. drop l (take n xs)) whole ∙ ap (drop l) (take-add l (u - l) xs)
    ∙ drop_at (take l xs) (take (u - l) (drop l xs)) l (length-take-le l xs (omega arith)))

-- what is the same from a place on is so further on
further : (n m : ℕ) (xs ys : List ℕ) → drop n xs ≡ drop n ys → drop (n + m) xs ≡ drop (n + m) ys
further n m xs ys same = sym (drop-drop m n xs) ∙ ap (drop m) same ∙ drop-drop m n ys

-- one more entry is written
module _ (es : Entries) (f : Filled) (room lens values room' lens' values' : List ℕ) (w : AreWritten es f room lens values room' lens' values') where
  pub written_next : (key : List ℕ) (value : ℕ) (room1 : List ℕ) → f.used + length key ≤ length room
      → f.count < length lens → f.count < length values → length room1 ≡ length room
      → take (f.used + length key) room1 ≡ take f.used room ++ key
      → drop (f.used + length key) room1 ≡ drop (f.used + length key) room
      → AreWritten (es ++ (key, value) ∷ []) (record { count = f.count + 1; used = f.used + length key; last_at = f.used })
      room1 (set lens f.count (length key)) (set values f.count value) room' lens' values'
  written_next key value room1 fits one two long front back = record {
    keys = front ∙ ap (λ l. l ++ key) w.keys ∙ sym (joined-append es (key, value));
    lens = take_more_set lens f.count (length key) one ∙ ap (λ l. l ++ length key ∷ []) w.lens ∙ sym (map-append _ es _);
    values = take_more_set values f.count value two ∙ ap (λ l. l ++ value ∷ []) w.values ∙ sym (map-append _ es _);
    entry_count = ap (λ n. n + 1) w.entry_count ∙ sym (length-append es _);
    within_room = rw long fits;
    within_lens = let same = length-set lens f.count (length key) in omega (arith, same, one);
    within_values = let same = length-set values f.count value in omega (arith, same, two);
    behind_room = back ∙ further f.used (length key) room room' w.behind_room;
    behind_lens = drop-set-lt (f.count + 1) lens f.count _ (omega arith) ∙ further f.count 1 lens lens' w.behind_lens;
    behind_values = drop-set-lt (f.count + 1) values f.count _ (omega arith) ∙ further f.count 1 values values' w.behind_values;
    last = λ _.
        let short : length (take f.used room) ≡ f.used = length-take-le f.used room (omega (arith, fits)) in
        ap Some (ap (drop f.used) front ∙ drop_at (take f.used room) key f.used short)
        ∙ sym (ap (option_map (λ e. e.0)) (last-append es (key, value)));
    last_within = omega arith;
  }

  -- the same where the key is written over a part of the room
  pub written_over : (key ys : List ℕ) (k value : ℕ) → ys ≡ key → k ≡ length key → f.used + length key ≤ length room
      → f.count < length lens → f.count < length values
      → AreWritten (es ++ (key, value) ∷ []) (record { count = f.count + 1; used = f.used + length key; last_at = f.used })
      (put_mid f.used k room ys) (set lens f.count (length key)) (set values f.count value) room' lens' values'
  written_over key ys k value is long fits one two =
      let same : length ys ≡ k = ap length is ∙ sym long in
      let part = length-take-le k (drop f.used room) (omega (arith, length-drop f.used room)) in
      written_next key value (put_mid f.used k room ys) fits one two
      (same_len_mid f.used k room ys (omega (arith, part)))
      (take-put_mid f.used k room ys (f.used + length key) (omega arith) (omega arith) ∙ ap (λ l. take f.used room ++ l) is)
      (drop-put_mid f.used k room ys (f.used + length key) (omega arith) (omega arith) same)

-- where no entry is written, nothing is
module _ (f : Filled) (room lens values room' lens' values' : List ℕ) where
  pub none_used : (es : Entries) → AreWritten es f room lens values room' lens' values' → f.count ≡ 0 → es ≡ []
  none_used es w none = nil_from_length es (sym w.entry_count ∙ none)

  none_bytes : AreWritten [] f room lens values room' lens' values' → f.used ≡ 0
  none_bytes w = sym (length-take-le f.used room w.within_room) ∙ ap length w.keys

  pub room_as : AreWritten [] f room lens values room' lens' values' → room ≡ room'
  room_as w = let none = none_bytes w in let same = w.behind_room in rw none at same

  pub lens_as : AreWritten [] f room lens values room' lens' values' → lens ≡ lens'
  lens_as w = let none = w.entry_count in let same = w.behind_lens in rw none at same

  pub values_as : AreWritten [] f room lens values room' lens' values' → values ≡ values'
  values_as w = let none = w.entry_count in let same = w.behind_values in rw none at same

-- what is written of the entries that a walk had left is so of those under the prefix
module _ (p : List ℕ) (left : Entries) (f : Filled) (room lens values room' lens' values' : List ℕ) (w : Fills p left f room lens values room' lens' values') where
  written_first : take f.count (under p left) ≡ w.entries
  written_first =
      ap (λ l. take f.count (under p l)) w.split ∙ ap (take f.count) (under-append p w.entries w.rest)
      ∙ ap (λ l. take f.count (l ++ under p w.rest)) w.begin
      ∙ take_at w.entries (under p w.rest) f.count (sym w.written.entry_count)

  pub block_of : f.count ≢ 0 → WritesBlock (under p left) f.count f.used room lens values room' lens' values'
  block_of some = record {
    some = some;
    keys = w.written.keys ∙ ap joined (sym written_first);
    lens = w.written.lens ∙ ap (list_map (λ e. length e.0)) (sym written_first);
    values = w.written.values ∙ ap (list_map (λ e. e.1)) (sym written_first);
    within_keys = w.written.within_room;
    within_lens = w.written.within_lens;
    within_values = w.written.within_values;
    behind_keys = w.written.behind_room;
    behind_lens = w.written.behind_lens;
    behind_values = w.written.behind_values;
  }

  same_part : take (f.used - f.last_at) (drop f.last_at room) ≡ drop f.last_at (take f.used room)
  same_part = part_is f.last_at f.used room w.written.last_within w.written.within_room

  -- so the last key begins with the prefix
  pub last_begins : f.count ≢ 0 → begins p (take (f.used - f.last_at) (drop f.last_at room)) ≡ true
  last_begins some = ap (begins p) same_part ∙ by (last_or None w.entries) refl (w.written.last nonempty)
    where
      nonempty : w.entries ≢ []
      nonempty none = some (w.written.entry_count ∙ ap length none)

      by : (o : Option (List ℕ × ℕ)) → last_or None w.entries ≡ o
          → Some (drop f.last_at (take f.used room)) ≡ option_map (λ e. e.0) o
          → begins p (drop f.last_at (take f.used room)) ≡ true
      by None last is = absurd (cc)
      by (Some e) last is =
          let key : drop f.last_at (take f.used room) ≡ e.0 = cc in
          rw key (begins_last p w.entries e w.begin last)

  pub last_of_block : f.count ≢ 0 → Some (take (f.used - f.last_at) (drop f.last_at room)) ≡ option_map (λ e. e.0) (last_or None (take f.count (under p left)))
  last_of_block some =
      ap Some same_part ∙ w.written.last (λ none. some (w.written.entry_count ∙ ap length none))
      ∙ ap (λ l. option_map (λ e. e.0) (last_or None l)) (sym written_first)

-- a walk over entries, of which some are written and these are left
pub record Walks (p : List ℕ) (left now : Entries) (f : Filled) (room lens values room' lens' values' : List ℕ) : Type 0 where
  pub fills : Fills p left f room lens values room' lens' values'
  pub rest : fills.rest ≡ now

module _ (p : List ℕ) (left now : Entries) (f : Filled) (room lens values room' lens' values' : List ℕ) (w : Walks p left now f room lens values room' lens' values') where
  -- the first that is left is written, too
  pub walks_next : (key : List ℕ) (value : ℕ) (later : Entries) (f1 : Filled) (room1 lens1 values1 : List ℕ)
      → Some key ≡ option_map (λ e. e.0) (slice_get now 0) → Some value ≡ option_map (λ e. e.1) (slice_get now 0)
      → later ≡ drop 1 now → begins p key ≡ true
      → AreWritten (w.fills.entries ++ (key, value) ∷ []) f1 room1 lens1 values1 room' lens' values'
      → Walks p left later f1 room1 lens1 values1 room' lens' values'
  walks_next key value later f1 room1 lens1 values1 first one on is writes = by now w.rest first one on
    where
      es : Entries
      es = w.fills.entries

      by : (xs : Entries) → w.fills.rest ≡ xs → Some key ≡ option_map (λ e. e.0) (slice_get xs 0)
          → Some value ≡ option_map (λ e. e.1) (slice_get xs 0) → later ≡ drop 1 xs
          → Walks p left later f1 room1 lens1 values1 room' lens' values'
      by [] rest first one on = absurd (cc)
      by (x ∷ xs) rest first one on =
          let k : key ≡ x.0 = cc in
          let v : value ≡ x.1 = cc in
          let same : (key, value) ≡ x = λ i. (k i, v i) in
          let alone : under p ((key, value) ∷ []) ≡ (key, value) ∷ [] = rw is refl in
          record {
            fills = record {
              entries = es ++ (key, value) ∷ [];
              rest = xs;
              split = w.fills.split ∙ ap (λ l. es ++ l) (rest ∙ ap (λ e. e ∷ xs) (sym same)) ∙ sym (append_assoc es ((key, value) ∷ []) xs);
              begin = under-append p es ((key, value) ∷ []) ∙ ap (λ l. l ++ under p ((key, value) ∷ [])) w.fills.begin ∙ ap (λ l. es ++ l) alone;
              written = writes;
            };
            rest = sym on;
          }

  -- where none is written, the first has no room, in arrays as they were
  pub walks_full : (key : List ℕ) (n : ℕ) → Some key ≡ option_map (λ e. e.0) (slice_get now 0) → begins p key ≡ true
      → f.count ≡ 0 → HasNoRoom (length key) f (length room) (length lens) (length values) → length key ≡ n
      → IsFullFirst p left n (length room') (length lens') (length values')
  walks_full key n first is none full long = by w.fills.entries refl (none_used f room lens values room' lens' values' w.fills.entries w.fills.written none)
    where
      by : (es : Entries) → w.fills.entries ≡ es → es ≡ [] → IsFullFirst p left n (length room') (length lens') (length values')
      by es same empty =
          let written : AreWritten [] f room lens values room' lens' values' = subst (λ l. AreWritten l f room lens values room' lens' values') (same ∙ empty) w.fills.written in
          let used = none_bytes f room lens values room' lens' values' written in
          let r = ap length (room_as f room lens values room' lens' values' written) in
          let l = ap length (lens_as f room lens values room' lens' values' written) in
          let v = ap length (values_as f room lens values room' lens' values' written) in
          let whole : left ≡ now = w.fills.split ∙ ap (λ xs. xs ++ w.fills.rest) (same ∙ empty) ∙ w.rest in
          subst (λ xs. IsFullFirst p xs n (length room') (length lens') (length values')) (sym whole) (at now first used r l v)
        where
          at : (xs : Entries) → Some key ≡ option_map (λ e. e.0) (slice_get xs 0) → f.used ≡ 0 → length room ≡ length room'
              → length lens ≡ length lens' → length values ≡ length values' → IsFullFirst p xs n (length room') (length lens') (length values')
          at [] first used r l v = absurd (cc)
          at (x ∷ xs) first used r l v =
              let k : key ≡ x.0 = cc in (
                rw (← k) is,
                rw (← k) long,
                elim full [
                  | inl small ↦ inl (omega (arith, used, r, long, small))
                  | inr other ↦ inr (elim other [
                    | inl few ↦ inl (omega (arith, none, l, few))
                    | inr few ↦ inr (omega (arith, none, v, few))
                  ])
                ],
              )
