-- Pairs put behind the entries of a map.
use Rattle.std.proofs.Common.{◌≡◌, ◌≢◌, ℕ, T, Bool, true, List, [], ◌∷◌, ◌++◌, Option, Some, None, refl, sym, ap, ◌∙◌, subst, append_assoc}
use Rattle.std.proofs.iter.Next.{Yields-more}
use Rattle.std.proofs.lemmas.List.{append-nil}
use Rattle.std.specs.Prelude.{◌↔◌, IsTrue}
use Rattle.std.specs.Cmp.Lexicographic.{nat_list_cmp_total}
use Rattle.std.specs.Iterator.{Yields}
use Rattle.std.specs.List.{last_or}
use Rattle.std.specs.Option.{option_map}
use Rattle.std.specs.declared.cmp.Ordering.TheVariants.{Less}
use Rattle.std.specs.FinMap as map
use Rattle.std.specs.FinMap.{FinMap, is_sorted, entries-insert, entries_sorted, put}
use Rattle.patricia_core.specs.Keys.{key_cmp}
use Rattle.patricia_model.proofs.ListLemmas.{IsAbove, put-append_right}
use Rattle.patricia_model.proofs.TestLemmas.{first_part, second_part, less_so}
use Rattle.patricia_tree.specs.Bulk.{by_bytes}
use Rattle.patricia_tree.specs.Loads.{EndsBefore, EndsNotBefore, IsLoadRefusal, IsLoadStopped}
use Rattle.patricia_tree.specs.declared.map.sorted.LoadError.{LoadError}

module _ {V : Type 0} where
  -- the last of entries, the last of which is this one
  last_appended : (o : Option (List ℕ × V)) (entries : List (List ℕ × V)) (entry : List ℕ × V)
      → last_or o (entries ++ entry ∷ []) ≡ Some entry
  last_appended o [] entry = refl
  last_appended o (r ∷ entries) entry = last_appended (Some r) entries entry

  -- a key behind the last of entries in order is behind all of them
  above_last : (q : List ℕ) (entry : List ℕ × V) (entries : List (List ℕ × V)) → T (is_sorted key_cmp (entry ∷ entries))
      → (last : List ℕ × V) → last_or (Some entry) entries ≡ Some last → key_cmp last.0 q ≡ Less → IsAbove q (entry ∷ entries)
  above_last q entry [] sorted last is behind =
      let same : entry ≡ last = cc in
      (subst (λ (r : List ℕ × V). key_cmp r.0 q ≡ Less) (sym same) behind, tt)
  above_last q entry (r ∷ entries) sorted last is behind =
      let later = above_last q r entries (second_part _ _ sorted) last is behind in
      (nat_list_cmp_total.trans entry.0 r.0 q (less_so (key_cmp entry.0 r.0) (first_part _ _ (first_part _ _ sorted))) later.0, later)

  -- a pair whose key is behind all entries is put behind them
  put_behind : (m : FinMap key_cmp V) (q : List ℕ) (v : V) → IsAbove q (map.entries m)
      → map.entries (map.insert m q v) ≡ map.entries m ++ (q, v) ∷ []
  put_behind m q v above = entries-insert nat_list_cmp_total m q v
      ∙ sym (ap (put key_cmp q v) (append-nil (map.entries m))) ∙ put-append_right q v (map.entries m) [] above

  -- the map has no entry, or its last key comes before this one
  pub loads_behind : (m n : FinMap key_cmp V) (q : List ℕ) (v : V)
      → EndsBefore q (map.entries m) → n ≡ map.insert m q v → map.entries n ≡ map.entries m ++ (q, v) ∷ []
  loads_behind m n q v behind is = ap map.entries is ∙ put_behind m q v (by (map.entries m) (entries_sorted m) behind)
    where
      has_last : (entry : List ℕ × V) (entries : List (List ℕ × V)) → (last : List ℕ × V) × (last_or (Some entry) entries ≡ Some last)
      has_last entry [] = (entry, refl)
      has_last entry (r ∷ entries) = has_last r entries

      by : (entries : List (List ℕ × V)) → T (is_sorted key_cmp entries)
          → EndsBefore q entries → IsAbove q entries
      by [] sorted before = tt
      by (entry ∷ entries) sorted before =
          let last = has_last entry entries in
          above_last q entry entries sorted last.0 last.1 (rw last.1 at before)

-- the last of the entries, whose key this is, does not come before a key
pub ends_not_before : {V : Type 0} (entries : List (List ℕ × V)) (last key : List ℕ) (b : Bool)
    → option_map (λ e. e.0) (last_or None entries) ≡ Some last → (IsTrue b ↔ (key_cmp last key ≡ Less)) → b ≢ true
    → EndsNotBefore key entries
ends_not_before {V} entries last key b is tells unlike = by (last_or None entries) refl
  where
    by : (o : Option (List ℕ × V)) → last_or None entries ≡ o → EndsNotBefore key entries
    by None none = absurd (let gone : None ≡ Some last = sym (ap (option_map (λ e. e.0)) none) ∙ is in cc)
    by (Some e) some =
        let both : Some e.0 ≡ Some last = sym (ap (option_map (λ e. e.0)) some) ∙ is in
        let same : e.0 ≡ last = cc in
        record {
          last = e;
          is_last = some;
          not_before = λ less. unlike (tells.1 (ap (λ k. key_cmp k key) (sym same) ∙ less));
        }

module _ {Q V : Type 0} (bytes : Q → List ℕ) where
  by_bytes-more : (pairs : List (Q × V)) (pair : Q × V)
      → by_bytes bytes (pairs ++ pair ∷ []) ≡ by_bytes bytes pairs ++ (bytes pair.0, pair.1) ∷ []
  by_bytes-more [] pair = refl
  by_bytes-more (first ∷ pairs) pair = ap (λ entries. (bytes first.0, first.1) ∷ entries) (by_bytes-more pairs pair)

  -- one more turn
  pub loads_more : (old here new : FinMap key_cmp V) (given : List (Q × V)) (pair : Q × V)
      → map.entries here ≡ map.entries old ++ by_bytes bytes given
      → map.entries new ≡ map.entries here ++ (bytes pair.0, pair.1) ∷ []
      → map.entries new ≡ map.entries old ++ by_bytes bytes (given ++ pair ∷ [])
  loads_more old here new given pair so_far put = put ∙ ap (λ entries. entries ++ (bytes pair.0, pair.1) ∷ []) so_far
      ∙ append_assoc (map.entries old) (by_bytes bytes given) _ ∙ ap (λ entries. map.entries old ++ entries) (sym (by_bytes-more given pair))

  -- the last key is that of the pair that was put last
  pub last_is : (here new : FinMap key_cmp V) (pair : Q × V)
      → map.entries new ≡ map.entries here ++ (bytes pair.0, pair.1) ∷ []
      → option_map (λ e. e.0) (last_or None (map.entries new)) ≡ Some (bytes pair.0)
  last_is here new pair put = ap (λ entries. option_map (λ e. e.0) (last_or None entries)) put
      ∙ ap (option_map (λ e. e.0)) (last_appended None (map.entries here) (bytes pair.0, pair.1))

  -- the last turn, at which the pair is refused with an error; the last key is known, unless no
  -- pair was given
  pub load_stops : {I S : Type 0} (becomes : I → S → Type 0) (steps : S → Option (Q × V) → S → Type 0)
      (pairs : I) (e : LoadError) (known : Type 0) (old here new : FinMap key_cmp V)
      (start at rest : S) (given : List (Q × V)) (pair : Q × V)
      → becomes pairs start → Yields steps start given at → steps at (Some pair) rest
      → map.entries here ≡ map.entries old ++ by_bytes bytes given → new ≡ here
      → (given ≢ [] → known) → IsLoadRefusal e known (bytes pair.0) (map.entries here)
      → IsLoadStopped becomes steps bytes e pairs old new
  load_stops becomes steps pairs e known old here new start at rest given pair is_start gave next so_far same knows why =
      let entries : map.entries here ≡ map.entries new = ap map.entries (sym same) in
      record {
        start = start;
        given = given;
        refused = pair;
        rest = rest;
        is_start = is_start;
        gave = Yields-more steps start given at pair rest gave next;
        behind = ap map.entries same ∙ so_far;
        refusal = record {
          late = λ late. subst (EndsNotBefore (bytes pair.0)) entries (why.late late);
          nonempty = λ memory none. why.nonempty memory (entries ∙ none);
          in_order = λ memory some. subst (EndsBefore (bytes pair.0)) entries (why.in_order memory (knows some));
        };
      }
