-- Laws of entries that lie in arrays.
use Rattle.std.proofs.Common.{◌≡◌, ◌≤◌, ◌<◌, ◌+◌, ◌-◌, ℕ, zero, suc, List, [], ◌∷◌, ◌++◌, ◌≢◌, Some, Result, Ok, Err, OnOk, IfErr, IfSome}
use Rattle.std.proofs.Common.{length, take, drop, slice_get, refl, sym, ap, subst, ◌∙◌, arith}
use Rattle.std.proofs.lemmas.List.{append-nil, append_assoc, length-append, length-map, map-append, take_at}
use Rattle.std.specs.Prelude.{map as list_map}
use Rattle.std.specs.FinMap as map
use Rattle.std.specs.FinMap.{len-entries}
use Rattle.std.specs.Iterator.{Drains, Yields, YieldsFirstBy}
use Rattle.std.specs.Option.{option_map}
use Rattle.patricia_tree.specs.Keys.{key_cmp}
use Rattle.patricia_tree.specs.Loads.{Loads, IsLoadStopped, IsLoadRefusal, EndsBefore, EndsNotBefore}
use Rattle.patricia_tree.specs.declared.map.sorted.LoadError.{LoadError}
use Rattle.patricia_tree.specs.declared.map.sorted.LoadError.TheVariants.{Memory, NotInOrder}
use Rattle.patricia_c.specs.Many.{keys_in, pairs_in}

-- without values there is no entry
pub pairs_in-none : (bytes lens : List ℕ) → pairs_in bytes lens [] ≡ []
pairs_in-none bytes [] = refl
pairs_in-none bytes (n ∷ lens) = refl

-- where there are as many values as lengths, there are as many entries
pub length-pairs_in : (bytes lens values : List ℕ) → length lens ≤ length values → length (pairs_in bytes lens values) ≡ length lens
length-pairs_in bytes [] values fit = refl
length-pairs_in bytes (n ∷ lens) [] fit = absurd (omega (arith, fit))
length-pairs_in bytes (n ∷ lens) (v ∷ values) fit = ap suc (length-pairs_in (drop n bytes) lens values (omega (arith, fit)))

-- the key of an entry is the one in its place
pub key_in : (bytes lens values : List ℕ) (i : ℕ) (e : List ℕ × ℕ) → slice_get (pairs_in bytes lens values) i ≡ Some e
    → slice_get (keys_in bytes lens) i ≡ Some e.0
key_in bytes [] values i e is = absurd (cc)
key_in bytes (n ∷ lens) [] i e is = absurd (cc)
key_in bytes (n ∷ lens) (v ∷ values) zero e is = ap (option_map (λ x. x.0)) is
key_in bytes (n ∷ lens) (v ∷ values) (suc i) e is = key_in (drop n bytes) lens values i e is

-- what comes behind so many is in its place
get_behind : {B : Type 0} (xs : List B) (x : B) (ys : List B) (n : ℕ) → length xs ≡ n → slice_get (xs ++ x ∷ ys) n ≡ Some x
get_behind [] x ys zero long = refl
get_behind [] x ys (suc n) long = absurd (omega (arith, long))
get_behind (y ∷ xs) x ys zero long = absurd (omega (arith, long))
get_behind (y ∷ xs) x ys (suc n) long = get_behind xs x ys n (omega (arith, long))

module _ {S A B : Type 0} (view : A → B) (rest : S → List B) where
  -- what calls gave is the front of what was left
  pub gave_front : (s : S) (xs : List A) (t : S) → Yields (YieldsFirstBy view rest) s xs t → rest s ≡ list_map view xs ++ rest t
  gave_front s [] t y = ap rest y
  gave_front s (x ∷ xs) t y = y.1 ∙ ap (λ l. view x ∷ l) (gave_front y.0 xs t y.2)

-- so many of the entries in arrays are behind those of a map
pub record Loaded (old new : map.FinMap key_cmp ℕ) (all : List (List ℕ × ℕ)) (n : ℕ) : Type 0 where
  pub front : map.entries new ≡ map.entries old ++ take n all
  pub count : map.len new ≡ map.len old + n

module _ {A : Type 0} (view : A → List ℕ × ℕ) (old new : map.FinMap key_cmp ℕ) (all : List (List ℕ × ℕ)) where
  -- the front of the entries are behind those of the map, where an iterator gave them
  front_loaded : (given : List A) (rest : List (List ℕ × ℕ)) → all ≡ list_map view given ++ rest
      → map.entries new ≡ map.entries old ++ list_map view given → Loaded old new all (length given)
  front_loaded given rest is behind =
      let long = length-map given view in
      let front : take (length given) all ≡ list_map view given =
      ap (take (length given)) is ∙ take_at (list_map view given) rest (length given) long in
      record {
        front = behind ∙ ap (λ l. map.entries old ++ l) (sym front);
        count = len-entries new ∙ ap length behind ∙ length-append (map.entries old) (list_map view given)
            ∙ ap (λ n. length (map.entries old) + n) long ∙ ap (λ n. n + length given) (sym (len-entries old));
      }

  -- it gave all of them
  pub all_loaded : (given : List A) → Drains (YieldsFirstBy view (λ s. s)) all given
      → map.entries new ≡ map.entries old ++ list_map view given → Loaded old new all (length all)
  all_loaded given drains behind =
      let is : all ≡ list_map view given ++ [] =
      gave_front view (λ s. s) all given drains.1.0 drains.1.1 ∙ ap (λ l. list_map view given ++ l) drains.1.2.0 in
      let long : length given ≡ length all = sym (ap length (is ∙ append-nil (list_map view given)) ∙ length-map given view) in
      subst (Loaded old new all) long (front_loaded given [] is behind)

  module _ (given : List A) (refused : A) (rest : List (List ℕ × ℕ)) (gave : Yields (YieldsFirstBy view (λ s. s)) all (given ++ refused ∷ []) rest) where
    split : all ≡ list_map view given ++ view refused ∷ rest
    split = gave_front view (λ s. s) all (given ++ refused ∷ []) rest gave
        ∙ ap (λ l. l ++ rest) (map-append view given (refused ∷ [])) ∙ append_assoc (list_map view given) (view refused ∷ []) rest

    -- it gave some of them
    pub some_loaded : map.entries new ≡ map.entries old ++ list_map view given → Loaded old new all (length given)
    some_loaded behind = front_loaded given (view refused ∷ rest) split behind

    -- and one more
    pub next_refused : slice_get all (length given) ≡ Some (view refused)
    next_refused = ap (λ l. slice_get l (length given)) split ∙ get_behind (list_map view given) (view refused) rest (length given) (length-map given view)

    pub fewer : length given < length all
    fewer =
        let long = ap length split ∙ length-append (list_map view given) (view refused ∷ rest) in
        omega (arith, long, length-map given view)

-- the entry behind those that were put in is refused with this error
pub record Refuses (e : LoadError) (new : map.FinMap key_cmp ℕ) (all : List (List ℕ × ℕ)) (n : ℕ) : Type 0 where
  pub entry : List ℕ × ℕ
  pub there : slice_get all n ≡ Some entry
  pub is_refusal : IsLoadRefusal e (n ≢ 0) entry.0 (map.entries new)

-- how a load of entries in arrays ended
pub record Ends (result : Result (Unit {0}) LoadError) (old new : map.FinMap key_cmp ℕ) (all : List (List ℕ × ℕ)) : Type 0 where
  pub n : ℕ
  pub loaded : Loaded old new all n
  pub whole : OnOk result (n ≡ length all)
  pub some_left : IfErr result (λ _. n < length all)
  pub refused : IfErr result (λ e. Refuses e new all n)

module _ {Q : Type 0} (bytes : Q → List ℕ) {becomes : List (List ℕ × ℕ) → List (List ℕ × ℕ) → Type 0}
    (same : (pairs start : List (List ℕ × ℕ)) → becomes pairs start → start ≡ pairs) where
  abbrev view : Q × ℕ → List ℕ × ℕ
  view pair = (bytes pair.0, pair.1)

  pub ends : (result : Result (Unit {0}) LoadError) (old new : map.FinMap key_cmp ℕ) (all : List (List ℕ × ℕ))
      → OnOk result (Loads becomes (YieldsFirstBy view (λ s. s)) bytes all old new)
      → IfErr result (λ e. IsLoadStopped becomes (YieldsFirstBy view (λ s. s)) bytes e all old new)
      → Ends result old new all
  ends (Ok u) old new all ok err =
      let is = same all ok.start ok.is_start in
      let drains = subst (λ s. Drains (YieldsFirstBy view (λ s. s)) s ok.given) is ok.gave_all in
      record { n = length all; loaded = all_loaded view old new all ok.given drains ok.behind; whole = refl; some_left = tt; refused = tt }
  ends (Err e) old new all ok err =
      let is = same all err.start err.is_start in
      let gave = subst (λ s. Yields (YieldsFirstBy view (λ s. s)) s (err.given ++ err.refused ∷ []) err.rest) is err.gave in
      record {
        n = length err.given;
        loaded = some_loaded view old new all err.given err.refused err.rest gave err.behind;
        whole = tt;
        some_left = fewer view old new all err.given err.refused err.rest gave;
        refused = record {
          entry = view err.refused;
          there = next_refused view old new all err.given err.refused err.rest gave;
          is_refusal = record {
            late = err.refusal.late;
            nonempty = err.refusal.nonempty;
            in_order = λ memory some. err.refusal.in_order memory (λ none. some (ap length none));
          };
        };
      }

-- what was refused, by the keys
module _ (result : Result (Unit {0}) LoadError) (old new : map.FinMap key_cmp ℕ) (keys lens values : List ℕ)
    (fit : length lens ≤ length values) (end : Ends result old new (pairs_in keys lens values)) where
  -- so many more entries than before
  pub more : map.len old ≤ map.len new
  more = omega (arith, end.loaded.count)

  -- as are in front
  pub is_count : map.len new - map.len old ≡ end.n
  is_count = omega (arith, end.loaded.count)

  pub front_is : map.entries new ≡ map.entries old ++ take (map.len new - map.len old) (pairs_in keys lens values)
  front_is = end.loaded.front ∙ ap (λ n. map.entries old ++ take n (pairs_in keys lens values)) (sym is_count)

by_result : (result : Result (Unit {0}) LoadError) (P Q : LoadError → Type 0) → ((e : LoadError) → P e → Q e) → IfErr result P → IfErr result Q
by_result (Ok u) P Q f p = tt
by_result (Err e) P Q f p = f e p

by_ok : (result : Result (Unit {0}) LoadError) (P Q : Type 0) → (P → Q) → OnOk result P → OnOk result Q
by_ok (Ok u) P Q f p = f p
by_ok (Err e) P Q f p = tt

module _ (result : Result (Unit {0}) LoadError) (old new : map.FinMap key_cmp ℕ) (keys lens values : List ℕ)
    (fit : length lens ≤ length values) (end : Ends result old new (pairs_in keys lens values)) where
  pub whole_is : OnOk result (map.len new - map.len old ≡ length lens)
  whole_is = by_ok result _ _ (λ e. is_count result old new keys lens values fit end ∙ e ∙ length-pairs_in keys lens values fit) end.whole

  pub left_is : IfErr result (λ _. map.len new - map.len old < length lens)
  left_is = by_result result _ _ (λ _ less. let n = is_count result old new keys lens values fit end in let long = length-pairs_in keys lens values fit in omega (arith, less, n, long)) end.some_left

  key_there : (n : ℕ) (entry : List ℕ × ℕ) → n ≡ end.n → slice_get (pairs_in keys lens values) end.n ≡ Some entry → slice_get (keys_in keys lens) n ≡ Some entry.0
  key_there n entry is there = ap (slice_get (keys_in keys lens)) is ∙ key_in keys lens values end.n entry there

  pub late_is : IfErr result (λ e. e ≡ NotInOrder → IfSome (slice_get (keys_in keys lens) (map.len new - map.len old)) (λ key. EndsNotBefore key (map.entries new)))
  late_is = by_result result _ _ (λ e r late. rw (key_there _ r.entry (is_count result old new keys lens values fit end) r.there) (r.is_refusal.late late)) end.refused

  pub in_order_is : IfErr result (λ e. e ≡ Memory → map.len new - map.len old ≢ 0 → IfSome (slice_get (keys_in keys lens) (map.len new - map.len old)) (λ key. EndsBefore key (map.entries new)))
  in_order_is = by_result result _ _ (λ e r memory some. rw (key_there _ r.entry (is_count result old new keys lens values fit end) r.there) (r.is_refusal.in_order memory (λ none. some (is_count result old new keys lens values fit end ∙ none)))) end.refused
