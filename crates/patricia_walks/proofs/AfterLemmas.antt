-- The siblings that wait come after the bytes that are passed.
use Rattle.std.proofs.Common.{◌≡◌, ◌≢◌, ℕ, ◌+◌, ◌-◌, ◌<◌, ◌≤◌, List, [], ◌∷◌, ◌++◌, length, take, drop}
use Rattle.std.proofs.Common.{refl, sym, ap, subst, ◌∙◌, arith}
use Rattle.std.proofs.lemmas.List.{length-append, length-drop, length-take}
use Rattle.std.proofs.lemmas.List.{take-take, take-append-drop, nil_from_length, drop-append-le}
use Rattle.std.proofs.lemmas.List.{drop-take, drop-drop}
use Rattle.patricia_keys.specs.Keys.{Begins, IsKeyKind, IsValid}
use Rattle.patricia_keys.proofs.KeyLemmas.{Begins-trans, first_of, begins_same, valid_rest}
use Rattle.patricia_model.specs.Siblings.{Siblings, end, node, IsBeforeSiblings}
use Rattle.patricia_model.specs.Internal.WalkStates.{IsWithinAll, WaitsWithin}
use Rattle.patricia_walks.specs.Internal.Positions.{WaitsAfter}

-- a front of a list is that of a longer front
pub drop-take_front : (a n : ℕ) (k : List ℕ) → a ≤ n → (rest : List ℕ) × (drop a (take n k) ++ rest ≡ drop a k)
drop-take_front a n k le =
    let m = n - a in
    let whole : n ≡ a + m = omega (arith, le) in
    let front : drop a (take n k) ≡ take m (drop a k) = ap (λ i. drop a (take i k)) whole ∙ drop-take a m k in
    let back : drop n k ≡ drop m (drop a k) = ap (λ i. drop i k) whole ∙ sym (drop-drop m a k) in
    (drop n k, ap (λ l. l ++ drop n k) front ∙ ap (λ l. take m (drop a k) ++ l) back ∙ take-append-drop m (drop a k))

module _ (item : List ℕ → Type 0) {V : Type 0} where
  -- more bytes at the end of a key leave it before siblings
  before-longer : (k l : List ℕ) (r : Siblings V) → IsBeforeSiblings item k r → IsBeforeSiblings item (k ++ l) r
  before-longer k l end b = tt
  before-longer k l (node m v c s) b = record {
    first = b.first;
    second = b.second;
    first_item = b.first_item;
    second_item = b.second_item;
    first_begins = Begins-trans b.first k (k ++ l) b.first_begins (l, refl);
    second_begins = b.second_begins;
    less = b.less;
  }

  -- a bound of all numbers and of one more at the end bounds them all
  within_all-snoc : (m : ℕ) (fs : List (ℕ × Siblings V)) (n : ℕ) (r : Siblings V) → IsWithinAll m fs
      → m ≤ n → IsWithinAll m (fs ++ (n, r) ∷ [])
  within_all-snoc m [] n r h le = (le, tt)
  within_all-snoc m (f ∷ fs) n r h le = (h.0, within_all-snoc m fs n r h.1 le)

  -- a bound of all numbers bounds the last, and those before it
  within_all-last : (m : ℕ) (fs : List (ℕ × Siblings V)) (n : ℕ) (r : Siblings V)
      → IsWithinAll m (fs ++ (n, r) ∷ []) → (m ≤ n) × IsWithinAll m fs
  within_all-last m [] n r h = (h.0, tt)
  within_all-last m (f ∷ fs) n r h = let later = within_all-last m fs n r h.1 in (later.0, (h.0, later.1))

  -- behind more bytes they still come after them
  after-longer : (path l : List ℕ) (fs : List (ℕ × Siblings V)) → WaitsAfter item path fs
      → WaitsAfter item (path ++ l) fs
  after-longer path l [] w = tt
  after-longer path l (f ∷ fs) w = record {
    short = omega (arith, w.short, length-append path l);
    apart = w.apart;
    after = subst (λ k. IsBeforeSiblings item k f.1) (sym (drop-append-le f.0 path l (omega (arith, w.short)))) (before-longer (drop f.0 path) l f.1 w.after);
    rest = after-longer path l fs w.rest;
  }

  -- and so do the siblings of a label that is added
  pub after-push : (path l : List ℕ) (fs : List (ℕ × Siblings V)) (r : Siblings V) → WaitsAfter item path fs
      → l ≢ [] → IsBeforeSiblings item l r → WaitsAfter item (path ++ l) (fs ++ (length path, r) ∷ [])
  after-push path l [] r w some b = record {
    short = by l refl;
    apart = tt;
    after = subst (λ k. IsBeforeSiblings item k r) (sym (drop-append-le (length path) path l (omega arith) ∙ ap (λ k. k ++ l) (nil_from_length (drop (length path) path) (omega (arith, length-drop (length path) path))))) b;
    rest = tt;
  }
    where
      by : (k : List ℕ) → l ≡ k → length path < length (path ++ l)
      by [] is = absurd (some is)
      by (c ∷ k) is = omega (arith, length-append path l, ap length is)
  after-push path l (f ∷ fs) r w some b = record {
    short = omega (arith, w.short, length-append path l);
    apart = within_all-snoc (f.0 + 1) fs (length path) r w.apart (omega (arith, w.short));
    after = subst (λ k. IsBeforeSiblings item k f.1) (sym (drop-append-le f.0 path l (omega (arith, w.short)))) (before-longer (drop f.0 path) l f.1 w.after);
    rest = after-push path l fs r w.rest some b;
  }

  -- they do without the last of them
  pub after-front : (path : List ℕ) (fs : List (ℕ × Siblings V)) (n : ℕ) (r : Siblings V)
      → WaitsAfter item path (fs ++ (n, r) ∷ []) → WaitsAfter item path fs
  after-front path [] n r w = tt
  after-front path (f ∷ fs) n r w = record {
    short = w.short;
    apart = (within_all-last (f.0 + 1) fs n r w.apart).1;
    after = w.after;
    rest = after-front path fs n r w.rest;
  }

  -- and the last wait behind fewer of the bytes
  pub after-last : (path : List ℕ) (fs : List (ℕ × Siblings V)) (n : ℕ) (r : Siblings V)
      → WaitsAfter item path (fs ++ (n, r) ∷ []) → n < length path
  after-last path [] n r w = w.short
  after-last path (f ∷ fs) n r w = after-last path fs n r w.rest

  -- what is left of a key that comes before siblings does too, where it is cut between items
  before-shorter : IsKeyKind item → (k : List ℕ) (t : List ℕ) (r : Siblings V) → IsValid item t → t ≢ []
      → Begins t k → IsBeforeSiblings item k r → IsBeforeSiblings item t r
  before-shorter kind k t end valid some begins b = tt
  before-shorter kind k t (node m v c s) valid some begins b =
      let i = first_of item t valid some in
      let same : i.0 ≡ b.first = begins_same item kind i.0 b.first k i.1 b.first_item (Begins-trans i.0 t k i.2 begins) b.first_begins in
      record {
        first = b.first;
        second = b.second;
        first_item = b.first_item;
        second_item = b.second_item;
        first_begins = subst (λ j. Begins j t) same i.2;
        second_begins = b.second_begins;
        less = b.less;
      }

  -- behind the bytes of the last siblings the others come after these
  pub after-back : IsKeyKind item → (path : List ℕ) (fs : List (ℕ × Siblings V)) (n : ℕ) (r : Siblings V)
      → WaitsWithin item path (fs ++ (n, r) ∷ []) → WaitsAfter item path (fs ++ (n, r) ∷ [])
      → IsValid item (take n path) → WaitsAfter item (take n path) fs
  after-back kind path [] n r waits w valid = tt
  after-back kind path (f ∷ fs) n r waits w valid =
      let last = within_all-last (f.0 + 1) fs n r w.apart in
      let long = length-take n path in
      let front = drop-take_front f.0 n path (omega (arith, last.0)) in
      let here : take f.0 (take n path) ≡ take f.0 path = take-take f.0 n path (omega (arith, last.0)) in
      let size = length-drop f.0 (take n path) in
      record {
        short = omega (arith, last.0, long, w.short);
        apart = last.1;
        after = before-shorter kind (drop f.0 path) (drop f.0 (take n path)) f.1
            (valid_rest item kind (take f.0 path) (drop f.0 (take n path)) waits.valid
            (subst (λ a. IsValid item (a ++ drop f.0 (take n path))) here (subst (IsValid item) (sym (take-append-drop f.0 (take n path))) valid)))
            (λ none. absurd (omega (arith, size, long, last.0, w.short, ap length none))) front w.after;
        rest = after-back kind path fs n r waits.rest w.rest valid;
      }
