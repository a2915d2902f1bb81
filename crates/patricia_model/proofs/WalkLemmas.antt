-- The entries that a walk has left, and how its steps change them.
use Rattle.std.proofs.Common.{◌≡◌, ℕ, ◌+◌, ◌≤◌, ◌≢◌, List, [], ◌∷◌, ◌++◌, Option, Some, None}
use Rattle.std.proofs.Common.{length, take, map, refl, sym, ap, subst, ◌∙◌, arith, length-append}
use Rattle.std.specs.Prelude.{Result, Ok, Err, OnErr}
use Rattle.std.proofs.lemmas.List.{append_assoc, append-nil, take-take, take-append-le, take_all}
use Rattle.std.proofs.lemmas.List.{take_at, length-take}
use Rattle.patricia_keys.specs.Keys.{IsValid}
use Rattle.patricia_model.specs.Siblings.{Siblings, end, node, prefixed, own, entries, IsCanonical}
use Rattle.patricia_model.specs.Internal.WalkStates.{WalkState, waiting, entries_left, steps_in}
use Rattle.patricia_model.specs.Internal.WalkStates.{steps_waiting, IsWithinAll, WaitsWithin}
use Rattle.patricia_model.specs.Internal.WalkStates.{IsWalkState, IsStep}
use Rattle.patricia_keys.proofs.KeyLemmas.{IsValid-append}
use Rattle.patricia_model.proofs.SiblingsLemmas.{prefixed-prefixed, prefixed-append}

module _ {V : Type 0} where
  -- no bytes in front change nothing
  pub prefixed-nil : (es : List (List ℕ × V)) → prefixed [] es ≡ es
  prefixed-nil [] = refl
  prefixed-nil (e ∷ es) = ap (λ r. e ∷ r) (prefixed-nil es)

  -- at its start a walk has the empty key's entry and those of the siblings left
  pub left_start : (s : WalkState V) → s.path ≡ [] → s.stack ≡ []
      → entries_left s ≡ own s.pending ++ entries s.siblings
  left_start s path stack =
      let es = own s.pending ++ entries s.siblings in
      ap (λ (p : List ℕ × List (ℕ × Siblings V)). prefixed p.0 es ++ waiting p.0 p.1) (both path stack) ∙ append-nil (prefixed [] es) ∙ prefixed-nil es
    where
      both : {p : List ℕ} {q : List (ℕ × Siblings V)} → p ≡ [] → q ≡ []
          → ◌≡◌ {A = List ℕ × List (ℕ × Siblings V)} (p, q) ([], [])
      both a b = cc

  -- the siblings that wait last are walked first
  pub waiting-snoc : (path : List ℕ) (fs : List (ℕ × Siblings V)) (n : ℕ) (r : Siblings V)
      → waiting path (fs ++ (n, r) ∷ []) ≡ prefixed (take n path) (entries r) ++ waiting path fs
  waiting-snoc path [] n r = sym (append-nil (prefixed (take n path) (entries r)))
  waiting-snoc path (f ∷ fs) n r =
      ap (λ l. l ++ prefixed (take f.0 path) (entries f.1)) (waiting-snoc path fs n r)
      ∙ append_assoc (prefixed (take n path) (entries r)) (waiting path fs) (prefixed (take f.0 path) (entries f.1))

  -- a bound of all numbers and of one more at the end bounds them all
  within_all-snoc : (m : ℕ) (fs : List (ℕ × Siblings V)) (n : ℕ) (r : Siblings V) → IsWithinAll m fs
      → m ≤ n → IsWithinAll m (fs ++ (n, r) ∷ [])
  within_all-snoc m [] n r h le = (le, tt)
  within_all-snoc m (f ∷ fs) n r h le = (h.0, within_all-snoc m fs n r h.1 le)

  -- a bound of all numbers bounds the last, and those before it
  within_all-last : (m : ℕ) (fs : List (ℕ × Siblings V)) (n : ℕ) (r : Siblings V)
      → IsWithinAll m (fs ++ (n, r) ∷ []) → (m ≤ n) × IsWithinAll m fs
  within_all-last m [] n r h = (h.0, tt)
  within_all-last m (f ∷ fs) n r h = let later = within_all-last m fs n r h.1 in (later.0, (h.0, later.1))

  -- siblings that wait behind others add their steps
  steps_waiting-snoc : (fs : List (ℕ × Siblings V)) (n : ℕ) (r : Siblings V)
      → steps_waiting (fs ++ (n, r) ∷ []) ≡ steps_in r + steps_waiting fs
  steps_waiting-snoc [] n r = omega arith
  steps_waiting-snoc (f ∷ fs) n r = omega (arith, steps_waiting-snoc fs n r)

  -- a place in a walk is made of its parts
  state_is : (s : WalkState V) (path : List ℕ) (pending : Option V) (siblings : Siblings V)
      (stack : List (ℕ × Siblings V)) → s.path ≡ path → s.pending ≡ pending → s.siblings ≡ siblings
      → s.stack ≡ stack → s ≡ record { path = path; pending = pending; siblings = siblings; stack = stack }
  state_is s path pending siblings stack a b c e =
      ap (λ (x : List ℕ). record { path = x; pending = s.pending; siblings = s.siblings; stack = s.stack }) a
      ∙ ap (λ (x : Option V). record { path = path; pending = x; siblings = s.siblings; stack = s.stack }) b
      ∙ ap (λ (x : Siblings V). record { path = path; pending = pending; siblings = x; stack = s.stack }) c
      ∙ ap (λ (x : List (ℕ × Siblings V)). record { path = path; pending = pending; siblings = siblings; stack = x }) e

module _ (item : List ℕ → Type 0) {V : Type 0} where
  -- a longer path leaves the entries of the siblings that wait
  pub waiting-longer : (path l : List ℕ) (fs : List (ℕ × Siblings V)) → WaitsWithin item path fs
      → waiting (path ++ l) fs ≡ waiting path fs
  waiting-longer path l [] w = refl
  waiting-longer path l (f ∷ fs) w =
      let front = take-append-le f.0 path l w.within in
      let later = waiting-longer path l fs w.rest in
      cc

  -- a longer path keeps them waiting
  WaitsWithin-longer : (path l : List ℕ) (fs : List (ℕ × Siblings V)) → WaitsWithin item path fs
      → WaitsWithin item (path ++ l) fs
  WaitsWithin-longer path l [] w = tt
  WaitsWithin-longer path l (f ∷ fs) w =
      let long = length-append path l in
      record {
        within = omega (arith, w.within);
        below = w.below;
        valid = subst (IsValid item) (sym (take-append-le f.0 path l w.within)) w.valid;
        canonical = w.canonical;
        rest = WaitsWithin-longer path l fs w.rest;
      }

  -- siblings behind the whole path may wait too
  WaitsWithin-push : (path : List ℕ) (fs : List (ℕ × Siblings V)) (r : Siblings V)
      → WaitsWithin item path fs → IsValid item path → IsCanonical item r
      → WaitsWithin item path (fs ++ (length path, r) ∷ [])
  WaitsWithin-push path [] r w valid ok =
      record {
        within = omega arith;
        below = tt;
        valid = subst (IsValid item) (sym (take_all (length path) path (omega arith))) valid;
        canonical = ok;
        rest = tt;
      }
  WaitsWithin-push path (f ∷ fs) r w valid ok =
      record {
        within = w.within;
        below = within_all-snoc f.0 fs (length path) r w.below w.within;
        valid = w.valid;
        canonical = w.canonical;
        rest = WaitsWithin-push path fs r w.rest valid ok;
      }

  -- the siblings that wait last, and those below them as they are behind their front
  record Last (path : List ℕ) (fs : List (ℕ × Siblings V)) (n : ℕ) (r : Siblings V) : Type 0 where
    valid : IsValid item (take n path)
    canonical : IsCanonical item r
    waits : WaitsWithin item (take n path) fs
    same : waiting (take n path) fs ≡ waiting path fs

  -- all that wait last are such
  last_of : (path : List ℕ) (fs : List (ℕ × Siblings V)) (n : ℕ) (r : Siblings V)
      → WaitsWithin item path (fs ++ (n, r) ∷ []) → Last path fs n r
  last_of path [] n r w = record { valid = w.valid; canonical = w.canonical; waits = tt; same = refl }
  last_of path (f ∷ fs) n r w =
      let later = last_of path fs n r w.rest in
      let below = within_all-last f.0 fs n r w.below in
      let front = take-take f.0 n path below.0 in
      let short = length-take n path in
      let rest = later.same in
      record {
        valid = later.valid;
        canonical = later.canonical;
        waits = record {
          within = omega (arith, w.within, below.0);
          below = below.1;
          valid = subst (IsValid item) (sym front) w.valid;
          canonical = w.canonical;
          rest = later.waits;
        };
        same = cc;
      }

  -- the entries that are left are the same before the step to the children and after it
  left-down : (path l : List ℕ) (v : Option V) (c s : Siblings V) (fs : List (ℕ × Siblings V))
      → WaitsWithin item path fs
      → prefixed path (entries (node l v c s)) ++ waiting path fs ≡ prefixed (path ++ l)
      (own v ++ entries c) ++ waiting (path ++ l) (fs ++ (length path, s) ∷ [])
  left-down path l v c s fs w =
      let es = own v ++ entries c in
      let front : take (length path) (path ++ l) ≡ path = take_at path l (length path) refl in
      ap (λ r. r ++ waiting path fs) (prefixed-append path (prefixed l es) (entries s) ∙ ap (λ r. r ++ prefixed path (entries s)) (prefixed-prefixed path l es))
      ∙ append_assoc (prefixed (path ++ l) es) (prefixed path (entries s)) (waiting path fs)
      ∙ ap (λ r. prefixed (path ++ l) es ++ r)
      (sym (waiting-snoc (path ++ l) fs (length path) s ∙ ap
      (λ k. prefixed k (entries s) ++ waiting (path ++ l) fs) front ∙ ap
      (λ r. prefixed path (entries s) ++ r) (waiting-longer path l fs w)))

  -- the step to the children, where the rest of the siblings wait
  down : (path l : List ℕ) (v : Option V) (c s : Siblings V) (fs : List (ℕ × Siblings V))
      → IsWalkState item (record { path = path; pending = None; siblings = node l v c s; stack = fs })
      → IsStep item (record { path = path; pending = None; siblings = node l v c s; stack = fs })
      (record { path = path ++ l; pending = v; siblings = c; stack = fs ++ (length path, s) ∷ [] })
  down path l v c s fs w = record {
    state = record {
      valid = IsValid-append item path l w.valid w.canonical.valid;
      canonical = w.canonical.child;
      waits = WaitsWithin-longer path l (fs ++ (length path, s) ∷ []) (WaitsWithin-push path fs s w.waits w.valid w.canonical.sibling);
    };
    same = sym (left-down path l v c s fs w.waits);
    less = omega (arith, steps_waiting-snoc fs (length path) s);
  }

  -- the step back to the siblings that wait last
  back : (path : List ℕ) (fs : List (ℕ × Siblings V)) (n : ℕ) (r : Siblings V)
      → IsWalkState item (record { path = path; pending = None; siblings = end; stack = fs ++ (n, r) ∷ [] })
      → IsStep item (record { path = path; pending = None; siblings = end; stack = fs ++ (n, r) ∷ [] })
      (record { path = take n path; pending = None; siblings = r; stack = fs })
  back path fs n r w =
      let last = last_of path fs n r w.waits in
      record {
        state = record { valid = last.valid; canonical = last.canonical; waits = last.waits };
        same = sym (waiting-snoc path fs n r ∙ ap (λ l. prefixed (take n path) (entries r) ++ l) (sym last.same));
        less = omega (arith, steps_waiting-snoc fs n r);
      }

  -- the same two steps between any two places
  pub step_down : (s t : WalkState V) (l : List ℕ) (v : Option V) (c r : Siblings V)
      → IsWalkState item s → s.pending ≡ None → s.siblings ≡ node l v c r → t.path ≡ s.path ++ l
      → t.pending ≡ v → t.siblings ≡ c → t.stack ≡ s.stack ++ (length s.path, r) ∷ [] → IsStep item s t
  step_down s t l v c r w pending siblings path' pending' siblings' stack' =
      let from = state_is s s.path None (node l v c r) s.stack refl pending siblings refl in
      let to = state_is t (s.path ++ l) v c (s.stack ++ (length s.path, r) ∷ []) path' pending' siblings' stack' in
      subst (λ q. IsStep item q t) (sym from) (subst (IsStep item _) (sym to) (down s.path l v c r s.stack (subst (IsWalkState item) from w)))

  -- a step back to the siblings that wait last
  pub step_back : (s t : WalkState V) (n : ℕ) (r : Siblings V)
      → IsWalkState item s → s.pending ≡ None → s.siblings ≡ end → s.stack ≡ t.stack ++ (n, r) ∷ []
      → t.path ≡ take n s.path → t.pending ≡ s.pending → t.siblings ≡ r
      → IsStep item s t
  step_back s t n r w pending siblings stack path' pending' siblings' =
      let from = state_is s s.path None end (t.stack ++ (n, r) ∷ []) refl pending siblings stack in
      let to = state_is t (take n s.path) None r t.stack path' (pending' ∙ pending) siblings' refl in
      subst (λ q. IsStep item q t) (sym from) (subst (IsStep item _) (sym to) (back s.path t.stack n r (subst (IsWalkState item) from w)))

  -- siblings have an entry where there is a node
  entries_filled : (l : List ℕ) (v : Option V) (c s : Siblings V) → IsCanonical item (node l v c s)
      → entries (node l v c s) ≢ []
  entries_filled l (Some x) c s ok = λ e. absurd (cc)
  entries_filled l None end s ok = absurd (ok.earns)
  entries_filled l None (node m v c t) s ok = child (entries (node m v c t)) (entries_filled m v c t ok.child)
    where
      child : (cs : List (List ℕ × V)) → cs ≢ [] → prefixed l cs ++ entries s ≢ []
      child [] nonempty = absurd (nonempty refl)
      child (x ∷ cs) nonempty = λ e. absurd (cc)

  -- where a node is next, an entry is left
  pub left_filled : (s : WalkState V) (l : List ℕ) (v : Option V) (c r : Siblings V)
      → IsWalkState item s → s.siblings ≡ node l v c r → entries_left s ≢ []
  left_filled s l v c r w siblings =
      subst (λ q. prefixed s.path (own s.pending ++ entries q) ++ waiting s.path s.stack ≢ []) (sym siblings)
      (by s.pending (entries (node l v c r)) (entries_filled l v c r (subst (IsCanonical item) siblings w.canonical)))
    where
      by : (pending : Option V) (es : List (List ℕ × V)) → es ≢ []
          → prefixed s.path (own pending ++ es) ++ waiting s.path s.stack ≢ []
      by None [] nonempty = absurd (nonempty refl)
      by None (x ∷ es) nonempty = λ e. absurd (cc)
      by (Some y) es nonempty = λ e. absurd (cc)

-- a list of images is empty only where the list is
pub map_filled : {A B : Type 0} (f : A → B) (xs : List A) → xs ≢ [] → map f xs ≢ []
map_filled f [] nonempty = λ e. nonempty refl
map_filled f (x ∷ xs) nonempty = λ e. absurd (cc)

-- what holds holds where there is an error
pub on_err : {T E P : Type 0} (r : Result T E) → P → OnErr r P
on_err (Ok x) p = tt
on_err (Err e) p = p
