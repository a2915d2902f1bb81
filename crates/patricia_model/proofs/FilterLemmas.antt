-- Which entries are under a prefix, which are common prefixes of a key, and which of these is the
-- longest.
use Rattle.std.proofs.Common.{◌≡◌, ℕ, ◌≤◌, ◌⊎◌, inl, inr, Bool, true, false, T, cond, List, [], ◌∷◌}
use Rattle.std.proofs.Common.{length, Option, None, Some, refl, sym, ap, subst, ◌∙◌, arith}
use Rattle.std.specs.Prelude.{◌↔◌, filter}
use Rattle.std.specs.List.{last_or}
use Rattle.std.specs.declared.cmp.Ordering.TheVariants.{Less}
use Rattle.std.specs.FinMap.{is_sorted}
use Rattle.std.specs.FinMap.Entries.{below_all}
use Rattle.std.proofs.lemmas.List.{length-append}
use Rattle.patricia_keys.specs.Keys.{Begins, key_cmp}
use Rattle.patricia_keys.proofs.KeyLemmas.{begins_either}
use Rattle.patricia_model.specs.Points.{Has}
use Rattle.patricia_model.specs.Prefixes.{begins, under, along, longest, IsReach}
use Rattle.patricia_model.proofs.PrefixLemmas.{begins_is, begins_from, begins_other, not_above}
use Rattle.patricia_model.proofs.TestLemmas.{first_part, second_part, less_so}

-- of two prefixes of a key the greater one is no shorter
no_shorter : (a b k : List ℕ) → Begins a k → Begins b k → key_cmp a b ≡ Less → length a ≤ length b
no_shorter a b k x y less = elim (begins_either a b x.0 y.0 (x.1 ∙ sym y.1)) [
  | inl front ↦ let long = length-append a front.0 in omega (arith, ap length front.1)
  | inr front ↦ absurd (not_above a b front less)
]

-- the members that a test lets through
module _ {A : Type 0} (f : A → Bool) where
  -- a member of a filtered list was in the list, and passes the test
  pub has_filter : (xs : List A) (x : A) → Has (filter f xs) x → Has xs x × (f x ≡ true)
  has_filter [] x h = absurd h
  has_filter (y ∷ xs) x h = by (f y) refl (has_filter xs x)
    where
      by : (b : Bool) → f y ≡ b → (Has (filter f xs) x → Has xs x × (f x ≡ true))
          → Has (y ∷ xs) x × (f x ≡ true)
      by true e rest = elim (subst (λ b. Has (cond b (y ∷ filter f xs) (filter f xs)) x) e h) [
        | inl same ↦ (inl same, ap f (sym same) ∙ e)
        | inr later ↦ let found = rest later in (inr found.0, found.1)
      ]
      by false e rest = let found = rest (subst (λ b. Has (cond b (y ∷ filter f xs) (filter f xs)) x) e h) in (inr found.0, found.1)

  -- a member that passes the test is a member of the filtered list
  pub filter_has : (xs : List A) (x : A) → Has xs x → f x ≡ true → Has (filter f xs) x
  filter_has [] x h pass = absurd h
  filter_has (y ∷ xs) x (inl same) pass = subst (λ b. Has (cond b (y ∷ filter f xs) (filter f xs)) x) (sym (ap f same ∙ pass)) (inl same)
  filter_has (y ∷ xs) x (inr h) pass = by (f y) (filter_has xs x h pass)
    where
      by : (b : Bool) → Has (filter f xs) x → Has (cond b (y ∷ filter f xs) (filter f xs)) x
      by true h = inr h
      by false h = h

module _ {V : Type 0} where
  -- the entries under a prefix are those whose key begins with it
  pub under_has : (p : List ℕ) (entries : List (List ℕ × V)) (r : List ℕ × V)
      → Has (under p entries) r ↔ (Has entries r × Begins p r.0)
  under_has p entries r = (λ h. let found = has_filter _ entries r h in (found.0, begins_is p r.0 found.1), λ h. filter_has _ entries r h.0 (begins_from p r.0 h.1))

  -- the common prefixes of a key are the entries whose key is a prefix of it
  pub along_has : (k : List ℕ) (entries : List (List ℕ × V)) (r : List ℕ × V)
      → Has (along k entries) r ↔ (Has entries r × Begins r.0 k)
  along_has k entries r = (λ h. let found = has_filter _ entries r h in (found.0, begins_is r.0 k found.1), λ h. filter_has _ entries r h.0 (begins_from r.0 k h.1))

  -- the last of some entries that rise, each a prefix of the key
  record IsLast (k : List ℕ) (o : Option (List ℕ × V)) (es : List (List ℕ × V)) (r : List ℕ × V) : Type 0 where
    has : Has es r ⊎ (o ≡ Some r)
    begun : Begins r.0 k
    longest_is : (e : List ℕ × V) → Has es e → Begins e.0 k → length e.0 ≤ length r.0
    before_is : (e : List ℕ × V) → o ≡ Some e → length e.0 ≤ length r.0

  -- the last common prefix of a key is the longest one, or the one from before
  last_is : (k : List ℕ) (o : Option (List ℕ × V)) (es : List (List ℕ × V)) (r : List ℕ × V)
      → T (is_sorted key_cmp es)
      → ((x : List ℕ × V) → o ≡ Some x → Begins x.0 k × T (below_all key_cmp x.0 es))
      → last_or o (along k es) ≡ Some r → IsLast k o es r
  last_is k o [] r sorted before e = record {
    has = inr e;
    begun = (before r e).0;
    longest_is = λ x h b. absurd h;
    before_is = λ x f. let same : x ≡ r = (let g = sym f ∙ e in cc) in rw same (omega arith);
  }
  last_is k o (x ∷ es) r sorted before e =
      by (begins x.0 k) refl (last_is k (Some x) es r (second_part _ _ sorted)) (last_is k o es r (second_part _ _ sorted))
    where
      by : (b : Bool) → begins x.0 k ≡ b
          → (((y : List ℕ × V) → Some x ≡ Some y → Begins y.0 k × T (below_all key_cmp y.0 es)) →
          last_or (Some x) (along k es) ≡ Some r → IsLast k (Some x) es r)
          → (((y : List ℕ × V) → o ≡ Some y → Begins y.0 k × T (below_all key_cmp y.0 es)) → last_or o (along k es) ≡ Some r → IsLast k o es r)
          → IsLast k o (x ∷ es) r
      by true f here past =
          let begun = begins_is x.0 k f in
          let found = here
          (λ y same. let is : x ≡ y = cc in subst
          (λ z. Begins z.0 k × T (below_all key_cmp z.0 es)) is
          (begun, first_part _ _ sorted))
          (subst (λ b. last_or o (cond b (x ∷ along k es) (along k es)) ≡ Some r) f e) in
          let long = found.before_is x refl in
          record {
            has = elim found.has [ inl h ↦ inl (inr h) | inr same ↦ inl (inl (let is : x ≡ r = cc in is)) ];
            begun = found.begun;
            longest_is = λ y h b. elim h [ inl same ↦ subst (λ z. length z.0 ≤ length r.0) same long | inr later ↦ found.longest_is y later b ];
            before_is = λ y g. let first = before y g in
                let less = less_so _ (first_part _ _ first.1) in
                let short = no_shorter y.0 x.0 k first.0 begun less in omega arith;
          }
      by false f here past =
          let found = past
          (λ y same. let first = before y same in (first.0, second_part _ _ first.1))
          (subst (λ b. last_or o (cond b (x ∷ along k es) (along k es)) ≡ Some r) f e) in
          record {
            has = elim found.has [ inl h ↦ inl (inr h) | inr same ↦ inr same ];
            begun = found.begun;
            longest_is = λ y h b. elim h [
              | inl same ↦ absurd (begins_other x.0 k f (subst (λ z. Begins z.0 k) (sym same) b))
              | inr later ↦ found.longest_is y later b
            ];
            before_is = found.before_is;
          }

  -- the longest prefix in a sorted list is the last common prefix of the key
  pub longest_last : (es : List (List ℕ × V)) → T (is_sorted key_cmp es)
      → (k : List ℕ) (r : List ℕ × V) → longest k es ≡ Some r
      → Has (along k es) r × ((e : List ℕ × V) → Has (along k es) e → length e.0 ≤ length r.0)
  longest_last es sorted k r e =
      let found = last_is k None es r sorted (λ x none. absurd (cc)) e in (
        elim found.has [ inl h ↦ (along_has k es r).1 (h, found.begun) | inr none ↦ absurd (cc) ],
        λ x h. let is = (along_has k es x).0 h in found.longest_is x is.0 is.1,
      )

-- there is one common length
pub one_reach : (item : List ℕ → Type 0) (S : List (List ℕ)) (q : List ℕ) (n m : ℕ)
    → IsReach item S q n → IsReach item S q m → n ≡ m
one_reach item S q n m a b = elim a.reached [
  | inl none ↦ elim b.reached [
    | inl also ↦ none.1 ∙ sym also.1
    | inr some ↦ absurd (let h = some.1 in let nil = none.0 in let no : Has [] some.0 = rw nil at h in no)
  ]
  | inr one ↦ elim b.reached [
    | inl none ↦ absurd (let h = one.1 in let nil = none.0 in let no : Has [] one.0 = rw nil at h in no)
    | inr two ↦ let less = b.furthest one.0 n one.1 one.2 in let more = a.furthest two.0 m two.1 two.2 in omega arith
  ]
]
