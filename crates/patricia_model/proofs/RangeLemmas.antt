-- Entries from a key on and before a key, where the entries are made of others.
use Rattle.std.proofs.Common.{◌≡◌, ◌≢◌, ℕ, inl, inr, Bool, true, false, T, not, List, [], ◌∷◌}
use Rattle.std.proofs.Common.{◌++◌, Option, None, Some, refl, sym, ap, subst, ◌∙◌}
use Rattle.std.specs.declared.cmp.Ordering.{Ordering}
use Rattle.std.specs.declared.cmp.Ordering.TheVariants.{Less}
use Rattle.std.specs.Ordering.{is_lt}
use Rattle.std.specs.FinMap.{is_sorted}
use Rattle.std.specs.FinMap.Entries.{below_all, is_sorted-where_key}
use Rattle.std.specs.Cmp.Lexicographic.{nat_list_cmp_total}
use Rattle.std.proofs.lemmas.List.{append-nil}
use Rattle.std.proofs.lemmas.List.Elements.{filter-append}
use Rattle.patricia_keys.specs.Keys.{Begins, IsKeyKind, key_cmp}
use Rattle.patricia_model.specs.Ranges.{before, from}
use Rattle.patricia_model.specs.Siblings.{Siblings, node, prefixed, own, entries, IsCanonical}
use Rattle.patricia_model.proofs.SiblingsLemmas.{AllKeys, AllKeys-prefixed}
use Rattle.patricia_model.proofs.ListLemmas.{IsBelow, IsAbove, key_cmp-extends, key_cmp-front}
use Rattle.patricia_model.proofs.ListLemmas.{key_cmp-turned}
use Rattle.patricia_model.proofs.OrderLemmas.{below_siblings}
use Rattle.patricia_model.proofs.PrefixLemmas.{AllKeys-follows, filter-prefixed}
use Rattle.patricia_model.proofs.TestLemmas.{first_part, second_part, less_so}

-- the one key does not come before the other
abbrev pub IsFrom : List ℕ → List ℕ → Type 0
IsFrom key q = is_lt (key_cmp q key) ≡ false

-- a key that another one is below is from that one on
pub from_below : (key q : List ℕ) → key_cmp key q ≡ Less → IsFrom key q
from_below key q less = rw (key_cmp-turned key q less) refl

-- a test that holds of an order says that it is less
pub is_less : (o : Ordering) → is_lt o ≡ true → o ≡ Less
is_less o e = less_so o (subst T (sym e) tt)

module _ {V : Type 0} where
  -- of two lists
  pub from-append : (key : List ℕ) (xs ys : List (List ℕ × V))
      → from key (xs ++ ys) ≡ from key xs ++ from key ys
  from-append key xs ys = filter-append _ xs ys

  pub before-append : (key : List ℕ) (xs ys : List (List ℕ × V))
      → before key (xs ++ ys) ≡ before key xs ++ before key ys
  before-append key xs ys = filter-append _ xs ys

  -- behind a front that all keys have
  pub from-prefixed : (l key : List ℕ) (es : List (List ℕ × V))
      → from (l ++ key) (prefixed l es) ≡ prefixed l (from key es)
  from-prefixed l key es =
      filter-prefixed (λ q. not (is_lt (key_cmp q (l ++ key)))) (λ q. not (is_lt (key_cmp q key))) l
      (λ q. ap (λ o. not (is_lt o)) (key_cmp-front l q key)) es

  pub before-prefixed : (l key : List ℕ) (es : List (List ℕ × V))
      → before (l ++ key) (prefixed l es) ≡ prefixed l (before key es)
  before-prefixed l key es =
      filter-prefixed (λ q. is_lt (key_cmp q (l ++ key))) (λ q. is_lt (key_cmp q key)) l
      (λ q. ap is_lt (key_cmp-front l q key)) es

  -- entries that are all from the key on
  pub from_all : (key : List ℕ) (es : List (List ℕ × V)) → AllKeys (IsFrom key) es
      → from key es ≡ es
  from_all key [] all = refl
  from_all key (e ∷ es) all = rw all.0 (ap (λ r. e ∷ r) (from_all key es all.1))

  pub before_none : (key : List ℕ) (es : List (List ℕ × V)) → AllKeys (IsFrom key) es
      → before key es ≡ []
  before_none key [] all = refl
  before_none key (e ∷ es) all = rw all.0 (before_none key es all.1)

  -- entries that all come before the key
  pub from_none : (key : List ℕ) (es : List (List ℕ × V)) → IsAbove key es → from key es ≡ []
  from_none key [] all = refl
  from_none key (e ∷ es) all = rw all.0 (from_none key es all.1)

  pub before_all : (key : List ℕ) (es : List (List ℕ × V)) → IsAbove key es → before key es ≡ es
  before_all key [] all = refl
  before_all key (e ∷ es) all = rw all.0 (ap (λ r. e ∷ r) (before_all key es all.1))

  -- entries that a key is below are from it on
  pub below_from : (key : List ℕ) (es : List (List ℕ × V)) → IsBelow key es
      → AllKeys (IsFrom key) es
  below_from key es below = AllKeys-follows (λ q. key_cmp key q ≡ Less) (IsFrom key) (from_below key) es below

  -- no key comes before the empty one
  from_empty : (es : List (List ℕ × V)) → AllKeys (IsFrom []) es
  from_empty [] = tt
  from_empty (e ∷ es) = (nothing e.0, from_empty es)
    where
      nothing : (q : List ℕ) → IsFrom [] q
      nothing [] = refl
      nothing (c ∷ q) = refl

  -- all entries are from the empty key on
  pub from_start : (es : List (List ℕ × V)) → from [] es ≡ es
  from_start es = from_all [] es (from_empty es)

  -- the value of the empty key comes before each other key
  pub from_own : (key : List ℕ) → key ≢ [] → (v : Option V) → from key (own v) ≡ []
  from_own [] some v = absurd (some refl)
  from_own (c ∷ key) some None = refl
  from_own (c ∷ key) some (Some v) = refl

  pub before_own : (key : List ℕ) → key ≢ [] → (v : Option V) → before key (own v) ≡ own v
  before_own [] some v = absurd (some refl)
  before_own (c ∷ key) some None = refl
  before_own (c ∷ key) some (Some v) = refl

  -- in order, where the first entry is not before a bound no entry is
  pub before_first : (key : List ℕ) (e : List ℕ × V) (es : List (List ℕ × V))
      → T (is_sorted key_cmp (e ∷ es)) → IsFrom key e.0 → before key (e ∷ es) ≡ []
  before_first key e es sorted is = rw is (rest es (first_part _ _ sorted))
    where
      each : (q : List ℕ) → key_cmp e.0 q ≡ Less → IsFrom key q
      each q less = by (is_lt (key_cmp q key)) refl
        where
          by : (b : Bool) → is_lt (key_cmp q key) ≡ b → IsFrom key q
          by true f = absurd (let no = rw (nat_list_cmp_total.trans e.0 q key less (is_less (key_cmp q key) f)) at is in cc)
          by false f = f

      rest : (fs : List (List ℕ × V)) → T (below_all key_cmp e.0 fs) → before key fs ≡ []
      rest [] h = refl
      rest (f ∷ fs) h = rw (each f.0 (less_so (key_cmp e.0 f.0) (first_part _ _ h))) (rest fs (second_part _ _ h))

  -- entries from a key on are in order, as all entries are
  pub from_sorted_entries : (key : List ℕ) (es : List (List ℕ × V)) → T (is_sorted key_cmp es)
      → T (is_sorted key_cmp (from key es))
  from_sorted_entries key es h = is_sorted-where_key key_cmp (λ q. not (is_lt (key_cmp q key))) es h

module _ (item : List ℕ → Type 0) (kind : IsKeyKind item) {V : Type 0} (l : List ℕ) (v : Option V)
    (c s : Siblings V) (ok : IsCanonical item (node l v c s)) where
  -- the entries of a node whose label comes before a key and does not begin it are before the key
  pub first_above : (q : List ℕ) → (Begins l q → ⊥) → key_cmp l q ≡ Less
      → IsAbove q (prefixed l (own v ++ entries c))
  first_above q other less = AllKeys-prefixed _ l above (own v ++ entries c)
    where
      above : (t : List ℕ) → key_cmp (l ++ t) q ≡ Less
      above t = elim (key_cmp-extends l q t [] less) [
        | inl h ↦ rw append-nil at h
        | inr b ↦ absurd (other b)
      ]

  -- so from the key on are entries of its siblings alone
  pub from_past : (q : List ℕ) → (Begins l q → ⊥) → key_cmp l q ≡ Less
      → from q (entries (node l v c s)) ≡ from q (entries s)
  from_past q other less =
      from-append q (prefixed l (own v ++ entries c)) (entries s)
      ∙ ap (λ r. r ++ from q (entries s)) (from_none q _ (first_above q other less))

  -- all entries of the siblings come after each key that the label begins
  pub siblings_from : (t : List ℕ) → AllKeys (IsFrom (l ++ t)) (entries s)
  siblings_from t = below_from (l ++ t) (entries s) (below_siblings item kind l t s ok.sibling ok.rises)
