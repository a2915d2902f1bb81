-- The common prefixes of a key that a look-up has still ahead.
use Rattle.std.proofs.Common.{◌≡◌, ℕ, zero, suc, ◌+◌, ◌-◌, ◌<◌, ◌≤◌, List, [], ◌∷◌, ◌++◌, length, get_or, take}
use Rattle.std.proofs.Common.{Bool, false, drop, Option, Some, None, slice_get, refl, sym, ap, subst, ◌∙◌, arith}
use mathlib.Core.Bool.{false≢true}
use Rattle.std.proofs.lemmas.List.{append-nil}
use Rattle.std.specs.List.{last_or}
use Rattle.patricia_keys.specs.Keys.{Begins, IsKeyKind, IsValid, key_cmp}
use Rattle.patricia_keys.proofs.KeyLemmas.{begins_same, key_cmp-irreflexive}
use Rattle.std.specs.declared.cmp.Ordering.TheVariants.{Less}
use Rattle.patricia_model.specs.Internal.LabelCmp.{EndsWithin, Passes, SharesItem}
use Rattle.patricia_model.specs.Prefixes.{along, longest}
use Rattle.patricia_model.specs.Siblings.{Siblings, end, node, entries, own, prefixed, IsBefore, IsBeforeSiblings, IsCanonical}
use Rattle.patricia_model.proofs.GetLemmas.{common_whole}
use Rattle.patricia_model.proofs.ListLemmas.{IsBelow}
use Rattle.patricia_model.proofs.MeetingLemmas.{before_by_first_byte}
use Rattle.patricia_model.proofs.OrderLemmas.{IsBefore-less, below_siblings}
use Rattle.patricia_model.proofs.PrefixLemmas.{AllKeys-follows, along_down, along_none, along_past, not_above}
use Rattle.patricia_model.proofs.SiblingsLemmas.{lacks_empty, prefixed-prefixed}
use Rattle.patricia_model.proofs.WalkLemmas.{prefixed-nil}
use Rattle.patricia_store.specs.Internal.Nodes.{Node}
use Rattle.patricia_nodes.specs.declared.arena.NodeArena.{NodeArena}
use Rattle.patricia_nodes.specs.Internal.NodeVecs.{IsRun}
use Rattle.patricia_nodes.specs.Internal.Plans.{Nil, entries_of, plan_at, read, siblings_in, siblings_of, IsWellFormed}
use Rattle.patricia_nodes.proofs.PlanLemmas.{plan_is}
use Rattle.patricia_nodes.proofs.SeekLemmas.{byte_is, opens, opens_siblings, whole_plan}
use Rattle.patricia_nodes.proofs.FillLemmas.{plan_within}
use Rattle.patricia_many.specs.declared.lookup.Lookup.{Lookup}
use Rattle.patricia_many.specs.Internal.Lookups.{along_ahead, entry_at, HasBest, IsAt, IsLookup, KeepsBest}
use Rattle.patricia_many.proofs.LookupLemmas.{Stands, at_filled, at_labelled, at_node, at_valid, goes_next, run_passes, stands, walk}

module _ (item : List ℕ → Type 0) (kind : IsKeyKind item) where
  -- a label that comes before a key, or after it, does not begin it
  before_apart : (a b : List ℕ) → IsBefore item a b → Begins a b → ⊥
  before_apart a b before begun =
      key_cmp-irreflexive (a ++ begun.0) (b ++ []) (begun.1 ∙ sym (append-nil b)) (IsBefore-less item kind a b begun.0 [] before)

  after_apart : (a b : List ℕ) → IsBefore item a b → Begins b a → ⊥
  after_apart a b before begun =
      key_cmp-irreflexive (a ++ []) (b ++ begun.0) (append-nil a ∙ sym begun.1) (IsBefore-less item kind a b [] begun.0 before)

  -- a key that shares the first item of a label comes before what the label comes before
  shares_before : (q l m : List ℕ) → SharesItem item q l → IsBefore item l m → IsBefore item q m
  shares_before q l m share before =
      let same = begins_same item kind before.first share.shared l before.first_item share.is_item before.first_begins share.begins_second in
      record {
        first = share.shared;
        second = before.second;
        first_item = share.is_item;
        second_item = before.second_item;
        first_begins = share.begins_first;
        second_begins = before.second_begins;
        less = rw (← same) before.less;
      }

  shares_rises : {V : Type 0} (q l : List ℕ) (s : Siblings V) → SharesItem item q l → IsBeforeSiblings item l s
      → IsBeforeSiblings item q s
  shares_rises q l end share rises = tt
  shares_rises q l (node m v c s) share rises = shares_before q l m share rises

  module _ {V : Type 0} where
    -- a key that comes before siblings has no prefix among them
    along_before : (q : List ℕ) (r : Siblings V) → IsCanonical item r → IsBeforeSiblings item q r → along q (entries r) ≡ []
    along_before q r ok before =
        let below = subst (λ k. IsBelow k (entries r)) (append-nil q) (below_siblings item kind q [] r ok before) in
        along_none q (entries r)
        (AllKeys-follows (λ k. key_cmp q k ≡ Less) (λ k. Begins k q → ⊥) (λ k less b. not_above q k b less) (entries r) below)

    -- and the empty key has none among any
    along_empty : (r : Siblings V) → IsCanonical item r → along [] (entries r) ≡ []
    along_empty r ok =
        along_none [] (entries r)
        (AllKeys-follows (λ k. k ≡ [] → ⊥) (λ k. Begins k [] → ⊥) (λ k some b. some (front k b.0 b.1)) (entries r)
        (lacks_empty item kind None r ok))
      where
        front : (a b : List ℕ) → a ++ b ≡ [] → a ≡ []
        front [] b e = refl
        front (x ∷ a) b e = absurd (cc)

    -- a key that ends within the first label has none either
    along_within : (q l : List ℕ) (n : ℕ) (v : Option V) (c s : Siblings V) → IsCanonical item (node l v c s)
        → EndsWithin item q l n → along q (entries (node l v c s)) ≡ []
    along_within q l n v c s ok ends =
        along_past item kind l v c s ok q
        (λ begun. let long = common_whole item q l n ok.valid ends.common begun in let short = ends.short in omega arith)
        ∙ along_before q s ok.sibling (shares_rises q l s ends.shares ok.rises)

-- no number is that of no node
plan_none : {V : Type 0} (n : ℕ) (nodes : List (Node V)) → read n nodes None ≡ Nil
plan_none zero nodes = refl
plan_none (suc n) nodes = refl

-- the last entry of a node and of what is below it
last_own : {V : Type 0} (o : Option (List ℕ × V)) (p : List ℕ) (v : Option V) (es : List (List ℕ × V))
    → last_or o (prefixed p (own v ++ es)) ≡ last_or (last_or o (prefixed p (own v))) (prefixed p es)
last_own o p None es = refl
last_own o p (Some v) es = refl

module _ {V : Type 0} (s : NodeArena V) (key : List ℕ) where
  -- no node has none
  pub ahead_none : (len : ℕ) → along_ahead s key len None ≡ []
  ahead_none len = rw (plan_none (length s.nodes.items) s.nodes.items) refl

module _ {item : List ℕ → Type 0} {V : Type 0} {s : NodeArena V} {key : List ℕ} {at : Option ℕ}
    {id : ℕ} {rest : List ℕ} (h : Stands item s key at id rest) {n : Node V} (reads : n ≡ get_or s.nodes.items id n) where
  open h use {kind, whole, ok, is}

  -- the siblings there are the node, with those that its links lead to
  abbrev pub child_siblings : Siblings V
  child_siblings = siblings_in (plan_at s.nodes.items n.child)

  abbrev sibling_siblings : Siblings V
  sibling_siblings = siblings_in (plan_at s.nodes.items n.sibling)

  record Siblings_there : Type 0 where
    are : siblings_in (plan_at s.nodes.items at) ≡ node n.label n.value child_siblings sibling_siblings
    canonical : IsCanonical item (node n.label n.value child_siblings sibling_siblings)

  siblings_there : Siblings_there
  siblings_there =
      let w = walk h in
      let o = opens kind whole ok w refl reads in
      let c_is = plan_is s.nodes.items n.child o.child o.child_plan in
      let s_is = plan_is s.nodes.items n.sibling o.sibling o.sibling_plan in
      record {
        are = rw (is, c_is, s_is) (ap siblings_in (plan_is s.nodes.items (Some id) w.focus (plan_within s.nodes.items s.root (Some id) w.frames w.focus (rw w.fills (whole_plan s whole)) w.at_is) ∙ o.is));
        canonical = rw (c_is, s_is) (opens_siblings kind whole ok w refl reads);
      }

  module _ (passed : ℕ) (left : rest ≡ drop passed key) where
    ahead_is : along_ahead s key passed at ≡ prefixed (take passed key) (along rest (entries (node n.label n.value child_siblings sibling_siblings)))
    ahead_is = rw (siblings_there.are, left) refl

    -- past a sibling that comes before the key stay those that were ahead
    pub ahead_next : IsBefore item n.label rest → along_ahead s key passed n.sibling ≡ along_ahead s key passed at
    ahead_next before =
        sym (ahead_is ∙ ap (prefixed (take passed key))
        (along_past item kind n.label n.value child_siblings sibling_siblings siblings_there.canonical rest (before_apart item kind n.label rest before))
        ∙ ap (λ r. prefixed (take passed key) (along r (entries sibling_siblings))) left)

    -- none is ahead of a key that comes before the sibling, or ends within its label
    pub ahead_before : IsBefore item rest n.label → along_ahead s key passed at ≡ []
    ahead_before before = ahead_is ∙ ap (prefixed (take passed key)) (along_before item kind rest (node n.label n.value child_siblings sibling_siblings) siblings_there.canonical before)

    pub ahead_within : (k : ℕ) → EndsWithin item rest n.label k → along_ahead s key passed at ≡ []
    ahead_within k ends = ahead_is ∙ ap (prefixed (take passed key)) (along_within item kind rest n.label k n.value child_siblings sibling_siblings siblings_there.canonical ends)

    -- where its label is passed, its own entry, and those ahead of what is left of the key
    module _ (more : List ℕ) (passes : Passes item rest n.label more) (len : ℕ) (front : take len key ≡ take passed key ++ n.label) where
      pub ahead_down : along_ahead s key passed at ≡ prefixed (take len key) (own n.value ++ along more (entries child_siblings))
      ahead_down =
          ahead_is
          ∙ ap (λ r. prefixed (take passed key) (along r (entries (node n.label n.value child_siblings sibling_siblings)))) (sym passes.splits)
          ∙ ap (prefixed (take passed key)) (along_down item kind n.label n.value child_siblings sibling_siblings siblings_there.canonical more)
          ∙ prefixed-prefixed (take passed key) n.label _
          ∙ ap (λ p. prefixed p (own n.value ++ along more (entries child_siblings))) (sym front)

      -- there is none below it where nothing is left
      pub below_none : more ≡ [] → along more (entries child_siblings) ≡ []
      below_none none = rw none (along_empty item kind child_siblings siblings_there.canonical.child)

module _ (item : List ℕ → Type 0) (kind : IsKeyKind item) {V : Type 0} (s : NodeArena V) (whole : IsWellFormed s)
    (ok : IsCanonical item (siblings_of s)) (key : List ℕ) (passed : ℕ) where
  -- past a run of siblings stay those that were ahead
  ahead_run : (k from to : ℕ) → to ≡ from + k → (valid : IsValid item (drop passed key)) → IsAt item s key (Some from) (drop passed key) None
      → IsRun s.nodes (get_or (drop passed key) 0 0) from to
      → along_ahead s key passed (Some to) ≡ along_ahead s key passed (Some from)
  ahead_run zero from to e valid here run = ap (λ x. along_ahead s key passed (Some x)) (omega (arith, e))
  ahead_run (suc k) from to e valid here run =
      let h = stands item kind s whole ok key (Some from) (drop passed key) None from refl here in
      let there = at_node h in
      let n = there.0 in
      let passes = run.passes from (omega arith) (omega (arith, e)) n there.1 in
      let less : get_or n.label 0 0 < get_or (drop passed key) 0 0 = rw (byte_is item kind n.label (at_valid h there.1) (at_labelled h there.1)) at passes.1 in
      let before = before_by_first_byte item kind n.label (drop passed key) (at_valid h there.1) valid (at_labelled h there.1) (at_filled h) less in
      let next = subst (λ a. IsAt item s key a (drop passed key) None) passes.0 (goes_next h there.1 before) in
      ahead_run k (from + 1) to (omega (arith, e)) valid next
      (record { forward = omega (arith, e); passes = λ i behind less. run.passes i (omega (arith, behind)) less })
      ∙ ap (along_ahead s key passed) (sym passes.0)
      ∙ ahead_next h there.1 passed refl before

  pub ahead_past : (at ends : Option ℕ) (from to : ℕ) → at ≡ Some from → IsValid item (drop passed key) → IsAt item s key at (drop passed key) ends
      → IsRun s.nodes (get_or (drop passed key) 0 0) from to
      → along_ahead s key passed (Some to) ≡ along_ahead s key passed at
  ahead_past at ends from to is valid here run =
      ahead_run (to - from) from to (omega (arith, run.forward)) valid (subst (λ a. IsAt item s key a (drop passed key) ends) is here) run
      ∙ ap (along_ahead s key passed) (sym is)

-- what is kept is kept past nodes with no prefix of the key
pub best_stays : (item : List ℕ → Type 0) {V : Type 0} (s : NodeArena V) (key : List ℕ) (a b : Lookup)
    → b.best ≡ a.best → b.best_len ≡ a.best_len → along_ahead s key b.passed b.at ≡ along_ahead s key a.passed a.at
    → HasBest item s key a → HasBest item s key b
best_stays item s key a b best len ahead h = record {
  within = rw (best, len) h.within;
  last = λ top. rw (best, len, ahead) (h.last top);
}

-- at the start nothing is kept
pub best_starts : (item : List ℕ → Type 0) {V : Type 0} (s : NodeArena V) (key : List ℕ) (b : Lookup)
    → b.best ≡ None → along_ahead s key b.passed b.at ≡ along key (entries_of s) → HasBest item s key b
best_starts item {V} s key b none ahead = record {
  within = rw none tt;
  last = λ top. rw (none, ahead) (by top);
}
  where
    by : (top : Option V) → last_or (last_or None (own top)) (along key (entries_of s)) ≡ longest key (own top ++ entries_of s)
    by None = refl
    by (Some v) = refl

-- at the top all of a key's are ahead, and none of the empty key's
pub ahead_top : {V : Type 0} (s : NodeArena V) (key : List ℕ) → along_ahead s key 0 s.root ≡ along key (entries_of s)
ahead_top s key = prefixed-nil _

pub ahead_top_empty : (item : List ℕ → Type 0) (kind : IsKeyKind item) {V : Type 0} (s : NodeArena V)
    → IsCanonical item (siblings_of s) → (key : List ℕ) → key ≡ [] → along_ahead s key 0 None ≡ along key (entries_of s)
ahead_top_empty item kind s ok key none = ahead_none s key 0 ∙ sym (rw none (along_empty item kind (siblings_of s) ok))

-- where a node is passed, it is kept if it has a value, and what was ahead is its entry and what is ahead then
pub best_grows : (item : List ℕ → Type 0) {V : Type 0} (s : NodeArena V) (key : List ℕ) (a o k b : Lookup)
    → o.best ≡ a.best → o.best_len ≡ a.best_len → b.best ≡ k.best → b.best_len ≡ k.best_len → (id len : ℕ) (n : Node V)
    → slice_get s.nodes.items id ≡ Some n → id < length s.nodes.items → len ≤ length key → IsValid item (take len key)
    → KeepsBest n.value id len o k → (es : List (List ℕ × V))
    → along_ahead s key a.passed a.at ≡ prefixed (take len key) (own n.value ++ es)
    → along_ahead s key b.passed b.at ≡ prefixed (take len key) es
    → HasBest item s key a → HasBest item s key b
best_grows item {V} s key a o k b same same_len best_is len_is id len n there within fits valid kept es before after h = by n.value refl kept
  where
    by : (v : Option V) → n.value ≡ v → KeepsBest v id len o k → HasBest item s key b
    by None none kept = best_stays item s key a b (best_is ∙ kept.0 ∙ same) (len_is ∙ kept.1 ∙ same_len) (after ∙ sym (before ∙ ap (λ v. prefixed (take len key) (own v ++ es)) none)) h
    by (Some v) some kept = record {
      within = rw (best_is ∙ kept.0, len_is ∙ kept.1) (within, fits, valid);
      last = λ top.
          rw (best_is ∙ kept.0, len_is ∙ kept.1, there, some, after)
          (sym (last_own (entry_at s key top a.best a.best_len) (take len key) (Some v) es)
          ∙ ap (last_or (entry_at s key top a.best a.best_len)) (sym (before ∙ ap (λ v. prefixed (take len key) (own v ++ es)) some))
          ∙ h.last top);
    }

-- a node that is kept is in the vector, and its bytes of the key are whole items
pub kept_there : (item : List ℕ → Type 0) {V : Type 0} (s : NodeArena V) (key : List ℕ) (a : Lookup) (id : ℕ) → a.best ≡ Some id
    → HasBest item s key a → (id < length s.nodes.items) × (a.best_len ≤ length key) × IsValid item (take a.best_len key)
kept_there item s key a id best h = rw best at h.within

-- its entry is that of these bytes, where it has a value
pub kept_entry : {V : Type 0} (s : NodeArena V) (key : List ℕ) (top : Option V) (best : Option ℕ) (len id : ℕ) (n : Node V) (v : V)
    → best ≡ Some id → slice_get s.nodes.items id ≡ Some n → n.value ≡ Some v → entry_at s key top best len ≡ Some (take len key, v)
kept_entry s key top best len id n v is there value = rw (is, there, value) (ap (λ k. Some (k, v)) (append-nil (take len key)))

pub kept_empty : {V : Type 0} (s : NodeArena V) (key : List ℕ) (top : Option V) (best : Option ℕ) (len id : ℕ) (n : Node V)
    → best ≡ Some id → slice_get s.nodes.items id ≡ Some n → n.value ≡ None → entry_at s key top best len ≡ None
kept_empty s key top best len id n is there value = rw (is, there, value) refl

-- at the end the longest prefix is the one that is kept
pub best_ends : (item : List ℕ → Type 0) {V : Type 0} (s : NodeArena V) (key : List ℕ) (a : Lookup) → a.at ≡ None
    → HasBest item s key a → (top : Option V) → entry_at s key top a.best a.best_len ≡ longest key (own top ++ entries_of s)
best_ends item s key a none h top =
    sym (ap (last_or (entry_at s key top a.best a.best_len)) (ap (along_ahead s key a.passed) none ∙ ahead_none s key a.passed))
    ∙ h.last top

-- a look-up is one, whether its longest prefix is asked for or not
pub finds_alone : (item : List ℕ → Type 0) {V : Type 0} (s : NodeArena V) (by_prefix : Bool) (key : List ℕ) (l : Lookup)
    → IsLookup item s by_prefix key l → IsLookup item s false key l
finds_alone item s by_prefix key l is = (is.0, λ wants. absurd (false≢true wants))

-- a look-up is one of the same key where other fields than these are written
pub other_fields : (item : List ℕ → Type 0) {V : Type 0} (s : NodeArena V) (by_prefix : Bool) (key : List ℕ) (a b : Lookup)
    → b.at ≡ a.at → b.passed ≡ a.passed → b.end ≡ a.end → b.best ≡ a.best → b.best_len ≡ a.best_len
    → IsLookup item s by_prefix key a → IsLookup item s by_prefix key b
other_fields item s by_prefix key a b at passed ends best len is = (
  rw (at, passed, ends) is.0,
  λ wants. best_stays item s key a b best len (rw (at, passed) refl) (is.1 wants),
)

-- a look-up that passes siblings is one of the same key
pub passes_on : (item : List ℕ → Type 0) (kind : IsKeyKind item) {V : Type 0} (s : NodeArena V) → IsWellFormed s
    → IsCanonical item (siblings_of s) → (by_prefix : Bool) (key : List ℕ) (l : Lookup) (from to : ℕ) → l.at ≡ Some from
    → IsValid item (drop l.passed key) → IsLookup item s by_prefix key l → IsRun s.nodes (get_or (drop l.passed key) 0 0) from to
    → IsLookup item s by_prefix key (record l { at = Some to })
passes_on item kind s whole ok by_prefix key l from to is valid look_up run = (
  run_passes (stands item kind s whole ok key l.at (drop l.passed key) l.end from is look_up.0) valid to run,
  λ wants. best_stays item s key l (record l { at = Some to }) refl refl
      (ahead_past item kind s whole ok key l.passed l.at l.end from to is valid look_up.0 run) (look_up.1 wants),
)
