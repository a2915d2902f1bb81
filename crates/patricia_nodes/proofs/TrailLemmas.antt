-- Trails of look-ups, which are fingers: places that a look-up has passed, for that of another key.
use Rattle.std.proofs.Common.{◌≡◌, ◌≢◌, ℕ, ◌+◌, ◌-◌, ◌<◌, ◌≤◌, List, [], ◌∷◌, ◌++◌, length, take, drop}
use Rattle.std.proofs.Common.{Some, None, inl, inr, refl, sym, ap, subst, ◌∙◌, arith, append_assoc}
use Rattle.std.proofs.Common.{slice_get, take-append-drop, length-drop, length-append}
use Rattle.std.proofs.lemmas.List.{take_at, drop_at, take-take, take_all, reverse-append}
use Rattle.std.proofs.lemmas.List.{take_more, take-append-le, length-take-le, drop_all, drop-append-le}
use Rattle.std.proofs.lemmas.Bool.{cases_lt}
use Rattle.std.proofs.lemmas.Option.{slice_get_within, slice_get-get_or, get_or_from_slice_get}
use Rattle.std.specs.Prelude.{reverse}
use Rattle.std.specs.declared.cmp.Ordering.TheVariants.{Less, Greater}
use Rattle.patricia_keys.specs.Keys.{Begins, ComparesFirst, IsCommon, IsKeyKind, IsValid, key_cmp}
use Rattle.patricia_keys.proofs.KeyLemmas.{begins_same, first_of, item-nonempty, valid_rest, Begins-trans}
use Rattle.patricia_keys.proofs.KeyLemmas.{IsValid-nil, IsValid-append}
use Rattle.patricia_model.specs.Siblings.{IsBefore, IsCanonical}
use Rattle.patricia_model.specs.Internal.LabelCmp.{Passes}
use Rattle.patricia_model.proofs.GetLemmas.{compared_greater}
use Rattle.patricia_model.proofs.SiblingsLemmas.{IsBefore-trans}
use Rattle.patricia_nodes.specs.declared.arena.NodeArena.{NodeArena}
use Rattle.patricia_nodes.specs.declared.arena.seek.LinkRef.{LinkRef}
use Rattle.patricia_nodes.specs.Internal.Plans.{Plan, Cell, siblings_in, siblings_of, plan_at}
use Rattle.patricia_nodes.specs.Internal.Places.{Frame, InChild, InSibling, fill, Leads}
use Rattle.patricia_nodes.specs.Internal.Trails.{path_of, ArePassed, IsTrail, IsCutTo}
use Rattle.patricia_nodes.proofs.FillLemmas.{passed_filled, siblings-within}

-- the last item of a list, and the others
pub last_split : {X : Type 0} (xs : List X) (x : X) → slice_get xs (length xs - 1) ≡ Some x
    → xs ≡ take (length xs - 1) xs ++ x ∷ []
last_split xs x is =
    let k = length xs - 1 in
    let within = slice_get_within xs k x is in
    sym (take_all (k + 1) xs (omega (arith, within))) ∙ take_more xs k x within
    ∙ ap (λ y. take k xs ++ y ∷ []) (get_or_from_slice_get xs k x x is)

-- a list that has no last item is empty
pub last_none : {X : Type 0} (xs : List X) → slice_get xs (length xs - 1) ≡ None → xs ≡ []
last_none [] is = refl
last_none (x ∷ xs) is = let some = slice_get-get_or (x ∷ xs) (length (x ∷ xs) - 1) x (omega arith) in absurd (cc)

-- a list that is not empty has some length
pub filled_length : (k : List ℕ) → k ≢ [] → 0 < length k
filled_length [] some = absurd (some refl)
filled_length (b ∷ k) some = omega arith

-- two keys begin with the same bytes, up to what they have in common
pub common_taken : (item : List ℕ → Type 0) (key last : List ℕ) (n m : ℕ)
    → IsCommon item key last n → m ≤ n → take m last ≡ take m key
common_taken item key last n m common within =
    let (rest, is) = common.begins in
    let long : m ≤ length (take n key) = omega (arith, within, length-take-le n key common.within) in
    ap (take m) (sym is) ∙ take-append-le m (take n key) rest long ∙ take-take m n key within

-- the one trail is the other without some of the last places
abbrev pub IsCutFrom : List (LinkRef × ℕ) → List (LinkRef × ℕ) → Type 0
IsCutFrom old new = (cut : List (LinkRef × ℕ)) × (reverse old ≡ cut ++ reverse new)

-- and without one more
pub cut_more : (old now left : List (LinkRef × ℕ)) (e : LinkRef × ℕ) → IsCutFrom old now → now ≡ left ++ e ∷ []
    → IsCutFrom old left
cut_more old now left e (cut, is) last = (
  cut ++ e ∷ [],
  is ∙ ap (λ l. cut ++ reverse l) last ∙ ap (λ l. cut ++ l) (reverse-append left (e ∷ []))
      ∙ sym (append_assoc cut (e ∷ []) (reverse left)),
)

-- it is cut far enough where the path to its last place ends within n bytes
pub cut_within : (old now left : List (LinkRef × ℕ)) (x : LinkRef × ℕ) (n : ℕ) → IsCutFrom old now
    → now ≡ left ++ x ∷ [] → x.1 ≤ n → IsCutTo n old now
cut_within old now left x n (cut, is) last short = record {
  cut = cut;
  is = is;
  within = λ e es back.
      let back_is : x ∷ reverse left ≡ e ∷ es = sym (ap reverse last ∙ reverse-append left (x ∷ [])) ∙ back in
      let same : x ≡ e = cc in
      subst (λ y. y.1 ≤ n) same short;
}

-- or where no place is left
pub cut_all : (old now : List (LinkRef × ℕ)) (n : ℕ) → IsCutFrom old now → now ≡ [] → IsCutTo n old now
cut_all old now n (cut, is) none = record {
  cut = cut;
  is = is;
  within = λ e es back. absurd (let z = sym (ap reverse none) ∙ back in cc);
}

module _ {V : Type 0} where
  -- frames within frames are filled from inside
  pub fill-append : (inner mid : List (Frame V)) (q : Plan V)
      → fill (inner ++ mid) q ≡ fill mid (fill inner q)
  fill-append [] mid q = refl
  fill-append (InChild id l v d ∷ inner) mid q = fill-append inner mid (Cell id l v q d)
  fill-append (InSibling id l v c ∷ inner) mid q = fill-append inner mid (Cell id l v c q)

  -- the way to each place within passes what the way to a place passes
  pub passed_deeper : (es : List (LinkRef × ℕ)) (inner frames : List (Frame V)) → ArePassed es frames
      → ArePassed es (inner ++ frames)
  passed_deeper [] inner frames a = tt
  passed_deeper (e ∷ es) inner frames (more, mid, is, at, len, rest) =
      (inner ++ more, mid, ap (λ f. inner ++ f) is ∙ sym (append_assoc inner more mid), at, len, rest)

  -- and all but the innermost of them
  passed_cut : (cut es : List (LinkRef × ℕ)) (frames : List (Frame V)) → ArePassed (cut ++ es) frames
      → ArePassed es frames
  passed_cut [] es frames a = a
  passed_cut (e ∷ cut) es frames (inner, mid, is, at, len, rest) =
      passed_cut cut es frames (subst (ArePassed (cut ++ es)) (sym is) (passed_deeper (cut ++ es) inner mid rest))

-- what begins nothing is empty
nothing_begins : (a : List ℕ) → Begins a [] → a ≡ []
nothing_begins [] b = refl
nothing_begins (x ∷ a) (rest, is) = absurd (cc)

-- the empty key comes after none
never_later : (b : List ℕ) → Greater ≡ key_cmp [] b → ⊥
never_later [] is = absurd (cc)
never_later (x ∷ b) is = absurd (cc)

module _ (item : List ℕ → Type 0) where
  -- what comes later is not empty
  later_filled : IsKeyKind item → (a b : List ℕ) → ComparesFirst item a b Greater → a ≢ []
  later_filled kind a b later none = elim later.first_of [
    | inl empty ↦ never_later later.second (later.is ∙ ap (λ l. key_cmp l later.second) empty.1)
    | inr first ↦ item-nonempty item kind later.first first.0 (nothing_begins later.first (subst (Begins later.first) none first.1))
  ]

  -- the rest of a key behind what it has in common with another is valid
  pub behind_common : IsKeyKind item → (key last : List ℕ) (n : ℕ) → IsCommon item key last n
      → IsValid item last → IsValid item (drop n last)
  behind_common kind key last n common valid =
      let (rest, is) = common.begins in
      let behind : drop n last ≡ rest = ap (drop n) (sym is) ∙ drop_at (take n key) rest n (length-take-le n key common.within) in
      rw behind (valid_rest item kind (take n key) rest common.valid (rw is valid))

  -- what begins a label begins all that the label begins
  begins_again : (shared l more : List ℕ) → Begins shared l → Begins shared (l ++ more)
  begins_again shared l more (left, is) =
      (left ++ more, sym (append_assoc shared left more) ∙ ap (λ k. k ++ more) is)

  -- a label that is passed is passed by all that it begins
  passes_again : (l before rest more : List ℕ) → Passes item before l rest
      → Passes item (l ++ more) l more
  passes_again l before rest more passes = record {
    shares = record {
      shared = passes.shares.shared;
      is_item = passes.shares.is_item;
      begins_first = begins_again passes.shares.shared l more passes.shares.begins_second;
      begins_second = passes.shares.begins_second;
    };
    splits = refl;
  }

  -- what comes before the one comes before the other
  before_again : IsKeyKind item → (l before rest more : List ℕ) → Passes item before l rest
      → (label : List ℕ) → IsBefore item label before → IsBefore item label (l ++ more)
  before_again kind l before rest more passes label earlier =
      let shares = passes.shares in
      let same = begins_same item kind earlier.second shares.shared before earlier.second_item
      shares.is_item earlier.second_begins shares.begins_first in
      record {
        first = earlier.first;
        second = shares.shared;
        first_item = earlier.first_item;
        second_item = shares.is_item;
        first_begins = earlier.first_begins;
        second_begins = begins_again shares.shared l more shares.begins_second;
        less = subst (λ s. key_cmp earlier.first s ≡ Less) same earlier.less;
      }

  -- what comes before the rest of a key comes before that of a later one, as far as both begin
  -- with the same items
  before_later : IsKeyKind item → (last key : List ℕ) (n : ℕ) → IsCommon item key last n
      → ComparesFirst item (drop n key) (drop n last) Greater → (m : ℕ) → m ≤ n
      → IsValid item (take m key) → drop m last ≢ []
      → (label : List ℕ) → IsBefore item label (drop m last) → IsBefore item label (drop m key)
  before_later kind last key n common later m within valid some label earlier = elim (cases_lt m n) [
    | inl less ↦
        let front = take n key in
        let inside = drop m front in
        let long : length front ≡ n = length-take-le n key common.within in
        let fits : m ≤ length front = omega (arith, less, long) in
        let split : take m key ++ inside ≡ front = ap (λ l. l ++ inside) (sym (take-take m n key within)) ∙ take-append-drop m front in
        let inside_valid = valid_rest item kind (take m key) inside valid (subst (IsValid item) (sym split) common.valid) in
        let filled : inside ≢ [] = λ none. absurd (let z = ap length none in omega (arith, z, length-drop m front, long, less)) in
        let first = first_of item inside inside_valid filled in
        let in_key : Begins inside (drop m key) = (drop n key, sym (drop-append-le m front (drop n key) fits) ∙ ap (drop m) (take-append-drop n key)) in
        let in_last : Begins inside (drop m last) = (common.begins.0, sym (drop-append-le m front common.begins.0 fits) ∙ ap (drop m) common.begins.1) in
        let same = begins_same item kind earlier.second first.0 (drop m last) earlier.second_item first.1 earlier.second_begins (Begins-trans first.0 inside (drop m last) first.2 in_last) in
        record {
          first = earlier.first;
          second = first.0;
          first_item = earlier.first_item;
          second_item = first.1;
          first_begins = earlier.first_begins;
          second_begins = Begins-trans first.0 inside (drop m key) first.2 in_key;
          less = subst (λ i. key_cmp earlier.first i ≡ Less) same earlier.less;
        }
    | inr more ↦
        let at : m ≡ n = omega (arith, within, more) in
        let behind : drop n last ≢ [] = subst (λ k. drop k last ≢ []) at some in
        let turned = compared_greater item (drop n key) (drop n last) (later_filled kind (drop n key) (drop n last) later) behind later in
        IsBefore-trans item kind label (drop m last) (drop m key) earlier (subst (λ k. IsBefore item (drop k last) (drop k key)) (sym at) turned)
  ]

module _ (item : List ℕ → Type 0) {V : Type 0} where
  -- a trail without some of its last places is one
  pub trail_less : (s : NodeArena V) (key : List ℕ) (old new cut : List (LinkRef × ℕ))
      → reverse old ≡ cut ++ reverse new → IsTrail item s key old → IsTrail item s key new
  trail_less s key old new cut is t = record {
    frames = t.frames;
    focus = t.focus;
    rest = t.rest;
    fills = t.fills;
    leads = t.leads;
    rest_nonempty = t.rest_nonempty;
    passed = passed_cut cut (reverse new) t.frames (rw (← is) t.passed);
  }

  -- the labels that are passed and what is left are the key
  pub leads_path : (fs : List (Frame V)) (key rest : List ℕ) → Leads item fs key rest
      → path_of fs ++ rest ≡ key
  leads_path [] key rest e = e
  leads_path (InChild id l v d ∷ fs) key rest (before, passes, nonempty, leads) =
      append_assoc (path_of fs) l rest ∙ ap (λ b. path_of fs ++ b) passes.splits
      ∙ leads_path fs key before leads
  leads_path (InSibling id l v c ∷ fs) key rest (before, leads) = leads_path fs key rest leads

  -- a look-up that leads to a place has come to each place around it
  pub leads_to : (inner mid : List (Frame V)) (key rest : List ℕ) → rest ≢ []
      → Leads item (inner ++ mid) key rest
      → (before : List ℕ) × (before ≢ []) × Leads item mid key before
  leads_to [] mid key rest some leads = (rest, some, leads)
  leads_to (InChild id l v d ∷ inner) mid key rest some (before, passes, nonempty, leads) =
      leads_to inner mid key before (passed_filled item before l rest passes nonempty) leads
  leads_to (InSibling id l v c ∷ inner) mid key rest some (before, leads) =
      leads_to inner mid key rest some leads

  -- the path to a place is a valid key
  pub path_valid : (fs : List (Frame V)) (q : Plan V) → IsCanonical item (siblings_in (fill fs q))
      → IsValid item (path_of fs)
  path_valid [] q ok = IsValid-nil item
  path_valid (InChild id l v d ∷ fs) q ok =
      IsValid-append item (path_of fs) l (path_valid fs (Cell id l v q d) ok) (siblings-within item fs (Cell id l v q d) ok).valid
  path_valid (InSibling id l v c ∷ fs) q ok = path_valid fs (Cell id l v c q) ok

  -- what is left of the key behind a path
  pub left_behind : (fs : List (Frame V)) (key rest : List ℕ) → Leads item fs key rest
      → rest ≡ drop (length (path_of fs)) key
  left_behind fs key rest leads =
      sym (drop_at (path_of fs) rest (length (path_of fs)) refl)
      ∙ ap (drop (length (path_of fs))) (leads_path fs key rest leads)

  -- the path is the front of the key
  pub path_front : (fs : List (Frame V)) (key rest : List ℕ) → Leads item fs key rest
      → path_of fs ≡ take (length (path_of fs)) key
  path_front fs key rest leads =
      sym (take_at (path_of fs) rest (length (path_of fs)) refl)
      ∙ ap (take (length (path_of fs))) (leads_path fs key rest leads)

  -- it is as long as what the key has besides the rest
  pub path_length : (fs : List (Frame V)) (key rest : List ℕ) → Leads item fs key rest
      → length (path_of fs) + length rest ≡ length key
  path_length fs key rest leads = sym (length-append (path_of fs) rest) ∙ ap length (leads_path fs key rest leads)

  module _ (kind : IsKeyKind item) where
    -- a key with the same path, and before whose rest comes what came before that of another one,
    -- leads to the same place
    leads_near : (fs : List (Frame V)) (key near before rest : List ℕ) → Leads item fs key before
        → path_of fs ++ rest ≡ near
        → ((label : List ℕ) → IsBefore item label before → IsBefore item label rest)
        → rest ≢ [] → Leads item fs near rest
    leads_near [] key near before rest leads is same some = is
    leads_near (InChild id l v d ∷ fs) key near before rest (b, passes, nonempty, leads) is same some =
        let again = passes_again item l b before rest passes in (
          l ++ rest,
          again,
          some,
          leads_near fs key near b (l ++ rest) leads (sym (append_assoc (path_of fs) l rest) ∙ is)
              (before_again item kind l b before rest passes) (passed_filled item (l ++ rest) l rest again some),
        )
    leads_near (InSibling id l v c ∷ fs) key near before rest (b, leads) is same some =
        (same l b, leads_near fs key near before rest leads is same some)

    -- without places each key has a trail
    pub trail_none : (s : NodeArena V) (key : List ℕ) (trail : List (LinkRef × ℕ)) → reverse trail ≡ []
        → key ≢ [] → IsTrail item s key trail
    trail_none s key trail none some = record {
      frames = [];
      focus = plan_at s.nodes.items s.root;
      rest = key;
      fills = refl;
      leads = refl;
      rest_nonempty = some;
      passed = rw none tt;
    }

    -- a trail whose last path both keys have in common is one of a later key, too
    trail_near : (s : NodeArena V) → IsCanonical item (siblings_of s) → (last key : List ℕ) (n : ℕ)
        → IsCommon item key last n → ComparesFirst item (drop n key) (drop n last) Greater
        → (trail : List (LinkRef × ℕ)) (e : LinkRef × ℕ) (es : List (LinkRef × ℕ))
        → (t : IsTrail item s last trail) → ArePassed (e ∷ es) t.frames
        → (new : List (LinkRef × ℕ)) → reverse new ≡ e ∷ es → e.1 ≤ n → IsTrail item s key new
    trail_near s ok last key n common later trail e es t (inner, mid, is, at, len, others) new back within =
        let (before, filled, led) = leads_to inner mid last t.rest t.rest_nonempty (subst (λ fs. Leads item fs last t.rest) is t.leads) in
        let fills = sym (fill-append inner mid t.focus) ∙ ap (λ fs. fill fs t.focus) (sym is) ∙ t.fills in
        let same : take e.1 last ≡ take e.1 key = common_taken item key last n e.1 common within in
        let path : path_of mid ≡ take e.1 key = path_front mid last before led ∙ ap (λ k. take k last) (sym len) ∙ same in
        let valid : IsValid item (take e.1 key) = subst (IsValid item) path (path_valid mid (fill inner t.focus) (rw fills ok)) in
        let rest_is : before ≡ drop e.1 last = left_behind mid last before led ∙ ap (λ k. drop k last) (sym len) in
        let more : length key ≢ n = λ all. absurd (later_filled item kind (drop n key) (drop n last) later (drop_all n key (omega (arith, all)))) in
        let left : drop e.1 key ≢ [] = λ none. absurd (let z = ap length none in omega (arith, z, length-drop e.1 key, within, common.within, more)) in
        record {
          frames = mid;
          focus = fill inner t.focus;
          rest = drop e.1 key;
          fills = fills;
          leads = leads_near mid last key before (drop e.1 key) led (ap (λ p. p ++ drop e.1 key) path ∙ take-append-drop e.1 key)
              (λ label earlier. before_later item kind last key n common later e.1 within valid (subst (λ l. l ≢ []) rest_is filled) label (subst (IsBefore item label) rest_is earlier)) left;
          rest_nonempty = left;
          passed = rw back ([], mid, refl, at, len, others);
        }

    -- a trail that was cut to what two keys have in common is one of the later, too
    pub trail_cut : (s : NodeArena V) → IsCanonical item (siblings_of s) → (last key : List ℕ) (n : ℕ)
        → IsCommon item key last n → ComparesFirst item (drop n key) (drop n last) Greater
        → key ≢ [] → (old new : List (LinkRef × ℕ)) → IsTrail item s last old → IsCutTo n old new
        → IsTrail item s key new
    trail_cut s ok last key n common later some old new t c = by (reverse new) refl
      where
        by : (es : List (LinkRef × ℕ)) → reverse new ≡ es → IsTrail item s key new
        by [] is = trail_none s key new is some
        by (e ∷ es) is =
            trail_near s ok last key n common later old e es t
            (passed_cut c.cut (e ∷ es) t.frames (rw (← is, ← c.is) t.passed)) new is (c.within e es is)
