-- Laws of the array of the bytes and the values, of floating-point numbers in values, and of an
-- array of two.
use Rattle.std.proofs.Common.{◌≡◌, ℕ, ◌≤◌, ◌<◌, suc, List, [], ◌∷◌, length, zero, subst, refl, sym}
use Rattle.std.proofs.Common.{ap, ◌∙◌, arith, map, false, Bool, drop, get_or, rules}
use Rattle.std.specs.Prelude.{◌||◌}
use Rattle.serde_json.specs.Data.{Data, number, unsigned, Items, item, no_items, depth, items_depth}
use Rattle.serde_json.specs.View.{items_of, items_view, members_of, number_view, view}
use Rattle.serde_json.proofs.Views.{view-Array, view-Object}
use Rattle.serde_json.specs.Written.{has_float, items_have_float, members_have_float}
use Rattle.std.specs.List.{list_any, remove, AllByRecursion}
use Rattle.std.proofs.lemmas.List.{at_drop_all}
use Rattle.std.specs.BTreeMap.{BTreeMap}
use Rattle.std.specs.Prelude.{String, Vec}
use Rattle.std.specs.declared.alloc.Global.{Global}
use Rattle.serde_json.specs.declared.number.Number.{Number as NumberOf}
use Rattle.serde_json.specs.declared.value.Value.{Value, Array, Number, Object, the_lemmas}
use Rattle.patricia_json.specs.Pairs.{pair_data, numbers_of}

-- the bytes are whole numbers, and nest nothing
pub numbers_have_no_float : (bs : List ℕ) → items_have_float (numbers_of bs) ≡ false
numbers_have_no_float [] = refl
numbers_have_no_float (b ∷ bs) = numbers_have_no_float bs

-- numbers are not nested
pub numbers_depth : (bs : List ℕ) → items_depth (numbers_of bs) ≡ 0
numbers_depth [] = refl
numbers_depth (b ∷ bs) = omega (arith, numbers_depth bs)

-- so the array has a float only where a value has one, and nests two deeper than the values
pub pair_has_no_float : (bs : List ℕ) (values : Items) → items_have_float values ≡ false
    → has_float (pair_data bs values) ≡ false
pair_has_no_float bs values h = rw (numbers_have_no_float bs, h) refl

-- the array of two arrays is two deeper than the values
pub pair_depth : (bs : List ℕ) (values : Items) → items_depth values ≤ 100
    → depth (pair_data bs values) ≤ 127
pair_depth bs values h = omega (arith, numbers_depth bs)

-- members have a float where one of their values has
pub members_float : (es : List (String Global × Value))
    → members_have_float (members_of (map (λ m. (m.0, view m.1)) es))
    ≡ list_any (λ v. has_float (view v)) (map (λ m. m.1) es)
members_float [] = refl
members_float (e ∷ es) = ap (λ b. has_float (view e.1) || b) (members_float es)

-- an array has no float where it has one only if one of its items from i on has, and i is its end
pub array_float : (v : Value) (items : Vec Value Global) (xs : List Value) (i : ℕ)
    → v ≡ Array items → xs ≡ items.items
    → items_have_float (items_of (map view xs)) ≡ items_have_float (items_of (map view (drop i xs)))
    → length xs ≤ i → false ≡ has_float (view v)
array_float v items xs i is same kept end =
    let floats : List Value → Bool = λ ys. items_have_float (items_of (map view ys)) in
    sym (ap (λ (w : Value). has_float (view w)) is
    ∙ (ap has_float (view-Array items)
    ∙ (ap floats (sym same) ∙ (kept ∙ at_drop_all floats xs i end))))

-- an object has a float where one of its values has
pub object_float : (v : Value) (members : BTreeMap (String Global) Value) (vs : List Value)
    → v ≡ Object members → vs ≡ map (λ m. m.1) members.entries
    → has_float (view v) ≡ list_any (λ v. has_float (view v)) vs
object_float v members vs is same =
    ap (λ (w : Value). has_float (view w)) is
    ∙ (ap has_float (view-Object members)
    ∙ (members_float members.entries ∙ sym (ap (list_any (λ v. has_float (view v))) same)))

-- an array of two has length 2, and its items are those taken from its end and its front
pub two_long : (vs : List Value) (a b : Data) → items_view vs ≡ item a (item b no_items)
    → length vs ≡ 2
two_long [] a b h = cc
two_long (x ∷ []) a b h = cc
two_long (x ∷ y ∷ []) a b h = refl
two_long (x ∷ y ∷ z ∷ vs) a b h = cc

-- an array of two holds the one that is left, and then the one that was removed
pub two_are : (vs ws : List Value) (a b : Value)
    → length vs ≡ 2 → b ≡ get_or vs 1 b → ws ≡ remove vs 1 → a ≡ get_or ws 0 a
    → items_view vs ≡ item (view a) (item (view b) no_items)
two_are [] ws a b long second left first = absurd (omega arith)
two_are (x ∷ []) ws a b long second left first = absurd (omega arith)
two_are (x ∷ y ∷ []) ws a b long second left first =
    let of_first : a ≡ x = subst (λ (us : List Value). a ≡ get_or us 0 a) left first in
    rw (of_first, second) refl
two_are (x ∷ y ∷ z ∷ vs) ws a b long second left first = absurd (omega arith)

-- each value of an array of bytes is a byte's number
pub number_at : (vs : List Value) (bs : List ℕ) (i : ℕ) (v : Value)
    → i < length vs → v ≡ get_or vs i v
    → items_view vs ≡ numbers_of bs → AllByRecursion (λ b. b < 256) bs
    → (b : ℕ) × (b < 256) × (view v ≡ number (unsigned b))
number_at [] bs i v h at same small = absurd (omega arith)
number_at (x ∷ vs) [] i v h at same small = cc
number_at (x ∷ vs) (b ∷ bs) zero v h at same small = (b, small.0, ap view at ∙ cc)
number_at (x ∷ vs) (b ∷ bs) (suc i) v h at same small = number_at vs bs i v (omega arith) at (cc) small.1

-- a number is viewed as a number
pub view-Number : (n : NumberOf) → view (Number n) ≡ number (number_view n)
view-Number n = search (rules, the_lemmas)
