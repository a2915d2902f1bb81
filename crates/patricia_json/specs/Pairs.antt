-- The JSON of bytes and values. `Data` is what a `Value` of `serde_json` stands for, `compact_text`
-- the text that `serde_json` writes for it with no space, and `read` the `Data` that it reads.
use Rattle.std.specs.Prelude.{◌≡◌, ◌<◌, ◌≤◌, ℕ, List, All, map, Some, false, true}
use Rattle.serde_json.specs.Data.{unsigned, Data, number, array, Items, no_items, item, items_depth}
use Rattle.serde_json.specs.Read.{read}
use Rattle.serde_json.specs.View.{items_of, items_view}
use Rattle.serde_json.specs.Written.{items_have_float, compact_text}
use Rattle.serde_json.specs.declared.value.Value.{Value}

-- the bytes as whole numbers
abbrev pub numbers_of : List ℕ → Items
numbers_of bytes = items_of (map (λ b. number (unsigned b)) bytes)

-- two arrays, one after the other
abbrev pub two_arrays : Items → Items → Items
two_arrays first second = item (array first) (item (array second) no_items)

-- the array of the array of the bytes and the array of the values
abbrev pub pair_data : List ℕ → Items → Data
pair_data bytes values = array (two_arrays (numbers_of bytes) values)

-- no value is a floating-point number or has one in it
abbrev pub HaveNoFloat : List Value → Type 0
HaveNoFloat values = items_have_float (items_view values) ≡ false

-- the text is the compact one of that array
abbrev pub IsTextOf : List ℕ → List ℕ → List Value → Type 0
IsTextOf text bytes values = text ≡ compact_text (pair_data bytes (items_view values))

-- `serde_json` reads the text as that array
abbrev pub ReadsAs : List ℕ → List ℕ → List Value → Type 0
ReadsAs text bytes values = read text ≡ Some (pair_data bytes (items_view values))

-- it does where no value has arrays and objects more than 100 deep
abbrev pub IsReadBack : List ℕ → List ℕ → List Value → Type 0
IsReadBack text bytes values = items_depth (items_view values) ≤ 100 → ReadsAs text bytes values

-- `serde_json` reads the text as no such array, or as one with a floating-point number in a value
abbrev pub IsNoPair : List ℕ → Type 0
IsNoPair text = (bytes : List ℕ) → (values : Items) → All (λ b. b < 256) bytes
    → read text ≡ Some (pair_data bytes values) → items_have_float values ≡ true
