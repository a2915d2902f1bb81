-- Worked encodings: keys in order, and the bytes that they are written as. Inputs with a fault.
use Rattle.std.specs.Prelude.{ℕ, List, [], ◌∷◌, ◌++◌, replicate}

-- no keys
abbrev pub nothing_written : List ℕ
nothing_written = 0 ∷ 0 ∷ 0 ∷ 0 ∷ []

-- bar, baz and foo: the root, ba, which has r and z below it, and foo beside it
abbrev pub three_keys_written : List ℕ
three_keys_written =
    12 ∷ 0 ∷ 0 ∷ 0
    ∷ 60 ∷ 2 ∷ 0 ∷ 1 ∷ 98 ∷ 97
    ∷ 51 ∷ 1 ∷ 0 ∷ 2 ∷ 114
    ∷ 3 ∷ 1 ∷ 0 ∷ 2 ∷ 122
    ∷ 3 ∷ 3 ∷ 0 ∷ 1 ∷ 102 ∷ 111 ∷ 111 ∷ []

-- the same with levels in four bytes
abbrev pub three_keys_written_wide : List ℕ
three_keys_written_wide =
    12 ∷ 0 ∷ 0 ∷ 0 ∷ 0 ∷ 0
    ∷ 60 ∷ 2 ∷ 0 ∷ 0 ∷ 0 ∷ 1 ∷ 98 ∷ 97
    ∷ 51 ∷ 1 ∷ 0 ∷ 0 ∷ 0 ∷ 2 ∷ 114
    ∷ 3 ∷ 1 ∷ 0 ∷ 0 ∷ 0 ∷ 2 ∷ 122
    ∷ 3 ∷ 3 ∷ 0 ∷ 0 ∷ 0 ∷ 1 ∷ 102 ∷ 111 ∷ 111 ∷ []

-- the empty key and a: the root has a value
abbrev pub empty_key_and_a : List (List ℕ)
empty_key_and_a = [] ∷ (97 ∷ []) ∷ []

abbrev pub empty_key_and_a_written : List ℕ
empty_key_and_a_written = 15 ∷ 0 ∷ 0 ∷ 0 ∷ 3 ∷ 1 ∷ 0 ∷ 1 ∷ 97 ∷ []

-- 123abc alone: a lone key is one label
abbrev pub lone_key : List ℕ
lone_key = 49 ∷ 50 ∷ 51 ∷ 97 ∷ 98 ∷ 99 ∷ []

abbrev pub lone_key_written : List ℕ
lone_key_written = 12 ∷ 0 ∷ 0 ∷ 0 ∷ 3 ∷ 6 ∷ 0 ∷ 1 ∷ lone_key

-- 🌏🍔 and 🌏🗻
abbrev pub two_texts : List (List ℕ)
two_texts =
    (240 ∷ 159 ∷ 140 ∷ 143 ∷ 240 ∷ 159 ∷ 141 ∷ 148 ∷ [])
    ∷ (240 ∷ 159 ∷ 140 ∷ 143 ∷ 240 ∷ 159 ∷ 151 ∷ 187 ∷ []) ∷ []

-- as texts they are cut behind the first character
abbrev pub two_texts_written : List ℕ
two_texts_written =
    12 ∷ 0 ∷ 0 ∷ 0
    ∷ 12 ∷ 4 ∷ 0 ∷ 1 ∷ 240 ∷ 159 ∷ 140 ∷ 143
    ∷ 51 ∷ 4 ∷ 0 ∷ 2 ∷ 240 ∷ 159 ∷ 141 ∷ 148
    ∷ 3 ∷ 4 ∷ 0 ∷ 2 ∷ 240 ∷ 159 ∷ 151 ∷ 187 ∷ []

-- as byte strings they are cut where their bytes part
abbrev pub two_texts_written_as_bytes : List ℕ
two_texts_written_as_bytes =
    12 ∷ 0 ∷ 0 ∷ 0
    ∷ 12 ∷ 6 ∷ 0 ∷ 1 ∷ 240 ∷ 159 ∷ 140 ∷ 143 ∷ 240 ∷ 159
    ∷ 51 ∷ 2 ∷ 0 ∷ 2 ∷ 141 ∷ 148
    ∷ 3 ∷ 2 ∷ 0 ∷ 2 ∷ 151 ∷ 187 ∷ []

-- a, 300 times: no label has more than 255 bytes
abbrev pub long_key : List ℕ
long_key = replicate 300 97

abbrev pub long_key_written : List ℕ
long_key_written =
    (12 ∷ 0 ∷ 0 ∷ 0 ∷ [])
    ++ (12 ∷ 255 ∷ 0 ∷ 1 ∷ replicate 255 97)
    ++ (3 ∷ 45 ∷ 0 ∷ 2 ∷ replicate 45 97)

-- a, 254 times, with あの behind, and b
abbrev pub long_text_and_b : List (List ℕ)
long_text_and_b =
    (replicate 254 97 ++ 227 ∷ 129 ∷ 130 ∷ 227 ∷ 129 ∷ 174 ∷ []) ∷ (98 ∷ []) ∷ []

-- as texts: あ has three bytes and no room in the label before it
abbrev pub long_text_and_b_written : List ℕ
long_text_and_b_written =
    (12 ∷ 0 ∷ 0 ∷ 0 ∷ [])
    ++ (60 ∷ 254 ∷ 0 ∷ 1 ∷ replicate 254 97)
    ++ (3 ∷ 6 ∷ 0 ∷ 2 ∷ 227 ∷ 129 ∷ 130 ∷ 227 ∷ 129 ∷ 174 ∷ [])
    ++ (3 ∷ 1 ∷ 0 ∷ 1 ∷ 98 ∷ [])

-- as byte strings: the first byte of あ has room
abbrev pub long_text_and_b_written_as_bytes : List ℕ
long_text_and_b_written_as_bytes =
    (12 ∷ 0 ∷ 0 ∷ 0 ∷ [])
    ++ (60 ∷ 255 ∷ 0 ∷ 1 ∷ replicate 254 97 ++ 227 ∷ [])
    ++ (3 ∷ 5 ∷ 0 ∷ 2 ∷ 129 ∷ 130 ∷ 227 ∷ 129 ∷ 174 ∷ [])
    ++ (3 ∷ 1 ∷ 0 ∷ 1 ∷ 98 ∷ [])

-- ab in two records, which is well formed and not tight
abbrev pub ab : List ℕ
ab = 97 ∷ 98 ∷ []

abbrev pub ab_in_two : List ℕ
ab_in_two = 12 ∷ 0 ∷ 0 ∷ 0 ∷ 12 ∷ 1 ∷ 0 ∷ 1 ∷ 97 ∷ 3 ∷ 1 ∷ 0 ∷ 2 ∷ 98 ∷ []

-- and its encoding
abbrev pub ab_written : List ℕ
ab_written = 12 ∷ 0 ∷ 0 ∷ 0 ∷ 3 ∷ 2 ∷ 0 ∷ 1 ∷ ab

-- a alone, with flags that have the bits 64 and 128 and no bit 1 or 4
abbrev pub a_in_other_bits : List ℕ
a_in_other_bits = 200 ∷ 0 ∷ 0 ∷ 0 ∷ 194 ∷ 1 ∷ 0 ∷ 1 ∷ 97 ∷ []

-- and its encoding
abbrev pub a_written : List ℕ
a_written = 12 ∷ 0 ∷ 0 ∷ 0 ∷ 3 ∷ 1 ∷ 0 ∷ 1 ∷ 97 ∷ []

-- b and then a beside it, which is out of order
abbrev pub falling_siblings : List ℕ
falling_siblings =
    12 ∷ 0 ∷ 0 ∷ 0 ∷ 51 ∷ 1 ∷ 0 ∷ 1 ∷ 98 ∷ 3 ∷ 1 ∷ 0 ∷ 1 ∷ 97 ∷ []

-- a root with a child, and these bytes behind it
abbrev pub behind_root : List ℕ → List ℕ
behind_root rest = 12 ∷ 0 ∷ 0 ∷ 0 ∷ rest

-- the first two bytes of a character of four, as a label
abbrev pub half_written : List ℕ
half_written = behind_root (3 ∷ 2 ∷ 0 ∷ 1 ∷ 240 ∷ 159 ∷ [])

-- a record with an empty label, and behind it one that lies three levels too deep
abbrev pub hollow_then_deep : List ℕ
hollow_then_deep = behind_root (12 ∷ 0 ∷ 0 ∷ 1 ∷ 3 ∷ 1 ∷ 0 ∷ 5 ∷ 97 ∷ [])
