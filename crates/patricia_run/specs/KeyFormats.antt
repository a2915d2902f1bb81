-- How the key of a line is spelled.
use Rattle.std.specs.Prelude.{ℕ, ◌%◌, ◌==◌, List, length, Option, Some, None, if◌then◌else◌}
use Rattle.std.specs.Result.{result_ok}
use Rattle.std.specs.Str.{is_utf8}
use Rattle.hex.specs.Hex.{decode_of, encode_lower}

-- how a field is read to the bytes of a key, if it can be, and how the bytes of a key are printed
pub record KeyFormat : Type 0 where
  pub read : List ℕ → Option (List ℕ)
  pub print : List ℕ → List ℕ

-- every field is a key as it stands
abbrev pub as_bytes : KeyFormat
as_bytes = record { read = λ field. Some field; print = λ key. key }

-- a field is a key where it is UTF-8
abbrev pub as_text : KeyFormat
as_text = record {
  read = λ field. if is_utf8 field then Some field else None;
  print = λ key. key;
}

-- a field is a key where it is hexadecimal digits of either case, four for each unit; an entry has
-- them in lower case
abbrev pub as_units : KeyFormat
as_units = record {
  read = λ field. if length field % 4 == 0 then result_ok (decode_of field) else None;
  print = λ key. encode_lower key;
}
