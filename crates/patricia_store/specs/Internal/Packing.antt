-- How three numbers of 16 bits stand for one of 48.
use Rattle.std.specs.Prelude.{ℕ, ◌+◌, ◌*◌, ◌/◌, ◌%◌}
use Rattle.patricia_store.specs.declared.packed.Packed.{Packed}

-- the number, from its lowest part
abbrev pub number : Packed → ℕ
number p = p.low + 65536 * p.middle + 4294967296 * p.high

-- the parts of a number
abbrev pub packed : ℕ → Packed
packed n = record { low = n % 65536; middle = n / 65536 % 65536; high = n / 4294967296 }

-- the greatest number
abbrev pub most : ℕ
most = 281474976710655

-- the most nodes there are, so that the number of the next one is less than the greatest
abbrev pub most_nodes : ℕ
most_nodes = 281474976710654
