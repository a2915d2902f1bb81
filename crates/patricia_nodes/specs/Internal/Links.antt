-- How a number stands for a link.
use Rattle.std.specs.Prelude.{◌≡◌, ℕ, zero, suc, Option, Some, None, refl}
use Rattle.patricia_nodes.specs.declared.link.Link.TheInside.{Inside}

-- 0 is none, and any other number stands for the one before it
abbrev pub node_number : ℕ → Option ℕ
node_number zero = None
node_number (suc n) = Some n

abbrev pub link_view : Inside → Option ℕ
link_view l = node_number l.0

abbrev pub kept : Option ℕ → Inside
kept None = record { 0 = zero }
kept (Some n) = record { 0 = suc n }

pub kept-node-number : (n : ℕ) → kept (node_number n) ≡ record { 0 = n }
kept-node-number zero = refl
kept-node-number (suc n) = refl

pub kept-link-view : (l : Inside) → kept (link_view l) ≡ l
kept-link-view l = kept-node-number l.0
