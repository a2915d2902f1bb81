use Rattle.std.proofs.Common.{◌≡◌, ℕ, List}
use Rattle.patricia_nodes.specs.Internal.Plans.{first}
use Rattle.patricia_codec.proofs.SpareLemmas.{LinksFrom}
use Rattle.patricia_codec.proofs.spare.link_empty.Given as goal

-- the nodes from i on are linked, and the first of them is known
abbrev pub invariant-loop-i : goal.invariant-loop-i
invariant-loop-i g l = record {
  chain : List ℕ;
  links : LinksFrom l.fn.nodes.items l.nodes.items l.i chain;
  first_is : l.first ≡ first chain;
}

abbrev pub decreases-loop-i : goal.decreases-loop-i
decreases-loop-i g l = l.i
