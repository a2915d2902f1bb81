use Rattle.std.proofs.Common.{◌≡◌, ℕ, List, ◌∷◌, drop, map as list_map}
use Rattle.patricia_tree.specs.Sets.{KeySet}
use Rattle.prefixes_core.specs.Combinations.{AreNamesAt, CombinesWith}
use Rattle.prefixes_core.specs.Internal.Inputs.{IsAfter}
use Rattle.prefixes_core.specs.Sources.{HasBytes}
use Rattle.prefixes_core.proofs.FoldLemmas.{FoldsFront}
use Rattle.prefixes_core.proofs.files.combined.Given as goal

-- the names of the first list are combined with those of the others that are not left
abbrev pub invariant-loop-list : goal.invariant-loop-list
invariant-loop-list g l = record {
  after : IsAfter l.fn.inputs l.inputs;
  path : List ℕ;
  lists : list_map (λ path. path.now) l.lists ≡ path ∷ list_map (λ path. path.now) l.others;
  first : KeySet;
  are : AreNamesAt l.fn.inputs.format
      (HasBytes g.R.Opens.content g.I.Read.remaining l.fn.inputs) path first;
  folds : FoldsFront (CombinesWith l.fn.inputs.format
      (HasBytes g.R.Opens.content g.I.Read.remaining l.fn.inputs) l.combination)
      (list_map (λ path. path.now) l.others)
      (list_map (λ path. path.now) (drop l.list-index l.others)) first l.names;
}
