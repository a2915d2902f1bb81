use Rattle.std.proofs.Common.{◌≡◌, ◌++◌, take, length, refl, ap, ◌∙◌, arith}
use Rattle.std.proofs.lemmas.List.{length-take, take_all, take-append-le}
use Rattle.patricia_nodes.proofs.NodeVecLemmas.{node_there}
use Rattle.patricia_walks.proofs.progress.Progress.enter.Goals as goal

pub returns-in_default-clause-refused : goal.returns-in_default-clause-refused
returns-in_default-clause-refused g c =
    let front = c.args.self.now.front in
    let path = c.args.self.now.path.items in
    let there = node_there _ _ c.requires.within in
    let long : length (take front path) ≡ front = (let l = length-take front path in omega (arith, l, c.requires.front)) in
    record {
      path = c.truncate-in_default.ensures.items
          ∙ ap (take front) (c.in_ok-extend_by_label.ensures.label _ there.1 ∙ ap (λ k. k ++ there.0.label) c.truncate.ensures.items)
          ∙ take-append-le front (take front path) there.0.label (omega (arith, long))
          ∙ take_all front (take front path) (omega (arith, long));
      front = refl;
      next = refl;
      stack = c.in_default.ensures.same;
    }
