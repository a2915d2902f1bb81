use Rattle.std.proofs.Common.{◌≡◌, ◌++◌, refl, ap, subst, ◌∙◌, map as list_map}
use Rattle.std.specs.Io.KnownBytes.{Appends}
use Rattle.prefixes_core.specs.Drawings.{drawing}
use Rattle.prefixes_core.proofs.showing.put_tree.Goals as goal

pub returns-clause-written : goal.returns-clause-written
returns-clause-written g c =
    let nodes =
    list_map (λ node. (node.level, (node.label, node.is_name))) c.in-Ok.nodes.items in
    let is : c.push_drawing.new.out.items ≡ drawing c.args.form nodes =
    c.in_ok-push_drawing.ensures
    ∙ ap (λ l. l ++ drawing c.args.form
    (list_map (λ node. (node.level, (node.label, node.is_name))) c.deref.result.now))
    c.new-out.ensures.items
    ∙ ap (λ l. drawing c.args.form
    (list_map (λ node. (node.level, (node.label, node.is_name))) l)) c.deref.ensures.value in (
      drawing c.args.form nodes,
      (nodes, c.in-Ok.ensures.ok, refl),
      subst (Appends (g.W.Write.contents c.args.output.now) (g.W.Write.contents c.put.new.output)) is
          c.in_ok-put.ensures.written,
    )
