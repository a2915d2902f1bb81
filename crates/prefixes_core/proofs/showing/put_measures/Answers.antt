use Rattle.std.proofs.Common.{◌≡◌, ◌++◌, refl, ap, subst, ◌∙◌}
use Rattle.std.specs.Io.KnownBytes.{Appends}
use Rattle.prefixes_core.specs.Measures.{measures_text}
use Rattle.prefixes_core.proofs.showing.put_measures.Goals as goal

pub returns-clause-written : goal.returns-clause-written
returns-clause-written g c =
    let m = c.in-Ok.measures in
    let is : c.push_measures.new.out.items ≡ measures_text c.args.as_json m =
    c.in_ok-push_measures.ensures
    ∙ ap (λ l. l ++ measures_text c.args.as_json m) c.new-out.ensures.items in (
      measures_text c.args.as_json m,
      (
        m,
        record {
          names = c.in-Ok.ensures.names;
          name_bytes = c.in-Ok.ensures.name_bytes;
          tree = c.in-Ok.ensures.tree;
        },
        refl,
      ),
      subst (Appends (g.W.Write.contents c.args.output.now) (g.W.Write.contents c.put.new.output)) is
          c.in_ok-put.ensures.written,
    )
