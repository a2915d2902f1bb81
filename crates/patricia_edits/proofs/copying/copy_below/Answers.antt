use Rattle.std.proofs.Common.{refl}
use Rattle.std.proofs.lemmas.Result.{on_ok_weaker}
use Rattle.patricia_nodes.proofs.LayLemmas.{unmarked, laying_start, laying_done, marked_all}
use Rattle.patricia_edits.proofs.copying.copy_below.Goals as goal

pub copy_siblings_below-requires : goal.copy_siblings_below-requires
copy_siblings_below-requires g c = record {
  plan = c.requires.0;
  marks = unmarked;
  laying = laying_start c.requires.0 c.args.from.now.items c.args.to.now.items c.requires.1;
  unmarked = λ at h. refl;
  kept = c.requires.2;
  room = c.requires.3;
}

pub returns : goal.returns
returns g c = on_ok_weaker c.copy_siblings_below.result
    (λ copied w l.
    let d = laying_done w c.args.from.now.items _ _ _
    (copied w unmarked (laying_start w c.args.from.now.items c.args.to.now.items l) (λ at h. refl))
    (λ at h. marked_all unmarked at) in
    (d.0, d.1, d.2))
    c.copy_siblings_below.ensures.copied
