use lib.Seq.{take-append-add}
use Rattle.std.proofs.Common.{◌+◌, ◌++◌, take, ap, ◌∙◌}
use Rattle.std.proofs.lemmas.List.{take-take}
use Rattle.patricia_nodes.proofs.path.extend_by_first.Goals as goal

pub returns-then-capacity-end-ge-WIDE-clause-ok : goal.returns-then-capacity-end-ge-WIDE-clause-ok
returns-then-capacity-end-ge-WIDE-clause-ok c =
    let path = c.args.path.now.items in
    let bytes = c.args.bytes.now in
    c.truncate.ensures.items
    ∙ ap (take (c.len-end.result + c.args.len)) c.in_ok-extend_from_slice.ensures.items
    ∙ ap (λ n. take (n + c.args.len) (path ++ take 32 bytes)) (c.len-end.ensures ∙ c.args.path.now.ok.0)
    ∙ take-append-add path (take 32 bytes) c.args.len
    ∙ ap (λ l. path ++ l) (take-take c.args.len 32 bytes c.if-len-le-WIDE.true)
