use Rattle.std.proofs.Common.{length, take, sym, ap, ◌∙◌, arith}
use Rattle.std.proofs.lemmas.Bool.Decides.{Decides-eqb}
use Rattle.std.proofs.lemmas.List.{take_all, length-take-le}
use Rattle.std.proofs.lemmas.Slice.Eq.{slice_eq-Decides}
use Rattle.patricia_store.proofs.HeadLemmas.{short_exact}
use Rattle.patricia_nodes.proofs.NodeVecLemmas.{node_there}
use Rattle.patricia_nodes.proofs.arena.NodeArena.passed_len.Goals as goal

pub slice_bounds-eq-end-then-len-key : goal.slice_bounds-eq-end-then-len-key
slice_bounds-eq-end-then-len-key g c =
    let there = node_there c.args.self.now.nodes.items c.args.id c.requires.within in
    let long = short_exact there.0.label _ (c.short_len-len.ensures _ there.1) c.if-len-lt63.true in
    sym (length-take-le _ c.label.result.now (omega (arith, long, ap length (c.label.ensures _ there.1))))

pub returns-then-eq : goal.returns-then-eq
returns-then-eq g c = (
  c.if-len-key.true,
  λ n reads.
      let long = short_exact n.label _ (c.short_len-len.ensures n reads) c.if-len-lt63.true in
      let same = (slice_eq-Decides Decides-eqb _ _ _ c.eq.ensures).0 c.if-eq.true in
      sym (take_all _ n.label (omega (arith, long))) ∙ ap (take c.short_len-len.result) (sym (c.label.ensures n reads)) ∙ sym same,
)
