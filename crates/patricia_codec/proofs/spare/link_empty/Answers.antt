use Rattle.std.proofs.Common.{◌∷◌, sym, ◌∙◌, arith}
use Rattle.patricia_nodes.proofs.NodeVecLemmas.{node_there}
use Rattle.patricia_codec.proofs.SpareLemmas.{no_byte, some_byte, links_done, links_skip}
use Rattle.patricia_codec.proofs.SpareLemmas.{links_one}
use Rattle.patricia_codec.proofs.spare.link_empty.Goals as goal

pub loop-i-preserved-then-short_len-eq0 : goal.loop-i-preserved-then-short_len-eq0
loop-i-preserved-then-short_len-eq0 g c =
    let inv = c.loop-i.invariant in
    let put = c.set_sibling.ensures.node in
    let empty = no_byte put.0.label (sym c.if-short_len-eq0.true ∙ c.short_len.ensures put.0 put.1) in
    let id_is = c.new-id.ensures in
    rw (← id_is) (record {
      chain = c.new-id.result ∷ inv.chain;
      links = links_one _ _ c.loop-i.i c.new-id.result inv.chain put.0 inv.links (omega arith) put.1
          c.set_sibling.new.self.items empty (rw (← inv.first_is) put.2);
      first_is = c.some-first.ensures;
    })

pub loop-i-preserved : goal.loop-i-preserved
loop-i-preserved g c =
    let inv = c.loop-i.invariant in
    let there = node_there c.loop-i.nodes.items c.new-id.result (omega arith) in
    let some = some_byte there.0.label _ (c.short_len.ensures there.0 there.1) c.if-short_len-eq0.false in
    let id_is = c.new-id.ensures in
    rw (← id_is) (record {
      chain = inv.chain;
      links = links_skip _ _ c.loop-i.i c.new-id.result inv.chain there.0 inv.links (omega arith)
          there.1 some;
      first_is = inv.first_is;
    })

pub returns : goal.returns
returns g c =
    let inv = c.loop-i.invariant in
    (inv.chain, links_done _ _ c.loop-i.i inv.chain inv.links (omega arith), inv.first_is)
