use Rattle.std.proofs.Common.{refl, ◌∙◌, arith}
use Rattle.patricia_nodes.proofs.NodeVecLemmas.{node_there}
use Rattle.patricia_edits.proofs.CutLemmas.{splits, tail_apart, read_made, needs_cut}
use Rattle.patricia_edits.proofs.AddLemmas.{cell_within}
use Rattle.patricia_edits.proofs.insertion.split.Goals as goal

pub make-tail-requires-clause-room : goal.make-tail-requires-clause-room
make-tail-requires-clause-room g c =
    let there = node_there c.args.arena.now.nodes.items c.args.id (cell_within c.args.arena.now c.args.id c.requires.cell) in
    record {
      nodes_fit = (c.requires.room there.0 there.1).nodes_fit;
      bytes_fit = omega arith;
    }

pub split_label-none-requires-clause-there : goal.split_label-none-requires-clause-there
split_label-none-requires-clause-there g c =
    omega (arith, cell_within c.args.arena.now c.args.id c.requires.cell, c.make-tail.ensures.keeps)

pub split_label-none-requires-clause-apart : goal.split_label-none-requires-clause-apart
split_label-none-requires-clause-apart g c =
    tail_apart c.args.arena.now c.make-tail.new.arena c.args.id c.make-tail.result c.args.n c.args.value
    (rw (c.none.ensures, c.none-2.ensures) at c.make-tail.ensures.makes) c.requires.cell

pub split_label-none-requires-clause-room : goal.split_label-none-requires-clause-room
split_label-none-requires-clause-room g c = λ a reads.
    let there = node_there c.args.arena.now.nodes.items c.args.id (cell_within c.args.arena.now c.args.id c.requires.cell) in
    let same = read_made c.args.arena.now c.make-tail.new.arena c.args.id c.make-tail.result c.args.n c.args.value
    (rw (c.none.ensures, c.none-2.ensures) at c.make-tail.ensures.makes) c.requires.cell a there.0 reads there.1 in
    needs_cut a there.0 same (c.requires.room there.0 there.1).bytes_fit (omega (arith, c.make-tail.ensures.bytes))

pub returns-clause-splits : goal.returns-clause-splits
returns-clause-splits g c =
    splits c.args.arena.now c.make-tail.new.arena c.args.id c.make-tail.result c.args.n c.args.value
    (rw (c.none.ensures, c.none-2.ensures) at c.make-tail.ensures.makes) _ c.split_label-none.result
    c.split_label-none.ensures.nodes refl refl (c.split_label-none.ensures.capacity ∙ c.make-tail.ensures.capacity)
    (λ a reads. omega (arith, c.split_label-none.ensures.room a reads, c.make-tail.ensures.bytes))
