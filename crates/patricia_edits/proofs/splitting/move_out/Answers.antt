use Rattle.std.proofs.Common.{[], ◌++◌, drop, length, None, refl, ap, ◌∙◌, arith, length-set}
use Rattle.patricia_nodes.proofs.FreeLemmas.{written_reads}
use Rattle.patricia_nodes.proofs.MergeLemmas.{holds_free}
use Rattle.patricia_edits.proofs.NodeLemmas.{node_within, node_read}
use Rattle.patricia_edits.proofs.MoveLemmas.{moved, bare_is, laid_top, emptied}
use Rattle.patricia_edits.proofs.splitting.move_out.Goals as goal

pub child-child-requires : goal.child-child-requires
child-child-requires g c =
    let h = c.requires.tree in
    node_within c.args.arena.now c.args.id h.0 h.1 h.2 h.3 h.4 h.6

pub take_contents-value-requires : goal.take_contents-value-requires
take_contents-value-requires g c =
    let h = c.requires.tree in
    record { there = node_within c.args.arena.now c.args.id h.0 h.1 h.2 h.3 h.4 h.6 }

pub label-requires : goal.label-requires
label-requires g c =
    let h = c.requires.tree in
    let put = c.take_contents-value.ensures.node in
    let long = ap length put.2 ∙ length-set c.args.arena.now.nodes.items c.args.id (record put.0 { child = None; value = None }) in
    rw long (node_within c.args.arena.now c.args.id h.0 h.1 h.2 h.3 h.4 h.6)

pub behind-rest-requires : goal.behind-rest-requires
behind-rest-requires g c =
    let h = c.requires.tree in
    let put = c.take_contents-value.ensures.node in
    let within = node_within c.args.arena.now c.args.id h.0 h.1 h.2 h.3 h.4 h.6 in
    let written = written_reads c.args.arena.now.nodes.items _ c.args.id _ within put.2 in
    rw (c.label.ensures _ written) (c.requires.passed put.0 put.1)

pub push_joined-requires-clause-bytes : goal.push_joined-requires-clause-bytes
push_joined-requires-clause-bytes g c =
    let h = c.requires.tree in
    let put = c.take_contents-value.ensures.node in
    let within = node_within c.args.arena.now c.args.id h.0 h.1 h.2 h.3 h.4 h.6 in
    let written = written_reads c.args.arena.now.nodes.items _ c.args.id _ within put.2 in
    let is = node_read c.args.arena.now c.args.id h.0 h.1 h.2 h.3 h.4 h.6 put.0 put.1 in
    let rest = c.behind-rest.ensures ∙ ap (drop c.args.passed) (c.label.ensures _ written ∙ ap (λ m. m.label) is) in
    let fits = c.requires.bytes h.0 h.1 h.2 h.3 h.4 h.6 in
    rw rest (omega (arith, fits))

pub relocate_descendants-requires : goal.relocate_descendants-requires
relocate_descendants-requires g c =
    let h = c.requires.tree in
    let top = c.args.prefix.now ++ drop c.args.passed h.1 in
    let put = c.take_contents-value.ensures.node in
    let within = node_within c.args.arena.now c.args.id h.0 h.1 h.2 h.3 h.4 h.6 in
    let written = written_reads c.args.arena.now.nodes.items _ c.args.id _ within put.2 in
    let is = node_read c.args.arena.now c.args.id h.0 h.1 h.2 h.3 h.4 h.6 put.0 put.1 in
    let bare = bare_is c.args.arena.now c.args.id h.0 h.1 h.2 h.3 h.4 h.6 top put.0 is _ put.2 in
    let rest = c.behind-rest.ensures ∙ ap (drop c.args.passed) (c.label.ensures _ written ∙ ap (λ m. m.label) is) in
    let child = c.child-child.ensures.node put.0 put.1 ∙ ap (λ m. m.child) is in
    let value = put.3 ∙ ap (λ m. m.value) is in
    let to = c.push_joined.ensures.items ∙ rw (c.requires.empty, rest, child, value, c.none.ensures) refl in
    let fits = c.requires.bytes h.0 h.1 h.2 h.3 h.4 h.6 in
    let long = ap length put.2 ∙ length-set c.args.arena.now.nodes.items c.args.id (record put.0 { child = None; value = None }) in
    let left = rw rest at c.push_joined.ensures.room in
    record {
      laid = (
        moved c.args.arena.now c.args.id h.0 h.1 h.2 h.3 h.4 h.6 top,
        laid_top c.args.arena.now c.args.id h.0 h.1 h.2 h.3 h.4 h.6 top _ bare _ to,
        omega (arith, h.7, c.push_joined.ensures.capacity),
        omega (arith, fits, left),
      );
      free = rw long (holds_free c.args.arena.now _ h.6);
    }

pub unlink-none-requires : goal.unlink-none-requires
unlink-none-requires g c =
    let h = c.requires.tree in
    let top = c.args.prefix.now ++ drop c.args.passed h.1 in
    let put = c.take_contents-value.ensures.node in
    let within = node_within c.args.arena.now c.args.id h.0 h.1 h.2 h.3 h.4 h.6 in
    let written = written_reads c.args.arena.now.nodes.items _ c.args.id _ within put.2 in
    let is = node_read c.args.arena.now c.args.id h.0 h.1 h.2 h.3 h.4 h.6 put.0 put.1 in
    let bare = bare_is c.args.arena.now c.args.id h.0 h.1 h.2 h.3 h.4 h.6 top put.0 is _ put.2 in
    let rest = c.behind-rest.ensures ∙ ap (drop c.args.passed) (c.label.ensures _ written ∙ ap (λ m. m.label) is) in
    let child = c.child-child.ensures.node put.0 put.1 ∙ ap (λ m. m.child) is in
    let value = put.3 ∙ ap (λ m. m.value) is in
    let to = c.push_joined.ensures.items ∙ rw (c.requires.empty, rest, child, value, c.none.ensures) refl in
    let laid = laid_top c.args.arena.now c.args.id h.0 h.1 h.2 h.3 h.4 h.6 top _ bare _ to in (
      h.0,
      h.1,
      None,
      h.4,
      h.5,
      emptied c.args.arena.now c.args.id h.0 h.1 h.2 h.3 h.4 h.6
          top _ c.relocate_descendants.new.self bare refl refl
          (c.relocate_descendants.ensures.taken _ laid),
    )

pub returns-clause-moves : goal.returns-clause-moves
returns-clause-moves g c fs l v child d at h =
    let top = c.args.prefix.now ++ drop c.args.passed l in
    let put = c.take_contents-value.ensures.node in
    let within = node_within c.args.arena.now c.args.id fs l v child d h in
    let written = written_reads c.args.arena.now.nodes.items _ c.args.id _ within put.2 in
    let is = node_read c.args.arena.now c.args.id fs l v child d h put.0 put.1 in
    let bare = bare_is c.args.arena.now c.args.id fs l v child d h top put.0 is _ put.2 in
    let rest = c.behind-rest.ensures ∙ ap (drop c.args.passed) (c.label.ensures _ written ∙ ap (λ m. m.label) is) in
    let first = c.child-child.ensures.node put.0 put.1 ∙ ap (λ m. m.child) is in
    let value = put.3 ∙ ap (λ m. m.value) is in
    let to = c.push_joined.ensures.items ∙ rw (c.requires.empty, rest, first, value, c.none.ensures) refl in
    let laid = laid_top c.args.arena.now c.args.id fs l v child d h top _ bare _ to in
    let gone = emptied c.args.arena.now c.args.id fs l v child d h top _
    c.relocate_descendants.new.self bare refl refl
    (c.relocate_descendants.ensures.taken _ laid) in
    let q = c.relocate_descendants.ensures.laid _ laid in (
      (c.unlink-none.ensures.unlinks fs l None d at gone).0,
      (q.0, ([], rw (c.some.ensures, c.new.ensures, c.none-2.ensures) q.1), q.2),
    )
