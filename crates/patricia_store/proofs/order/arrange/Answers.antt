use Rattle.std.proofs.Common.{◌≡◌, min, take, length, ap, ◌∙◌, arith}
use Rattle.std.proofs.lemmas.List.{take_at}
use Rattle.patricia_store.proofs.InterleaveLemmas.{first_numbers, inverse_within, all_gathered, first_gathered}
use Rattle.patricia_store.proofs.order.arrange.Goals as goal
use Rattle.patricia_store.proofs.order.arrange.Goals.{then-room-len-2, else-room-len-2}

pub interleave-requires-clause-numbers : goal.interleave-requires-clause-numbers
interleave-requires-clause-numbers g c =
    let many : length c.args.order.items ≡ c.len-len.result = omega (arith, c.requires.heads, c.len-len.ensures) in
    rw (c.truncate.ensures.items, ← many) (first_numbers c.args.order.items c.args.places.items c.requires.inverse c.min-first.result)

pub interleave-requires-else-room-len-2-clause-numbers :
    goal.interleave-requires-else-room-len-2-clause-numbers
interleave-requires-else-room-len-2-clause-numbers g c =
    let many : length c.args.order.items ≡ c.len-len.result = omega (arith, c.requires.heads, c.len-len.ensures) in
    rw (c.copy_from_slice.ensures.items, c.as_slice.ensures.value, c.truncate.ensures.items, ← many)
    (first_numbers c.args.order.items c.args.places.items c.requires.inverse c.min-first.result)

pub returns-clause-heads : goal.returns-clause-heads
returns-clause-heads g c =
    let old = c.args.heads.now in
    let first = c.min-first.result in
    let least : first ≡ min c.args.used (length old.items) = omega (arith, c.min-first.ensures, c.len-len.ensures, old.ok.0) in
    elim c.if-room-len-2.branch [
      | then-room-len-2 w ↦
          all_gathered c.args.used first c.args.order.items old.items w.permute.new.heads.items c.truncate-2.new.self.items least
          w.permute.ensures.heads (c.truncate-2.ensures.items ∙ ap (λ v. take first v.items) w.heads-is)
      | else-room-len-2 w ↦
          let longer = w.fill.new.heads in
          let all : length w.interleave.new.items ≡ longer.len = omega (arith, w.interleave.ensures.long, ap length w.as_mut_slice.ensures.value, longer.ok.0) in
          first_gathered c.args.used first c.args.order.items old.items longer.items w.interleave.new.items c.truncate-2.new.self.items least
          (rw (w.truncate.ensures.items, w.as_mut_slice.ensures.value) at w.interleave.ensures) w.fill.ensures.heads
          (λ i id e. omega (arith, inverse_within c.args.order.items c.args.places.items c.requires.inverse i id e, c.requires.heads, old.ok.0))
          (c.requires.heads ∙ old.ok.0)
          (omega (arith, w.fill.ensures.heads_len, c.len-len.ensures, old.ok.0, longer.ok.0))
          (c.truncate-2.ensures.items ∙ ap (λ v. take first v.items) w.heads-is ∙ ap (take first) (take_at w.interleave.new.items _ longer.len all))
    ]

pub returns-clause-bodies : goal.returns-clause-bodies
returns-clause-bodies g c =
    let old = c.args.bodies.now in
    let first = c.min-first.result in
    let least : first ≡ min c.args.used (length old.items) = omega (arith, c.min-first.ensures, c.len-len.ensures, c.requires.heads, c.requires.bodies, old.ok.0) in
    elim c.if-room-len-2.branch [
      | then-room-len-2 w ↦
          all_gathered c.args.used first c.args.order.items old.items w.permute.new.bodies.items c.truncate-3.new.self.items least
          w.permute.ensures.bodies (c.truncate-3.ensures.items ∙ ap (λ v. take first v.items) w.bodies-is)
      | else-room-len-2 w ↦
          let longer = w.fill.new.bodies in
          let merged = w.interleave-else-room-len-2 in
          let all : length merged.new.items ≡ longer.len = omega (arith, merged.ensures.long, ap length w.as_mut_slice-else-room-len-2.ensures.value, longer.ok.0) in
          first_gathered c.args.used first c.args.order.items old.items longer.items merged.new.items c.truncate-3.new.self.items least
          (rw (w.copy_from_slice.ensures.items, w.as_slice.ensures.value, w.truncate.ensures.items, w.as_mut_slice-else-room-len-2.ensures.value) at merged.ensures)
          w.fill.ensures.bodies
          (λ i id e. omega (arith, inverse_within c.args.order.items c.args.places.items c.requires.inverse i id e, c.requires.bodies, old.ok.0))
          (c.requires.bodies ∙ old.ok.0)
          (omega (arith, w.fill.ensures.bodies_len, c.len-len.ensures, c.requires.heads, c.requires.bodies, old.ok.0, longer.ok.0))
          (c.truncate-3.ensures.items ∙ ap (λ v. take first v.items) w.bodies-is ∙ ap (take first) (take_at merged.new.items _ longer.len all))
    ]
