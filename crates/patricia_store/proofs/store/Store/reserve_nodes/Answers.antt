use Rattle.std.proofs.Common.{◌≡◌, length, sym, ap, ◌∙◌, arith}
use Rattle.patricia_store.proofs.StoreLemmas.{as_many, as_many_bodies, length-nodes}
use Rattle.patricia_store.proofs.store.Store.reserve_nodes.Goals as goal

pub returns-then-nodes-len-clause-succeeds : goal.returns-then-nodes-len-clause-succeeds
returns-then-nodes-len-clause-succeeds g c nodes =
    let many = as_many c.self.inside.heads c.self.inside.bodies c.self.inside.labels.items c.self.invariant c.args.self.now.items (ap (λ s. s.items) c.self.view_is) in
    absurd (omega (arith, nodes, many, c.if-nodes-len.true, ap (λ s. s.capacity) c.self.view_is))

pub returns-in_err-reserve_exact-clause-succeeds : goal.returns-in_err-reserve_exact-clause-succeeds
returns-in_err-reserve_exact-clause-succeeds g c nodes =
    let many = as_many c.self.inside.heads c.self.inside.bodies c.self.inside.labels.items c.self.invariant c.args.self.now.items (ap (λ s. s.items) c.self.view_is) in
    absurd (omega (arith, nodes, many, c.in_err-reserve_exact.ensures.full, ap (λ s. s.capacity) c.self.view_is))

pub returns-in_err-reserve_exact-2-clause-succeeds : goal.returns-in_err-reserve_exact-2-clause-succeeds
returns-in_err-reserve_exact-2-clause-succeeds g c nodes =
    let many = as_many_bodies c.self.inside.heads c.self.inside.bodies c.self.inside.labels.items c.self.invariant c.args.self.now.items (ap (λ s. s.items) c.self.view_is) in
    absurd (omega (arith, nodes, many, c.in_err-reserve_exact-2.ensures.full, ap (λ s. s.capacity) c.self.view_is))

pub returns-clause-nodes : goal.returns-clause-nodes
returns-clause-nodes g c =
    let hs = c.reserve_exact.new.self in
    let bs = c.reserve_exact-2.new.self in
    let long : length bs.items ≡ length hs.items =
    ap length c.reserve_exact-2.ensures.items ∙ c.self.invariant.long ∙ sym (ap length c.reserve_exact.ensures.items) in
    let many = length-nodes hs.items bs.items c.self.inside.labels.items long in
    omega (arith, many, hs.ok.0, bs.ok.0, long, c.in_ok-reserve_exact.ensures.ok, c.in_ok-reserve_exact-2.ensures.ok, c.reserve_exact.ensures.len, c.if-nodes-len.false, c.len.ensures, c.self.invariant.few, c.self.inside.heads.ok.0)

pub returns-in_err-reserve_exact-2-clause-same_capacity : goal.returns-in_err-reserve_exact-2-clause-same_capacity
returns-in_err-reserve_exact-2-clause-same_capacity g c fit =
    let heads = as_many c.self.inside.heads c.self.inside.bodies c.self.inside.labels.items c.self.invariant c.args.self.now.items (ap (λ s. s.items) c.self.view_is) in
    let bodies = as_many_bodies c.self.inside.heads c.self.inside.bodies c.self.inside.labels.items c.self.invariant c.args.self.now.items (ap (λ s. s.items) c.self.view_is) in
    omega (arith, fit, heads, bodies, c.in_ok-reserve_exact.ensures.capacity_exact, c.in_err-reserve_exact-2.ensures.err, ap (λ s. s.capacity) c.self.view_is)

pub returns-clause-same_capacity : goal.returns-clause-same_capacity
returns-clause-same_capacity g c fit =
    let heads = as_many c.self.inside.heads c.self.inside.bodies c.self.inside.labels.items c.self.invariant c.args.self.now.items (ap (λ s. s.items) c.self.view_is) in
    let bodies = as_many_bodies c.self.inside.heads c.self.inside.bodies c.self.inside.labels.items c.self.invariant c.args.self.now.items (ap (λ s. s.items) c.self.view_is) in
    omega (arith, fit, heads, bodies, c.in_ok-reserve_exact.ensures.capacity_exact, c.in_ok-reserve_exact-2.ensures.capacity_exact, ap (λ s. s.capacity) c.self.view_is)
