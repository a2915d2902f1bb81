use Rattle.std.proofs.Common.{arith, subst}
use Rattle.prefixes_core.proofs.LongestLemmas.{IsLongestKey, longest_part, no_part}
use Rattle.prefixes_core.proofs.NameLemmas.{blocks, passes, front_short, host_key}
use Rattle.prefixes_core.proofs.blocking.BlockList.find_by_key.Goals as goal

pub split_at-requires : goal.split_at-requires
split_at-requires c =
    let keys = c.self.inside.keys in
    let long = longest_part keys c.args.key.now c.in_ok-front.front.now
    c.in_ok-front.ensures.longest in
    let long' = subst (λ k. IsLongestKey keys k c.in_ok-front.front.now) c.requires long in
    let short = front_short keys c.self.invariant c.args.host.now c.in_ok-front.front.now long' in
    let size = host_key c.args.key.now c.args.host.now c.requires in
    omega (arith, short.0, short.1, size)

pub returns-clause-blocked : goal.returns-clause-blocked
returns-clause-blocked c =
    let keys = c.self.inside.keys in
    let front = c.in_ok-front.front.now in
    let host = c.args.host.now in
    let long = longest_part keys c.args.key.now front c.in_ok-front.ensures.longest in
    let long' = subst (λ k. IsLongestKey keys k front) c.requires long in
    let short = front_short keys c.self.invariant host front long' in
    let size = host_key c.args.key.now host c.requires in
    rw (c.split_at.ensures.back, ← c.self.view_is) (blocks keys c.self.invariant host front long' _
    (omega (arith, short.0, size)))

pub returns-in_err-front-clause-passes : goal.returns-in_err-front-clause-passes
returns-in_err-front-clause-passes c =
    let keys = c.self.inside.keys in
    let none = no_part keys c.args.key.now c.in_err-front.ensures.longest in
    rw (c.from_residual.ensures, ← c.self.view_is)
    (passes keys c.self.invariant c.args.host.now (λ q listed begun. none q listed
    (rw c.requires begun)))
