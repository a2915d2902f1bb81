use Rattle.std.proofs.Common.{ap, ◌*◌, ◌<◌, ◌≤◌, arith}
use Rattle.std.proofs.lemmas.Bool.Decides.{nat_tests}
use Rattle.patricia_store.proofs.StoreLemmas.{in_heads, run_more, reads_less, reads_no_less}
use Rattle.patricia_store.proofs.store.Store.run.Goals as goal

pub index-requires : goal.index-requires
index-requires g c =
    in_heads c.self.inside.heads c.self.inside.bodies c.self.inside.labels.items c.self.invariant c.args.self.now.items (ap (λ s. s.items) c.self.view_is)
    c.loop-self.at (c.requires.within c.loop-self.at c.loop-self.invariant)

pub overflow_add-at : goal.overflow_add-at
overflow_add-at g c =
    let within = in_heads c.self.inside.heads c.self.inside.bodies c.self.inside.labels.items c.self.invariant c.args.self.now.items (ap (λ s. s.items) c.self.view_is)
    c.loop-self.at (c.requires.within c.loop-self.at c.loop-self.invariant) in
    omega (arith, within, c.self.inside.heads.ok.0, c.self.invariant.few)

pub loop-self-smaller : goal.loop-self-smaller
loop-self-smaller g c =
    omega (arith, c.requires.within c.loop-self.at c.loop-self.invariant)

pub loop-self-preserved : goal.loop-self-preserved
loop-self-preserved g c =
    let at = c.loop-self.at in
    let less : c.index.result.now.word < 128 * c.args.b = grind (arith, nat_tests, c.is_before.ensures, c.loop-self-test.true) in
    run_more c.args.self.now c.args.b c.args.id at c.loop-self.invariant
    (λ n reads. reads_less c.self.inside.heads c.self.inside.bodies c.self.inside.labels.items c.self.invariant c.args.self.now.items (ap (λ s. s.items) c.self.view_is)
    at (c.requires.within at c.loop-self.invariant) c.index.result.now c.index.ensures n reads c.args.b c.ranges.b.fits less)

pub returns-clause-ends : goal.returns-clause-ends
returns-clause-ends g c n reads =
    let at = c.loop-self.at in
    let past : 128 * c.args.b ≤ c.index.result.now.word = grind (arith, nat_tests, c.is_before.ensures, c.loop-self-test.false) in
    reads_no_less c.self.inside.heads c.self.inside.bodies c.self.inside.labels.items c.self.invariant c.args.self.now.items (ap (λ s. s.items) c.self.view_is)
    at (c.requires.within at c.loop-self.invariant) c.index.result.now c.index.ensures n reads c.args.b past
