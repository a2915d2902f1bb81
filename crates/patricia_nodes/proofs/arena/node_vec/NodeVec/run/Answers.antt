use Rattle.std.proofs.Common.{arith}
use Rattle.patricia_nodes.proofs.NodeVecLemmas.{run_asked, run_given}
use Rattle.patricia_nodes.proofs.arena.node_vec.NodeVec.run.Goals as goal

pub run-requires : goal.run-requires
run-requires g c = record {
  within = run_asked c.self.inside.store c.args.self.now c.self.view_is c.args.b _ c.args.id c.index.ensures c.requires.within;
}

pub returns-clause-run : goal.returns-clause-run
returns-clause-run g c =
    rw c.new.ensures
    (run_given c.self.inside.store c.args.self.now c.self.view_is c.args.b _ c.args.id c.index.ensures c.requires.within _ c.run.ensures.passes)

pub returns-clause-few : goal.returns-clause-few
returns-clause-few g c =
    let within = run_asked c.self.inside.store c.args.self.now c.self.view_is c.args.b _ c.args.id c.index.ensures c.requires.within _ c.run.ensures.passes in
    omega (arith, within, c.len-few.ensures.value, c.len-few.ensures.few, c.new.ensures)
