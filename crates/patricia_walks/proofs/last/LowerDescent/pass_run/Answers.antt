use Rattle.std.proofs.Common.{◌≢◌, [], ap, length, drop, arith}
use Rattle.patricia_walks.proofs.AlongLemmas.{rest_is}
use Rattle.patricia_walks.proofs.LowerLemmas.{passes_none, passes_behind, lower_run_within}
use Rattle.patricia_walks.proofs.last.LowerDescent.pass_run.Goals as goal

pub slice_bounds-rest-count : goal.slice_bounds-rest-count
slice_bounds-rest-count g c = c.requires.descent.front.0

pub slice_bounds-rest-start : goal.slice_bounds-rest-start
slice_bounds-rest-start g c = c.requires.descent.front.0

pub run-id-requires : goal.run-id-requires
run-id-requires g c =
    let d = c.args.self.now in
    let key = c.args.key.now in
    let some : drop d.len key ≢ [] = λ none. grind (arith, ap length none, rw rest_is at c.is_empty.ensures, c.if-is_empty.false) in
    record {
      within = λ to run. lower_run_within g.K.Bytes.item g.met.K.Bytes.lawful key d c.args.first to c.requires.descent c.requires.next some (rw rest_is at run);
    }

pub some-self-requires : goal.some-self-requires
some-self-requires g c = omega (arith, c.run-id.ensures.few)

pub returns-then-is_empty-clause-passes : goal.returns-then-is_empty-clause-passes
returns-then-is_empty-clause-passes g c = passes_none g.K.Bytes.item c.args.key.now c.args.self.now c.requires.descent

pub returns-then-index-clause-passes : goal.returns-then-index-clause-passes
returns-then-index-clause-passes g c = passes_none g.K.Bytes.item c.args.key.now c.args.self.now c.requires.descent

pub returns-clause-passes : goal.returns-clause-passes
returns-clause-passes g c =
    let d = c.args.self.now in
    let key = c.args.key.now in
    let some : drop d.len key ≢ [] = λ none. grind (arith, ap length none, rw rest_is at c.is_empty.ensures, c.if-is_empty.false) in
    let run = rw rest_is at c.run-id.ensures.run in
    rw (c.some-self.ensures, c.new.ensures, c.index-3.ensures) (passes_behind g.K.Bytes.item g.met.K.Bytes.lawful key d c.args.first c.run-id.result c.requires.descent c.requires.next some run
    (grind (arith, run.forward, c.index.ensures, c.index-2.ensures, c.if-index.false)))
