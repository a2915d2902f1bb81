use Rattle.std.proofs.Common.{refl, sym, ◌∙◌, drop, subst}
use mathlib.Core.Bool.{false≢true}
use Rattle.patricia_model.proofs.GetLemmas.{find_own, find_child}
use Rattle.patricia_nodes.proofs.NodeVecLemmas.{node_there}
use Rattle.patricia_nodes.specs.Internal.Plans.{siblings_of}
use Rattle.patricia_many.specs.Internal.Lookups.{EndsAt, IsAt}
use Rattle.patricia_many.proofs.lookup.Lookup.value.Goals as goal

pub returns-then-is_empty : goal.returns-then-is_empty
returns-then-is_empty g c = rw (c.if-is_empty.ensures.0 refl)
    (sym (find_own g.Q.Owned.Bytes.item g.met.Q.Owned.Bytes.lawful _ (siblings_of c.args.arena.now) c.requires.siblings))

pub value-requires : goal.value-requires
value-requires g c =
    let s = c.args.arena.now in
    let key = g.Q.BorrowedBytes.key c.args.key in
    let ended = subst (λ a. IsAt g.Q.Owned.Bytes.item s key a (drop c.args.self.now.passed key) c.args.self.now.end) c.requires.ended c.requires.key in
    let here = subst (EndsAt g.Q.Owned.Bytes.item s key) (sym c.get.ensures ∙ c.in-Some.is) ended in
    here.0

pub returns-in-Some : goal.returns-in-Some
returns-in-Some g c =
    let s = c.args.arena.now in
    let key = g.Q.BorrowedBytes.key c.args.key in
    let ended = subst (λ a. IsAt g.Q.Owned.Bytes.item s key a (drop c.args.self.now.passed key) c.args.self.now.end) c.requires.ended c.requires.key in
    let here = subst (EndsAt g.Q.Owned.Bytes.item s key) (sym c.get.ensures ∙ c.in-Some.is) ended in
    let there = node_there s.nodes.items c.in-Some.id here.0 in
    c.value.ensures there.0 there.1 ∙ here.1 there.0 there.1
    ∙ sym (find_child g.Q.Owned.Bytes.item g.met.Q.Owned.Bytes.lawful key _ (siblings_of s) (λ none. absurd (false≢true (c.if-is_empty.ensures.1 none))))

pub returns-in-None : goal.returns-in-None
returns-in-None g c =
    let s = c.args.arena.now in
    let key = g.Q.BorrowedBytes.key c.args.key in
    let ended = subst (λ a. IsAt g.Q.Owned.Bytes.item s key a (drop c.args.self.now.passed key) c.args.self.now.end) c.requires.ended c.requires.key in
    let here = subst (EndsAt g.Q.Owned.Bytes.item s key) (sym c.get.ensures ∙ c.in-None.is) ended in
    sym here
    ∙ sym (find_child g.Q.Owned.Bytes.item g.met.Q.Owned.Bytes.lawful key _ (siblings_of s) (λ none. absurd (false≢true (c.if-is_empty.ensures.1 none))))
