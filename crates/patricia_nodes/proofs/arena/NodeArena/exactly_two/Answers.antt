use Rattle.std.proofs.Common.{sym, ◌∙◌}
use Rattle.patricia_nodes.proofs.SeekLemmas.{head_within}
use Rattle.patricia_nodes.proofs.AloneLemmas.{second_within, pair_is, pair_not}
use Rattle.patricia_nodes.proofs.NodeVecLemmas.{node_there}
use Rattle.patricia_nodes.proofs.arena.NodeArena.exactly_two.Goals as goal

pub sibling-requires : goal.sibling-requires
sibling-requires g c =
    head_within _ _ _ _ c.requires.1 (sym c.get.ensures ∙ c.in-Some.is)

pub sibling-requires-2 : goal.sibling-requires-2
sibling-requires-2 g c =
    let is = sym c.get.ensures ∙ c.in-Some.is in
    let there = node_there _ _ (head_within _ _ _ _ c.requires.1 is) in
    let next = sym (c.sibling.ensures.node _ there.1) ∙ sym c.get-2.ensures ∙ c.in-Some-get.is in
    second_within c.requires.1 is there.1 next

pub returns-in-None : goal.returns-in-None
returns-in-None g c p w =
    let is = sym c.get.ensures ∙ c.in-Some.is in
    let there = node_there _ _ (head_within _ _ _ _ w is) in
    let next = sym (c.sibling.ensures.node _ there.1) ∙ sym c.get-2.ensures ∙ c.in-Some-get.is in
    let second = node_there _ _ (second_within w is there.1 next) in
    let last = sym (c.sibling-2.ensures.node _ second.1) ∙ sym c.get-3.ensures ∙ c.in-None.is in
    pair_is w is there.1 next second.1 last

pub returns-in-Some-get-2 : goal.returns-in-Some-get-2
returns-in-Some-get-2 g c p w =
    let is = sym c.get.ensures ∙ c.in-Some.is in
    let there = node_there _ _ (head_within _ _ _ _ w is) in
    let next = sym (c.sibling.ensures.node _ there.1) ∙ sym c.get-2.ensures ∙ c.in-Some-get.is in
    let second = node_there _ _ (second_within w is there.1 next) in
    let more = sym (c.sibling-2.ensures.node _ second.1) ∙ sym c.get-3.ensures ∙ c.in-Some-get-2.is in
    pair_not w is there.1 next second.1 more
