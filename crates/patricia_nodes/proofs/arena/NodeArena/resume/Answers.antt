use Rattle.std.proofs.Common.{◌≡◌, ◌∷◌, [], reverse, refl, sym, ap, ◌∙◌, arith, append-nil}
use Rattle.std.proofs.lemmas.List.{reverse-append}
use Rattle.patricia_nodes.specs.declared.arena.seek.LinkRef.TheVariants.{Root}
use Rattle.patricia_nodes.proofs.ResumeLemmas.{comes_first, comes_there, trail_within, trail_short}
use Rattle.patricia_nodes.proofs.ResumeLemmas.{empty_or, trail_valid}
use Rattle.patricia_nodes.proofs.arena.NodeArena.resume.Goals as goal

pub linked_at-at-requires-clause-within : goal.linked_at-at-requires-clause-within
linked_at-at-requires-clause-within g c =
    let back = ap reverse c.in-Some.ensures.items ∙ reverse-append c.pop.new.self.items ((c.in-Some.link_ref, c.in-Some.end) ∷ []) in
    trail_within c.requires.whole c.requires.siblings c.requires.trail back

pub strip_n_prefix-rest-requires-clause-within : goal.strip_n_prefix-rest-requires-clause-within
strip_n_prefix-rest-requires-clause-within g c =
    let back = ap reverse c.in-Some.ensures.items ∙ reverse-append c.pop.new.self.items ((c.in-Some.link_ref, c.in-Some.end) ∷ []) in
    omega (arith, trail_short c.requires.whole c.requires.siblings c.requires.trail back)

pub strip_n_prefix-rest-requires-clause-valid : goal.strip_n_prefix-rest-requires-clause-valid
strip_n_prefix-rest-requires-clause-valid g c =
    let back = ap reverse c.in-Some.ensures.items ∙ reverse-append c.pop.new.self.items ((c.in-Some.link_ref, c.in-Some.end) ∷ []) in
    trail_valid c.requires.whole c.requires.siblings c.requires.trail back

pub returns-in-None : goal.returns-in-None
returns-in-None g c =
    let none = empty_or c.args.trail.now.items
    (λ some. absurd (let full = sym c.in-None.is ∙ c.pop.ensures.value (Root, 0) (omega (arith, some, c.args.trail.now.ok.0)) in cc)) in
    let left : c.pop.new.self.items ≡ [] = sym (append-nil c.pop.new.self.items) ∙ sym c.in-None.ensures.items ∙ none in
    comes_first c.requires.whole (ap reverse left) c.requires.nonempty

pub returns-in-Some : goal.returns-in-Some
returns-in-Some g c =
    let back = ap reverse c.in-Some.ensures.items ∙ reverse-append c.pop.new.self.items ((c.in-Some.link_ref, c.in-Some.end) ∷ []) in
    comes_there c.requires.whole c.requires.siblings c.requires.trail back c.linked_at-at.result c.linked_at-at.ensures
    (g.Q.BorrowedBytes.key c.strip_n_prefix-rest.result) c.strip_n_prefix-rest.ensures c.pop.new.self.items refl
