use Rattle.std.proofs.Common.{◌≡◌, sym, ap, subst, ◌∙◌, arith}
use Rattle.std.proofs.lemmas.List.{nil_from_length}
use Rattle.patricia_nodes.specs.declared.arena.seek.LinkRef.TheVariants.{Child, Sibling}
use Rattle.patricia_edits.specs.Internal.Removes.{RestsAround}
use Rattle.patricia_edits.proofs.PruneGoneLemmas.{gone_within, goes_there, some_above}
use Rattle.patricia_edits.proofs.PruneGoneLemmas.{upper_within, upper_link_within, goes_up, goes_past}
use Rattle.patricia_edits.proofs.pruning.Pruning.settle.Goals as goal

pub stand-requires : goal.stand-requires
stand-requires g c =
    let kept = subst (RestsAround c.requires.gone.0 c.args.arena.now) c.if-not-joined_above.true c.requires.gone.3 in
    record {
      whole = c.requires.whole;
      within = gone_within c.args.arena.now c.requires.whole c.requires.gone.2 kept;
    }

pub returns-then-not-joined_above-clause-left : goal.returns-then-not-joined_above-clause-left
returns-then-not-joined_above-clause-left g c outer left h rests =
    goes_there c.args.arena.now c.requires.whole h
    (subst (RestsAround outer c.args.arena.now) c.if-not-joined_above.true rests) c.stand.new.self
    c.stand.ensures.path c.stand.ensures.above
    (record { link_ref = c.stand.ensures.link_ref; next = c.stand.ensures.next; front = c.stand.ensures.front })

pub returns-in_default-clause-left : goal.returns-in_default-clause-left
returns-in_default-clause-left g c outer left h rests =
    absurd (some_above c.args.arena.now c.requires.whole h
    (subst (RestsAround outer c.args.arena.now) c.if-not-joined_above.false rests)
    (nil_from_length c.args.self.now.above.items (omega (arith, rw c.in_default.is at c.pop.ensures.cases))))

pub pass-requires : goal.pass-requires
pass-requires g c = record {
  within = upper_within c.args.arena.now c.requires.whole c.requires.gone.2
      (subst (RestsAround c.requires.gone.0 c.args.arena.now) c.if-not-joined_above.false c.requires.gone.3)
      c.pop.new.self.items c.in-Some.upper c.in-Some.ensures.items;
}

pub stand-requires-in_default-link_ref : goal.stand-requires-in_default-link_ref
stand-requires-in_default-link_ref g c = record {
  whole = c.requires.whole;
  within = upper_link_within c.args.arena.now c.requires.whole c.requires.gone.2
      (subst (RestsAround c.requires.gone.0 c.args.arena.now) c.if-not-joined_above.false c.requires.gone.3)
      c.pop.new.self.items c.in-Some.upper c.in-Some.ensures.items;
}

pub returns-in-Sibling-clause-left : goal.returns-in-Sibling-clause-left
returns-in-Sibling-clause-left g c outer left h rests =
    goes_past c.args.arena.now c.requires.whole h
    (subst (RestsAround outer c.args.arena.now) c.if-not-joined_above.false rests)
    c.pop.new.self.items c.in-Some.upper c.in-Some.ensures.items
    (λ id e. let both : Sibling c.in-Sibling.field-0 c.in-Sibling.field-1 ≡ Child id = sym c.in-Sibling.is ∙ e in cc)
    c.pass.new.self c.pass.ensures.path (ap (λ v. v.items) c.pass.ensures.above)
    (rw c.pass.ensures.above c.pop.ensures.capacity) c.pass.ensures.link_ref c.pass.ensures.next c.pass.ensures.front

pub returns-in_default-link_ref-clause-left : goal.returns-in_default-link_ref-clause-left
returns-in_default-link_ref-clause-left g c outer left h rests =
    goes_up c.args.arena.now c.requires.whole h
    (subst (RestsAround outer c.args.arena.now) c.if-not-joined_above.false rests)
    c.pop.new.self.items c.in-Some.upper c.in-Some.ensures.items
    c.in_default-link_ref.not-Sibling
    c.stand-in_default-link_ref.new.self c.stand-in_default-link_ref.ensures.path
    (ap (λ v. v.items) c.stand-in_default-link_ref.ensures.above)
    (rw c.stand-in_default-link_ref.ensures.above c.pop.ensures.capacity)
    (record {
      link_ref = c.stand-in_default-link_ref.ensures.link_ref;
      next = c.stand-in_default-link_ref.ensures.next;
      front = c.stand-in_default-link_ref.ensures.front;
    })
