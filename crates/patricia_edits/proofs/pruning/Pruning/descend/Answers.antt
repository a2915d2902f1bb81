use Rattle.std.proofs.Common.{◌≡◌, ℕ, List, ◌++◌, length, length-append, refl, ap, ◌∙◌, arith, if◌then◌else◌}
use Rattle.std.specs.Prelude.{Result, Ok, Err, IsOk, is_ok}
use Rattle.patricia_nodes.specs.declared.arena.seek.LinkRef.TheVariants.{Child}
use Rattle.patricia_nodes.proofs.NodeVecLemmas.{node_there}
use Rattle.patricia_edits.proofs.PruneStepLemmas.{down_within, down_fits, goes_down, fewer_down}
use Rattle.patricia_edits.proofs.pruning.Pruning.descend.Goals as goal

-- what was put behind a list, where there was room
extended : {A E : Type 0} (r : Result A E) (new xs ys : List ℕ) → IsOk r
    → new ≡ (if is_ok r then xs ++ ys else xs) → new ≡ xs ++ ys
extended (Ok x) new xs ys ok is = is
extended (Err e) new xs ys ok is = absurd (cc)

pub label-requires : goal.label-requires
label-requires g c = down_within c.args.arena.now c.requires.whole c.requires.left.1 c.args.id c.requires.next

pub child-self-requires : goal.child-self-requires
child-self-requires g c = down_within c.args.arena.now c.requires.whole c.requires.left.1 c.args.id c.requires.next

pub push_reserved-requires : goal.push_reserved-requires
push_reserved-requires g c =
    let s = c.args.arena.now in
    let h = c.requires.left.1 in
    let there = node_there s.nodes.items c.args.id (down_within s c.requires.whole h c.args.id c.requires.next) in
    let fits = down_fits s c.requires.whole h c.args.id c.requires.next there.1 g.K.Bytes.item g.met.K.Bytes.lawful c.requires.siblings in
    omega (arith, fits.1, ap length h.at.above_is)

pub returns-clause-left : goal.returns-clause-left
returns-clause-left g c left h n reads =
    let s = c.args.arena.now in
    let label = c.label.ensures n reads in
    let fits = down_fits s c.requires.whole h c.args.id c.requires.next reads g.K.Bytes.item g.met.K.Bytes.lawful c.requires.siblings in
    let kept = extended c.extend_from_slice-kept.result c.extend_from_slice-kept.new.self.items c.truncate.new.self.items c.label.result.now
    (c.extend_from_slice-kept.ensures.succeeds
    (omega (arith, fits.0, ap length label, c.truncate.ensures.len, c.truncate.ensures.capacity, h.at.front_is, ap length h.at.path_is, length-append {A = ℕ})))
    c.extend_from_slice-kept.ensures.items in
    goes_down s c.requires.whole h c.args.id c.requires.next reads
    (record {
      link_ref = Child c.args.id;
      next = c.child-self.result;
      front = c.len-self.result;
      path = c.extend_from_slice-kept.new.self;
      above = c.push_reserved.new.self;
    })
    (rw (← label) (kept ∙ ap (λ l. l ++ c.label.result.now) c.truncate.ensures.items))
    (omega (arith, c.truncate.ensures.capacity, c.extend_from_slice-kept.ensures.capacity))
    c.push_reserved.ensures.items c.push_reserved.ensures.capacity refl
    (c.child-self.ensures.node n reads) (omega (arith, c.len-self.ensures))

pub returns-clause-fewer : goal.returns-clause-fewer
returns-clause-fewer g c =
    let s = c.args.arena.now in
    let h = c.requires.left.1 in
    let there = node_there s.nodes.items c.args.id (down_within s c.requires.whole h c.args.id c.requires.next) in
    fewer_down s c.requires.whole h c.args.id c.requires.next there.1
    (record {
      link_ref = Child c.args.id;
      next = c.child-self.result;
      front = c.len-self.result;
      path = c.extend_from_slice-kept.new.self;
      above = c.push_reserved.new.self;
    })
    c.push_reserved.ensures.items (c.child-self.ensures.node there.0 there.1)
