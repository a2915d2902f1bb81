use Rattle.std.proofs.Common.{refl, sym, ap, ◌∙◌, arith, slice_get}
use Rattle.std.proofs.lemmas.List.{nil_from_length}
use Rattle.patricia_edits.proofs.PruneGoneLemmas.{entry_place, entry_popped, entry_above, entry_gone, entry_stays}
use Rattle.patricia_edits.proofs.PruneGoneLemmas.{entry_laid}
use Rattle.patricia_edits.proofs.pruning.Pruning.remove.Goals as goal

pub unreachable-requires : goal.unreachable-requires
unreachable-requires g c =
    let h = c.requires.entry.3 in
    entry_above g.met.K.Bytes.lawful c.args.arena.now c.requires.siblings h
    (nil_from_length c.args.self.now.above.items (omega (arith, rw c.in_default.is at c.pop.ensures.cases)))

pub remove_linked-requires : goal.remove_linked-requires
remove_linked-requires g c =
    let kind = g.met.K.Bytes.lawful in
    let s = c.args.arena.now in
    let ok = c.requires.siblings in
    let h = c.requires.entry.3 in
    let gone = c.in-Some.gone in
    let is = (entry_popped kind s ok h c.pop.new.self.items gone c.in-Some.ensures.items).1 in
    record {
      ready = record {
        whole = c.requires.whole;
        canonical = ok;
        key = c.args.self.now.path.items;
        is_place = entry_place kind s ok h gone.at.link_ref gone.at.id (ap (λ u. u.at.link_ref) is) (ap (λ u. u.at.id) is);
      };
    }

pub settle-requires-clause-whole : goal.settle-requires-clause-whole
settle-requires-clause-whole g c =
    let kind = g.met.K.Bytes.lawful in
    let s = c.args.arena.now in
    let ok = c.requires.siblings in
    let h = c.requires.entry.3 in
    let gone = c.in-Some.gone in
    let is = (entry_popped kind s ok h c.pop.new.self.items gone c.in-Some.ensures.items).1 in
    (c.in-Ok.ensures.ok c.args.self.now.path.items
    (entry_place kind s ok h gone.at.link_ref gone.at.id (ap (λ u. u.at.link_ref) is) (ap (λ u. u.at.id) is))).whole

pub settle-requires-clause-gone : goal.settle-requires-clause-gone
settle-requires-clause-gone g c =
    let kind = g.met.K.Bytes.lawful in
    let s = c.args.arena.now in
    let ok = c.requires.siblings in
    let h = c.requires.entry.3 in
    let gone = c.in-Some.gone in
    let popped = entry_popped kind s ok h c.pop.new.self.items gone c.in-Some.ensures.items in
    let place = entry_place kind s ok h gone.at.link_ref gone.at.id (ap (λ u. u.at.link_ref) popped.1) (ap (λ u. u.at.id) popped.1) in (
      h.outer,
      c.requires.entry.2,
      entry_gone kind s ok h c.remove_linked.new.arena (record c.args.self.now { above = c.pop.new.self }) gone popped.1
          refl popped.0 c.pop.ensures.capacity (c.in-Ok.ensures.ok c.args.self.now.path.items place),
      (c.in-Ok.ensures.around c.args.self.now.path.items place).0,
    )

pub returns-in-Ok-clause-removed : goal.returns-in-Ok-clause-removed
returns-in-Ok-clause-removed g c =
    let kind = g.met.K.Bytes.lawful in
    let s = c.args.arena.now in
    let ok = c.requires.siblings in
    let h = c.requires.entry.3 in
    let gone = c.in-Some.gone in
    let is = (entry_popped kind s ok h c.pop.new.self.items gone c.in-Some.ensures.items).1 in
    c.in-Ok.ensures.ok c.args.self.now.path.items
    (entry_place kind s ok h gone.at.link_ref gone.at.id (ap (λ u. u.at.link_ref) is) (ap (λ u. u.at.id) is))

pub returns-in-Ok-clause-left : goal.returns-in-Ok-clause-left
returns-in-Ok-clause-left g c id value left h =
    let kind = g.met.K.Bytes.lawful in
    let s = c.args.arena.now in
    let ok = c.requires.siblings in
    let gone = c.in-Some.gone in
    let popped = entry_popped kind s ok h c.pop.new.self.items gone c.in-Some.ensures.items in
    let place = entry_place kind s ok h gone.at.link_ref gone.at.id (ap (λ u. u.at.link_ref) popped.1) (ap (λ u. u.at.id) popped.1) in
    c.settle.ensures.left h.outer left
    (entry_gone kind s ok h c.remove_linked.new.arena (record c.args.self.now { above = c.pop.new.self }) gone popped.1
    refl popped.0 c.pop.ensures.capacity (c.in-Ok.ensures.ok c.args.self.now.path.items place))
    (c.in-Ok.ensures.around c.args.self.now.path.items place).0

pub returns-in-Ok-clause-value : goal.returns-in-Ok-clause-value
returns-in-Ok-clause-value g c id value left h =
    let kind = g.met.K.Bytes.lawful in
    let s = c.args.arena.now in
    let ok = c.requires.siblings in
    let gone = c.in-Some.gone in
    let is = (entry_popped kind s ok h c.pop.new.self.items gone c.in-Some.ensures.items).1 in
    c.in-Ok.ensures.value _ (ap (λ u. slice_get s.nodes.items u.at.id) is ∙ entry_laid kind s ok h c.requires.whole)

pub returns-in-Err-clause-stands : goal.returns-in-Err-clause-stands
returns-in-Err-clause-stands g c id value left h =
    let kind = g.met.K.Bytes.lawful in
    let s = c.args.arena.now in
    let ok = c.requires.siblings in
    entry_stays kind s ok h c.remove_linked.new.arena (record c.args.self.now { above = c.push_reserved.new.self })
    c.in-Err.ensures.unchanged refl refl refl refl
    (c.push_reserved.ensures.items ∙ sym c.in-Some.ensures.items) (c.push_reserved.ensures.capacity ∙ c.pop.ensures.capacity)

pub returns-in-Err-clause-joins : goal.returns-in-Err-clause-joins
returns-in-Err-clause-joins g c =
    let kind = g.met.K.Bytes.lawful in
    let s = c.args.arena.now in
    let ok = c.requires.siblings in
    let h = c.requires.entry.3 in
    let gone = c.in-Some.gone in
    let is = (entry_popped kind s ok h c.pop.new.self.items gone c.in-Some.ensures.items).1 in
    c.in-Err.ensures.joins c.args.self.now.path.items
    (entry_place kind s ok h gone.at.link_ref gone.at.id (ap (λ u. u.at.link_ref) is) (ap (λ u. u.at.id) is))
