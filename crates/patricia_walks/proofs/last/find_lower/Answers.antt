use Rattle.std.proofs.Common.{refl, ap, length, arith}
use Rattle.std.specs.Option.{option_copied}
use Rattle.std.proofs.lemmas.List.{nil_from_length}
use Rattle.patricia_nodes.specs.Internal.Plans.{siblings_of}
use Rattle.patricia_walks.proofs.LowerLemmas.{lower_none, front_start, siblings_start, last_start}
use Rattle.patricia_walks.proofs.last.find_lower.Goals as goal

pub returns-then-is_empty-clause-entry : goal.returns-then-is_empty-clause-entry
returns-then-is_empty-clause-entry g c =
    lower_none c.args.key.now (option_copied c.args.pending) (siblings_of c.args.arena.now)
    (nil_from_length c.args.key.now (grind (arith, c.is_empty.ensures, c.if-is_empty.true)))

pub loop-id-init : goal.loop-id-init
loop-id-init g c =
    let front = front_start g.K.Bytes.item c.args.key.now in
    record {
      descent = record {
        front = front;
        next_siblings = siblings_start g.K.Bytes.item c.args.arena.now c.requires.whole c.requires.siblings;
        found = c.put_value.ensures.found c.args.key.now c.args.arena.now.nodes.items front tt;
      };
      same = last_start c.args.key.now (option_copied c.args.pending) (siblings_of c.args.arena.now) _
          (c.put_value.ensures.entry c.args.key.now c.args.arena.now.nodes.items)
          (λ none. grind (arith, ap length none, c.is_empty.ensures, c.if-is_empty.false));
      arena = refl;
    }
