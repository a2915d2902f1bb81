use Rattle.std.proofs.Common.{refl}
use mathlib.Core.Bool.{false≢true}
use Rattle.patricia_many.proofs.LookupLemmas.{starts, starts_empty}
use Rattle.patricia_many.proofs.AheadLemmas.{ahead_top, ahead_top_empty, best_starts}
use Rattle.patricia_many.proofs.lookup.Lookup.start.Goals as goal

pub returns-then-is_empty : goal.returns-then-is_empty
returns-then-is_empty g c =
    rw (c.end_at.ensures, c.none.ensures) (
      starts_empty g.Q.Owned.Bytes.item g.met.Q.Owned.Bytes.lawful c.args.arena.now c.requires.whole c.requires.siblings _
          (c.if-is_empty.ensures.0 refl),
      λ wants. best_starts g.Q.Owned.Bytes.item c.args.arena.now _ _ c.none-self.ensures
          (ahead_top_empty g.Q.Owned.Bytes.item g.met.Q.Owned.Bytes.lawful c.args.arena.now c.requires.siblings _ (c.if-is_empty.ensures.0 refl)),
    )

pub pass_top-requires-clause-key : goal.pass_top-requires-clause-key
pass_top-requires-clause-key g c =
    rw c.go_to.ensures (
      starts g.Q.Owned.Bytes.item g.met.Q.Owned.Bytes.lawful c.args.arena.now c.requires.whole c.requires.siblings _
          (λ none. absurd (false≢true (c.if-is_empty.ensures.1 none))),
      λ wants. best_starts g.Q.Owned.Bytes.item c.args.arena.now _ _ c.none-self.ensures (ahead_top c.args.arena.now _),
    )
