use Rattle.std.proofs.Common.{sym}
use Rattle.patricia_tree.proofs.LoanLemmas.{is_longest}
use Rattle.patricia_tree.proofs.map.GenericPatriciaMap.longest_part.Goals as goal

pub returns-in-Some : goal.returns-in-Some
returns-in-Some g c = is_longest c.args.self.now (g.Q.BorrowedBytes.key c.args.key)
    (g.Q.BorrowedBytes.key c.in-Some.entry.0, c.in-Some.entry.1.now) c.in-Some.ensures.part
    (sym c.in-Some.ensures.entry)
