use borrow.Author.Rules.{rules, get_or_read}
use Rattle.patricia_walks.proofs.walk.WalkIterator.next.Goals as goal

pub returns-in-Err-from_bytes-clause-steps : goal.returns-in-Err-from_bytes-clause-steps
returns-in-Err-from_bytes-clause-steps g c = search (rules, get_or_read)
