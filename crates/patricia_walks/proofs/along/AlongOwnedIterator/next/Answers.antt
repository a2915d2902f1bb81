use borrow.Author.Rules.{rules, get_or_read}
use Rattle.patricia_walks.proofs.along.AlongOwnedIterator.next.Goals as goal

pub returns-clause-steps : goal.returns-clause-steps
returns-clause-steps g c = search (rules, get_or_read)
