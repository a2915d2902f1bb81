use borrow.Author.Rules.{rules, get_or_read}
use Rattle.patricia_walks.proofs.along.Along.next_value.Goals as goal

pub returns : goal.returns
returns g c = search (rules, get_or_read)
