use Rattle.std.proofs.Common.{ap}
use Rattle.std.specs.Option.{option_map}
use Rattle.patricia_tree.proofs.set.GenericPatriciaSet.get_longest_common_prefix.Goals as goal

pub returns-in-Some-clause-longest : goal.returns-in-Some-clause-longest
returns-in-Some-clause-longest g c = rw (← c.self.view_is) (ap (option_map (λ e. e.0)) c.in-Some.ensures.entry)

pub returns-in-None-clause-longest : goal.returns-in-None-clause-longest
returns-in-None-clause-longest g c = rw (← c.self.view_is) (ap (option_map (λ e. e.0)) c.in-None.ensures.entry)
