use Rattle.std.proofs.Common.{ap}
use Rattle.std.specs.Option.{option_map}
use Rattle.patricia_many.proofs.lookup.Lookup.prefix_key.Goals as goal

pub returns-in-Some : goal.returns-in-Some
returns-in-Some g c = ap (option_map (λ e. e.0)) c.in-Some.ensures

pub returns-in-None : goal.returns-in-None
returns-in-None g c = ap (option_map (λ e. e.0)) c.in-None.ensures
