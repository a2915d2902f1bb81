use Rattle.std.proofs.lemmas.Result.{IfOk-weaker}
use Rattle.prefixes_core.proofs.NameLemmas.{keys_found}
use Rattle.prefixes_core.proofs.blocking.BlockList.find_keys.Goals as goal

pub returns : goal.returns
returns c = rw (← c.self.view_is) (IfOk-weaker c.longest_many.result _ _
    (λ found all. keys_found c.self.inside.keys c.self.invariant c.args.keys.now found.items all)
    c.longest_many.ensures.longest)
