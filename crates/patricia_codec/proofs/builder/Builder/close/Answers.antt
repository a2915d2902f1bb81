use Rattle.patricia_codec.proofs.BuildLemmas.{on_ok}
use Rattle.patricia_codec.proofs.PlacingLemmas.{closes_at}
use Rattle.patricia_codec.proofs.builder.Builder.close.Goals as goal

pub returns : goal.returns
returns g c =
    on_ok c.lay.result (closes_at c.args.self.now c.lay.new.self c.args.value c.args.child c.is_none.result
    c.is_none.ensures c.else-is_none.either) c.lay.ensures
