use Rattle.prefixes_core.proofs.ObjectLemmas.{array_written}
use Rattle.prefixes_core.proofs.json.push_array.Goals as goal

pub returns : goal.returns
returns g c =
    array_written g.T.ToJson.text c.args.values.now c.args.out.now.items c.push.new.self.items
    c.push_joined.new.out.items c.push-2.new.self.items c.in_ok-push.ensures.items
    c.in_ok-push_joined.ensures c.in_ok-push-2.ensures.items
