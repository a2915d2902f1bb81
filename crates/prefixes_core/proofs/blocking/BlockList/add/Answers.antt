use Rattle.std.proofs.Common.{◌≡◌, ◌∙◌}
use Rattle.prefixes_core.specs.Internal.Reversed.{key_of}
use Rattle.prefixes_core.proofs.NameLemmas.{named_after, name_is_new, name_added, name_refused}
use Rattle.prefixes_core.proofs.blocking.BlockList.add.Goals as goal

pub invariant_of-self : goal.invariant_of-self
invariant_of-self c =
    let is : c.as_slice.result.now ≡ key_of c.args.name.now = c.as_slice.ensures.value
    ∙ c.in_ok-key.ensures in
    named_after c.self.inside.keys c.insert.new.self _ c.args.name.now c.self.invariant is
    c.insert.result c.insert.ensures.ok c.insert.ensures.unchanged

pub returns : goal.returns
returns c =
    let keys = c.self.inside.keys in
    let name = c.args.name.now in
    let is : c.as_slice.result.now ≡ key_of name = c.as_slice.ensures.value ∙ c.in_ok-key.ensures in
    rw (← c.self.view_is) (record {
      is_new = name_is_new keys c.insert.new.self _ name c.self.invariant is c.insert.result
          c.insert.ensures.is_new;
      ok = name_added keys c.insert.new.self _ name c.self.invariant is c.insert.result
          c.insert.ensures.ok;
      unchanged = name_refused keys c.insert.new.self _ name c.self.invariant is c.insert.result
          c.insert.ensures.unchanged;
    })
