use Rattle.std.proofs.Common.{inl, ap}
use mathlib.Core.Path.{fun_ext}
use Rattle.patricia_tree.proofs.LoanLemmas.{inserts_alike, is_there, value_is}
use Rattle.patricia_tree.proofs.map.GenericPatriciaMap.get_or_insert_with.Goals as goal

pub value_mut-requires : goal.value_mut-requires
value_mut-requires g c = is_there g.F.FnOnce.post c.args.f c.args.self.now c.insert_with.new.self
    (g.Q.BorrowedBytes.key c.args.key) c.in_ok-insert_with.field-0 c.in_ok-insert_with.ensures.is_new
    c.in_ok-insert_with.ensures.made c.in_ok-insert_with.ensures.kept

pub returns : goal.returns
returns g c =
    let key = g.Q.BorrowedBytes.key c.args.key in
    let old = c.args.self.now in
    let new = c.insert_with.new.self in
    let put = inserts_alike g.F.FnOnce.post c.args.f old new key c.in_ok-insert_with.field-0
    c.in_ok-insert_with.ensures.is_new c.in_ok-insert_with.ensures.made
    c.in_ok-insert_with.ensures.kept in (
      ap (λ f. inl (c.value_mut.result.ghost_name, f)) (fun_ext put),
      record {
        writes = tt;
        value = value_is g.F.FnOnce.post c.args.f old new key c.in_ok-insert_with.field-0
            c.in_ok-insert_with.ensures.is_new c.in_ok-insert_with.ensures.made
            c.in_ok-insert_with.ensures.kept c.value_mut.result.now c.value_mut.ensures.value;
        err_only_nonempty = tt;
        only_new = tt;
        ran = tt;
      },
    )
