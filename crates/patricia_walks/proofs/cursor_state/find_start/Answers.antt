use Rattle.std.proofs.Common.{length, sym, ap, arith, ◌∙◌, ◌-◌}
use Rattle.patricia_walks.proofs.PlaceLemmas.{rest_within}
use Rattle.patricia_walks.proofs.UnderLemmas.{if_none}
use Rattle.patricia_walks.proofs.HolderLemmas.{marked}
use Rattle.patricia_walks.proofs.StartLemmas.{starts_under, starts_nowhere}
use Rattle.patricia_walks.proofs.cursor_state.find_start.Goals as goal

pub overflow_sub-front : goal.overflow_sub-front
overflow_sub-front g c =
    let within = rest_within _ g.met.Q.Owned.Bytes.lawful _ c.requires.siblings _ _ _ _ _ c.seek-place.ensures in
    omega (arith, within, ap length c.as_bytes-2.ensures.value, ap length c.as_bytes.ensures.value)

pub returns-in_err-top-clause-none : goal.returns-in_err-top-clause-none
returns-in_err-top-clause-none g c =
    if_none _
    (starts_nowhere _ g.met.Q.Owned.Bytes.lawful _ _ (marked _ c.requires.whole).1
    c.requires.whole c.requires.siblings _ _ _ _ _ c.seek-place.ensures c.as_bytes-2.ensures.valid
    (sym c.under.ensures ∙ c.in_err-top.was))

pub returns-clause-some : goal.returns-clause-some
returns-clause-some g c =
    let front = ap (λ n. n - length c.as_bytes-2.result.now) (ap length c.as_bytes.ensures.value) ∙
    ap (λ n. length (g.Q.BorrowedBytes.key c.args.prefix) - n)
    (ap length c.as_bytes-2.ensures.value) in
    starts_under _ g.met.Q.Owned.Bytes.lawful _ _ (marked _ c.requires.whole).1 c.requires.whole
    c.requires.siblings _ _ _ _ _ c.seek-place.ensures _ front _
    (sym c.under.ensures ∙ c.in_ok-top.was)
