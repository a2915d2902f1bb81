use Rattle.std.proofs.Common.{sym, ap, arith, length, ◌∙◌, ◌-◌}
use Rattle.patricia_walks.proofs.PlaceLemmas.{rest_within}
use Rattle.patricia_nodes.proofs.UnderLemmas.{place_nothing}
use Rattle.patricia_walks.proofs.UnderLemmas.{place_top, place_label, place_entries, if_none}
use Rattle.patricia_walks.proofs.under.find_start.Goals as goal

pub overflow_sub-front : goal.overflow_sub-front
overflow_sub-front g c =
    let within = rest_within _ g.met.Q.Owned.Bytes.lawful _ c.requires.siblings _ _ _ _ _ c.seek-place.ensures in
    omega (arith, within, ap length c.as_bytes-2.ensures.value, ap length c.as_bytes.ensures.value)

pub returns-in_err-top-clause-none : goal.returns-in_err-top-clause-none
returns-in_err-top-clause-none g c =
    if_none _
    (place_nothing _ g.met.Q.Owned.Bytes.lawful _ c.requires.siblings _ _ _ _ _
    c.seek-place.ensures c.as_bytes-2.ensures.valid (sym c.under.ensures ∙ c.in_err-top.was))

pub returns-clause-some : goal.returns-clause-some
returns-clause-some g c =
    let front = ap (λ n. n - length c.as_bytes-2.result.now) (ap length c.as_bytes.ensures.value) ∙
    ap (λ n. length (g.Q.BorrowedBytes.key c.args.prefix) - n)
    (ap length c.as_bytes-2.ensures.value) in
    let at = sym c.under.ensures ∙ c.in_ok-top.was in (
      record {
        within = omega (arith, front);
        top = place_top _ g.met.Q.Owned.Bytes.lawful _ c.requires.whole c.requires.siblings _ _ _ _ _ c.seek-place.ensures _ front _ at;
      },
      place_entries _ g.met.Q.Owned.Bytes.lawful _ c.requires.whole c.requires.siblings _ _ _ _ _ c.seek-place.ensures _ front _ at,
    )

pub returns-clause-label : goal.returns-clause-label
returns-clause-label g c =
    let front = ap (λ n. n - length c.as_bytes-2.result.now) (ap length c.as_bytes.ensures.value) ∙
    ap (λ n. length (g.Q.BorrowedBytes.key c.args.prefix) - n)
    (ap length c.as_bytes-2.ensures.value) in
    let at = sym c.under.ensures ∙ c.in_ok-top.was in
    place_label _ g.met.Q.Owned.Bytes.lawful _ c.requires.whole c.requires.siblings _ _ _ _ _ c.seek-place.ensures _ front _ at
