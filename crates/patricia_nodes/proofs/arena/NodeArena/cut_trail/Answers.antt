use Rattle.std.proofs.Common.{◌≡◌, length, take, drop, subst, ap, sym, ◌∙◌, ◌-◌, arith, length-drop}
use Rattle.std.proofs.lemmas.List.{take_all}
use Rattle.std.specs.declared.cmp.Ordering.TheVariants.{Greater}
use Rattle.patricia_keys.specs.Keys.{ComparesFirst, IsValid}
use Rattle.patricia_nodes.proofs.TrailLemmas.{trail_cut, behind_common}
use Rattle.patricia_nodes.proofs.arena.NodeArena.cut_trail.Goals as goal

pub cmp_first_item-requires : goal.cmp_first_item-requires
cmp_first_item-requires g c =
    let n = c.strip_common_prefix_and_len-rest.result.1 in
    let last = c.as_bytes-bytes.result.now in
    rw (take_all (length last - n) (drop n last) (omega (arith, length-drop n last)))
    (behind_common g.Q.Owned.Bytes.item g.met.Q.Owned.Bytes.lawful (g.Q.BorrowedBytes.key c.args.key) last n
    c.strip_common_prefix_and_len-rest.ensures.common
    (subst (IsValid g.Q.Owned.Bytes.item) (sym c.as_bytes-bytes.ensures.value) c.as_bytes-bytes.ensures.valid))

pub returns-in-Greater : goal.returns-in-Greater
returns-in-Greater g c =
    let n = c.strip_common_prefix_and_len-rest.result.1 in
    let key = g.Q.BorrowedBytes.key c.args.key in
    let last = g.Q.BorrowedBytes.key c.in-Some.last in
    let bytes = c.as_bytes-bytes.result.now in
    let same : bytes ≡ last = c.as_bytes-bytes.ensures.value in
    let behind : take (length bytes - n) (drop n bytes) ≡ drop n last =
    take_all (length bytes - n) (drop n bytes) (omega (arith, length-drop n bytes)) ∙ ap (drop n) same in
    let later : ComparesFirst g.Q.Owned.Bytes.item (drop n key) (drop n last) Greater =
    subst (λ l. ComparesFirst g.Q.Owned.Bytes.item (drop n key) l Greater) behind
    (subst (λ k. ComparesFirst g.Q.Owned.Bytes.item k (take (length bytes - n) (drop n bytes)) Greater) c.strip_common_prefix_and_len-rest.ensures.rest c.in-Greater.ensures) in
    trail_cut g.Q.Owned.Bytes.item g.met.Q.Owned.Bytes.lawful c.args.self.now c.requires.siblings last key n
    (rw same at c.strip_common_prefix_and_len-rest.ensures.common) later c.requires.nonempty c.args.trail.now.items
    c.cut_to.new.trail.items (rw c.in-Some.is at c.requires.trail) c.cut_to.ensures
