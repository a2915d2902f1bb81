use Rattle.std.proofs.Common.{◌≡◌, ◌<◌, ◌++◌, ◌∷◌, [], sym, ap, subst, ◌∙◌, arith, take, drop}
use Rattle.std.proofs.Common.{length, length-drop, rules}
use Rattle.std.specs.Prelude.{◌^◌, is_some, is_ok, true}
use Rattle.patricia_model.specs.Siblings.{end, node}
use Rattle.patricia_nodes.specs.Internal.Plans.{siblings_at}
use Rattle.patricia_wire.specs.Records.{Record}
use Rattle.patricia_keys.specs.Keys.{IsValid}
use Rattle.patricia_nodes.proofs.NodeVecLemmas.{node_there, lent_some}
use Rattle.patricia_nodes.proofs.SeekLemmas.{head_within}
use Rattle.patricia_codec.specs.Internal.Pieces.{IsPiece}
use Rattle.patricia_codec.specs.Internal.Lefts.{nodes_of}
use Rattle.patricia_codec.proofs.LeftLemmas.{label_left, first_deep, Beside, beside_first}
use Rattle.patricia_codec.proofs.LeftLemmas.{beside_later, below_whole, below_part, taken}
use Rattle.patricia_codec.proofs.records.Records.take.Goals as goal
use Rattle.patricia_codec.proofs.records.Records.take.Goals.{then-self-eq0, else-self-eq0}
use Rattle.patricia_codec.proofs.records.Records.take.Goals.{then-n-left, else-n-left}

pub label-requires : goal.label-requires
label-requires g c = head_within _ _ _ c.args.id c.requires.left.1.plan c.requires.next

pub sibling-beside-requires : goal.sibling-beside-requires
sibling-beside-requires g c = head_within _ _ _ c.args.id c.requires.left.1.plan c.requires.next

pub child-self-requires : goal.child-self-requires
child-self-requires g c = head_within _ _ _ c.args.id c.requires.left.1.plan c.requires.next

pub value-requires : goal.value-requires
value-requires g c = head_within _ _ _ c.args.id c.requires.left.1.plan c.requires.next

pub returns-in_default-clause-too_deep : goal.returns-in_default-clause-too_deep
returns-in_default-clause-too_deep g c _ =
    let left = c.requires.left.1 in
    let there = node_there _ _ (head_within _ _ _ c.args.id left.plan c.requires.next) in
    first_deep g.K.Bytes.item g.met.K.Bytes.lawful c.args.self.now c.args.id
    there.0 left.plan c.requires.next there.1 g.W.Width.width
    (c.level_at.ensures.too_deep c.in_default.is)

pub label_behind-left-requires : goal.label_behind-left-requires
label_behind-left-requires g c =
    let left = c.requires.left.1 in
    let there = node_there _ _ (head_within _ _ _ c.args.id left.plan c.requires.next) in
    let label = label_left g.K.Bytes.item g.met.K.Bytes.lawful c.args.self.now c.args.id
    there.0 left.plan c.requires.next there.1 c.requires.left in
    rw (c.label.ensures _ there.1) label.within

pub room-n-requires-clause-valid : goal.room-n-requires-clause-valid
room-n-requires-clause-valid g c =
    let left = c.requires.left.1 in
    let there = node_there _ _ (head_within _ _ _ c.args.id left.plan c.requires.next) in
    let label = label_left g.K.Bytes.item g.met.K.Bytes.lawful c.args.self.now c.args.id
    there.0 left.plan c.requires.next there.1 c.requires.left in
    subst (IsValid g.K.Bytes.item) (sym (rw (c.label.ensures _ there.1) at c.label_behind-left.ensures.rest)) label.valid

pub room-n-requires-clause-nonempty : goal.room-n-requires-clause-nonempty
room-n-requires-clause-nonempty g c none =
    let left = c.requires.left.1 in
    let there = node_there _ _ (head_within _ _ _ c.args.id left.plan c.requires.next) in
    let label = label_left g.K.Bytes.item g.met.K.Bytes.lawful c.args.self.now c.args.id
    there.0 left.plan c.requires.next there.1 c.requires.left in
    label.nonempty (sym (rw (c.label.ensures _ there.1) at c.label_behind-left.ensures.rest) ∙ none)

pub overflow_add-self-else-n-left : goal.overflow_add-self-else-n-left
overflow_add-self-else-n-left g c =
    let left = c.requires.left.1 in
    let there = node_there _ _ (head_within _ _ _ c.args.id left.plan c.requires.next) in
    let label = label_left g.K.Bytes.item g.met.K.Bytes.lawful c.args.self.now c.args.id
    there.0 left.plan c.requires.next there.1 c.requires.left in
    omega (
      arith,
      label.within,
      c.room-n.ensures.within,
      ap length
          (rw (c.label.ensures _ there.1) at c.label_behind-left.ensures.rest),
      length-drop c.args.self.now.skipped
          there.0.label,
      (rw (c.label.ensures _ there.1) at c.label_behind-left.ensures.counted),
    )

pub returns-clause-ok : goal.returns-clause-ok
returns-clause-ok g c =
    let item = g.K.Bytes.item in
    let kind = g.met.K.Bytes.lawful in
    let p = c.args.self.now in
    let q = c.if-n-left.self in
    let k = c.room-n.result in
    let at = c.if-self-eq0.beside in
    let left = c.requires.left.1 in
    let there = node_there _ _ (head_within _ _ _ c.args.id left.plan c.requires.next) in
    let n = there.0 in
    let reads = there.1 in
    let label = (rw (c.label.ensures _ there.1) at c.label_behind-left.ensures.rest) in
    let piece = subst (λ l. IsPiece item l k) label c.room-n.ensures in
    let beside : Beside item kind p c.args.id n left.plan c.requires.next reads at = elim c.if-self-eq0.branch [
      | then-self-eq0 w ↦ beside_first item kind p c.args.id n left.plan c.requires.next reads at w.if-self-eq0.true (w.beside-is ∙ w.sibling-beside.ensures.node _ reads)
      | else-self-eq0 w ↦ beside_later item kind p c.args.id n left.plan c.requires.next reads at w.if-self-eq0.false (w.beside-is ∙ w.none-beside.ensures)
    ] in
    let r : Record = record {
      level = c.in-Some.level;
      label = take k c.label_behind-left.result.now;
      value = c.if-n-left.value.0;
      child = c.if-n-left.value.1;
      sibling = c.is_some-2.result;
    } in
    let pushed : is_ok c.push.result ≡ true = sym c.map_err.ensures.variant ∙ ap is_ok c.in_ok-map_err.was in
    let stack : c.push.new.self.items ≡ p.stack.items ++ (p.level, at) ∷ [] = rw pushed at c.push.ensures.items in
    let level_is = (let e = c.in-Some.ensures.room in e.0) in
    let shallow = (let e = c.in-Some.ensures.room in subst (λ l. l < 256 ^ g.W.Width.width) level_is e.1) in
    let label_is = ap (take k) label in
    let sibling_is = c.is_some-2.ensures ∙ ap is_some c.get-2.ensures in
    elim c.if-n-left.branch [
      | then-n-left w ↦
          let kept = ap nodes_of w.self-is in
          let level = ap (λ s. s.level) w.self-is in
          let value = ap (λ v. v.0) w.value-is ∙ w.is_some.ensures ∙ lent_some w.value.result n.value (w.value.ensures _ reads) in
          let child = ap (λ v. v.1) w.value-is ∙ w.is_some-then-n-left.ensures ∙ ap is_some (w.get.ensures ∙ w.child-self.ensures.node _ reads) in
          let under = siblings_at (nodes_of p) n.child in
          let below = below_whole item kind p c.args.id n left.plan c.requires.next reads q k piece
          kept level (w.if-n-left.true ∙ ap length label) (ap (λ s. s.next) w.self-is ∙ w.child-self.ensures.node _ reads)
          (ap (λ s. s.skipped) w.self-is) in
          taken item kind p c.args.id n left.plan c.requires.next reads q k piece kept level g.W.Width.width r
          at under beside (ap (λ s. s.stack.items) w.self-is ∙ stack) (rw (value, child) below)
          level_is label_is sibling_is shallow
      | else-n-left w ↦
          let kept = ap nodes_of w.self-is in
          let level = ap (λ s. s.level) w.self-is in
          let value = ap (λ v. v.0) w.value-is in
          let child = ap (λ v. v.1) w.value-is in
          let under = node (drop k (drop p.skipped n.label)) n.value (siblings_at (nodes_of p) n.child) end in
          let short : k < length (drop p.skipped n.label) = omega (arith, piece.within, ap length label, w.if-n-left.false) in
          let below = below_part item kind p c.args.id n left.plan c.requires.next reads q k piece
          kept level short (ap (λ s. s.next) w.self-is) (ap (λ s. s.skipped) w.self-is) in
          taken item kind p c.args.id n left.plan c.requires.next reads q k piece kept level g.W.Width.width r
          at under beside (ap (λ s. s.stack.items) w.self-is ∙ stack) (rw (value, child) below)
          level_is label_is sibling_is shallow
    ]

pub returns-in_err-map_err-clause-too_deep : goal.returns-in_err-map_err-clause-too_deep
returns-in_err-map_err-clause-too_deep g c = search rules
