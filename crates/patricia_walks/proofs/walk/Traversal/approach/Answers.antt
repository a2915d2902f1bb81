use Rattle.std.proofs.Common.{◌≡◌, ◌∙◌, List, ℕ, refl, sym, subst, length, drop}
use Rattle.patricia_nodes.proofs.NodeVecLemmas.{node_there}
use Rattle.patricia_walks.specs.Internal.Fronts.{FrontPosition, lent, seen}
use Rattle.patricia_walks.specs.Internal.Skips.{IsTowards, Approaches, HasReached}
use Rattle.patricia_walks.proofs.AlongLemmas.{rest_is, less_is, not_less}
use Rattle.patricia_walks.proofs.FrontLemmas.{plain, seen_at_end}
use Rattle.patricia_walks.proofs.PositionLemmas.{position_within, position_label}
use Rattle.patricia_walks.proofs.SkipLemmas.{towards_down, towards_past, reached_label, turned_less}
use Rattle.patricia_walks.proofs.SkipLemmas.{begun_itself}
use Rattle.patricia_walks.proofs.walk.Traversal.approach.Goals as goal

-- a step between walks whose next siblings stand behind all of the path
approaches : (item : List ℕ → Type 0) (key : List ℕ) {V : Type 0} (p q : FrontPosition V)
    → p.front ≡ length p.path → q.front ≡ length q.path
    → Approaches item key (plain p) (plain q) → Approaches item key (seen p) (seen q)
approaches item key p q front front' step =
    subst (λ x. Approaches item key x (seen q)) (sym (seen_at_end p front))
    (subst (Approaches item key (plain p)) (sym (seen_at_end q front')) step)

-- such a walk as it is on the way
towards : (item : List ℕ → Type 0) (key : List ℕ) {V : Type 0} (p : FrontPosition V)
    → p.front ≡ length p.path → IsTowards item key (seen p) → IsTowards item key (plain p)
towards item key p front w = subst (IsTowards item key) (seen_at_end p front) w

pub extend_by_label-requires : goal.extend_by_label-requires
extend_by_label-requires g c =
    let p = lent c.args.self.now in
    let w = towards g.K.Bytes.item c.args.key.now p c.requires.front c.requires.towards in
    record {
      within = position_within g.K.Bytes.item (plain p) _ w.position c.requires.next;
      valid = λ n reads. position_label g.K.Bytes.item (plain p) _ n w.position c.requires.next reads;
    }

pub returns-then-starts_with-clause-step : goal.returns-then-starts_with-clause-step
returns-then-starts_with-clause-step g c =
    let p = lent c.args.self.now in
    let w = towards g.K.Bytes.item c.args.key.now p c.requires.front c.requires.towards in
    let there = node_there _ _ (position_within g.K.Bytes.item (plain p) _ w.position c.requires.next) in
    let begun = rw (c.len-front.ensures, c.args.self.now.progress.path.ok.0, rest_is) at c.starts_with.ensures.value in
    let yes = rw (c.label-label.ensures _ there.1) at begun in
    λ _. approaches g.K.Bytes.item c.args.key.now p _ c.requires.front (c.len-self.ensures ∙ c.extend_by_label.new.path.ok.0)
    (towards_down g.K.Bytes.item g.met.K.Bytes.lawful c.args.key.now (plain p) _ c.args.id
    there.0 w c.requires.taken c.requires.next
    there.1 refl (sym yes ∙ c.if-starts_with.true) there.0.label refl _ (c.len-front.ensures ∙ c.args.self.now.progress.path.ok.0)
    (c.in_ok-extend_by_label.ensures.label _ there.1) (c.value-self.ensures _ there.1)
    (c.child-self.ensures.node _ there.1)
    (rw (c.sibling.ensures.node _ there.1) at c.in_ok-push_siblings.ensures.items))

pub returns-then-eq-clause-over : goal.returns-then-eq-clause-over
returns-then-eq-clause-over g c =
    let p = lent c.args.self.now in
    let w = towards g.K.Bytes.item c.args.key.now p c.requires.front c.requires.towards in
    let there = node_there _ _ (position_within g.K.Bytes.item (plain p) _ w.position c.requires.next) in
    let begins = rw (c.len-front.ensures, c.args.self.now.progress.path.ok.0, rest_is) at c.starts_with.ensures.value in
    let other = rw (c.label-label.ensures _ there.1) at begins in
    let compares = rw (c.len-front.ensures, c.args.self.now.progress.path.ok.0, rest_is) at c.cmp.ensures in
    let order = rw (c.label-label.ensures _ there.1) at compares in
    λ _. (
      refl,
      subst (HasReached g.K.Bytes.item c.args.key.now) (sym (seen_at_end p c.requires.front))
          (reached_label g.K.Bytes.item g.met.K.Bytes.lawful c.args.key.now (plain p) (plain p) c.args.id
          there.0 w c.requires.taken c.requires.next
          there.1 refl (sym other ∙ c.if-starts_with.false)
          (sym order ∙ less_is c.cmp.result (sym c.eq.ensures ∙ c.if-eq.true))),
    )

pub returns-clause-step : goal.returns-clause-step
returns-clause-step g c =
    let p = lent c.args.self.now in
    let w = towards g.K.Bytes.item c.args.key.now p c.requires.front c.requires.towards in
    let there = node_there _ _ (position_within g.K.Bytes.item (plain p) _ w.position c.requires.next) in
    let begins = rw (c.len-front.ensures, c.args.self.now.progress.path.ok.0, rest_is) at c.starts_with.ensures.value in
    let other = rw (c.label-label.ensures _ there.1) at begins in
    let compares = rw (c.len-front.ensures, c.args.self.now.progress.path.ok.0, rest_is) at c.cmp.ensures in
    let order = rw (c.label-label.ensures _ there.1) at compares in
    let begun = sym other ∙ c.if-starts_with.false in
    λ _. approaches g.K.Bytes.item c.args.key.now p _ c.requires.front c.requires.front
    (towards_past g.K.Bytes.item g.met.K.Bytes.lawful c.args.key.now (plain p) _ c.args.id
    there.0 w c.requires.taken c.requires.next
    there.1 refl begun
    (turned_less (drop (length p.path) c.args.key.now) there.0.label
    (begun_itself there.0.label (drop (length p.path) c.args.key.now) begun) (λ less. not_less _ (sym c.eq.ensures ∙ c.if-eq.false) (order ∙ less)))
    refl refl (c.sibling-self.ensures.node _ there.1) refl)
