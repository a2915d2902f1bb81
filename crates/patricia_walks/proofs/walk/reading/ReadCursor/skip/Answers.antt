use Rattle.std.proofs.Common.{◌≡◌, ap, ◌∙◌, take}
use Rattle.patricia_model.specs.Internal.WalkStates.{entries_left}
use Rattle.patricia_walks.specs.Internal.Fronts.{lent, state_at}
use Rattle.patricia_walks.proofs.PassLemmas.{front_same, key_here, passed_same}
use Rattle.patricia_walks.proofs.walk.reading.ReadCursor.skip.Goals as goal

pub returns-clause-left : goal.returns-clause-left
returns-clause-left g c = λ key value n at floor.
    let path = c.self.inside.place.progress.path.items in
    let here : key ≡ path = key_here _ c.self.inside.value path key value (ap (λ v. v.at) c.self.view_is ∙ at) in
    let whole = rw (c.min.ensures, c.as_slice-path.ensures.value) at c.floor_boundary-whole.ensures in
    let front : take n key ≡ take c.floor_boundary-whole.result path = front_same g.K.Bytes.item key path c.args.len c.floor_boundary-whole.result n here whole floor in
    let entries : entries_left (state_at (lent c.self.inside.place)) ≡ c.args.self.now.left = ap (λ v. v.left) c.self.view_is in
    (passed_same (take n key) _ _ _ _ front entries c.skip.ensures.passed).left

pub returns-clause-first : goal.returns-clause-first
returns-clause-first g c = λ key value n at floor.
    let path = c.self.inside.place.progress.path.items in
    let here : key ≡ path = key_here _ c.self.inside.value path key value (ap (λ v. v.at) c.self.view_is ∙ at) in
    let whole = rw (c.min.ensures, c.as_slice-path.ensures.value) at c.floor_boundary-whole.ensures in
    let front : take n key ≡ take c.floor_boundary-whole.result path = front_same g.K.Bytes.item key path c.args.len c.floor_boundary-whole.result n here whole floor in
    let entries : entries_left (state_at (lent c.self.inside.place)) ≡ c.args.self.now.left = ap (λ v. v.left) c.self.view_is in
    (passed_same (take n key) _ _ _ _ front entries c.skip.ensures.passed).split
