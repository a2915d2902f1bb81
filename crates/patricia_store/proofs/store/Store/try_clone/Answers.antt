use Rattle.std.proofs.Common.{sym, ap, ◌∙◌, arith}
use Rattle.std.proofs.lemmas.Bool.Decides.{nat_tests}
use Rattle.std.proofs.lemmas.Option.{slice_get_within}
use Rattle.std.specs.Prelude.{slice_get}
use Rattle.patricia_model.proofs.WalkLemmas.{on_err}
use Rattle.patricia_store.specs.Internal.Stores.{node_of}
use Rattle.patricia_store.proofs.StoreLemmas.{nonempty, item_there, get-nodes}
use Rattle.patricia_store.proofs.store.Store.try_clone.Goals as goal

pub returns-in_err-from_slice-clause-nonempty : goal.returns-in_err-from_slice-clause-nonempty
returns-in_err-from_slice-clause-nonempty g c =
    on_err c.from_residual.result (nonempty c.self.inside.heads c.self.inside.bodies c.self.inside.labels.items c.self.invariant c.args.self.now.items (ap (λ s. s.items) c.self.view_is)
    (grind (arith, nat_tests, c.if-is_empty.false, c.is_empty.ensures)))

pub clone_bodies-requires : goal.clone_bodies-requires
clone_bodies-requires g c i b is =
    let heads = c.self.inside.heads.items in
    let bodies = c.self.inside.bodies.items in
    let bytes = c.self.inside.labels.items in
    let h = item_there heads i (omega (arith, slice_get_within bodies i b is, c.self.invariant.long)) in
    c.requires i (node_of h.0 b bytes)
    (ap (λ s. slice_get s.items i) (sym c.self.view_is) ∙ get-nodes heads bodies bytes i h.0 b h.1 is)

pub returns-in_err-clone_bodies-clause-nonempty : goal.returns-in_err-clone_bodies-clause-nonempty
returns-in_err-clone_bodies-clause-nonempty g c =
    on_err c.from_residual-in_err-clone_bodies.result (nonempty c.self.inside.heads c.self.inside.bodies c.self.inside.labels.items c.self.invariant c.args.self.now.items (ap (λ s. s.items) c.self.view_is)
    (grind (arith, nat_tests, c.if-is_empty.false, c.is_empty.ensures)))

pub returns-in_err-try_clone-clause-nonempty : goal.returns-in_err-try_clone-clause-nonempty
returns-in_err-try_clone-clause-nonempty g c =
    on_err c.from_residual-in_err-try_clone.result (nonempty c.self.inside.heads c.self.inside.bodies c.self.inside.labels.items c.self.invariant c.args.self.now.items (ap (λ s. s.items) c.self.view_is)
    (grind (arith, nat_tests, c.if-is_empty.false, c.is_empty.ensures)))
