use Rattle.std.proofs.Common.{ℕ, ◌<◌, length, min, vec_capacity, ap, refl, ◌∙◌, arith}
use borrow.Follows.Closed.{read_of}
use Rattle.std.specs.Option.{ghost_name_of}
use Rattle.patricia_store.specs.Internal.Packing.{most_nodes}
use Rattle.patricia_store.specs.Internal.Stores.{nodes_of}
use Rattle.patricia_store.proofs.StoreLemmas.{in_bodies}
use Rattle.patricia_store.proofs.LoanLemmas.{lent_sound, lent_nothing_sound, lent_write, lent_none, lent_value}
use Rattle.patricia_store.proofs.store.Store.value_mut.Goals as goal

pub index_mut-requires : goal.index_mut-requires
index_mut-requires g c =
    in_bodies c.self.inside.heads c.self.inside.bodies c.self.inside.labels.items c.self.invariant c.args.self.now.items (ap (λ s. s.items) c.self.view_is)
    c.args.id c.requires

pub invariant_of-self-lent : goal.invariant_of-self-lent
invariant_of-self-lent g c _ = (
  λ w. lent_sound c.self.inside.heads c.self.inside.bodies c.self.inside.labels.items c.self.invariant c.args.self.now.items (ap (λ s. s.items) c.self.view_is)
      c.args.id c.requires c.index_mut.result.now c.index_mut.ensures.value w,
  lent_nothing_sound c.self.inside.heads c.self.inside.bodies c.self.inside.labels.items c.self.invariant c.args.self.now.items (ap (λ s. s.items) c.self.view_is)
      c.args.id c.requires c.index_mut.result.now c.index_mut.ensures.value,
)

pub returns : goal.returns
returns g c =
    let hs = c.self.inside.heads in
    let bs = c.self.inside.bodies in
    let bytes = c.self.inside.labels.items in
    let room = c.self.inside.labels.room in
    let used = length bytes in
    let capacity : ℕ = min (vec_capacity hs) (min (vec_capacity bs) most_nodes) in
    let within : c.args.id < length (nodes_of hs.items bs.items bytes) =
    omega (arith, c.requires, ap (λ s. length s.items) c.self.view_is) in
    let b = c.index_mut.result.now in
    let reads = c.index_mut.ensures.value in (
      rw (← c.self.view_is) (λ i. read_of (ghost_name_of c.value_mut.result)
          (λ w. lent_write hs bs bytes c.self.invariant _ refl c.args.id within b reads capacity room used w i)
          (lent_none hs bs bytes c.self.invariant _ refl c.args.id within b reads capacity room used i)),
      record {
        writes = tt;
        value = c.value_mut.ensures.value
            ∙ lent_value c.self.inside.heads c.self.inside.bodies c.self.inside.labels.items c.self.invariant c.args.self.now.items (ap (λ s. s.items) c.self.view_is) c.args.id c.requires b reads;
      },
    )
