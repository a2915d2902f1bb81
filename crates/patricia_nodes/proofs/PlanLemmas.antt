-- What nodes that stand for a plan give.
use Rattle.std.proofs.Common.{◌≡◌, ℕ, zero, suc, ◌<◌, ◌≤◌, List, [], length, Option, Some, None}
use Rattle.std.proofs.Common.{get_or, slice_get, refl, ap, ◌∙◌, arith}
use Rattle.std.specs.Prelude.{false, is_some}
use mathlib.Core.Bool.{false≢true}
use Rattle.std.proofs.lemmas.Option.{get_or_from_slice_get}
use Rattle.std.proofs.lemmas.Bool.Decides.{nat_tests}
use Rattle.patricia_store.specs.Internal.Nodes.{Node}
use Rattle.patricia_nodes.specs.Internal.Plans.{Plan, Nil, Cell, head, size, LaidOut, IsPlan}
use Rattle.patricia_nodes.specs.Internal.Plans.{IsSound, read, plan_at, one, below, siblings_in}
use Rattle.patricia_nodes.specs.Internal.Plans.{siblings_at}
use Rattle.patricia_model.specs.Siblings.{end}

-- a number stands once in itself, and in no other
pub one-same : (id : ℕ) → one id id ≡ 1
one-same id = grind (arith, nat_tests)

-- a number is counted at most once below a bound
pub below_le : (n at : ℕ) → below n at ≤ 1
below_le n at = grind (arith, nat_tests)

-- below the bound it is counted once
pub below_in : (n at : ℕ) → at < n → below n at ≡ 1
below_in n at h = grind (arith, nat_tests)

-- from the bound on it is not counted
pub below_out : (n at : ℕ) → n ≤ at → below n at ≡ 0
below_out n at h = grind (arith, nat_tests)

module _ {V : Type 0} where
  -- nodes that stand for a plan are read as that plan
  read-stands : (nodes : List (Node V)) (p : Plan V) (n : ℕ) → LaidOut nodes p → size p ≤ n
      → read n nodes (head p) ≡ p
  read-stands nodes Nil zero s h = refl
  read-stands nodes Nil (suc n) s h = refl
  read-stands nodes (Cell id l v c d) zero s h = absurd (omega arith)
  read-stands nodes (Cell id l v c d) (suc n) s h =
      let below = read-stands nodes c n s.1 (omega arith) in
      let beside = read-stands nodes d n s.2 (omega arith) in
      rw (s.0, below, beside) refl

  -- the plan that is read is the only one
  pub plan_is : (nodes : List (Node V)) (at : Option ℕ) (p : Plan V) → IsPlan nodes at p
      → plan_at nodes at ≡ p
  plan_is nodes at p w = rw w.at_is (read-stands nodes p (length nodes) w.stands w.fits)

  -- what is read is a plan, where there is one
  pub plan_read : (nodes : List (Node V)) (root free : Option ℕ) (p : Plan V) (spare : List ℕ)
      → IsSound nodes root free p spare → IsPlan nodes root (plan_at nodes root)
  plan_read nodes root free p spare sound = rw (plan_is nodes root p sound.plan_ok) sound.plan_ok

  -- a vector without nodes is sound, with an empty plan and nothing free
  pub sound_none : (nodes : List (Node V)) → nodes ≡ [] → IsSound nodes None None Nil []
  sound_none nodes e = rw e (record {
    plan_ok = record { stands = tt; at_is = refl; fits = omega arith };
    chain = tt;
    free_is = refl;
    once = λ at. grind (arith, nat_tests);
    total = refl;
  })

  -- a node of the plan, as it is read
  pub node_is : (nodes : List (Node V)) (id : ℕ) (n m : Node V) → slice_get nodes id ≡ Some m
      → n ≡ get_or nodes id n → n ≡ m
  node_is nodes id n m there reads = reads ∙ get_or_from_slice_get nodes id m n there

-- an option that is found to have no value is none
pub not_some : {A : Type 0} (o : Option A) → false ≡ is_some o → o ≡ None
not_some None e = refl
not_some (Some n) e = absurd (false≢true e)

-- where there is no number, there are no siblings
pub siblings_none : {V : Type 0} (nodes : List (Node V)) → siblings_at nodes None ≡ end
siblings_none nodes = ap siblings_in (plan_is nodes None Nil (record { stands = tt; at_is = refl; fits = omega arith }))
