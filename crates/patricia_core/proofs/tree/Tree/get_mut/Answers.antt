use Rattle.std.proofs.Common.{◌≡◌, ◌≢◌, inr, [], Some, sym, ap, ◌∙◌, refl}
use borrow.Follows.Closed.{read_of}
use mathlib.Core.Bool.{false≢true}
use Rattle.std.specs.Option.{ghost_name_of, option_copied_mut}
use Rattle.std.specs.FinMap as map
use Rattle.patricia_nodes.specs.Internal.Plans.{siblings_of}
use Rattle.patricia_nodes.specs.Internal.Loans.{value_of, with_value}
use Rattle.patricia_model.specs.Trees.{map_of}
use Rattle.patricia_model.proofs.TreeLemmas.{get_empty, get_filled, insert_empty, insert_filled}
use Rattle.patricia_model.proofs.TreeLemmas.{length_old}
use Rattle.patricia_nodes.proofs.LoanLemmas.{node_found}
use Rattle.patricia_core.proofs.tree.Tree.get_mut.Goals as goal

pub returns-then-is_empty : goal.returns-then-is_empty
returns-then-is_empty g c =
    let key = g.Q.BorrowedBytes.key c.args.key in
    let none : key ≡ [] = c.if-is_empty.ensures.0 refl in
    let ok = c.self.invariant.tree.canonical in
    let wrote : (w : g.row.V.Denot) → map_of (Some w) (siblings_of c.self.inside.parts.arena) ≡ map.insert c.args.self.now key w =
    λ w. rw (← c.self.view_is, none) (insert_empty g.K.Bytes.item g.met.K.Bytes.lawful _ _ w ok) in (
      (λ i. read_of (ghost_name_of c.as_mut.result) (λ w. wrote w i) (c.self.view_is i)),
      record { writes = tt; value = rw (← c.self.view_is, none) (c.as_mut.ensures.value ∙ sym (get_empty g.K.Bytes.item g.met.K.Bytes.lawful _ _ ok)) },
    )

pub invariant_of-self-lent-in-Some : goal.invariant_of-self-lent-in-Some
invariant_of-self-lent-in-Some g c =
    let found = c.in-Some.ensures in
    λ _. (
      (λ w. record {
        whole = (found.writes w).whole;
        tree = record {
          canonical = (found.writes w).canonical;
          counted = c.self.invariant.tree.counted ∙ sym
              (length_old g.K.Bytes.item g.met.K.Bytes.lawful (siblings_of c.self.inside.parts.arena)
              (siblings_of (with_value c.self.inside.parts.arena c.in-Some.id w)) _ w found.value
              c.self.invariant.tree.canonical (found.writes w).put_is found.found);
          fits = c.self.invariant.tree.fits;
        };
      }),
      c.self.invariant,
    )

pub returns-in-Some : goal.returns-in-Some
returns-in-Some g c =
    let key = g.Q.BorrowedBytes.key c.args.key in
    let found = c.in-Some.ensures in
    let nonempty : key ≢ [] = λ none. absurd (false≢true (c.if-is_empty.ensures.1 none)) in
    let lent : option_copied_mut c.value_mut.result ≡ value_of c.self.inside.parts.arena c.in-Some.id = c.value_mut.ensures.value in
    let ok = c.self.invariant.tree.canonical in
    let wrote : (w : g.row.V.Denot) → map_of c.self.inside.parts.value
    (siblings_of (with_value c.self.inside.parts.arena c.in-Some.id w)) ≡ map.insert
    c.args.self.now key w =
    λ w. rw (← c.self.view_is)
    (insert_filled g.K.Bytes.item g.met.K.Bytes.lawful _ _
    (siblings_of (with_value c.self.inside.parts.arena c.in-Some.id w)) key w ok nonempty
    (found.writes w).put_is) in (
      (λ i. read_of (ghost_name_of c.value_mut.result) (λ w. wrote w i) (c.self.view_is i)),
      record {
        writes = tt;
        value = rw (← c.self.view_is)
            (lent ∙ node_found g.K.Bytes.item c.self.inside.parts.arena key c.in-Some.id found ∙ sym
            (get_filled g.K.Bytes.item g.met.K.Bytes.lawful c.self.inside.parts.value _ key ok nonempty));
      },
    )

pub returns-in-None : goal.returns-in-None
returns-in-None g c =
    let nonempty : g.Q.BorrowedBytes.key c.args.key ≢ [] = λ none. absurd (false≢true (c.if-is_empty.ensures.1 none)) in (
      ap inr c.self.view_is,
      record {
        writes = tt;
        value = rw (← c.self.view_is)
            (sym (get_filled g.K.Bytes.item g.met.K.Bytes.lawful _ _ _
            c.self.invariant.tree.canonical nonempty ∙ c.in-None.ensures));
      },
    )
