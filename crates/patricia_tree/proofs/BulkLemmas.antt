-- Pairs inserted one after the other.
use Rattle.std.proofs.Common.{◌≡◌, ◌≢◌, ℕ, List, [], ◌∷◌, ◌++◌, Option, Some, None}
use Rattle.std.proofs.Common.{refl, sym, ap, ◌∙◌}
use Rattle.std.proofs.iter.Next.{Yields-more}
use Rattle.std.specs.FinMap as map
use Rattle.std.specs.Iterator.{Yields}
use Rattle.patricia_core.specs.Keys.{key_cmp}
use Rattle.patricia_tree.specs.Bulk.{insert_all, by_bytes, IsStoppedAt}

-- with one more pair, all pairs but it are inserted, and then it
insert_all_more : {Q V : Type 0} (bytes : Q → List ℕ) (m : map.FinMap key_cmp V)
    (pairs : List (Q × V)) (pair : Q × V)
    → insert_all m (by_bytes bytes (pairs ++ pair ∷ [])) ≡ map.insert (insert_all m (by_bytes bytes pairs))
    (bytes pair.0) pair.1
insert_all_more bytes m [] pair = refl
insert_all_more bytes m (first ∷ pairs) pair = insert_all_more bytes (map.insert m (bytes first.0) first.1) pairs pair

-- one more turn, at which the pair is inserted
pub puts_one_more : {Q V : Type 0} (bytes : Q → List ℕ) (old : map.FinMap key_cmp V)
    (given : List (Q × V)) {here new : map.FinMap key_cmp V} (pair : Q × V)
    → here ≡ insert_all old (by_bytes bytes given) → new ≡ map.insert here (bytes pair.0) pair.1
    → new ≡ insert_all old (by_bytes bytes (given ++ pair ∷ []))
puts_one_more bytes old given pair so_far put = put ∙ ap (λ m. map.insert m (bytes pair.0) pair.1) so_far ∙ sym (insert_all_more bytes old given pair)

-- the last turn, at which the pair is refused
pub stops_at : {I S Q V : Type 0} {becomes : I → S → Type 0}
    {steps : S → Option (Q × V) → S → Type 0} {bytes : Q → List ℕ} {pairs : I}
    {old here new : map.FinMap key_cmp V} (start at rest : S) (given : List (Q × V)) (pair : Q × V)
    → becomes pairs start → Yields steps start given at → steps at (Some pair) rest
    → here ≡ insert_all old (by_bytes bytes given) → new ≡ here → bytes pair.0 ≢ []
    → map.get here (bytes pair.0) ≡ None → IsStoppedAt becomes steps bytes pairs old new
stops_at {steps = steps} {bytes = bytes} start at rest given pair is_start gave next so_far same nonempty absent = record {
  start = start;
  given = given;
  refused = pair;
  rest = rest;
  is_start = is_start;
  gave = Yields-more steps start given at pair rest gave next;
  put_in = same ∙ so_far;
  is_nonempty = nonempty;
  is_new = ap (λ m. map.get m (bytes pair.0)) same ∙ absent;
}
