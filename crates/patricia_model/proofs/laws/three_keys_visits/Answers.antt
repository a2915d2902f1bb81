use Rattle.std.proofs.Common.{ℕ, ◌+◌, ◌<◌, List, [], ◌∷◌, ◌++◌, Some, None, refl, arith}
use Rattle.std.proofs.lemmas.Bool.Decides.{nat_tests}
use Rattle.patricia_model.specs.Internal.LabelCmp.{Passes}
use Rattle.patricia_keys.specs.ByteKind.{IsByteItem, one_byte}
use Rattle.patricia_keys.specs.Internal.ByteLaw.{byte_lawful}
use Rattle.patricia_model.specs.Siblings.{Siblings, end, node, IsBefore, IsCanonical}
use Rattle.patricia_model.specs.Points.{IsVisitCount}
use Rattle.patricia_model.specs.Internal.ThreeKeys.{baz, foo, aaa, three_keys}
use Rattle.patricia_model.specs.Internal.Counts.{IsCounted}
use Rattle.patricia_model.proofs.VisitLemmas.{empty_visits}
use Rattle.patricia_model.proofs.CountLemmas.{counted_before, counted_here, counted_past}
use Rattle.patricia_model.proofs.CountLemmas.{counted_through}
use Rattle.patricia_model.proofs.laws.three_keys_visits.Goals as goal

-- keys by their first bytes
before : (b c : ℕ) (k m : List ℕ) → b < c → c < 256 → IsBefore IsByteItem (b ∷ k) (c ∷ m)
before b c k m less small = record {
  first = b ∷ [];
  second = c ∷ [];
  first_item = one_byte (omega arith);
  second_item = one_byte small;
  first_begins = (k, refl);
  second_begins = (m, refl);
  less = grind (arith, nat_tests);
}

passes : (b : ℕ) (l rest : List ℕ) → b < 256 → Passes IsByteItem (b ∷ (l ++ rest)) (b ∷ l) rest
passes b l rest small =
    record {
      shares =
          record {
            shared = b ∷ [];
            is_item = one_byte small;
            begins_first = (l ++ rest, refl);
            begins_second = (l, refl);
          };
      splits = refl;
    }

-- the nodes of the three keys
abbrev last : Siblings ℕ
last = node (102 ∷ 111 ∷ 111 ∷ []) (Some 3) end end

abbrev later : Siblings ℕ
later = node (122 ∷ []) (Some 2) end end

abbrev below : Siblings ℕ
below = node (114 ∷ []) (Some 1) end later

abbrev top : Siblings ℕ
top = node (98 ∷ 97 ∷ []) None below last

last_siblings : IsCanonical IsByteItem last
last_siblings =
    record {
      valid = (
        (102 ∷ []) ∷ (111 ∷ []) ∷ (111 ∷ []) ∷ [],
        (one_byte (omega arith), (one_byte (omega arith), (one_byte (omega arith), tt))),
        refl,
      );
      nonempty = λ none. cc;
      fits = tt;
      earns = tt;
      rises = tt;
      child = tt;
      sibling = tt;
    }

later_siblings : IsCanonical IsByteItem later
later_siblings = record {
  valid = ((122 ∷ []) ∷ [], (one_byte (omega arith), tt), refl);
  nonempty = λ none. cc;
  fits = tt;
  earns = tt;
  rises = tt;
  child = tt;
  sibling = tt;
}

below_siblings : IsCanonical IsByteItem below
below_siblings = record {
  valid = ((114 ∷ []) ∷ [], (one_byte (omega arith), tt), refl);
  nonempty = λ none. cc;
  fits = tt;
  earns = tt;
  rises = before 114 122 [] [] (omega arith) (omega arith);
  child = tt;
  sibling = later_siblings;
}

whole_siblings : IsCanonical IsByteItem top
whole_siblings =
    record {
      valid =
          ((98 ∷ []) ∷ (97 ∷ []) ∷ [], (one_byte (omega arith), (one_byte (omega arith), tt)), refl);
      nonempty = λ none. cc;
      fits = tt;
      earns = tt;
      rises = before 98 102 _ _ (omega arith) (omega arith);
      child = below_siblings;
      sibling = last_siblings;
    }

-- the root's visit and those of the siblings
count : (k : List ℕ) (m : ℕ) → IsCounted IsByteItem top k 0 m
    → IsVisitCount IsByteItem three_keys k (1 + m)
count k m counted = record { visited = counted.visited; once = counted.visits.once; exactly = counted.visits.exactly; is = omega (arith, counted.is) }

pub returns : goal.returns
returns c = record {
  through = count baz 3
      (counted_through IsByteItem byte_lawful _ _ _ _ whole_siblings baz (λ none. cc) 0 1 refl 3
      (122 ∷ []) (passes 98 (97 ∷ []) (122 ∷ []) (omega arith)) (λ none. cc)
      (counted_past IsByteItem byte_lawful _ _ _ _ below_siblings (122 ∷ []) (λ none. cc) 1 2 refl 3 (before 114 122 [] [] (omega arith) (omega arith))
      (counted_here IsByteItem byte_lawful _ _ _ _ later_siblings (122 ∷ []) (λ none. cc) 2 3 refl [] (passes 122 [] [] (omega arith)) refl)));
  beside = count foo 2 (counted_past IsByteItem byte_lawful _ _ _ _ whole_siblings foo (λ none. cc) 0 1 refl 2 (before 98 102 _ _ (omega arith) (omega arith))
      (counted_here IsByteItem byte_lawful _ _ _ _ last_siblings foo (λ none. cc) 1 2 refl [] (passes 102 (111 ∷ 111 ∷ []) [] (omega arith)) refl));
  before = count aaa 1 (counted_before IsByteItem byte_lawful _ _ _ _ whole_siblings aaa (λ none. cc) 0 1 refl (before 97 98 _ _ (omega arith) (omega arith)));
  root = let none = empty_visits IsByteItem byte_lawful three_keys in record { visited = []; once = none.once; exactly = none.exactly; is = refl };
}
