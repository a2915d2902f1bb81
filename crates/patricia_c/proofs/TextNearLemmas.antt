-- Texts that few edits of characters are between have at most four times as many of bytes between
-- them.
use Rattle.std.proofs.Common.{◌≡◌, ℕ, ◌+◌, ◌*◌, ◌≤◌, ◌<◌, zero, suc, List, [], ◌∷◌, ◌++◌, length, refl, sym, ap, subst, ◌∙◌, arith}
use Rattle.std.specs.Prelude.{map as list_map}
use Rattle.std.specs.List.{All, AllByRecursion, concat}
use Rattle.std.specs.Str.{IsUtf8}
use Rattle.std.proofs.lemmas.List.Elements.{All-head, All-tail}
use Rattle.std.proofs.lemmas.Str.{length-encode, len_utf8_bounds}
use Rattle.patricia_keys.specs.ByteKind.{IsByteItem, one_byte}
use Rattle.patricia_keys.specs.TextKind.{IsTextItem, one_char}
use Rattle.patricia_keys.specs.Internal.TextLaw.{text_lawful}
use Rattle.patricia_keys.proofs.TextLemmas.{valid_text}
use Rattle.patricia_tree.specs.Edits.{Step, stay, insert, delete, replace, edited, made, edits, IsNear}

-- the bytes of a text, each by itself
abbrev singles : List ℕ → List (List ℕ)
singles bytes = list_map (λ b. b ∷ []) bytes

singles-append : (a b : List ℕ) → singles (a ++ b) ≡ singles a ++ singles b
singles-append [] b = refl
singles-append (x ∷ a) b = ap (λ l. (x ∷ []) ∷ l) (singles-append a b)

concat-singles : (a : List ℕ) → concat (singles a) ≡ a
concat-singles [] = refl
concat-singles (x ∷ a) = ap (λ l. x ∷ l) (concat-singles a)

singles_bytes : (a : List ℕ) → All (λ b. b < 256) a → AllByRecursion IsByteItem (singles a)
singles_bytes [] all = tt
singles_bytes (x ∷ a) all = (one_byte (All-head (λ b. b < 256) x a all), singles_bytes a (All-tail (λ b. b < 256) x a all))

items_singles : (is : List (List ℕ)) → AllByRecursion IsTextItem is → AllByRecursion IsByteItem (singles (concat is))
items_singles [] all = tt
items_singles (i ∷ is) all = subst (AllByRecursion IsByteItem) (sym (singles-append i (concat is)))
    (both (singles i) (singles (concat is)) (singles_bytes i (text_lawful.bytes i all.0)) (items_singles is all.1))
  where
    both : (a b : List (List ℕ)) → AllByRecursion IsByteItem a → AllByRecursion IsByteItem b → AllByRecursion IsByteItem (a ++ b)
    both [] b p q = q
    both (x ∷ a) b p q = (p.0, both a b p.1 q)

-- a character has at most four bytes
short : (i : List ℕ) → IsTextItem i → length i ≤ 4
short i (one_char c scalar is) = subst (λ l. length l ≤ 4) is (omega (arith, length-encode c, len_utf8_bounds c))

-- steps along the bytes of a character, or two
abbrev stays : List ℕ → List (Step (List ℕ))
stays [] = []
stays (x ∷ a) = stay (x ∷ []) ∷ stays a

abbrev inserts : List ℕ → List (Step (List ℕ))
inserts [] = []
inserts (x ∷ a) = insert (x ∷ []) ∷ inserts a

abbrev deletes : List ℕ → List (Step (List ℕ))
deletes [] = []
deletes (x ∷ a) = delete (x ∷ []) ∷ deletes a

abbrev turns : List ℕ → List ℕ → List (Step (List ℕ))
turns [] b = inserts b
turns (x ∷ a) [] = deletes (x ∷ a)
turns (x ∷ a) (y ∷ b) = replace (x ∷ []) (y ∷ []) ∷ turns a b

-- and along those of all
abbrev by_bytes : List (Step (List ℕ)) → List (Step (List ℕ))
by_bytes [] = []
by_bytes (stay x ∷ s) = stays x ++ by_bytes s
by_bytes (insert x ∷ s) = inserts x ++ by_bytes s
by_bytes (delete x ∷ s) = deletes x ++ by_bytes s
by_bytes (replace x y ∷ s) = turns x y ++ by_bytes s

-- what steps go along and make, and their edits, when other steps follow
record Along (s : List (Step (List ℕ))) (a b : List ℕ) (most : ℕ) : Type 0 where
  from : (t : List (Step (List ℕ))) → edited (s ++ t) ≡ singles a ++ edited t
  to : (t : List (Step (List ℕ))) → made (s ++ t) ≡ singles b ++ made t
  cost : (t : List (Step (List ℕ))) → edits (s ++ t) ≤ edits t + most

along_stays : (x : List ℕ) → Along (stays x) x x 0
along_stays [] = record { from = λ t. refl; to = λ t. refl; cost = λ t. omega arith }
along_stays (b ∷ x) =
    let w = along_stays x in
    record { from = λ t. ap (λ l. (b ∷ []) ∷ l) (w.from t); to = λ t. ap (λ l. (b ∷ []) ∷ l) (w.to t); cost = w.cost }

along_inserts : (x : List ℕ) → Along (inserts x) [] x (length x)
along_inserts [] = record { from = λ t. refl; to = λ t. refl; cost = λ t. omega arith }
along_inserts (b ∷ x) =
    let w = along_inserts x in
    record { from = w.from; to = λ t. ap (λ l. (b ∷ []) ∷ l) (w.to t); cost = λ t. omega (arith, w.cost t) }

along_deletes : (x : List ℕ) → Along (deletes x) x [] (length x)
along_deletes [] = record { from = λ t. refl; to = λ t. refl; cost = λ t. omega arith }
along_deletes (b ∷ x) =
    let w = along_deletes x in
    record { from = λ t. ap (λ l. (b ∷ []) ∷ l) (w.from t); to = w.to; cost = λ t. omega (arith, w.cost t) }

along_turns : (x y : List ℕ) (most : ℕ) → length x ≤ most → length y ≤ most → Along (turns x y) x y most
along_turns [] y most p q =
    let w = along_inserts y in
    record { from = w.from; to = w.to; cost = λ t. omega (arith, w.cost t, q) }
along_turns (b ∷ x) [] most p q =
    let w = along_deletes (b ∷ x) in
    record { from = w.from; to = w.to; cost = λ t. omega (arith, w.cost t, p) }
along_turns (b ∷ x) (d ∷ y) zero p q = absurd (omega (arith, p))
along_turns (b ∷ x) (d ∷ y) (suc most) p q =
    let w = along_turns x y most (omega (arith, p)) (omega (arith, q)) in
    record {
      from = λ t. ap (λ l. (b ∷ []) ∷ l) (w.from t);
      to = λ t. ap (λ l. (d ∷ []) ∷ l) (w.to t);
      cost = λ t. omega (arith, w.cost t);
    }

-- of characters steps by bytes go along the same text, make the same, and are at most four times
-- as many edits
record Whole (s : List (Step (List ℕ))) : Type 0 where
  from : edited (by_bytes s) ≡ singles (concat (edited s))
  to : made (by_bytes s) ≡ singles (concat (made s))
  cost : edits (by_bytes s) ≤ 4 * edits s

whole : (s : List (Step (List ℕ))) → AllByRecursion IsTextItem (edited s) → AllByRecursion IsTextItem (made s) → Whole s
whole [] p q = record { from = refl; to = refl; cost = omega arith }
whole (stay x ∷ s) p q =
    let w = along_stays x in let rest = whole s p.1 q.1 in
    record {
      from = w.from (by_bytes s) ∙ ap (λ l. singles x ++ l) rest.from ∙ sym (singles-append x (concat (edited s)));
      to = w.to (by_bytes s) ∙ ap (λ l. singles x ++ l) rest.to ∙ sym (singles-append x (concat (made s)));
      cost = omega (arith, w.cost (by_bytes s), rest.cost);
    }
whole (insert x ∷ s) p q =
    let w = along_inserts x in let rest = whole s p q.1 in
    record {
      from = w.from (by_bytes s) ∙ rest.from;
      to = w.to (by_bytes s) ∙ ap (λ l. singles x ++ l) rest.to ∙ sym (singles-append x (concat (made s)));
      cost = omega (arith, w.cost (by_bytes s), rest.cost, short x q.0);
    }
whole (delete x ∷ s) p q =
    let w = along_deletes x in let rest = whole s p.1 q in
    record {
      from = w.from (by_bytes s) ∙ ap (λ l. singles x ++ l) rest.from ∙ sym (singles-append x (concat (edited s)));
      to = w.to (by_bytes s) ∙ rest.to;
      cost = omega (arith, w.cost (by_bytes s), rest.cost, short x p.0);
    }
whole (replace x y ∷ s) p q =
    let w = along_turns x y 4 (short x p.0) (short y q.0) in let rest = whole s p.1 q.1 in
    record {
      from = w.from (by_bytes s) ∙ ap (λ l. singles x ++ l) rest.from ∙ sym (singles-append x (concat (edited s)));
      to = w.to (by_bytes s) ∙ ap (λ l. singles y ++ l) rest.to ∙ sym (singles-append y (concat (made s)));
      cost = omega (arith, w.cost (by_bytes s), rest.cost);
    }

pub near_bytes : (n m : ℕ) (k q : List ℕ) → m ≡ 4 * n → IsNear IsTextItem n k q → IsNear IsByteItem m k q
near_bytes n m k q is near =
    let s = near.edits.0 in
    let w = whole s (subst (AllByRecursion IsTextItem) (sym near.edits.1) near.of_items) (subst (AllByRecursion IsTextItem) (sym near.edits.2) near.to_items) in
    record {
      of = singles (concat near.of);
      to = singles (concat near.to);
      of_items = items_singles near.of near.of_items;
      to_items = items_singles near.to near.to_items;
      of_is = concat-singles (concat near.of) ∙ near.of_is;
      to_is = concat-singles (concat near.to) ∙ near.to_is;
      edits = (
        by_bytes s,
        w.from ∙ ap (λ l. singles (concat l)) near.edits.1,
        w.to ∙ ap (λ l. singles (concat l)) near.edits.2,
        omega (arith, w.cost, near.edits.3, is),
      );
    }

-- texts alone are near one another
pub near_text_of : (n : ℕ) (k q : List ℕ) → IsNear IsTextItem n k q → IsUtf8 k
near_text_of n k q near = valid_text k (near.of, near.of_items, near.of_is)

pub near_text_to : (n : ℕ) (k q : List ℕ) → IsNear IsTextItem n k q → IsUtf8 q
near_text_to n k q near = valid_text q (near.to, near.to_items, near.to_is)

-- what is far by bytes is far by characters
pub far_text : (sought text : List ℕ) (m n : ℕ) → sought ≡ text → m ≡ 4 * n
    → (e : List ℕ × ℕ) → (IsNear IsByteItem m e.0 sought → ⊥) → IsNear IsTextItem n e.0 text → ⊥
far_text sought text m n same is e far near = far (subst (λ q. IsNear IsByteItem m e.0 q) (sym same) (near_bytes n m e.0 text is near))
