-- Bytes behind their number, and packed lists.
use Rattle.std.proofs.Common.{◌≡◌, ◌≢◌, ℕ, zero, suc, ◌==◌, Bool, true, false, get_or, ◌+◌, ◌≤◌}
use Rattle.std.proofs.Common.{◌<◌, ◌^◌, List, [], ◌∷◌, ◌++◌, map, length, take, drop, refl, sym, ap}
use Rattle.std.proofs.Common.{subst, ◌∙◌, arith}
use Rattle.std.specs.Int.{w64, to_be_bytes, from_be_bytes}
use Rattle.std.specs.List.{concat}
use Rattle.std.proofs.lemmas.List.{append_assoc, append-nil, append_cancel_left, length-append}
use Rattle.std.proofs.lemmas.List.{length-take-le, take-append-drop, take_at, drop_at}
use Rattle.std.proofs.lemmas.Bool.{eqb-false}
use Rattle.std.proofs.lemmas.Nat.{be_bytes_8, from_be_bytes-to_be_bytes_8}
use Rattle.std.specs.Str.{bytes_eq}
use Rattle.std.specs.Cmp.Lexicographic.{same_text}
use Rattle.patricia_tree.specs.TextKind.{IsTextItem}
use Rattle.patricia_tree.specs.Walks.{values_of}
use Rattle.patricia_tree.specs.Writings.{Means}
use Rattle.std.specs.Prelude.{replicate}
use Rattle.patricia_tree.specs.Siblings.{keys_of}
use Rattle.prefixes_core.specs.Packings.{head, counted, packed, Packs, without_values}

-- the number of some bytes has eight bytes
pub number_length : (n : ℕ) → length (to_be_bytes w64 n) ≡ 8
number_length n = refl

-- of two lists with fronts of one length the fronts are one, and so is the rest
pub fronts_same : {A : Type 0} (a b x y : List A) → length a ≡ length b → a ++ x ≡ b ++ y
    → (a ≡ b) × (x ≡ y)
fronts_same a b x y long e = (
  sym (take_at a x (length a) refl) ∙ ap (take (length a)) e ∙ take_at b y (length a) (sym long),
  sym (drop_at a x (length a) refl) ∙ ap (drop (length a)) e ∙ drop_at b y (length a) (sym long),
)

-- bytes behind their number are as long as both
pub counted_length : (a : List ℕ) → length (counted a) ≡ 8 + length a
counted_length a = length-append (to_be_bytes w64 (length a)) a

-- what begins with bytes behind their number begins with no others
pub counted_same : (a b x y : List ℕ) → length a < 2 ^ 64 → length b < 2 ^ 64
    → counted a ++ x ≡ counted b ++ y → (a ≡ b) × (x ≡ y)
counted_same a b x y small small' e =
    let na = to_be_bytes w64 (length a) in
    let nb = to_be_bytes w64 (length b) in
    let parts = fronts_same na nb (a ++ x) (b ++ y) refl
    (sym (append_assoc na a x) ∙ e ∙ append_assoc nb b y) in
    let long : length a ≡ length b =
    sym (from_be_bytes-to_be_bytes_8 (length a) small) ∙ ap (from_be_bytes w64) parts.0
    ∙ from_be_bytes-to_be_bytes_8 (length b) small' in
    fronts_same a b x y long parts.1

-- the first of some bytes is no longer than all of them
front_small : (a x w : List ℕ) → counted a ++ x ≡ w → length w < 2 ^ 64 → length a < 2 ^ 64
front_small a x w e small =
    let both = length-append (counted a) x in
    let one = counted_length a in
    omega (arith, ap length e)

-- and neither are those behind it
rest_small : (a x w : List ℕ) → counted a ++ x ≡ w → length w < 2 ^ 64 → length x < 2 ^ 64
rest_small a x w e small = let both = length-append (counted a) x in omega (arith, ap length e)

-- where some values stand at the front of all, the rest is the other values
pub left_over : (vs ws : List (List ℕ)) (rest : List ℕ)
    → length (concat (map counted ws)) < 2 ^ 64
    → concat (map counted vs) ++ rest ≡ concat (map counted ws)
    → (more : List (List ℕ)) × (rest ≡ concat (map counted more)) × (ws ≡ vs ++ more)
left_over [] ws rest small e = (ws, e, refl)
left_over (v ∷ vs) [] rest small e =
    let both = length-append (counted v ++ concat (map counted vs)) rest in
    let one = length-append (counted v) (concat (map counted vs)) in
    let eight = counted_length v in
    absurd (omega (arith, ap length e))
left_over (v ∷ vs) (w ∷ ws) rest small e =
    let whole : counted v ++ (concat (map counted vs) ++ rest) ≡ counted w ++ concat
    (map counted ws) =
    sym (append_assoc (counted v) (concat (map counted vs)) rest) ∙ e in
    let all = concat (map counted (w ∷ ws)) in
    let parts = counted_same v w _ _ (front_small v _ all whole small)
    (front_small w _ all refl small) whole in
    let more = left_over vs ws rest (rest_small w _ all refl small) parts.1 in
    (more.0, more.1, (let first = parts.0 in let later = more.2 in cc))

-- values that are packed to the same bytes are the same
pub values_same : (vs ws : List (List ℕ)) → length (concat (map counted ws)) < 2 ^ 64
    → concat (map counted vs) ≡ concat (map counted ws) → vs ≡ ws
values_same vs ws small e =
    let over = left_over vs ws [] small (append-nil (concat (map counted vs)) ∙ e) in
    by over.0 over.1 over.2
  where
    by : (more : List (List ℕ)) → [] ≡ concat (map counted more) → ws ≡ vs ++ more → vs ≡ ws
    by [] none is = sym (is ∙ append-nil vs)
    by (m ∷ more) none is =
        let both = length-append (counted m) (concat (map counted more)) in
        let eight = counted_length m in
        absurd (omega (arith, ap length none))

-- where no bytes behind their number stand at the front of what is left, there are no values
pub no_values : (vs ws : List (List ℕ)) (rest whole : List ℕ) → length whole < 2 ^ 64 → rest ≢ []
    → ((field later : List ℕ) → rest ≡ counted field ++ later → ⊥)
    → concat (map counted vs) ++ rest ≡ whole → whole ≡ concat (map counted ws) → ⊥
no_values vs ws rest whole small some none e f =
    let over = left_over vs ws rest (subst (λ l. length l < 2 ^ 64) f small) (e ∙ f) in
    by over.0 over.1
  where
    by : (more : List (List ℕ)) → rest ≡ concat (map counted more) → ⊥
    by [] is = some is
    by (m ∷ more) is = none m (concat (map counted more)) is

-- one more value goes from what is left to those so far
pub values_more : (vs : List (List ℕ)) (v rest later whole : List ℕ) → rest ≡ counted v ++ later
    → concat (map counted vs) ++ rest ≡ whole
    → concat (map counted (vs ++ v ∷ [])) ++ later ≡ whole
values_more [] v rest later whole e f =
    ap (λ l. l ++ later) (append-nil (counted v)) ∙ sym e ∙ f
values_more (w ∷ vs) v rest later whole e f =
    append_assoc (counted w) (concat (map counted (vs ++ v ∷ []))) later
    ∙ ap (λ l. counted w ++ l) (values_more vs v rest later _ e refl)
    ∙ sym (append_assoc (counted w) (concat (map counted vs)) rest) ∙ f

-- packed bytes are those of one tree and one list of values
pub packed_same : (t u : List ℕ) (vs ws : List (List ℕ)) → length (packed u ws) < 2 ^ 64
    → packed t vs ≡ packed u ws → (t ≡ u) × (vs ≡ ws)
packed_same t u vs ws small e =
    let mine = counted t ++ concat (map counted vs) in
    let others = counted u ++ concat (map counted ws) in
    let inner : mine ≡ others = append_cancel_left head mine others e in
    let shorter : length others < 2 ^ 64 = (let both = length-append head others in omega
    (arith, small)) in
    let parts = counted_same t u _ _ (front_small t _ others inner shorter)
    (front_small u _ others refl shorter) inner in
    (parts.0, values_same vs ws (rest_small u _ others refl shorter) parts.1)

-- the first of some bytes are bytes
pub take_bytes : (n : ℕ) (xs : List ℕ) → ((i : ℕ) → get_or xs i 0 < 256)
    → (i : ℕ) → get_or (take n xs) i 0 < 256
take_bytes zero xs small i = omega arith
take_bytes (suc n) [] small i = omega arith
take_bytes (suc n) (x ∷ xs) small zero = small zero
take_bytes (suc n) (x ∷ xs) small (suc i) = take_bytes n xs (λ j. small (suc j)) i

-- eight bytes that are a number, so many bytes and the rest are bytes behind their number
pub counted_is : (bytes number rest field later : List ℕ) (n : ℕ)
    → number ≡ take 8 bytes → rest ≡ drop 8 bytes → length rest + 8 ≡ length bytes
    → ((i : ℕ) → get_or bytes i 0 < 256) → n ≡ from_be_bytes w64 number
    → field ≡ take n rest → later ≡ drop n rest → length field ≡ n
    → bytes ≡ counted field ++ later
counted_is bytes number rest field later n front behind size small is first second long =
    let eight : length number ≡ 8 = ap length front ∙ length-take-le 8 bytes (omega arith) in
    let each = subst (λ (l : List ℕ). (i : ℕ) → get_or l i 0 < 256) (sym front)
    (take_bytes 8 bytes small) in
    let spelled : to_be_bytes w64 (length field) ≡ number = ap (to_be_bytes w64) long
    ∙ be_bytes_8 number n eight each is in
    sym (ap (λ l. (l ++ field) ++ later) spelled ∙ append_assoc number field later
    ∙ ap (λ l. number ++ l) (ap (λ l. l ++ later) first ∙ ap (λ l. take n rest ++ l) second
    ∙ take-append-drop n rest)
    ∙ ap (λ l. l ++ rest) front ∙ ap (λ l. take 8 bytes ++ l) behind ∙ take-append-drop 8 bytes)

-- a list that is tested not to be empty is not
pub tested_some : (l : List ℕ) (b : Bool) → b ≡ (length l == 0) → b ≡ false → l ≢ []
tested_some l b e test none = eqb-false (length l) 0 (sym e ∙ test) (ap length none)

-- what is behind some bytes and their number is shorter
pub rest_no_longer : (a x w : List ℕ) → counted a ++ x ≡ w → length x ≤ length w
rest_no_longer a x w e = let both = length-append (counted a) x in omega (arith, ap length e)

-- bytes that begin as packed lists do are the head and the rest
pub head_front : (bytes rest : List ℕ) → bytes_eq (take 9 bytes) head ≡ true → rest ≡ drop 9 bytes
    → bytes ≡ head ++ rest
head_front bytes rest same e =
    sym (take-append-drop 9 bytes) ∙ ap (λ l. l ++ drop 9 bytes) (same_text (take 9 bytes) head
    (sym same))
    ∙ ap (λ l. head ++ l) (sym e)

-- bytes that do not begin so are not packed
pub no_head : (bytes : List ℕ) (entries : List (List ℕ × List ℕ))
    → bytes_eq (take 9 bytes) head ≡ false
    → Packs bytes entries → ⊥
no_head bytes entries other packs =
    let no : true ≡ false = subst (λ b. bytes_eq (take 9 b) head ≡ false) packs.is other in absurd
    (cc)

-- behind the head and the tree bytes of packed entries are their values
pub packed_rest : (bytes tree rest : List ℕ) (entries : List (List ℕ × List ℕ))
    → length bytes < 2 ^ 64 → bytes ≡ head ++ (counted tree ++ rest) → (packs : Packs bytes entries)
    → (tree ≡ packs.tree) × (rest ≡ concat (map counted (values_of entries)))
packed_rest bytes tree rest entries small e packs =
    let mine = counted tree ++ rest in
    let others = counted packs.tree ++ concat (map counted (values_of entries)) in
    let inner : mine ≡ others = append_cancel_left head mine others (sym e ∙ packs.is) in
    let shorter : length others < 2 ^ 64 = (let both = length-append head others in
    let same = ap length packs.is in omega (arith, small)) in
    counted_same tree packs.tree rest _ (front_small tree _ others inner shorter)
    (front_small packs.tree _ others refl shorter) inner

-- entries that are packed to the bytes have the values that are read
pub packed_values : (bytes tree rest : List ℕ) (values : List (List ℕ)) (entries : List
    (List ℕ × List ℕ))
    → length bytes < 2 ^ 64 → bytes ≡ head ++ (counted tree ++ rest)
    → rest ≡ concat (map counted values) → (packs : Packs bytes entries)
    → Means IsTextItem 2 tree values entries
packed_values bytes tree rest values entries small e f packs =
    let parts = packed_rest bytes tree rest entries small e packs in
    let whole = length-append head (counted tree ++ rest) in
    let last = length-append (counted tree) rest in
    let short : length (concat (map counted (values_of entries))) < 2 ^ 64 = omega
    (arith, small, ap length e, ap length parts.1) in
    let same = values_same values (values_of entries) short (sym f ∙ parts.1) in
    subst (λ t. Means IsTextItem 2 t values entries) (sym parts.0)
    (subst (λ vs. Means IsTextItem 2 packs.tree vs entries) (sym same) packs.means)

-- one more empty value
empties_more : (n : ℕ)
    → concat (map counted (replicate (suc n) [])) ≡ concat (map counted (replicate n [])) ++ counted []
empties_more zero = append-nil (counted [])
empties_more (suc n) =
    ap (λ l. counted [] ++ l) (empties_more n)
    ∙ sym (append_assoc (counted []) (concat (map counted (replicate n []))) (counted []))

-- behind packed empty values, one more
pub packed_more : (tree written more : List ℕ) (n m : ℕ) → m ≡ suc n
    → written ≡ packed tree (replicate n []) → more ≡ written ++ counted []
    → more ≡ packed tree (replicate m [])
packed_more tree written more n m next before is =
    let values = concat (map counted (replicate n [])) in
    is ∙ ap (λ l. l ++ counted []) before
    ∙ append_assoc head (counted tree ++ values) (counted [])
    ∙ ap (λ l. head ++ l) (append_assoc (counted tree) values (counted [])
    ∙ ap (λ l. counted tree ++ l) (sym (empties_more n)))
    ∙ ap (λ k. packed tree (replicate k [])) (sym next)

-- the values of names alone are empty
pub values_without : (names : List (List ℕ))
    → values_of (without_values names) ≡ replicate (length names) []
values_without [] = refl
values_without (name ∷ names) = ap (λ l. [] ∷ l) (values_without names)

-- and their keys are the names
pub keys_without : (names : List (List ℕ)) → keys_of (without_values names) ≡ names
keys_without [] = refl
keys_without (name ∷ names) = ap (λ l. name ∷ l) (keys_without names)
