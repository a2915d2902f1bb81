use Rattle.std.proofs.Common.{◌≡◌, ◌≢◌, ℕ, List, [], ◌∷◌, ◌++◌, length, get_or, ap, ◌∙◌, arith}
use Rattle.patricia_store.proofs.HeadLemmas.{short_exact}
use Rattle.patricia_nodes.proofs.SeekLemmas.{byte_is}
use Rattle.patricia_nodes.proofs.path.extend_by_label.Goals as goal

-- a label of one byte is not empty
filled : (l : List ℕ) → length l ≡ 1 → l ≢ []
filled [] long = absurd (omega (arith, long))
filled (b ∷ l) long = λ none. absurd (cc)

-- and is added where its first byte is
pushed : (path l : List ℕ) (first : ℕ) → length l ≡ 1 → first ≡ get_or l 0 0
    → path ++ first ∷ [] ≡ path ++ l
pushed path [] first long is = absurd (omega (arith, long))
pushed path (b ∷ []) first long is = ap (λ x. path ++ x ∷ []) is
pushed path (b ∷ c ∷ l) first long is = absurd (omega (arith, long))

pub returns-then-short_len-eq1-clause-label : goal.returns-then-short_len-eq1-clause-label
returns-then-short_len-eq1-clause-label g c n reads =
    let exact = short_exact n.label _ (c.short_len.ensures n reads) (omega arith) in
    let long : length n.label ≡ 1 = omega (arith, exact) in
    let byte = byte_is _ g.met.K.Bytes.lawful n.label (c.requires.valid n reads) (filled n.label long) in
    let first : c.first_byte.result ≡ get_or n.label 0 0 = c.first_byte.ensures n reads ∙ byte in
    rw (c.in_ok-push.ensures.items, c.make_room.ensures)
    (pushed c.args.path.now.items n.label c.first_byte.result long first)
