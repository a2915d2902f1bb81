-- The lines of drawn trees.
use Rattle.std.proofs.Common.{◌≡◌, ◌+◌, ◌*◌, ◌<◌, ◌≤◌, ◌++◌, ℕ, suc, List, [], ◌∷◌, Bool}
use Rattle.std.proofs.Common.{length, map, take, drop, get_or, replicate, arith, sym, ap, ◌∙◌}
use Rattle.std.proofs.Common.{append_assoc, drop-cons, add-one, length-append}
use Rattle.std.proofs.lemmas.List.{replicate-append-replicate}
use Rattle.prefixes_core.specs.Drawings.{way_to, shown, node_lines, graph_line}
use Rattle.prefixes_core.specs.Drawings.{graph_lines}
use Rattle.prefixes_core.specs.Objects.{string_text}
use Rattle.prefixes_core.proofs.NearLemmas.{map-take, map_pushed}

-- two spaces more
pub two_more : (old out new : List ℕ) (n : ℕ) → out ≡ old ++ replicate (2 * n) 32
    → new ≡ out ++ 32 ∷ 32 ∷ [] → new ≡ old ++ replicate (2 * (n + 1)) 32
two_more old out new n is more =
    more ∙ ap (λ l. l ++ 32 ∷ 32 ∷ []) is
    ∙ append_assoc old (replicate (2 * n) 32) (32 ∷ 32 ∷ [])
    ∙ ap (λ l. old ++ l) (replicate-append-replicate (2 * n) 2 32
    ∙ ap (λ k. replicate k 32) (omega arith))

-- three texts, one after the other
pub three_joined : (a b c old one two new : List ℕ) → one ≡ old ++ a → two ≡ one ++ b
    → new ≡ two ++ c → new ≡ old ++ (a ++ b ++ c)
three_joined a b c old one two new first second third =
    third ∙ ap (λ l. l ++ c) (second ∙ ap (λ l. l ++ b) first ∙ append_assoc old a b)
    ∙ append_assoc old (a ++ b) c

-- a text in quotes has both of them
pub has_quotes : (text : List ℕ) → 2 ≤ length (shown text)
unfolding shown string_text
has_quotes text = simp length-append (omega arith)

-- the way to a node, by the way to the one before it
pub way_more : {A B : Type 0} (f : A → B) (way cut next : List A) (n level : ℕ) (own : A) (label : B)
    → n ≡ level → cut ≡ take n way → next ≡ cut ++ own ∷ [] → f own ≡ label
    → map f next ≡ way_to (map f way) level label
way_more f way cut next n level own label same cuts pushes is =
    map_pushed f cut next own label is pushes
    ∙ ap (λ l. l ++ label ∷ [])
    (ap (map f) cuts ∙ map-take f n way ∙ ap (λ k. take k (map f way)) same)

module _ {A : Type 0} (row : A → ℕ × (List ℕ × Bool)) (nodes : List A) (i : ℕ) (node : A)
    (inside : i < length nodes) (here : node ≡ get_or nodes i node) where
  -- the nodes from a place on begin with the one at it
  begin_with : map row (drop i nodes) ≡ row node ∷ map row (drop (i + 1) nodes)
  begin_with =
      ap (map row) (drop-cons nodes i node inside)
      ∙ ap (λ n. row n ∷ map row (drop (suc i) nodes)) (sym here)
      ∙ ap (λ k. row node ∷ map row (drop k nodes)) (sym (add-one i))

  -- one line more
  pub lines_more : (line : List (List ℕ) → ℕ × (List ℕ × Bool) → List ℕ)
      (way next : List (List ℕ)) (start out written : List ℕ)
      → next ≡ way_to way (row node).0 (row node).1.0
      → written ≡ out ++ line next (row node)
      → out ++ node_lines line way (map row (drop i nodes)) ≡ start
      → written ++ node_lines line next (map row (drop (i + 1) nodes)) ≡ start
  lines_more line way next start out written step writes is =
      let rest = map row (drop (i + 1) nodes) in
      ap (λ w. w ++ node_lines line next rest) writes
      ∙ append_assoc out (line next (row node)) (node_lines line next rest)
      ∙ ap (λ w. out ++ (line w (row node) ++ node_lines line w rest)) step
      ∙ ap (λ l. out ++ node_lines line way l) (sym begin_with) ∙ is

  -- one line of a graph more
  pub graph_more : (before cut next : List ℕ) (n : ℕ) (start out written : List ℕ)
      → n ≡ (row node).0 → cut ≡ take n before → next ≡ cut ++ i ∷ []
      → written ≡ out ++ graph_line cut i (row node)
      → out ++ graph_lines before i (map row (drop i nodes)) ≡ start
      → written ++ graph_lines next (i + 1) (map row (drop (i + 1) nodes)) ≡ start
  graph_more before cut next n start out written same cuts pushes writes is =
      let rest = map row (drop (i + 1) nodes) in
      let cut_is : cut ≡ take (row node).0 before = cuts ∙ ap (λ k. take k before) same in
      ap (λ w. w ++ graph_lines next (i + 1) rest) writes
      ∙ append_assoc out (graph_line cut i (row node)) (graph_lines next (i + 1) rest)
      ∙ ap (λ w. out ++ (graph_line cut i (row node) ++ graph_lines w (i + 1) rest)) pushes
      ∙ ap (λ w. out ++ (graph_line w i (row node) ++ graph_lines (w ++ i ∷ []) (i + 1) rest)) cut_is
      ∙ ap (λ l. out ++ graph_lines before i l) (sym begin_with) ∙ is
