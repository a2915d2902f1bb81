-- What the place of a key among the nodes tells of the entries under it and of the common length.
use Rattle.std.proofs.Common.{◌≡◌, ℕ, ◌+◌, ◌-◌, ◌≤◌, List, [], ◌∷◌, ◌++◌, length, Option, sym, ap}
use Rattle.std.proofs.Common.{subst, ◌∙◌, arith}
use Rattle.std.proofs.lemmas.List.{length-append}
use Rattle.patricia_keys.specs.Keys.{IsKeyKind}
use Rattle.patricia_model.specs.Prefixes.{IsReach}
use Rattle.patricia_model.specs.Siblings.{own, entries, keys_of, IsCanonical}
use Rattle.patricia_model.proofs.ReachLemmas.{Reaches, reaches_nothing, reaches_end, reaches_own}
use Rattle.patricia_model.proofs.ReachLemmas.{reaches_past, reaches_before, reaches_within}
use Rattle.patricia_model.proofs.ReachLemmas.{reaches_through, reach_is}
use Rattle.patricia_nodes.specs.declared.arena.NodeArena.{NodeArena}
use Rattle.patricia_nodes.specs.declared.arena.seek.LinkRef.{LinkRef}
use Rattle.patricia_nodes.specs.declared.arena.seek.Match.{Match}
use Rattle.patricia_nodes.specs.declared.arena.seek.Match.TheVariants.{Absent, InsideLabel, Exact}
use Rattle.patricia_nodes.specs.Internal.Plans.{Plan, Nil, Cell, siblings_in, siblings_of}
use Rattle.patricia_nodes.specs.Internal.Plans.{entries_of}
use Rattle.patricia_nodes.specs.Internal.Places.{Frame, InChild, InSibling, fill, Leads, Matches}
use Rattle.patricia_nodes.specs.Internal.Places.{Placed}
use Rattle.patricia_nodes.proofs.FillLemmas.{siblings-within}

-- how many bytes of what is left are common with the node at which a look-up ends
abbrev pub common_at : List ℕ → Match → ℕ
common_at rest Absent = 0
common_at rest (InsideLabel id n) = n
common_at rest (Exact id) = length rest

module _ (item : List ℕ → Type 0) (kind : IsKeyKind item) {V : Type 0} where
  -- keys go with a key as far as the bytes that a look-up has passed, and as those in the place with
  -- its rest
  reaches-fill : (fs : List (Frame V)) (q : Plan V) → IsCanonical item (siblings_in (fill fs q))
      → (key rest : List ℕ) → Leads item fs key rest
      → (m : ℕ) × (m + length rest ≡ length key) ×
      ((n : ℕ) → Reaches item (keys_of (entries (siblings_in q))) rest n → Reaches item
      (keys_of (entries (siblings_in (fill fs q)))) key (m + n))
  reaches-fill [] q ok key rest e = (0, omega (arith, ap length e), λ n r. rw (← e) (subst (Reaches item (keys_of (entries (siblings_in q))) rest) (omega arith) r))
  reaches-fill (InChild id l v d ∷ fs) q ok key rest (before, passes, nonempty, leads) =
      let o = reaches-fill fs (Cell id l v q d) ok key before leads in
      let inner = siblings-within item fs (Cell id l v q d) ok in
      let long = ap length (sym passes.splits) ∙ length-append l rest in (
        o.0 + length l,
        omega (arith, o.1, long),
        λ n r. subst (Reaches item (keys_of (entries (siblings_in (fill fs (Cell id l v q d))))) key)
            (omega arith)
            (o.2 (length l + n)
            (reaches_through item kind l v (siblings_in q) (siblings_in d) inner before rest passes n
            (reaches_own item rest v (entries (siblings_in q)) n r))),
      )
  reaches-fill (InSibling id l v c ∷ fs) q ok key rest (before, leads) =
      let o = reaches-fill fs (Cell id l v c q) ok key rest leads in
      let inner = siblings-within item fs (Cell id l v c q) ok in
      (o.0, o.1, λ n r. o.2 n (reaches_past item kind l v (siblings_in c) (siblings_in q) inner rest before n r))

  -- in the place, how far the keys go with the rest of the key is what the look-up has found
  reaches_stop : (focus : Plan V) → IsCanonical item (siblings_in focus) → (rest : List ℕ) (matched : Match)
      → Matches item focus rest matched
      → Reaches item (keys_of (entries (siblings_in focus))) rest (common_at rest matched)
  reaches_stop Nil ok rest matched h = rw h (reaches_end item rest)
  reaches_stop (Cell id l v c d) ok rest Absent h = reaches_before item kind l v (siblings_in c) (siblings_in d) ok rest h
  reaches_stop (Cell id l v c d) ok rest (InsideLabel i n) h = reaches_within item kind l v (siblings_in c) (siblings_in d) ok rest n h.1
  reaches_stop (Cell id l v c d) ok rest (Exact i) h =
      let long = ap length (sym h.1.splits) ∙ length-append l [] in
      subst (Reaches item (keys_of (entries (siblings_in (Cell id l v c d)))) rest) (omega (arith, long))
      (reaches_through item kind l v (siblings_in c) (siblings_in d) ok rest [] h.1 0 (reaches_nothing item _))

module _ (item : List ℕ → Type 0) (kind : IsKeyKind item) {V : Type 0} (s : NodeArena V)
    (ok : IsCanonical item (siblings_of s)) (key : List ℕ) (link_ref : LinkRef) (at : Option ℕ)
    (rest : List ℕ) (matched : Match) (p : Placed item s key link_ref at rest matched) where
  -- the top siblings, with the place filled, keep the invariant
  place_siblings : IsCanonical item (siblings_in (fill p.frames p.focus))
  place_siblings = rw p.fills ok

  -- keys go with the key as far as the bytes passed, and as those in the place go with its rest
  parts :
      (m : ℕ) × (m + length rest ≡ length key) ×
      ((n : ℕ) → Reaches item (keys_of (entries (siblings_in p.focus))) rest n → Reaches item
      (keys_of (entries (siblings_in (fill p.frames p.focus)))) key (m + n))
  parts = reaches-fill item kind p.frames p.focus place_siblings key rest p.leads

  -- what is left of a key is no more than the key
  pub rest_within : length rest ≤ length key
  rest_within = omega (arith, parts.1)

  -- how far all keys go with it
  pub place_reaches :
      Reaches item (keys_of (entries_of s)) key (length key - length rest + common_at rest matched)
  place_reaches =
      let here = reaches_stop item kind p.focus (siblings-within item p.frames p.focus place_siblings) rest matched p.is_match in
      let m : parts.0 ≡ length key - length rest = omega (arith, parts.1) in
      rw (← m)
      (subst (λ (q : Plan V). Reaches item (keys_of (entries (siblings_in q))) key
      (parts.0 + common_at rest matched)) p.fills (parts.2 (common_at rest matched) here))

  -- the longest common prefix ends at the place of the key
  pub place_reach : (n : ℕ) → n ≡ length key - length rest + common_at rest matched → (v : Option V)
      → IsReach item (keys_of (own v ++ entries_of s)) key n
  place_reach n is v = rw is (reach_is item _ key _ (reaches_own item key v (entries_of s) _ place_reaches))
