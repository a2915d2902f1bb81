-- Hosts that are answered together, by what is found for their keys.
use Rattle.std.proofs.Common.{◌≡◌, ℕ, ◌+◌, ◌<◌, Bool, ◌||◌, List, [], ◌++◌, length, get_or, take}
use Rattle.std.proofs.Common.{map as list_map, Bor, Option, None, Some, MatchOption, refl, sym}
use Rattle.std.proofs.Common.{ap, subst, ◌∙◌, arith}
use Rattle.std.specs.Option.{is_some, option_map}
use Rattle.std.proofs.lemmas.List.{get_or-map, length-map}
use Rattle.patricia_tree.specs.Sets.{KeySet}
use Rattle.prefixes_core.specs.Answers.{IsAnswer, IsFound, block_text}
use Rattle.prefixes_core.specs.Blocks.{Blocks, Passes, folded}
use Rattle.prefixes_core.specs.Internal.Reversed.{AreKeysFound, host_key, key_of, name_of}
use Rattle.prefixes_core.specs.Internal.Together.{AnswersTogether}
use Rattle.prefixes_core.specs.declared.answering.Question.TheVariants as Questions
use Rattle.prefixes_core.specs.declared.answering.Style.{Style}
use Rattle.prefixes_core.proofs.TogetherLemmas.{next_more}

module _ (style : Style) (names : KeySet) where
  -- the key that is found for a host says what is written, and whether something is found
  key_answers : (line : List ℕ) (key : Option (Bor (List ℕ)))
      → MatchOption (option_map (λ k. k.now) key) (Passes names (folded line))
      (λ k. Blocks names (folded line) (name_of k))
      → IsAnswer style (Questions.Block names) line
      (block_text style line (option_map (λ k. name_of k.now) key))
      × IsFound (Questions.Block names) line (is_some key)
  key_answers line None passes = ((None, passes, refl), passes)
  key_answers line (Some key) blocks =
      ((Some (name_of key.now), blocks, refl), (name_of key.now, blocks))

  module _ (lines keys : List (Bor (List ℕ))) (found : List (Option (Bor (List ℕ))))
      (cut : list_map (λ key. key.now) keys ≡ list_map (λ line. host_key line.now) lines)
      (all : AreKeysFound names (list_map (λ key. key.now) keys)
      (list_map (option_map (λ key. key.now)) found)) where
    -- as many are found as lines are there
    pub as_many_found : length found ≡ length lines
    as_many_found = omega (
      arith,
      length-map found (option_map (λ (key : Bor (List ℕ)). key.now)),
      all.as_many,
      ap length cut,
      length-map lines (λ line. host_key line.now),
    )

    -- what is found for a line stands where the line does
    key_at : (i : ℕ) (line : Bor (List ℕ)) (key : Option (Bor (List ℕ))) → i < length lines
        → key ≡ get_or found i key
        → MatchOption (option_map (λ k. k.now) key)
        (Passes names (folded (get_or lines i line).now))
        (λ k. Blocks names (folded (get_or lines i line).now) (name_of k))
    key_at i line key inside is =
        let sees : Option (Bor (List ℕ)) → Option (List ℕ) = option_map (λ k. k.now) in
        let host = folded (get_or lines i line).now in
        let within : i < length found = omega (arith, inside, as_many_found) in
        let own : get_or (list_map (λ key. key.now) keys) i [] ≡ key_of host =
        ap (λ l. get_or l i []) cut ∙ get_or-map (λ l. host_key l.now) lines i line [] inside in
        let there : i < length (list_map (λ key. key.now) keys) = omega (
          arith,
          inside,
          ap length cut,
          length-map lines (λ line. host_key line.now),
        ) in
        subst (λ o. MatchOption o (Passes names host) (λ k. Blocks names host (name_of k)))
        (get_or-map sees found i key None within ∙ ap sees (sym is)) (all.each i host there own)

    -- one host more is answered
    pub line_blocked : (i : ℕ) (line : Bor (List ℕ)) (key : Option (Bor (List ℕ)))
        (old so_far new : List ℕ) (seen one : Bool) → i < length lines → key ≡ get_or found i key
        → new ≡ so_far ++ block_text style (get_or lines i line).now
        (option_map (λ k. name_of k.now) key)
        → one ≡ is_some key
        → AnswersTogether style (Questions.Block names) (list_map (λ l. l.now) (take i lines)) old
        so_far seen
        → AnswersTogether style (Questions.Block names)
        (list_map (λ l. l.now) (take (i + 1) lines)) old new (seen || one)
    line_blocked i line key old so_far new seen one inside is writes finds before =
        let next = get_or lines i line in
        let answers = key_answers next.now key (key_at i line key inside is) in
        next_more style (Questions.Block names) (λ l. l.now) lines i line old so_far new seen one
        inside tt
        (block_text style next.now (option_map (λ k. name_of k.now) key), writes, answers.0)
        (subst (IsFound (Questions.Block names) next.now) (sym finds) answers.1) refl before
