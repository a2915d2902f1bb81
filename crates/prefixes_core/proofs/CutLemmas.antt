-- Texts that are cut into pieces side by side.
use Rattle.std.proofs.Common.{◌≡◌, ◌≢◌, ◌==◌, ℕ, ◌+◌, ◌<◌, ◌≤◌, inl, inr, List, []}
use Rattle.std.proofs.Common.{◌∷◌, ◌++◌, length, get_or, set, drop, replicate, Option}
use Rattle.std.proofs.Common.{None, Some, map as list_map}
use Rattle.std.proofs.Common.{Bor, IfSome, refl, sym, ap, subst, ◌∙◌, arith}
use Rattle.std.specs.FinMap as map
use Rattle.std.specs.Global.{Vec}
use Rattle.std.proofs.lemmas.Bool.{cases_Bool, eqb-false, eqb-true}
use Rattle.std.proofs.lemmas.Grind.{get_or-set_at}
use Rattle.std.specs.Option.{option_map}
use Rattle.std.proofs.lemmas.List.{drop-drop, drop-set-lt, get_or-drop, get_or-map}
use Rattle.std.proofs.lemmas.List.{get_or-replicate, get_or-set_other, length-map}
use Rattle.std.proofs.lemmas.List.{length-replicate, length-set, map-append, map-set}
use Rattle.patricia_tree.specs.Keys.{Begins, key_cmp}
use Rattle.patricia_tree.specs.Prefixes.{longest}
use Rattle.patricia_tree.specs.TextKind.{IsTextItem}
use Rattle.prefixes_core.specs.Internal.Cuts.{IsFoundFor, Cuts, CutsOn, AreCut, AreAllSegments}
use Rattle.prefixes_core.specs.Internal.Cuts.{pieces_in}
use Rattle.prefixes_core.specs.Segments.{IsFirstPiece}
use Rattle.prefixes_core.proofs.LongestLemmas.{longest_at, longest_key, no_key}
use Rattle.prefixes_core.proofs.SegmentLemmas.{word_first, chars_first, none_fits, cuts_first}
use Rattle.prefixes_core.proofs.SegmentLemmas.{cuts_last, cuts_more}

module _ {V : Type 0} (dictionary : map.FinMap key_cmp V) where
  -- at first nothing is cut off texts
  pub none_cut_off : (texts rests : List (Bor (List ℕ))) (pieces : List (List (List ℕ))) (n : ℕ)
      → rests ≡ texts → pieces ≡ replicate n [] → n ≡ length texts
      → AreCut dictionary (list_map (λ t. t.now) texts) pieces (list_map (λ r. r.now) rests)
  none_cut_off texts rests pieces n same none counted =
      let all : List (List ℕ) = list_map (λ t. t.now) texts in
      let many : length all ≡ length texts = length-map texts (λ t. t.now) in
      subst (λ l. AreCut dictionary all pieces (list_map (λ r. r.now) l)) (sym same)
      (subst (λ l. AreCut dictionary all l all) (sym none) (record {
        lists = length-replicate n [] ∙ counted ∙ sym many;
        left = refl;
        each = λ i inside. subst (λ l. Cuts dictionary (get_or all i []) l (get_or all i []))
            (sym (get_or-replicate n i [] [] (omega (arith, inside, counted, many))))
            (cuts_first dictionary (get_or all i []));
      }))

  -- a piece more is cut off a text
  pub piece_more : (text : List ℕ) (old new : Vec (Bor (List ℕ))) (rest piece later : Bor (List ℕ))
      → new.items ≡ old.items ++ piece ∷ [] → rest.now ≡ piece.now ++ later.now
      → IsFirstPiece dictionary rest.now piece.now → Cuts dictionary text (pieces_in old) rest.now
      → Cuts dictionary text (pieces_in new) later.now
  piece_more text old new rest piece later more is first cuts =
      let all : pieces_in new ≡ pieces_in old ++ piece.now ∷ [] =
      ap (list_map (λ p. p.now)) more ∙ map-append (λ p. p.now) old.items (piece ∷ []) in
      subst (λ l. Cuts dictionary text l later.now) (sym all)
      (cuts_more dictionary text (pieces_in old) rest.now piece.now later.now is first cuts)

  module _ (texts : List (List ℕ)) where
    -- one text is cut on
    cut_at : (pieces : List (List (List ℕ))) (rests : List (List ℕ)) (i : ℕ)
        (more : List (List ℕ)) (later : List ℕ)
        → CutsOn dictionary (get_or pieces i []) (get_or rests i []) more later
        → AreCut dictionary texts pieces rests
        → AreCut dictionary texts (set pieces i more) (set rests i later)
    cut_at pieces rests i more later on cut = record {
      lists = length-set pieces i more ∙ cut.lists;
      left = length-set rests i later ∙ cut.left;
      each = λ j inside. elim (cases_Bool (j == i)) [
        | inl same ↦
            let is : j ≡ i = eqb-true j i same in
            let one : i < length pieces = omega (arith, inside, cut.lists, is) in
            let other : i < length rests = omega (arith, inside, cut.left, is) in
            rw (get_or-set_at pieces i j more [] is one, get_or-set_at rests i j later [] is other)
            (on (get_or texts j []) (subst
            (λ k. Cuts dictionary (get_or texts j []) (get_or pieces k []) (get_or rests k []))
            is (cut.each j inside)))
        | inr other ↦
            let apart : j ≢ i = eqb-false j i other in
            rw (
              get_or-set_other pieces i j more [] apart,
              get_or-set_other rests i j later [] apart,
            ) (cut.each j inside)
      ];
    }

    -- the first texts are cut to their ends, and this is left of the others
    pub record AreCutUpTo (n : ℕ) (pieces : List (List (List ℕ))) (rests : List (List ℕ))
        : Type 0 where
      pub lists : length pieces ≡ length texts
      pub left : length rests ≡ length texts
      pub done :
          (i : ℕ) → i < n → i < length texts
          → Cuts dictionary (get_or texts i []) (get_or pieces i []) []
      pub others :
          (i : ℕ) → n ≤ i → i < length texts
          → Cuts dictionary (get_or texts i []) (get_or pieces i []) (get_or rests i [])

    -- one more is cut to its end
    end_at : (n : ℕ) (pieces : List (List (List ℕ))) (rests : List (List ℕ))
        (more : List (List ℕ))
        → CutsOn dictionary (get_or pieces n []) (get_or rests n []) more []
        → AreCutUpTo n pieces rests → AreCutUpTo (n + 1) (set pieces n more) rests
    end_at n pieces rests more on cut = record {
      lists = length-set pieces n more ∙ cut.lists;
      left = cut.left;
      done = λ j below inside. elim (cases_Bool (j == n)) [
        | inl same ↦
            let is : j ≡ n = eqb-true j n same in
            let one : n < length pieces = omega (arith, inside, cut.lists, is) in
            rw (get_or-set_at pieces n j more [] is one) (on (get_or texts j []) (subst
            (λ k. Cuts dictionary (get_or texts j []) (get_or pieces k []) (get_or rests k []))
            is (cut.others j (omega (arith, is)) inside)))
        | inr other ↦
            let apart : j ≢ n = eqb-false j n other in
            rw (get_or-set_other pieces n j more [] apart)
            (cut.done j (omega (arith, below, apart)) inside)
      ];
      others = λ j above inside.
          let apart : j ≢ n = λ is. absurd (omega (arith, above, is)) in
          rw (get_or-set_other pieces n j more [] apart)
          (cut.others j (omega (arith, above)) inside);
    }

    -- at first each is only cut so far
    pub none_ended : (pieces : List (List (List ℕ))) (rests : List (List ℕ))
        → AreCut dictionary texts pieces rests → AreCutUpTo 0 pieces rests
    none_ended pieces rests cut = record {
      lists = cut.lists;
      left = cut.left;
      done = λ j below inside. absurd (omega (arith, below));
      others = λ j above inside. cut.each j inside;
    }

    -- and at last each is to its end
    pub all_ended : (n : ℕ) (pieces : List (List (List ℕ))) (rests : List (List ℕ))
        → length rests ≤ n → AreCutUpTo n pieces rests → AreAllSegments dictionary texts pieces
    all_ended n pieces rests all cut = record {
      lists = cut.lists;
      each = λ i inside. cuts_last dictionary (get_or texts i []) (get_or pieces i []) [] refl
          (cut.done i (omega (arith, all, cut.left, inside)) inside);
    }

    module _ (pieces : List (Vec (Bor (List ℕ)))) (rests : List (Bor (List ℕ))) (i : ℕ)
        (e more : Vec (Bor (List ℕ))) (d : Bor (List ℕ)) (inside : i < length pieces)
        (within : i < length rests) where
      pieces_at : get_or (list_map pieces_in pieces) i [] ≡ pieces_in (get_or pieces i e)
      pieces_at = get_or-map pieces_in pieces i e [] inside

      rest_at : get_or (list_map (λ r. r.now) rests) i [] ≡ (get_or rests i d).now
      rest_at = get_or-map (λ (r : Bor (List ℕ)). r.now) rests i d [] within

      -- the text at a place is cut on
      pub one_cut_on : (later : Bor (List ℕ))
          → CutsOn dictionary (pieces_in (get_or pieces i e)) (get_or rests i d).now
          (pieces_in more) later.now
          → AreCut dictionary texts (list_map pieces_in pieces) (list_map (λ r. r.now) rests)
          → AreCut dictionary texts (list_map pieces_in (set pieces i more))
          (list_map (λ r. r.now) (set rests i later))
      one_cut_on later on cut =
          rw (
            map-set pieces_in pieces i more,
            map-set (λ (r : Bor (List ℕ)). r.now) rests i later,
          )
          (cut_at (list_map pieces_in pieces) (list_map (λ r. r.now) rests) i (pieces_in more)
          later.now (rw (pieces_at, rest_at) on) cut)

      -- the text at a place is cut to its end
      pub one_ended :
          CutsOn dictionary (pieces_in (get_or pieces i e)) (get_or rests i d).now
          (pieces_in more) []
          → AreCutUpTo i (list_map pieces_in pieces) (list_map (λ r. r.now) rests)
          → AreCutUpTo (i + 1) (list_map pieces_in (set pieces i more))
          (list_map (λ r. r.now) rests)
      one_ended on cut =
          rw (map-set pieces_in pieces i more)
          (end_at i (list_map pieces_in pieces) (list_map (λ r. r.now) rests) (pieces_in more)
          (rw (pieces_at, rest_at) on) cut)

  -- what is looked up for a text stands where it does, as long as it is not cut
  pub looked_up : (keys rests : List (Bor (List ℕ))) (found : List (Option (Bor (List ℕ) × Bor V)))
      → list_map (option_map (λ e. (e.0.now, e.1.now))) found
      ≡ list_map (λ key. longest key.now (map.entries dictionary)) keys
      → (i : ℕ) (d : Bor (List ℕ)) (one : Option (Bor (List ℕ) × Bor V)) → i < length keys
      → one ≡ get_or found i one → drop i rests ≡ drop i keys
      → IsFoundFor dictionary (get_or rests i d).now one
  looked_up keys rests found all i d one inside is same =
      subst (λ (r : Bor (List ℕ)). IsFoundFor dictionary r.now one)
      (sym (same_at rests keys i d same)) (longest_at dictionary keys found all i d one inside is)
    where
      first : (l : List (Bor (List ℕ))) (i : ℕ) (d : Bor (List ℕ))
          → get_or (drop i l) 0 d ≡ get_or l i d
      first l i d =
          let at : i + 0 ≡ i = omega arith in
          get_or-drop i l 0 d ∙ ap (λ n. get_or l n d) at

      same_at : (xs ys : List (Bor (List ℕ))) (i : ℕ) (d : Bor (List ℕ))
          → drop i xs ≡ drop i ys → get_or xs i d ≡ get_or ys i d
      same_at xs ys i d e = sym (first xs i d) ∙ ap (λ l. get_or l 0 d) e ∙ first ys i d

-- what is behind a place stays where it is written
pub later_same : {X : Type 0} (xs ys : List X) (i : ℕ) (x : X) → drop i xs ≡ drop i ys
    → drop (i + 1) (set xs i x) ≡ drop (i + 1) ys
later_same xs ys i x e =
    drop-set-lt (i + 1) xs i x (omega arith)
    ∙ sym (drop-drop 1 i xs) ∙ ap (drop 1) e ∙ drop-drop 1 i ys

module _ {V : Type 0} (text : List ℕ) (found : Option (Bor (List ℕ) × Bor V)) where
  -- a nonempty word that is found is cut off first
  pub word_off : (word : Bor (List ℕ)) (value : Bor V) → found ≡ Some (word, value)
      → word.now ≢ [] → (dictionary : map.FinMap key_cmp V) → IsFoundFor dictionary text found
      → IsFirstPiece dictionary text word.now
  word_off word value is some dictionary finds =
      word_first dictionary text word.now some (longest_key dictionary text (word.now, value.now)
      (sym (subst (λ o. IsFoundFor dictionary text o) is finds)))

  -- the first character, if the word is empty
  pub char_off : (word : Bor (List ℕ)) (value : Bor V) → found ≡ Some (word, value)
      → word.now ≡ [] → (char : Option (Bor (List ℕ)))
      → IfSome char (λ c. IsTextItem c.now × Begins c.now text)
      → IfSome char (λ c. (dictionary : map.FinMap key_cmp V)
      → IsFoundFor dictionary text found → IsFirstPiece dictionary text c.now)
  char_off word value is none None first = tt
  char_off word value is none (Some c) first = λ dictionary finds.
      let long = longest_key dictionary text (word.now, value.now)
      (sym (subst (λ o. IsFoundFor dictionary text o) is finds)) in
      chars_first dictionary text (Some c) (none_fits dictionary text word.now none long) first

  -- and the first character, if no word is found
  pub lone_char_off : found ≡ None → (char : Option (Bor (List ℕ)))
      → IfSome char (λ c. IsTextItem c.now × Begins c.now text)
      → IfSome char (λ c. (dictionary : map.FinMap key_cmp V)
      → IsFoundFor dictionary text found → IsFirstPiece dictionary text c.now)
  lone_char_off is None first = tt
  lone_char_off is (Some c) first = λ dictionary finds.
      chars_first dictionary text (Some c) (λ word fits. no_key dictionary text
      (sym (subst (λ o. IsFoundFor dictionary text o) is finds)) word fits.listed fits.begins)
      first
