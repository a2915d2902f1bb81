-- Texts of which some pieces are cut off, from the front on.
use Rattle.std.specs.Prelude.{◌≡◌, ◌<◌, ℕ, List, [], ◌∷◌, ◌++◌, length, get_or, Option}
use Rattle.std.specs.Prelude.{map as list_map}
use Rattle.std.specs.FinMap as map
use Rattle.std.specs.Global.{Vec}
use Rattle.std.specs.List.{concat}
use Rattle.std.specs.Option.{option_map}
use Rattle.patricia_tree.specs.Keys.{key_cmp}
use Rattle.patricia_tree.specs.Prefixes.{longest}
use Rattle.prefixes_core.specs.Segments.{IsFirstPiece, AreSegments}
use denote.Ref.{Bor}

-- the pieces of a list
abbrev pub pieces_in : Vec (Bor (List ℕ)) → List (List ℕ)
pieces_in pieces = list_map (λ piece. piece.now) pieces.items

module _ {V : Type 0} (dictionary : map.FinMap key_cmp V) where
  -- what a look-up finds for a text
  abbrev pub IsFoundFor : List ℕ → Option (Bor (List ℕ) × Bor V) → Type 0
  IsFoundFor text found =
      option_map (λ e. (e.0.now, e.1.now)) found ≡ longest text (map.entries dictionary)

  -- some pieces are cut off, and this is left
  pub record Cuts (text : List ℕ) (pieces : List (List ℕ)) (rest : List ℕ) : Type 0 where
    pub joined : concat pieces ++ rest ≡ text
    pub each :
        (before after : List (List ℕ)) (piece : List ℕ) → pieces ≡ before ++ piece ∷ after
        → IsFirstPiece dictionary (concat (piece ∷ after) ++ rest) piece

  -- of whatever text these pieces are cut off and this is left, more are then, and that is left
  abbrev pub CutsOn : List (List ℕ) → List ℕ → List (List ℕ) → List ℕ → Type 0
  CutsOn pieces rest more later = (text : List ℕ) → Cuts text pieces rest → Cuts text more later

  -- so far is each text cut, and this is left of each
  pub record AreCut (texts : List (List ℕ)) (pieces : List (List (List ℕ)))
      (rests : List (List ℕ)) : Type 0 where
    pub lists : length pieces ≡ length texts
    pub left : length rests ≡ length texts
    pub each :
        (i : ℕ) → i < length texts
        → Cuts (get_or texts i []) (get_or pieces i []) (get_or rests i [])

  -- each text is cut to its end
  pub record AreAllSegments (texts : List (List ℕ)) (pieces : List (List (List ℕ))) : Type 0 where
    pub lists : length pieces ≡ length texts
    pub each :
        (i : ℕ) → i < length texts
        → AreSegments dictionary (get_or texts i []) (get_or pieces i [])
