-- Texts that are cut into the longest words of a dictionary, which is the set of a map's keys.
use Rattle.std.specs.Prelude.{◌≡◌, ◌≢◌, ◌≤◌, ◌⊎◌, ℕ, List, [], ◌∷◌, ◌++◌, length, true}
use Rattle.std.specs.FinMap as map
use Rattle.std.specs.List.{concat}
use Rattle.patricia_tree.specs.Keys.{Begins, key_cmp}
use Rattle.patricia_tree.specs.TextKind.{IsTextItem}

module _ {V : Type 0} (dictionary : map.FinMap key_cmp V) where
  -- a nonempty word of the dictionary that the text begins with: `app` fits `apple pie`
  pub record Fits (text word : List ℕ) : Type 0 where
    pub nonempty : word ≢ []
    pub listed : map.contains_key dictionary word ≡ true
    pub begins : Begins word text

  -- the longest of these: of `app`, `apple` and `pie` it is `apple` in `applepie`
  pub record IsLongestWord (text word : List ℕ) : Type 0 where
    pub fits : Fits text word
    pub longest : (other : List ℕ) → Fits text other → length other ≤ length word

  -- the first character, where no word fits: `x` in `xapple`
  pub record IsLoneChar (text char : List ℕ) : Type 0 where
    pub one : IsTextItem char
    pub begins : Begins char text
    pub unknown : (word : List ℕ) → Fits text word → ⊥

  -- what a text is cut to first
  abbrev pub IsFirstPiece : List ℕ → List ℕ → Type 0
  IsFirstPiece text piece = IsLongestWord text piece ⊎ IsLoneChar text piece

  -- the pieces are the text, and each is what it and all behind it are cut to first: `xapplepie` is
  -- cut to `x`, `apple` and `pie`
  pub record AreSegments (text : List ℕ) (pieces : List (List ℕ)) : Type 0 where
    pub joined : concat pieces ≡ text
    pub each :
        (before after : List (List ℕ)) (piece : List ℕ) → pieces ≡ before ++ piece ∷ after
        → IsFirstPiece (concat (piece ∷ after)) piece
