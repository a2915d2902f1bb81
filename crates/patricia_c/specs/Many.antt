-- Many look-ups at once, by keys that lie one behind the other in an array of C.
use Rattle.std.specs.Prelude.{◌≡◌, ◌≢◌, ◌≤◌, ◌<◌, ◌⊎◌, ℕ, List, [], ◌∷◌, take, drop, length}
use Rattle.std.specs.Prelude.{Option, None, Some, map as list_map}
use Rattle.std.specs.List.{sum}
use Rattle.patricia_tree.specs.Prefixes.{longest}

-- the keys: of the bytes, as many for each as its length says
abbrev pub keys_in : List ℕ → List ℕ → List (List ℕ)
keys_in bytes [] = []
keys_in bytes (n ∷ lens) = take n bytes ∷ keys_in (drop n bytes) lens

module _ {A : Type 0} where
  -- an array whose first numbers are written, one for each answer and from what was there
  abbrev pub written : (Option A → ℕ → ℕ) → List (Option A) → List ℕ → List ℕ
  written becomes [] held = held
  written becomes (answer ∷ answers) [] = []
  written becomes (answer ∷ answers) (n ∷ held) =
      becomes answer n ∷ written becomes answers held

  -- 1 where there is an answer, and else 0
  abbrev pub flag : Option A → ℕ → ℕ
  flag None n = 0
  flag (Some a) n = 1

  -- a number of the answer; where there is none, what was there stays
  abbrev pub number : (A → ℕ) → Option A → ℕ → ℕ
  number of None n = n
  number of (Some a) n = of a

-- the length of an entry's key, and its value
abbrev pub measured : Option (List ℕ × ℕ) → Option (ℕ × ℕ)
measured None = None
measured (Some entry) = Some (length entry.0, entry.1)

module _ {A : Type 0} (answer : List ℕ → Option A) (keys lens : List ℕ) (code : ℕ) where
  -- an array of C: with code 0 the answer of each key is written, and with another code nothing
  pub record WritesAnswers (becomes : Option A → ℕ → ℕ) (held held' : List ℕ) : Type 0 where
    pub answers : code ≡ 0 → held' ≡ written becomes (list_map answer (keys_in keys lens)) held
    pub fits : code ≡ 0 → length lens ≤ length held
    pub unwritten : code ≢ 0 → held' ≡ held

-- with code 0 the values of many keys are written, and which of them are there; code 4 is another
-- one alone, where some array has too few places, or the lengths reach behind the keys
pub record AnswersMany (get : List ℕ → Option ℕ) (keys lens : List ℕ) (code : ℕ)
    (numbers flags numbers' flags' : List ℕ) : Type 0 where
  pub values : WritesAnswers get keys lens code (number (λ v. v)) numbers numbers'
  pub found : WritesAnswers get keys lens code flag flags flags'
  pub keys_fit : code ≡ 0 → sum lens ≤ length keys
  pub small : code ≢ 0 → (length keys < sum lens)
      ⊎ (length numbers < length lens) ⊎ (length flags < length lens)
  pub refused : code ≢ 0 → code ≡ 4

-- the same of the longest key among entries that is a prefix of each, with its length
pub record AnswersLongest (entries : List (List ℕ × ℕ)) (keys lens : List ℕ) (code : ℕ)
    (sizes numbers flags sizes' numbers' flags' : List ℕ) : Type 0 where
  pub prefix_lens : WritesAnswers (λ key. measured (longest key entries)) keys lens code
      (number (λ e. e.0)) sizes sizes'
  pub values : WritesAnswers (λ key. measured (longest key entries)) keys lens code
      (number (λ e. e.1)) numbers numbers'
  pub found : WritesAnswers (λ key. measured (longest key entries)) keys lens code flag flags flags'
  pub keys_fit : code ≡ 0 → sum lens ≤ length keys
  pub small : code ≢ 0 → (length keys < sum lens) ⊎ (length sizes < length lens)
      ⊎ (length numbers < length lens) ⊎ (length flags < length lens)
  pub refused : code ≢ 0 → code ≡ 4

-- keys that lie one behind the other, each with the value in its place
abbrev pub pairs_in : List ℕ → List ℕ → List ℕ → List (List ℕ × ℕ)
pairs_in bytes [] values = []
pairs_in bytes (n ∷ lens) [] = []
pairs_in bytes (n ∷ lens) (value ∷ values) =
    (take n bytes, value) ∷ pairs_in (drop n bytes) lens values
