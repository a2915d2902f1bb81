-- Lists that are read line by line.
use Rattle.std.proofs.Common.{◌≡◌, ℕ, ◌+◌, ◌<◌, ◌≤◌, ◌^◌, Bool, true, false}
use Rattle.std.proofs.Common.{List, [], ◌∷◌, ◌++◌, length}
use Rattle.std.proofs.Common.{Option, None, Some, IfSome, refl, sym, ap, subst, ◌∙◌, arith}
use Rattle.std.specs.List.{All}
use Rattle.std.proofs.lemmas.Fn.{FoldsTo-push}
use Rattle.std.proofs.lemmas.List.{append_assoc, append-nil, length-append, length_push}
use Rattle.std.proofs.lemmas.List.Elements.{All-nil, All-push}
use Rattle.prefixes_core.specs.Lists.{lines_of, IsListLine, IsLineFault, IsListFault}
use Rattle.prefixes_core.specs.Lists.{AddsLine, AddsLines}
use Rattle.prefixes_core.specs.Internal.TakenLines.{read_text, TakesLine}
use Rattle.prefixes_core.specs.declared.lines.LineFormat.{LineFormat}
use Rattle.prefixes_core.specs.declared.listing.ListError.{ListError}
use Rattle.prefixes_core.specs.declared.listing.ListError.TheVariants as Errors
use Rattle.prefixes_core.specs.declared.listing.Values.{Values}
use Rattle.prefixes_core.proofs.TakenLemmas.{few_lines}

module _ {S : Type 0} (IsName : List ℕ → Type 0) (Adds : S → List ℕ → List ℕ → S → Type 0)
    (values : Values) (format : LineFormat) (first : S) where
  -- how far the lines of some bytes are read: those so far are added, and the reader has the others
  pub record ReadTo (bytes : List ℕ) (left : Option (List ℕ)) (list : S) (number : ℕ) : Type 0 where
    pub done : List (List ℕ)
    pub rest : List ℕ
    pub left_is : left ≡ Some rest
    pub joined : done ++ lines_of format rest ≡ lines_of format bytes
    pub added : AddsLines Adds first done list
    pub right : All (IsListLine IsName values) done
    pub counted : length done + 1 ≡ number

  -- where the bytes are known
  abbrev pub IsReadTo : Option (List ℕ) → Option (List ℕ) → S → ℕ → Type 0
  IsReadTo known left list number = IfSome known (λ bytes. ReadTo bytes left list number)

  -- no line is read at first
  pub none_read : (known : Option (List ℕ)) → IsReadTo known known first 1
  none_read None = tt
  none_read (Some bytes) = record {
    done = [];
    rest = bytes;
    left_is = refl;
    joined = refl;
    added = refl;
    right = All-nil (IsListLine IsName values);
    counted = omega arith;
  }

  module _ (left new : Option (List ℕ)) (list : S) (number : ℕ) (read : List ℕ) where
    -- what a read takes off what is left
    taken_off : (b : Bool) (rest : List ℕ) → left ≡ Some rest → TakesLine format left new b read
        → TakesLine format (Some rest) new b read
    taken_off b rest is takes = subst (λ l. TakesLine format l new b read) is takes

    -- one line more is read
    pub line_read : (known : Option (List ℕ)) (more : S) → TakesLine format left new true read
        → AddsLine Adds list (read_text format read) more
        → IsListLine IsName values (read_text format read)
        → IsReadTo known left list number → IsReadTo known new more (number + 1)
    line_read None more takes adds right before = tt
    line_read (Some bytes) more takes adds right before =
        let line = read_text format read in
        let off = taken_off true before.rest before.left_is takes in
        record {
          done = before.done ++ line ∷ [];
          rest = off.0;
          left_is = off.1;
          joined = append_assoc before.done (line ∷ []) (lines_of format off.0)
              ∙ ap (λ l. before.done ++ l) (sym off.2) ∙ before.joined;
          added = FoldsTo-push (AddsLine Adds) first before.done list line more before.added adds;
          right = All-push (IsListLine IsName values) before.done line before.right right;
          counted = omega (arith, length_push before.done line, before.counted);
        }

    -- all lines are read
    pub all_read : (known : Option (List ℕ)) → TakesLine format left new false read
        → IsReadTo known left list number
        → IfSome known (λ bytes. AddsLines Adds first (lines_of format bytes) list
        × All (IsListLine IsName values) (lines_of format bytes))
    all_read None takes before = tt
    all_read (Some bytes) takes before =
        let none = taken_off false before.rest before.left_is takes in
        let all : before.done ≡ lines_of format bytes =
        sym (append-nil before.done) ∙ ap (λ l. before.done ++ l) (sym none) ∙ before.joined in (
          subst (λ l. AddsLines Adds first l list) all before.added,
          subst (All (IsListLine IsName values)) all before.right,
        )

    -- a line is not right, and those before it are
    pub line_refused : (known : Option (List ℕ)) (e : ListError)
        → TakesLine format left new true read
        → IsLineFault IsName values number (read_text format read) e
        → IsReadTo known left list number
        → IfSome known (λ bytes. IsListFault IsName values (lines_of format bytes) e)
    line_refused None e takes fault before = tt
    line_refused (Some bytes) e takes fault before =
        let line = read_text format read in
        let off = taken_off true before.rest before.left_is takes in
        by e (
          before.done,
          line,
          lines_of format off.0,
          sym before.joined ∙ ap (λ l. before.done ++ l) off.2,
          before.right,
          subst (λ n. IsLineFault IsName values n line e) (sym before.counted) fault,
        )
      where
        by : (e : ListError)
            → (before : List (List ℕ)) × (line : List ℕ) × (after : List (List ℕ))
            × (lines_of format bytes ≡ before ++ line ∷ after)
            × All (IsListLine IsName values) before
            × IsLineFault IsName values (length before + 1) line e
            → IsListFault IsName values (lines_of format bytes) e
        by (Errors.Read error) found = tt
        by Errors.Memory found = tt
        by _ found = found

    -- there are not so many lines
    pub too_many : (known : Option (List ℕ)) (P : List ℕ → Type 0) → 2 ^ 64 ≤ number + 1
        → IsReadTo known left list number
        → IfSome known (λ bytes. length bytes < 2 ^ 63 → P bytes)
    too_many None P many before = tt
    too_many (Some bytes) P many before = λ short.
        let few = few_lines format bytes in
        let all = length-append before.done (lines_of format before.rest) in
        let same = ap length before.joined in
        absurd (omega (arith, many, short, few, all, same, before.counted))

-- what holds of all bytes
pub of_all_bytes : (known : Option (List ℕ)) (P : List ℕ → Type 0) → ((bytes : List ℕ) → P bytes)
    → IfSome known P
of_all_bytes None P all = tt
of_all_bytes (Some bytes) P all = all bytes
