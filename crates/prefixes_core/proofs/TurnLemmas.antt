-- Lines that are answered in turn.
use Rattle.std.proofs.Common.{◌≡◌, ℕ, ◌+◌, ◌<◌, ◌^◌, ◌||◌, Bool, true, false, List, [], ◌∷◌}
use Rattle.std.proofs.Common.{◌++◌, length, Option, None, Some, IfSome, refl, sym, ap, subst, ◌∙◌}
use Rattle.std.proofs.Common.{arith, ◌⊎◌, inl, inr}
use Rattle.std.specs.Io.KnownBytes.{Appends}
use Rattle.std.proofs.lemmas.Fn.{FoldsTo-push}
use Rattle.std.proofs.lemmas.List.{append_assoc, append-nil, length-append, length_push}
use Rattle.prefixes_core.specs.Answers.{IsAnswerFault, IsFound, IsRightLine, Leaves, Writes}
use Rattle.prefixes_core.specs.Turns.{Answered, AnswersLine, AnswersAll, answered}
use Rattle.prefixes_core.specs.Turns.{HasAnswers, IsNextRefused, IsStoppedAt, NamesNoLine}
use Rattle.prefixes_core.specs.Internal.Failures.{GetsFirst, IsInputFailure, IsKept, IsNamed}
use Rattle.prefixes_core.specs.Internal.Failures.{IsOutputFailure, IsWritten}
use Rattle.prefixes_core.specs.Internal.TakenLines.{read_text, TakesLine}
use Rattle.prefixes_core.specs.Internal.Together.{TakesTogether}
use Rattle.prefixes_core.specs.Lists.{lines_of}
use Rattle.prefixes_core.specs.declared.answering.Question.{Question}
use Rattle.prefixes_core.specs.declared.answering.Style.{Style}
use Rattle.prefixes_core.specs.declared.failure.Failure.{Failure}
use Rattle.prefixes_core.specs.declared.failure.Failure.TheVariants as Failures
use Rattle.prefixes_core.specs.declared.lines.LineFormat.{LineFormat}
use Rattle.prefixes_core.proofs.TakenLemmas.{few_lines}
use Rattle.prefixes_core.proofs.TogetherLemmas.{all_more}

-- what is written for a line stands behind any text
behind_any : (style : Style) (question : Question) (line old new : List ℕ)
    → Writes style question line old new
    → (more : List ℕ) × (new ≡ old ++ more)
    × ((text : List ℕ) → Writes style question line text (text ++ more))
behind_any style question line old new writes =
    (writes.0, writes.1, λ text. (writes.0, refl, writes.2))

of_output : (e : Failure) → IsOutputFailure e → NamesNoLine e
of_output (Failures.Line path n error) is = absurd is
of_output _ is = tt

of_input : (e : Failure) → IsInputFailure e → NamesNoLine e
of_input (Failures.Line path n error) is = absurd is
of_input _ is = tt

module _ (style : Style) (format : LineFormat) (first : Question) where
  -- how far the lines of some bytes are answered: the bytes that a writer got since the start, and
  -- those that wait, are the answers so far
  pub record AnsweredTo (bytes start : List ℕ) (left contents : Option (List ℕ))
      (question : Question) (found : Bool) (waiting : List ℕ) (number : ℕ) : Type 0 where
    pub done : List (List ℕ)
    pub rest : List ℕ
    pub part : List ℕ
    pub written : List ℕ
    pub left_is : left ≡ Some rest
    pub joined : done ++ lines_of format rest ≡ lines_of format bytes
    pub contents_is : contents ≡ Some (start ++ part)
    pub kept : written ≡ part ++ waiting
    pub answers : AnswersAll style first done (answered question written found)
    pub counted : length done + 1 ≡ number

  -- where both are known
  abbrev pub IsAnsweredTo : Option (List ℕ) → Option (List ℕ) → Option (List ℕ)
      → Option (List ℕ) → Question → Bool → List ℕ → ℕ → Type 0
  IsAnsweredTo known before left contents question found waiting number =
      IfSome known (λ bytes. IfSome before (λ start.
      AnsweredTo bytes start left contents question found waiting number))

  -- no line is answered at first
  pub none_answered : (known before : Option (List ℕ)) (waiting : List ℕ) → waiting ≡ []
      → IsAnsweredTo known before known before first false waiting 1
  none_answered None before waiting none = tt
  none_answered (Some bytes) None waiting none = tt
  none_answered (Some bytes) (Some start) waiting none = record {
    done = [];
    rest = bytes;
    part = [];
    written = [];
    left_is = refl;
    joined = refl;
    contents_is = ap Some (sym (append-nil start));
    kept = sym none;
    answers = refl;
    counted = omega arith;
  }

  module _ (known before left contents : Option (List ℕ)) (question : Question) (found : Bool)
      (waiting : List ℕ) (number : ℕ) where
    -- one line more is answered
    pub line_answered : (new : Option (List ℕ)) (next : Question) (one : Bool)
        (read more : List ℕ) → TakesLine format left new true read
        → IsRightLine question (read_text format read)
        → Writes style question (read_text format read) waiting more
        → IsFound question (read_text format read) one → Leaves question (read_text format read) next
        → IsAnsweredTo known before left contents question found waiting number
        → IsAnsweredTo known before new contents next (found || one) more (number + 1)
    line_answered new next one read more takes right writes finds leaves so_far = by known before so_far
      where
        line : List ℕ
        line = read_text format read

        by : (known before : Option (List ℕ))
            → IsAnsweredTo known before left contents question found waiting number
            → IsAnsweredTo known before new contents next (found || one) more (number + 1)
        by None before so_far = tt
        by (Some bytes) None so_far = tt
        by (Some bytes) (Some start) so_far =
            let off = subst (λ l. TakesLine format l new true read) so_far.left_is takes in
            let own = behind_any style question (read_text format read) waiting more writes in
            record {
              done = so_far.done ++ read_text format read ∷ [];
              rest = off.0;
              part = so_far.part;
              written = so_far.written ++ own.0;
              left_is = off.1;
              joined = append_assoc so_far.done (read_text format read ∷ []) (lines_of format off.0)
                  ∙ ap (λ l. so_far.done ++ l) (sym off.2) ∙ so_far.joined;
              contents_is = so_far.contents_is;
              kept = ap (λ l. l ++ own.0) so_far.kept
                  ∙ append_assoc so_far.part waiting own.0
                  ∙ ap (λ l. so_far.part ++ l) (sym own.1);
              answers = FoldsTo-push (AnswersLine style) (answered first [] false) so_far.done
                  (answered question so_far.written found) (read_text format read)
                  (answered next (so_far.written ++ own.0) (found || one)) so_far.answers (record {
                    right = right;
                    writes = own.2 so_far.written;
                    one = one;
                    finds = finds;
                    found = refl;
                    leaves = leaves;
                  });
              counted = omega
                  (arith, length_push so_far.done (read_text format read), so_far.counted);
            }

    -- lines are answered together
    pub together_answered : (new : Option (List ℕ)) (count : ℕ) (one : Bool) (more : List ℕ)
        → IfSome left
        (λ bytes. TakesTogether style format question bytes new count waiting more one)
        → IsAnsweredTo known before left contents question found waiting number
        → IsAnsweredTo known before new contents question (found || one) more (number + count)
    together_answered new count one more takes so_far = by known before so_far
      where
        by : (known before : Option (List ℕ))
            → IsAnsweredTo known before left contents question found waiting number
            → IsAnsweredTo known before new contents question (found || one) more (number + count)
        by None before so_far = tt
        by (Some bytes) None so_far = tt
        by (Some bytes) (Some start) so_far =
            let taken = subst (λ l. IfSome l
            (λ bytes. TakesTogether style format question bytes new count waiting more one))
            so_far.left_is takes in
            let own = taken.answers.written in
            record {
              done = so_far.done ++ taken.lines;
              rest = taken.rest;
              part = so_far.part;
              written = so_far.written ++ own;
              left_is = taken.left_is;
              joined = append_assoc so_far.done taken.lines (lines_of format taken.rest)
                  ∙ ap (λ l. so_far.done ++ l) (sym taken.first) ∙ so_far.joined;
              contents_is = so_far.contents_is;
              kept = ap (λ l. l ++ own) so_far.kept
                  ∙ append_assoc so_far.part waiting own
                  ∙ ap (λ l. so_far.part ++ l) (sym taken.answers.behind);
              answers = all_more style first question so_far.done taken.lines so_far.written own
                  found one so_far.answers taken.answers.answers;
              counted = omega (
                arith,
                length-append so_far.done taken.lines,
                so_far.counted,
                taken.counted,
              );
            }

    -- what waits is written
    pub answers_put : (new : Option (List ℕ)) (more : List ℕ) → IsKept contents new waiting more
        → IsAnsweredTo known before left contents question found waiting number
        → IsAnsweredTo known before left new question found more number
    answers_put new more keeps so_far = by known before so_far
      where
        by : (known before : Option (List ℕ))
            → IsAnsweredTo known before left contents question found waiting number
            → IsAnsweredTo known before left new question found more number
        by None before so_far = tt
        by (Some bytes) None so_far = tt
        by (Some bytes) (Some start) so_far =
            let is = subst (λ c. IsKept c new waiting more) so_far.contents_is keeps in
            record {
              done = so_far.done;
              rest = so_far.rest;
              part = so_far.part ++ is.0;
              written = so_far.written;
              left_is = so_far.left_is;
              joined = so_far.joined;
              contents_is = is.1 ∙ ap Some (append_assoc start so_far.part is.0);
              kept = so_far.kept ∙ ap (λ l. so_far.part ++ l) is.2
                  ∙ sym (append_assoc so_far.part is.0 more);
              answers = so_far.answers;
              counted = so_far.counted;
            }

    -- all lines are answered, and nothing waits
    pub all_answered : (read : List ℕ) (new : Option (List ℕ)) → TakesLine format left new false read
        → waiting ≡ [] → IsAnsweredTo known before left contents question found waiting number
        → IfSome known (λ bytes. IfSome before (λ start. length bytes < 2 ^ 63
        → (written : List ℕ)
        × AnswersAll style first (lines_of format bytes) (answered question written found)
        × (contents ≡ Some (start ++ written))))
    all_answered read new takes none so_far = by known before so_far
      where
        by : (known before : Option (List ℕ))
            → IsAnsweredTo known before left contents question found waiting number
            → IfSome known (λ bytes. IfSome before (λ start. length bytes < 2 ^ 63
            → (written : List ℕ)
            × AnswersAll style first (lines_of format bytes) (answered question written found)
            × (contents ≡ Some (start ++ written))))
        by None before so_far = tt
        by (Some bytes) None so_far = tt
        by (Some bytes) (Some start) so_far =
            let off = subst (λ l. TakesLine format l new false read) so_far.left_is takes in
            let all : so_far.done ≡ lines_of format bytes =
            sym (append-nil so_far.done) ∙ ap (λ l. so_far.done ++ l) (sym off) ∙ so_far.joined in
            let kept : so_far.part ≡ so_far.written =
            sym (so_far.kept ∙ ap (λ l. so_far.part ++ l) none ∙ append-nil so_far.part) in λ _. (
              so_far.written,
              subst (λ l. AnswersAll style first l (answered question so_far.written found)) all
                  so_far.answers,
              so_far.contents_is ∙ ap (λ l. Some (start ++ l)) kept,
            )

    -- what is written before a failure is the answers so far, or the first of them
    has_answers : (bytes start : List ℕ) (written : Option (List ℕ)) (e : Failure)
        → (so_far : AnsweredTo bytes start left contents question found waiting number)
        → IsWritten contents written waiting e → HasAnswers start written so_far.written e
    has_answers bytes start written e so_far puts =
        by e (subst (λ c. IsWritten c written waiting e) so_far.contents_is puts)
      where
        grown : (had bytes : List ℕ) (written : Option (List ℕ)) → Appends (Some had) written bytes
            → written ≡ Some (had ++ bytes)
        grown had bytes None more = absurd more
        grown had bytes (Some has) more = ap Some more

        whole : Appends (Some (start ++ so_far.part)) written waiting
            → written ≡ Some (start ++ so_far.written)
        whole more =
            grown (start ++ so_far.part) waiting written more
            ∙ ap Some (append_assoc start so_far.part waiting
            ∙ ap (λ l. start ++ l) (sym so_far.kept))

        by : (e : Failure) → IsWritten (Some (start ++ so_far.part)) written waiting e
            → HasAnswers start written so_far.written e
        by (Failures.Output error) first = (
          so_far.part ++ first.0,
          first.1,
          so_far.kept ∙ ap (λ l. so_far.part ++ l) first.2
              ∙ sym (append_assoc so_far.part first.0 first.1),
          first.3 ∙ ap Some (append_assoc start so_far.part first.0),
        )
        by _ more = whole more

    -- a line is refused, and the answers before it are written
    pub line_stops : (new written : Option (List ℕ)) (read : List ℕ) (e : Failure)
        → TakesLine format left new true read
        → IsNamed question (read_text format read) number e → IsWritten contents written waiting e
        → IsAnsweredTo known before left contents question found waiting number
        → IfSome known (λ bytes. IfSome before (λ start.
        IsStoppedAt style first (lines_of format bytes) start written e))
    line_stops new written read e takes names puts so_far = by known before so_far
      where
        refused : (all : Answered) (count : ℕ) (after : List (List ℕ)) (e : Failure)
            → all.question ≡ question → count + 1 ≡ number
            → IsNamed question (read_text format read) number e
            → IsNextRefused all count (read_text format read ∷ after) e
        refused all count after (Failures.Line path n error) asked counted names = (
          names.0 ∙ sym counted,
          subst (λ q. IsAnswerFault q (read_text format read) error) (sym asked) names.1,
        )
        refused all count after _ asked counted names = tt

        by : (known before : Option (List ℕ))
            → IsAnsweredTo known before left contents question found waiting number
            → IfSome known (λ bytes. IfSome before (λ start.
            IsStoppedAt style first (lines_of format bytes) start written e))
        by None before so_far = tt
        by (Some bytes) None so_far = tt
        by (Some bytes) (Some start) so_far =
            let off = subst (λ l. TakesLine format l new true read) so_far.left_is takes in
            record {
              before = so_far.done;
              after = read_text format read ∷ lines_of format off.0;
              all = answered question so_far.written found;
              joined = sym so_far.joined ∙ ap (λ l. so_far.done ++ l) off.2;
              answers = so_far.answers;
              named = refused (answered question so_far.written found) (length so_far.done)
                  (lines_of format off.0) e refl so_far.counted names;
              has = has_answers bytes start written e so_far puts;
            }

    -- something else fails, and the answers so far are written
    others_stop : (written : Option (List ℕ)) (e : Failure) → NamesNoLine e
        → IsWritten contents written waiting e
        → IsAnsweredTo known before left contents question found waiting number
        → IfSome known (λ bytes. IfSome before (λ start.
        IsStoppedAt style first (lines_of format bytes) start written e))
    others_stop written e other puts so_far = by known before so_far
      where
        unnamed : (all : Answered) (count : ℕ) (after : List (List ℕ)) (e : Failure)
            → NamesNoLine e → IsNextRefused all count after e
        unnamed all count after (Failures.Line path n error) other = absurd other
        unnamed all count [] _ other = tt
        unnamed all count (line ∷ after) _ other = tt

        by : (known before : Option (List ℕ))
            → IsAnsweredTo known before left contents question found waiting number
            → IfSome known (λ bytes. IfSome before (λ start.
            IsStoppedAt style first (lines_of format bytes) start written e))
        by None before so_far = tt
        by (Some bytes) None so_far = tt
        by (Some bytes) (Some start) so_far = record {
          before = so_far.done;
          after = lines_of format so_far.rest;
          all = answered question so_far.written found;
          joined = sym so_far.joined;
          answers = so_far.answers;
          named = unnamed (answered question so_far.written found) (length so_far.done)
              (lines_of format so_far.rest) e other;
          has = has_answers bytes start written e so_far puts;
        }

    -- the output fails
    pub output_stops : (written : Option (List ℕ)) (e : Failure) → IsOutputFailure e
        → GetsFirst contents written waiting
        → IsAnsweredTo known before left contents question found waiting number
        → IfSome known (λ bytes. IfSome before (λ start.
        IsStoppedAt style first (lines_of format bytes) start written e))
    output_stops written e fails gets = others_stop written e (of_output e fails) (by e fails)
      where
        by : (e : Failure) → IsOutputFailure e → IsWritten contents written waiting e
        by (Failures.Output error) is = gets
        by _ is = absurd is

    -- the lines are not read, and what waits is written, unless the output fails
    pub input_stops : (written : Option (List ℕ)) (e : Failure)
        → IsInputFailure e ⊎ IsOutputFailure e → IsWritten contents written waiting e
        → IsAnsweredTo known before left contents question found waiting number
        → IfSome known (λ bytes. IfSome before (λ start.
        IsStoppedAt style first (lines_of format bytes) start written e))
    input_stops written e fails = others_stop written e (by fails)
      where
        by : IsInputFailure e ⊎ IsOutputFailure e → NamesNoLine e
        by (inl input) = of_input e input
        by (inr output) = of_output e output

    -- there are not so many lines
    pub too_long : (P : List ℕ → List ℕ → Type 0) → 2 ^ 63 < number
        → IsAnsweredTo known before left contents question found waiting number
        → IfSome known (λ bytes. IfSome before (λ start. length bytes < 2 ^ 63 → P bytes start))
    too_long P many so_far = by known before so_far
      where
        by : (known before : Option (List ℕ))
            → IsAnsweredTo known before left contents question found waiting number
            → IfSome known (λ bytes. IfSome before (λ start. length bytes < 2 ^ 63 → P bytes start))
        by None before so_far = tt
        by (Some bytes) None so_far = tt
        by (Some bytes) (Some start) so_far = λ short.
            let few = few_lines format bytes in
            let all = length-append so_far.done (lines_of format so_far.rest) in
            let same = ap length so_far.joined in
            absurd (omega (arith, many, short, few, all, same, so_far.counted))

  -- lines are answered together, and what waits may be written
  pub together_put : (known before left contents new put : Option (List ℕ)) (question : Question)
      (found one : Bool) (waiting more kept : List ℕ) (number count : ℕ)
      → IfSome left (λ bytes. TakesTogether style format question bytes new count waiting more one)
      → IsKept contents put more kept
      → IsAnsweredTo known before left contents question found waiting number
      → IsAnsweredTo known before new put question (found || one) kept (number + count)
  together_put known before left contents new put question found one waiting more kept number
      count takes keeps so_far =
      answers_put known before new contents question (found || one) more (number + count) put kept
      keeps (together_answered known before left contents question found waiting number new count
      one more takes so_far)
