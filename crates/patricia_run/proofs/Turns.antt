-- What is written for lines in turn.
use Rattle.std.proofs.Common.{◌≡◌, ℕ, List, [], ◌∷◌, ◌++◌, map, refl, sym, subst, ap, ◌∙◌}
use Rattle.std.specs.Prelude.{Ok, Err}
use Rattle.std.specs.List.{filter_map}
use Rattle.std.specs.Result.{result_ok}
use Rattle.std.proofs.lemmas.List.{append-nil, append_assoc}
use Rattle.patricia_run.specs.declared.command.Command.{Command}
use Rattle.patricia_run.specs.declared.command.Reply.{Reply}
use Rattle.patricia_run.specs.Machine.{State, Step, Run, empty_state}
use Rattle.patricia_run.specs.declared.reading.Fault.{Fault}
use Rattle.patricia_run.specs.KeyFormats.{KeyFormat}
use Rattle.patricia_run.specs.Text.{Parsed, parse_line, parse_lines, lines_of}
use Rattle.patricia_run.specs.Writing.{output_of, fault_line, reply_lines}
use Rattle.patricia_run.specs.Answers.{Answers}
use Rattle.patricia_run.specs.Internal.Turns.{AnswersFrom}

module _ {K : Type 0} (item : List ℕ → Type 0) (s : KeyFormat) (key_of : K → List ℕ)
    (old mid new : State ℕ) (rest : List Parsed) (first later : List ℕ) where
  -- a line with a fault writes its text first, then what the other lines write
  fault_first : (fault : Fault) (replies : List (Reply K ℕ)) → Run item key_of old [] replies mid
      → first ≡ fault_line fault ++ output_of s key_of [] replies
      → AnswersFrom item s key_of mid rest later new
      → AnswersFrom item s key_of old (Err fault ∷ rest) (first ++ later) new
  fault_first fault [] same is more = (
    more.0,
    subst (λ (m : State ℕ). Run item key_of m (filter_map result_ok rest) more.0 new) same more.1,
    ap (λ f. f ++ later) (is ∙ append-nil (fault_line fault)) ∙ ap (λ l. fault_line fault ++ l) more.2,
  )
  fault_first fault (r ∷ rs) run is more = absurd run

  -- a line with a command writes its reply first, then what the other lines write
  reply_first : (command : Command (List ℕ) ℕ) (replies : List (Reply K ℕ))
      → Run item key_of old (command ∷ []) replies mid
      → first ≡ output_of s key_of (Ok command ∷ []) replies
      → AnswersFrom item s key_of mid rest later new
      → AnswersFrom item s key_of old (Ok command ∷ rest) (first ++ later) new
  reply_first command [] run is more = absurd run
  reply_first command (r ∷ []) run is more = (
    r ∷ more.0,
    (run.0, run.1, subst (λ (m : State ℕ). Run item key_of m (filter_map result_ok rest) more.0 new) run.2 more.1),
    ap (λ f. f ++ later) (is ∙ append-nil (reply_lines s key_of r)) ∙ ap (λ l. reply_lines s key_of r ++ l) more.2,
  )
  reply_first command (r ∷ q ∷ rs) run is more = absurd run.2

  -- the first line's answer, and then those of the lines after it, answer them all
  pub line_first : (said : Parsed) → AnswersFrom item s key_of old (said ∷ []) first mid
      → AnswersFrom item s key_of mid rest later new
      → AnswersFrom item s key_of old (said ∷ rest) (first ++ later) new
  line_first (Err fault) one more = fault_first fault one.0 one.1 one.2 more
  line_first (Ok command) one more = reply_first command one.0 one.1 one.2 more

module _ {K : Type 0} (item : List ℕ → Type 0) (s : KeyFormat) (key_of : K → List ℕ) where
  -- the line of a command is answered by the text of its reply
  pub reply_alone :
      (old new : State ℕ) (said : Parsed) (command : Command (List ℕ) ℕ) (reply : Reply K ℕ)
      → Ok command ≡ said → Step item key_of old command reply new
      → AnswersFrom item s key_of old (said ∷ []) (reply_lines s key_of reply) new
  reply_alone old new said command reply is step =
      subst (λ (x : Parsed). AnswersFrom item s key_of old (x ∷ []) (reply_lines s key_of reply)
      new) is (reply ∷ [], (new, step, refl), sym (append-nil (reply_lines s key_of reply)))

  -- a faulty line is answered by the text of its fault, and changes nothing
  pub fault_alone : (old : State ℕ) (said : Parsed) (fault : Fault) → Err fault ≡ said
      → AnswersFrom item s key_of old (said ∷ []) (fault_line fault) old
  fault_alone old said fault is =
      subst (λ (x : Parsed). AnswersFrom item s key_of old (x ∷ []) (fault_line fault) old) is ([], refl, sym (append-nil (fault_line fault)))

  module _ (input : List ℕ) where
    -- what may be written for a text of which some lines are left, behind what is written
    abbrev pub Completes : State ℕ → List (List ℕ) → List ℕ → Type 0
    Completes bench lines out =
        (later : List ℕ) (new : State ℕ) → AnswersFrom item s key_of bench (map (parse_line s) lines) later new → Answers item s key_of input (out ++ later)

    -- at first all lines are left
    pub completes_first : (bench : State ℕ) (lines : List (List ℕ)) (out : List ℕ)
        → bench ≡ empty_state → lines ≡ lines_of input → out ≡ [] → Completes bench lines out
    completes_first bench lines out new_bench all nothing later new more = (
      more.0,
      new,
      subst (λ (b : State ℕ). Run item key_of b (filter_map result_ok (parse_lines s input)) more.0
          new) new_bench
          (subst (λ (ls : List (List ℕ)). Run item key_of bench
          (filter_map result_ok (map (parse_line s) ls)) more.0 new) all more.1),
      ap (λ o. o ++ later) nothing ∙ more.2 ∙ ap (λ ls. output_of s key_of (map (parse_line s) ls) more.0) all,
    )

    -- once a line is answered, its answer is written and the rest is left
    pub completes_more :
        (old mid : State ℕ) (line : List ℕ) (lines rest : List (List ℕ)) (out first longer : List ℕ)
        → lines ≡ line ∷ rest → longer ≡ out ++ first
        → AnswersFrom item s key_of old (parse_line s line ∷ []) first mid → Completes old lines out
        → Completes mid rest longer
    completes_more old mid line lines rest out first longer left written one whole later new more =
        let both = line_first item s key_of old mid new (map (parse_line s) rest) first later (parse_line s line) one more in
        let from = subst (λ (ls : List (List ℕ)). AnswersFrom item s key_of old (map (parse_line s) ls) (first ++ later) new) (sym left) both in
        subst (λ (o : List ℕ). Answers item s key_of input o)
        (sym (ap (λ o. o ++ later) written ∙ append_assoc out first later))
        (whole (first ++ later) new from)

    -- where no line is left, the input is answered
    pub completes_last : (bench : State ℕ) (lines : List (List ℕ)) (out : List ℕ) → lines ≡ []
        → Completes bench lines out → Answers item s key_of input out
    completes_last bench lines out none whole =
        let from = subst (λ (ls : List (List ℕ)). AnswersFrom item s key_of bench (map (parse_line s) ls) [] bench) (sym none) ([], refl, refl) in
        subst (λ (o : List ℕ). Answers item s key_of input o) (append-nil out) (whole [] bench from)
