-- Answers that wait for the output.
use Rattle.std.proofs.Common.{◌≡◌, ℕ, List, [], ◌++◌, Option, None, Some, sym, ap, subst}
use Rattle.std.proofs.Common.{◌∙◌}
use Rattle.std.specs.Io.KnownBytes.{Appends, Keeps}
use Rattle.std.proofs.lemmas.List.{append_assoc, append-nil}
use Rattle.prefixes_core.specs.Answers.{Writes}
use Rattle.prefixes_core.specs.Internal.Failures.{GetsFirst, IsKept}
use Rattle.prefixes_core.specs.declared.answering.Question.{Question}
use Rattle.prefixes_core.specs.declared.answering.Style.{Style}

-- what a writer has stays when it is flushed
pub appended : (old new flushed : Option (List ℕ)) (bytes : List ℕ) → Appends old new bytes
    → Keeps new flushed → Appends old flushed bytes
appended None new flushed bytes more same = tt
appended (Some xs) None flushed bytes more same = absurd more
appended (Some xs) (Some ys) None bytes more same = absurd same
appended (Some xs) (Some ys) (Some zs) bytes more same = same ∙ more

-- an answer comes behind those that wait
pub writes_behind : (style : Style) (question : Question) (line none next old new : List ℕ)
    → none ≡ [] → Writes style question line none next → new ≡ old ++ next
    → Writes style question line old new
writes_behind style question line none next old new empty writes is =
    (writes.0, is ∙ ap (λ l. old ++ l) (writes.1 ∙ ap (λ l. l ++ writes.0) empty), writes.2)

-- nothing is written at first, and all waits
pub kept_none : (contents : Option (List ℕ)) (waiting left : List ℕ) → left ≡ waiting
    → IsKept contents contents waiting left
kept_none None waiting left same = tt
kept_none (Some had) waiting left same = ([], ap Some (sym (append-nil had)), sym same)

-- a part more is written
pub kept_more : (old mid new : Option (List ℕ)) (waiting left part later : List ℕ)
    → IsKept old mid waiting left → Appends mid new part → left ≡ part ++ later
    → IsKept old new waiting later
kept_more None mid new waiting left part later kept more is = tt
kept_more (Some had) mid new waiting left part later kept more is =
    by new (subst (λ m. Appends m new part) kept.1 more)
  where
    by : (new : Option (List ℕ)) → Appends (Some (had ++ kept.0)) new part
        → IsKept (Some had) new waiting later
    by None more = absurd more
    by (Some has) more = (
      kept.0 ++ part,
      ap Some (more ∙ append_assoc had kept.0 part),
      kept.2 ∙ ap (λ l. kept.0 ++ l) is ∙ sym (append_assoc kept.0 part later),
    )

-- what a writer has stays
pub kept_same : (old mid new : Option (List ℕ)) (waiting left : List ℕ)
    → IsKept old mid waiting left → Keeps mid new → IsKept old new waiting left
kept_same None mid new waiting left kept same = tt
kept_same (Some had) mid new waiting left kept same =
    by new (subst (λ m. Keeps m new) kept.1 same)
  where
    by : (new : Option (List ℕ)) → Keeps (Some (had ++ kept.0)) new
        → IsKept (Some had) new waiting left
    by None same = absurd same
    by (Some has) same = (kept.0, ap Some same, kept.2)

-- if nothing waits any more, all is written
pub kept_whole : (old new : Option (List ℕ)) (waiting left : List ℕ)
    → IsKept old new waiting left → left ≡ [] → Appends old new waiting
kept_whole None new waiting left kept none = tt
kept_whole (Some had) new waiting left kept none =
    let all : kept.0 ≡ waiting =
    sym (kept.2 ∙ ap (λ l. kept.0 ++ l) none ∙ append-nil kept.0) in
    subst (λ n. Appends (Some had) n waiting) (sym kept.1) (ap (λ l. had ++ l) all)

-- and else the first of it
pub kept_part : (old new : Option (List ℕ)) (waiting left : List ℕ)
    → IsKept old new waiting left → GetsFirst old new waiting
kept_part None new waiting left kept = tt
kept_part (Some had) new waiting left kept = (kept.0, left, kept.2, kept.1)

-- all is the first of it, too
pub whole_part : (old new : Option (List ℕ)) (waiting : List ℕ) → Appends old new waiting
    → GetsFirst old new waiting
whole_part None new waiting more = tt
whole_part (Some had) None waiting more = absurd more
whole_part (Some had) (Some has) waiting more =
    (waiting, [], sym (append-nil waiting), ap Some more)

-- if all that waits is written, nothing waits
pub kept_all : (old new : Option (List ℕ)) (waiting left : List ℕ) → Appends old new waiting
    → left ≡ [] → IsKept old new waiting left
kept_all None new waiting left more none = tt
kept_all (Some had) None waiting left more none = absurd more
kept_all (Some had) (Some has) waiting left more none =
    (waiting, ap Some more, sym (append-nil waiting) ∙ ap (λ l. waiting ++ l) (sym none))

-- what is the same is kept as well
pub kept_on : (old new next : Option (List ℕ)) (waiting left later : List ℕ) → next ≡ new
    → later ≡ left → IsKept old new waiting left → IsKept old next waiting later
kept_on old new next waiting left later same on kept =
    subst (λ n. IsKept old n waiting later) (sym same)
    (subst (IsKept old new waiting) (sym on) kept)
