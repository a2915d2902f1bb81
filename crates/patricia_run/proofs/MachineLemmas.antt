-- Laws of the machine.
use Rattle.std.proofs.Common.{◌≡◌, ℕ, List, [], ◌∷◌, ◌++◌, refl, subst}
use Rattle.std.specs.FinMap as map
use Rattle.patricia_tree.specs.Writings.{TooDeep}
use Rattle.patricia_run.specs.declared.bench.Levels.{Levels}
use Rattle.patricia_run.specs.declared.bench.Levels.TheVariants.{Narrow, Wide}
use Rattle.patricia_run.specs.declared.command.Command.{Command}
use Rattle.patricia_run.specs.declared.command.Reply.{Reply}
use Rattle.patricia_run.specs.declared.command.Reply.TheVariants as Replies
use Rattle.patricia_run.specs.Internal.Levels.{width_of, reload_with}
use Rattle.patricia_run.specs.Machine.{State, Step, Run}

-- a run goes on by one step
pub Run-more : {K V : Type 0} (item : List ℕ → Type 0) (key_of : K → List ℕ) (old : State V)
    (commands : List (Command (List ℕ) V)) (replies : List (Reply K V)) (mid : State V)
    (command : Command (List ℕ) V) (reply : Reply K V) (new : State V)
    → Run item key_of old commands replies mid → Step item key_of mid command reply new
    → Run item key_of old (commands ++ command ∷ []) (replies ++ reply ∷ []) new
Run-more {K} {V} item key_of old [] [] mid command reply new run step = (new, subst (λ (m : State V). Step item key_of m command reply new) run step, refl)
Run-more item key_of old (c ∷ cs) (r ∷ rs) mid command reply new run step = (run.0, run.1, Run-more item key_of run.0 cs rs mid command reply new run.2 step)
Run-more item key_of old [] (r ∷ rs) mid command reply new run step = absurd run
Run-more item key_of old (c ∷ cs) [] mid command reply new run step = absurd run

-- a map that is made anew of what is written, with levels of either width, leaves the state as it was
pub reads_again : {K V : Type 0} (item : List ℕ → Type 0) (key_of : K → List ℕ) (s t : State V)
    (l : Levels) → (TooDeep item (width_of l) (map.keys s.main) → ⊥) → t ≡ s
    → Step item key_of s (reload_with l) Replies.Done t
reads_again item key_of s t Narrow shallow same = ((shallow, refl), same)
reads_again item key_of s t Wide shallow same = ((shallow, refl), same)
