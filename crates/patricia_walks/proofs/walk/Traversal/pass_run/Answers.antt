use Rattle.std.proofs.Common.{◌≡◌, ◌≢◌, [], ◌∙◌, ℕ, ◌+◌, List, ◌<◌, ap, arith, drop, get_or, length, refl, subst, sym}
use Rattle.std.proofs.lemmas.List.{length-drop, get_or-drop}
use Rattle.patricia_walks.specs.Internal.Fronts.{FrontPosition, lent, seen}
use Rattle.patricia_walks.specs.Internal.Skips.{IsTowards, Passes}
use Rattle.patricia_nodes.specs.Internal.NodeVecs.{IsRun}
use Rattle.patricia_walks.proofs.FrontLemmas.{plain, seen_at_end}
use Rattle.patricia_walks.proofs.SkipLemmas.{passes_behind, run_within}
use Rattle.patricia_walks.proofs.walk.Traversal.pass_run.Goals as goal

-- siblings that are passed where the next ones stand behind all of the path
passes : (item : List ℕ → Type 0) (key : List ℕ) {V : Type 0} (p q : FrontPosition V)
    → p.front ≡ length p.path → q.front ≡ length q.path
    → Passes item key (plain p) (plain q) → Passes item key (seen p) (seen q)
passes item key p q front front' step =
    subst (λ x. Passes item key x (seen q)) (sym (seen_at_end p front))
    (subst (Passes item key (plain p)) (sym (seen_at_end q front')) step)

-- something is left of a longer key
something : (n : ℕ) (key : List ℕ) → n < length key → drop n key ≢ []
something n key short none = absurd (omega (arith, short, ap length none, length-drop n key))

-- its first byte is that of the key behind the path
byte_at : (n len : ℕ) (key : List ℕ) → len ≡ n → get_or key len 0 ≡ get_or (drop n key) 0 0
byte_at n len key is =
    ap (λ i. get_or key i 0) (let e : len ≡ n + 0 = omega (arith, is) in e) ∙ sym (get_or-drop n key 0 0)

pub run-id-requires : goal.run-id-requires
run-id-requires g c =
    let p = lent c.args.self.now in
    let key = c.args.key.now in
    let byte = byte_at (length p.path) c.len.result key (c.len.ensures ∙ c.args.self.now.progress.path.ok.0) in
    record {
      within = λ to run. run_within g.K.Bytes.item g.met.K.Bytes.lawful key c.args.self.now.arena.now.nodes c.args.first to (plain p) refl
          (subst (IsTowards g.K.Bytes.item key) (seen_at_end p c.requires.front) c.requires.towards)
          c.requires.taken c.requires.next (something (length p.path) key c.requires.short)
          (subst (λ b. IsRun c.args.self.now.arena.now.nodes b c.args.first to) byte run);
    }

pub returns-clause-passes : goal.returns-clause-passes
returns-clause-passes g c =
    let p = lent c.args.self.now in
    let key = c.args.key.now in
    let nodes = c.args.self.now.arena.now.nodes in
    let byte = byte_at (length p.path) c.len.result key (c.len.ensures ∙ c.args.self.now.progress.path.ok.0) in
    let behind = passes_behind g.K.Bytes.item g.met.K.Bytes.lawful key nodes c.args.first c.run-id.result (plain p) refl
    (subst (IsTowards g.K.Bytes.item key) (seen_at_end p c.requires.front) c.requires.towards)
    c.requires.taken c.requires.next (something (length p.path) key c.requires.short)
    (subst (λ b. IsRun nodes b c.args.first c.run-id.result) byte c.run-id.ensures.run) in
    passes g.K.Bytes.item key p _ c.requires.front c.requires.front
    (rw c.some-self.ensures behind)
