-- `as_mut` lends the map behind the pointer, and the `SharedPointer` follows it.
use mathlib.Core.Path.{◌≡◌, refl}
use Prim.Native.Nat.{ℕ}
use mathlib.Core.List.{List, [], ◌∷◌}
use seplogic.Ra.Ura.{Ura}
use Rattle.std.specs.Prelude.{Option, None, Some, ◌≢◌}
use Rattle.std_heap.specs.declared.Global.{Global}
use Rattle.patricia_c.specs.declared.shared_pointer.SharedMap.{SharedMap}
use Rattle.patricia_c.specs.declared.shared_pointer.SharedPointer.{SharedPointer}
use base.Fraction.{full_share}
use base.Logic.{SProp, ent, sep, id⊢}
use base.Fml.{Lft, GName, Share, Fml, ftrue, flft, fsep}
use mir.Syntax.{named}
use mir.Raw.{raw as bare}
use mir.Val.{Val, vptr}
use prog.Memory.{Memory}
use prog.Routine.{Routine}
use prog.Wp.{WpFn, Tables}
use types.Logic.{Logic, sem}
use contract.Monad.{Fun, fact}
use contract.Running.{tables, tables_of}
use types.Kit.{‵, raw, ◌⊛◌, some, at_ret, later, ◌$◌, ◌∵◌, !, qed, by, move, keep, drop, use1, split, join, pick, fsplit, fsplit3, fjoin, fpack, rewrite, suffices, frame, done, await, group}
use types.Part.{whole, sub, look_in}
use types.Run.{stop, fld, load, of_opd, first, blocks, exec, returns, enter, addr}
use types.ByLocal.{alloc_all, pass_all, free_all, look_at, get, through, sets, env, sets_last}
use denote.RattleType.{owns}
use denote.Memory.{part_at, mem, cell_at, part_of}
use denote.RawPtr.{Ptr, block_ptr}
use denote.Ref.{MutRef, mut_vals, mut_Tells}
use denote.Signature.{plain, mut_ref_to}
use denote.Steps.{nothing, heard, opens}
use denote.Exit.{no}
use denote.Follow.{follows, Part, lends_Part}
use denote.Triple.Entry.{on_entry}
use denote.Triple.Walked.{says, Stays, stay_dropped, walk_of, ends_at, Goes-spent_ref}
use Rattle.std.proofs.raw_atomic.Walks.{proved}
use Rattle.std.proofs.VecSteps.Shapes.{after}
use Rattle.core.proofs.alloc.Calls.{token}
use Rattle.std_alloc.proofs.BoxSteps.Form.{B, D, τ, word, handle}
use Rattle.std_alloc.proofs.BoxSteps.Steps.{box_out, box_in}
use Rattle.patricia_c.proofs.SharedBox.{E}
use Rattle.patricia_c.specs.contracts.shared_pointer.SharedPointer.{the_row as R}
use Rattle.patricia_c.specs.contracts.shared_pointer.SharedMap.{the_row as S}
use Rattle.patricia_c.specs.Internal.LentShared.{with_stored}
use Rattle.patricia_c.specs.contracts.shared_pointer.SharedPointer.as_mut as f
use Rattle.patricia_c.proofs.shared_pointer.SharedPointer.as_mut.Statement.{statement}
use Rattle.patricia_c.proofs.shared_pointer.SharedPointer.as_mut.Code as code

abbrev stayed : Stays f.ended.signature.params f.ended.kept
stayed = (stay_dropped (mut_ref_to (0 ∷ []) tt (plain (λ _. R))) no, tt)

module _ {M : Type 1} {𝓤 : Ura M} (𝓛 : Logic 𝓤) (at_mem : Memory → SProp 𝓤) (run : Routine → Fun 𝓤) (κ : Lft) (q : Share) (rb ro : ℕ) (γ : GName) where
  open 𝓛 use {H, A}

  module _ (h : SharedPointer) where
    abbrev bound : (walk_of 𝓛 f.ended stayed (f.clauses 𝓛 at_mem run)).Ghost
    bound = (((κ, tt), (q, tt), tt, (record { ref_ptr = (rb, ro); ghost_name = γ; now = h }, tt), (vptr rb ro ∷ [], tt)), tt)

    abbrev Post : Val → SProp 𝓤
    Post = (walk_of 𝓛 f.ended stayed (f.clauses 𝓛 at_mem run)).post bound

  module _ (p : Ptr) (a : Global) (x : SharedMap) (b o : ℕ) (hv : Val) where
    abbrev full : SharedPointer
    full = record { at = p; alloc = a; stored = Some x }

    -- all of the `SharedPointer` but its map
    abbrev Rest : Fml
    Rest = fsep (fsep (token E.al a (bare (τ E)) (block_ptr b o)) (handle E a hv)) (cell_at full_share R.mir (word E hv b o ∷ []) rb ro)

    back : p ≡ block_ptr b o → (w : SharedMap) → ent 𝓤 (sep 𝓤 (sem 𝓛 ((mem S).own_at w b o)) (sem 𝓛 Rest)) (sem 𝓛 ((mem R).own_at (with_stored full w) rb ro))
    unfolding part_of
    back e w =
        qed 𝓛 (‵ (part_at S full_share w b o) ∷ ‵ Rest ∷ []) ∵ move ! (1 ∷ []) $ fsplit ! $ fsplit ! $ move ! (3 ∷ []) $
        box_in E ! (record { ptr = p; alloc = a; value = w }) b o w e refl $ move ! (1 ∷ 0 ∷ []) $ fjoin ! $
        fpack ! (List Val) (λ us. fsep (cell_at full_share R.mir us rb ro) (R.own_val (with_stored full w) us)) (word E hv b o ∷ []) $ done !

    exits : (γ' : GName)
        → ent 𝓤 (sep 𝓤 (sem 𝓛 ((MutRef (named 0) κ S).own_val (record { ref_ptr = (b, o); ghost_name = γ'; now = x }) (vptr b o ∷ []))) (sep 𝓤 (A.lft κ q) (sem 𝓛 (follows R S γ γ' (with_stored full))))) (Post full (vptr b o))
    exits γ' =
        qed 𝓛 (‵ ((MutRef (named 0) κ S).own_val (record { ref_ptr = (b, o); ghost_name = γ'; now = x }) (vptr b o ∷ [])) ∷ ‵ (flft κ q) ∷ ‵ (follows R S γ γ' (with_stored full)) ∷ []) ∵
        suffices ! _ (ends_at 𝓛 f.ended stayed (f.clauses 𝓛 at_mem run) (bound full) (vptr b o) (record { ref_ptr = (b, o); ghost_name = γ'; now = x }) (tt, tt) (tt, tt)) $
        nothing ! $ nothing ! $ fjoin ! $ join ! $ nothing ! $ move ! (2 ∷ 0 ∷ []) $ join ! $ join ! $ frame ! $ says ! refl $ done !

  walk : (𝓣 : Tables 𝓤 H) (m : Option SharedMap) (p : Ptr) (a : Global)
      → ent 𝓤 (sep 𝓤 (on_entry 𝓛 f.signature (κ, tt) (q, tt) (record { ref_ptr = (rb, ro); ghost_name = γ; now = record { at = p; alloc = a; stored = m } }, tt) (vptr rb ro ∷ [], tt)) (fact 𝓤 (m ≢ None)))
      (WpFn 𝓤 H 𝓣.C 𝓣.Λ code.function (vptr rb ro ∷ []) (Post (record { at = p; alloc = a; stored = m })))
  walk 𝓣 None p a =
      qed 𝓛 (raw (on_entry 𝓛 f.signature (κ, tt) (q, tt) (record { ref_ptr = (rb, ro); ghost_name = γ; now = record { at = p; alloc = a; stored = None } }, tt) (vptr rb ro ∷ [], tt)) ∷ raw (fact 𝓤 (None ≢ None)) ∷ []) ∵
      move ! (1 ∷ []) $ heard ! (None ≢ None) (λ no. absurd (no refl))
  walk 𝓣 (Some x) p a =
      let h : SharedPointer = record { at = p; alloc = a; stored = Some x } in
      let v : D E = record { ptr = p; alloc = a; value = x } in
      qed 𝓛 (((‵ (flft κ q) ⊛ ‵ ftrue) ⊛ ‵ (owns (MutRef (named 0) κ R ∷ []) (record { ref_ptr = (rb, ro); ghost_name = γ; now = h }, tt) (vptr rb ro ∷ [], tt))) ∷ raw (fact 𝓤 (Some x ≢ None)) ∷ []) ∵
      move ! (1 ∷ []) $ drop ! $ split ! $ enter ! 𝓣.C 𝓣.Λ code.function (vptr rb ro ∷ []) _ $
      alloc_all ! (λ l. pass_all ! refl ((tt, tt), tt) $
      move ! (1 ∷ []) $ fsplit ! $ fsplit3 ! $ drop ! $ move ! (3 ∷ []) $ split ! $ move ! (2 ∷ 3 ∷ 0 ∷ []) $
      opens ! tt R {h = h} rb ro (λ vs. move ! (1 ∷ []) $ use1 𝓛 (‵ ((B E).own_val v vs)) (id⊢ 𝓤 _) $
      box_out E ! v vs (λ b o hv e ws fa. move ! (1 ∷ 2 ∷ []) $ fjoin ! $ move ! (1 ∷ []) $
      rewrite ! 2 (λ (us : List Val). ‵ (cell_at full_share R.mir us rb ro)) ws refl $
      -- [the map; what frees its block, and the handle; the cell; the open borrow, in three entries]
      first ! $ blocks ! $
      sets ! (of_opd ! (load ! (through ! refl (fld ! refl (stop !))) (look_in ! 2 (sub ! 0 refl (whole !))))) refl (tt, tt) $
      sets ! (of_opd ! (get ! refl)) refl (tt, tt) $
      sets_last ! (addr ! (through ! refl (stop !))) refl (tt, tt) $
      exec ! 𝓣.C 𝓣.Λ (env (code.function).locals l) (after 1 (code.function).body) (at_ret _ (Post h)) $
      sets ! (of_opd ! (get ! refl)) refl (tt, tt) $
      move ! (1 ∷ 2 ∷ []) $ fjoin ! $ move ! (2 ∷ 3 ∷ 4 ∷ 1 ∷ 0 ∷ []) $ group ! 5 $
      use1 𝓛 (later (some (λ (γ' : GName). raw (Part 𝓛 R S (with_stored h) (named 0) κ q rb ro b o γ (sem 𝓛 (Rest p a x b o hv)) (back p a x b o hv e) x γ'))))
      (lends_Part 𝓛 R S (with_stored h) (named 0) κ q rb ro b o γ (sem 𝓛 (Rest p a x b o hv)) (back p a x b o hv e) (R.coded.code h) (R.coded.code h) x) $ await ! tt $ pick ! (λ γ'.
      returns ! (look_at ! 0 refl) $ free_all ! refl $
      keep ! (0 ∷ []) $ by ! (exits p a x b o hv γ')))))

pub as_mut_spec : {M : Type 1} → statement M
unfolding tables_of
as_mut_spec 𝓤 𝓛 𝓜 𝓡 wired =
    let c = f.clauses 𝓛 𝓜.mem 𝓡.returns in
    let 𝓣 : Tables 𝓤 𝓛.H = tables_of 𝓤 𝓛.H 𝓜 (tables 𝓤 𝓛.H 𝓜 𝓡 𝓡.env) in
    proved 𝓛 f.ended stayed c 𝓜 𝓡 (Goes-spent_ref 𝓛 1 (0 ∷ []) tt (plain (λ _. R)), tt)
    f.Key.name code.function (code.unfolded 𝓤 𝓛.H 𝓜 𝓡 wired)
    (λ κs. (mut_vals, tt)) (λ κs. (mut_Tells (named 0) κs.0 R, tt)) (λ κs qs bounds a _ are.
    let r = a.0 in walk 𝓛 𝓜.mem 𝓡.returns κs.0 qs.0 r.ref_ptr.0 r.ref_ptr.1 r.ghost_name 𝓣 r.now.stored r.now.at r.now.alloc)
