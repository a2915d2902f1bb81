use Rattle.std.proofs.Common.{◌≡◌, ◌++◌, ℕ, List, length, map as list_map, refl, sym, ap, subst}
use Rattle.std.proofs.Common.{◌∙◌, arith}
use Rattle.std.proofs.lemmas.List.{take_at}
use Rattle.prefixes_core.specs.Internal.Cuts.{AreCut, AreAllSegments, pieces_in}
use Rattle.prefixes_core.proofs.CutLemmas.{none_cut_off}
use Rattle.prefixes_core.proofs.cutting.segment_all.Goals as goal

pub returns : goal.returns
returns g c =
    let words = c.args.dictionary.now in
    let texts : List (List ℕ) = list_map (λ t. t.now) c.args.texts.now in
    let cut = c.cut_rounds.new.pieces in
    let left = c.cut_rounds.new.rests in
    let same : c.extend_from_slice.new.self.items ≡ c.args.texts.now =
    c.in_ok-extend_from_slice.ensures.items
    ∙ ap (λ l. l ++ c.args.texts.now) c.new-rests.ensures.items in
    let first : AreCut words texts (list_map pieces_in c.in_ok-pieces.pieces.items)
    (list_map (λ r. r.now) c.extend_from_slice.new.self.items) =
    none_cut_off words c.args.texts.now c.extend_from_slice.new.self.items
    (list_map pieces_in c.in_ok-pieces.pieces.items) (length c.args.texts.now) same
    c.in_ok-pieces.ensures refl in
    let more : AreCut words texts (list_map pieces_in cut) (list_map (λ r. r.now) left) =
    c.in_ok-cut_rounds.ensures texts
    (rw (c.deref_mut-2.ensures.value, c.deref_mut.ensures.value) first) in
    let pieces : c.deref_mut-3.result.now ≡ cut =
    c.deref_mut-3.ensures.value ∙ take_at cut _ _ (omega arith) in
    let rests : c.deref.result.now ≡ left =
    c.deref.ensures.value ∙ take_at left _ _ (omega arith) in
    subst (λ l. AreAllSegments words texts (list_map pieces_in l))
    (sym (take_at c.cut_rests.new.pieces _ _ (omega arith)))
    (c.in_ok-cut_rests.ensures texts (rw (pieces, rests) more))
