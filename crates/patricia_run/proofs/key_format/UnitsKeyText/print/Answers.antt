use Rattle.std.proofs.Common.{◌+◌, ◌∷◌, [], ◌++◌, drop, get_or, refl, sym, ap, ◌∙◌, append_assoc}
use Rattle.std.proofs.lemmas.List.{append-nil, at_drop_all, at_drop_more}
use Rattle.hex.specs.Hex.{encode_lower}
use Rattle.patricia_run.proofs.KeyTextLemmas.{encode_lower-cons, encode_lower-nil, when_ok}
use Rattle.patricia_run.proofs.key_format.UnitsKeyText.print.Goals as goal

pub loop-byte-preserved : goal.loop-byte-preserved
loop-byte-preserved c =
    let key = c.args.key.now in
    let i = c.loop-byte.byte-index in
    let out = c.loop-byte.out.items in
    let byte = get_or key i 0 in
    let rest = drop (i + 1) key in
    let digits = when_ok _ (c.encode_to_slice.ensures.fits.1 refl) c.encode_to_slice.ensures.written in
    rw (c.in_ok-extend_from_slice.ensures.items, digits)
    (append_assoc out (encode_lower (byte ∷ [])) (encode_lower rest) ∙ ap (λ l. out ++ l)
    (sym (encode_lower-cons byte rest)) ∙ sym
    (at_drop_more (λ l. out ++ encode_lower l) key i 0 c.loop-byte-test.true) ∙ c.loop-byte.invariant)

pub returns : goal.returns
returns c =
    let out = c.loop-byte.out.items in
    sym (at_drop_all (λ l. out ++ encode_lower l) c.args.key.now c.loop-byte.byte-index
    c.loop-byte-test.false ∙ ap (λ l. out ++ l) encode_lower-nil ∙ append-nil out) ∙ c.loop-byte.invariant
