use Rattle.std.proofs.Common.{◌≡◌, ◌+◌, ap, arith, length, length-append, ◌∙◌}
use Rattle.prefixes_core.proofs.CutLemmas.{piece_more}
use Rattle.prefixes_core.proofs.ResultLemmas.{on_err_from}
use Rattle.prefixes_core.proofs.SegmentLemmas.{first_begins, first_some, left_some}
use Rattle.prefixes_core.proofs.cutting.cut_rest.Goals as goal

pub returns-in_err-push-clause-err : goal.returns-in_err-push-clause-err
returns-in_err-push-clause-err g c =
    on_err_from c.from_residual.result (left_some c.args.dictionary.now c.args.text.now
    c.loop-piece.rest.now c.in-Some.piece.now c.in-Some.ensures.some
    c.loop-piece.invariant.shorter)

pub behind-rest-requires : goal.behind-rest-requires
behind-rest-requires g c =
    first_begins c.args.dictionary.now c.loop-piece.rest.now c.in-Some.piece.now
    c.in-Some.ensures.some

pub loop-piece-smaller : goal.loop-piece-smaller
loop-piece-smaller g c =
    let some = first_some c.args.dictionary.now c.loop-piece.rest.now c.in-Some.piece.now
    c.in-Some.ensures.some in
    let size : length c.loop-piece.rest.now
    ≡ length c.in-Some.piece.now + length c.behind-rest.result.now =
    ap length c.behind-rest.ensures
    ∙ length-append c.in-Some.piece.now c.behind-rest.result.now in
    omega (arith, some, size)

pub loop-piece-preserved : goal.loop-piece-preserved
loop-piece-preserved g c =
    let size : length c.loop-piece.rest.now
    ≡ length c.in-Some.piece.now + length c.behind-rest.result.now =
    ap length c.behind-rest.ensures
    ∙ length-append c.in-Some.piece.now c.behind-rest.result.now in
    record {
      utf8 = c.behind-rest.utf8;
      cuts = λ text before. piece_more c.args.dictionary.now text c.loop-piece.pieces
          c.push.new.self c.loop-piece.rest c.in-Some.piece c.behind-rest.result
          c.in_ok-push.ensures.items c.behind-rest.ensures c.in-Some.ensures.some
          (c.loop-piece.invariant.cuts text before);
      shorter = omega (arith, size, c.loop-piece.invariant.shorter);
    }
