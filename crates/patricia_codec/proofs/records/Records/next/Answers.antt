use Rattle.std.proofs.Common.{arith}
use Rattle.patricia_codec.proofs.LeftLemmas.{err_from}
use Rattle.patricia_codec.proofs.records.Records.next.Goals as goal

pub returns-in_err-take-clause-too_deep : goal.returns-in_err-take-clause-too_deep
returns-in_err-take-clause-too_deep g c deep R a =
    c.take.ensures.too_deep
    (err_from c.take.result c.from_residual.result _ _ c.in_err-take.was
    c.from_residual.ensures.1 deep) R (c.loop-id.invariant.same R a)

pub returns-in-Some-clause-ok : goal.returns-in-Some-clause-ok
returns-in-Some-clause-ok g c =
    let taken = c.in_ok-take.ensures.ok in
    record {
      left = λ R a. taken.left R (c.loop-id.invariant.same R a);
      less = omega (arith, taken.less, c.loop-id.invariant.lighter);
      fits = taken.fits;
      shallow = taken.shallow;
    }

pub returns-then-not-back-clause-ok : goal.returns-then-not-back-clause-ok
returns-then-not-back-clause-ok g c R a = c.back.ensures.over c.if-not-back.true R (c.loop-id.invariant.same R a)
