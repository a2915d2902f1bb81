use Rattle.prefixes_core.specs.Sources.{HasBytes}
use Rattle.prefixes_core.proofs.WordLemmas.{asks_complete}
use Rattle.prefixes_core.proofs.asking.some_question.Goals as goal

pub returns-then-eq-clause-complete : goal.returns-then-eq-clause-complete
returns-then-eq-clause-complete g c = λ is.
    asks_complete c.args.matches.now c.args.inputs.now.format
    (HasBytes g.R.Opens.content g.I.Read.remaining c.args.inputs.now) c.path.result.now
    c.in_ok-names.names c.most-most.result c.completions.result c.path.ensures
    c.most-most.ensures c.in_ok-names.ensures.read c.completions.ensures
