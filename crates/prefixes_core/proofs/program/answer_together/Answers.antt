use Rattle.std.specs.Io.Buffered.{reader_remaining}
use Rattle.prefixes_core.proofs.TogetherLemmas.{together_taken}
use Rattle.prefixes_core.proofs.program.answer_together.Goals as goal

pub returns-clause-answered : goal.returns-clause-answered
returns-clause-answered g c =
    let asked = c.args.asked.now in
    together_taken asked.style asked.format c.args.question.now c.buffer-bytes.result.now
    c.args.out.now.items c.answer_front-together.new.out.items c.answer_front-together.result
    c.answer_front-together.ensures.answered g.F.Read.remaining c.args.reader.now
    (reader_remaining g.F.Read.remaining c.consume.new.self) c.buffer-bytes.ensures
    c.consume.ensures.bytes
