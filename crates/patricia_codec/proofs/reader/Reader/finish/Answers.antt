use Rattle.std.proofs.Common.{arith}
use Rattle.patricia_codec.proofs.ReaderLemmas.{refused_behind, refused_values}
use Rattle.patricia_codec.proofs.reader.Reader.finish.Goals as goal

pub returns-then-self-clause-refused : goal.returns-then-self-clause-refused
returns-then-self-clause-refused g c n R E reading count tree = refused_behind g.K.Bytes.item g.W.Width.width c.args.self.now n R E reading tree c.if-self.true

pub returns-then-left-gt0-clause-refused : goal.returns-then-left-gt0-clause-refused
returns-then-left-gt0-clause-refused g c n R E reading count tree =
    refused_values g.K.Bytes.item g.W.Width.width c.args.self.now n R E reading tree c.if-self.false (omega (arith, count, c.if-left-gt0.true))
