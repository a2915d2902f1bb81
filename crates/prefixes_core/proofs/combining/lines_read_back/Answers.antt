use Rattle.prefixes_core.proofs.ReadBackLemmas.{read_back}
use Rattle.prefixes_core.proofs.combining.lines_read_back.Goals as goal

pub returns : goal.returns
returns c = read_back
