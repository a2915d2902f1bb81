use Rattle.prefixes_core.proofs.files.combined_with.Goals as goal

pub returns-clause-combined : goal.returns-clause-combined
returns-clause-combined g c =
    (c.in_ok-other.other, c.in_ok-other.ensures.read, c.in_ok-both.ensures.ok)
