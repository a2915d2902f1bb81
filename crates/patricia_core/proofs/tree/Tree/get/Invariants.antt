use Rattle.patricia_core.proofs.tree.Tree.get.Given as goal

abbrev pub ghosts-get_from : goal.ghosts-get_from
ghosts-get_from g a = record { name = a.blank.name; parts = a.blank.parts }
