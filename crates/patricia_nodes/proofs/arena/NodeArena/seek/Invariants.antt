use Rattle.patricia_nodes.proofs.arena.NodeArena.seek.Given as goal

abbrev pub ghosts-seek_from : goal.ghosts-seek_from
ghosts-seek_from g a = record { name = a.blank.name; parts = a.blank.parts }
