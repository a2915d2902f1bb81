use Rattle.example_map.proofs.main.Given as goal

abbrev pub ghosts-look_up : goal.ghosts-look_up
ghosts-look_up a = record { name = a.blank.name; parts = a.blank.parts }
