use Rattle.test_requests.proofs.tests.maps.look_up_each.Given as goal

abbrev pub ghosts-are_found : goal.ghosts-are_found
ghosts-are_found g a = record { name = a.blank.name; parts = a.blank.parts }
