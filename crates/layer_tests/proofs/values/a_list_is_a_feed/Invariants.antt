use Rattle.layer_tests.proofs.values.a_list_is_a_feed.Given as goal

abbrev pub ghosts-counted : goal.ghosts-counted
ghosts-counted g a = record { name = a.blank.name; parts = a.blank.parts }
