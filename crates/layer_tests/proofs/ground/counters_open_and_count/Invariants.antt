use Rattle.layer_tests.proofs.ground.counters_open_and_count.Given as goal

-- the ledger of the blank that it makes
abbrev pub ghosts-count_some : goal.ghosts-count_some
ghosts-count_some g a = record { name = a.blank.name; parts = a.blank.parts }
