use Rattle.store_run_tests.proofs.rules.replies.Given as goal

-- the rules that are given are those of the run
abbrev pub ghosts-replies_by : goal.ghosts-replies_by
ghosts-replies_by a = record { rules = a.rules }
