use Rattle.store_run.proofs.opened.serve_file.Given as goal

-- the rules that are given are those of the run
abbrev pub ghosts-serve_at : goal.ghosts-serve_at
ghosts-serve_at a = record { rules = a.rules }
