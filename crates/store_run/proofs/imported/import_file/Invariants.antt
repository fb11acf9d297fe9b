use Rattle.store_run.proofs.imported.import_file.Given as goal

-- the rules that are given are those of the run
abbrev pub ghosts-import_at : goal.ghosts-import_at
ghosts-import_at a = record { rules = a.rules }
