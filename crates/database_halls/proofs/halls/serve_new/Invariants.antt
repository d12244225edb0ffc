use Rattle.database_halls.proofs.halls.serve_new.Given as goal

-- the log and the ledger that were just made
abbrev pub ghosts-serve_named-B-Ledger : goal.ghosts-serve_named-B-Ledger
ghosts-serve_named-B-Ledger g a = record { name = a.log.ledger; parts = a.log.parts }

abbrev pub ghosts-serve_named-B-HallName : goal.ghosts-serve_named-B-HallName
ghosts-serve_named-B-HallName g a = record { book = a.log.book; seats = 1 }
