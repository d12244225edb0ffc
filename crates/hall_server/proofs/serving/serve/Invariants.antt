use Rattle.hall_server.proofs.serving.serve.Given as goal

-- the ledger and the log that were just opened
abbrev pub ghosts-serve_named-B-Ledger : goal.ghosts-serve_named-B-Ledger
ghosts-serve_named-B-Ledger g a = record { name = a.log.ledger; parts = a.log.parts }

abbrev pub ghosts-serve_named-B-HallName : goal.ghosts-serve_named-B-HallName
ghosts-serve_named-B-HallName g a = record { book = a.log.book; seats = 8 }
