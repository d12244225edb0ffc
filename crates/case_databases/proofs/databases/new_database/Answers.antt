use Rattle.std.proofs.Common.{inl, refl}
use Rattle.case_databases.proofs.databases.new_database.Goals as goal

-- a new database has no table
pub over-requires : goal.over-requires
over-requires c =
    let e = c.in_ok-connection.ensures.empty in
    record {
      blank = λ _. record {
        holds = record { is_open = e.0.is_open; autocommit = e.0.autocommit; settled = e.0.clean; rows = inl (e.2, refl) };
        schema = e.2;
      };
    }
