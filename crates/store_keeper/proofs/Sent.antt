-- A keeper may go to another thread, as each of the two that it may be.
use denote.Param.Send.{IsSend, sendable}
use denote.Param.SendFields.{as_row_send, declared_send, variants_send}
use denote.Ref.{NamedLft}
use Rattle.std.proofs.Crossing.{crosses}
use Rattle.file_keeper.proofs.keeper.FileKeeper.TheSendSync as folder
use Rattle.sql_file_keeper.proofs.Sent.{SqlFileKeeper-send}
use Rattle.store_keeper.specs.contracts.keeper.RowKeeper as RowKeeper
use Rattle.store_keeper.specs.contracts.keeper.StoreKeeper as StoreKeeper

-- what keeps the rows
RowKeeper-send : (a : NamedLft) → IsSend (RowKeeper.the_row a)
RowKeeper-send a =
    search (sendable, crosses, folder.the_send, SqlFileKeeper-send, variants_send) depth 60 fits 5000

-- the keeper of rows in a folder or in a database file
pub StoreKeeper-send : (a : NamedLft) → IsSend (StoreKeeper.the_row a)
StoreKeeper-send a =
    search (sendable, crosses, RowKeeper-send, as_row_send, declared_send) depth 60 fits 5000
