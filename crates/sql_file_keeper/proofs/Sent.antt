-- A keeper may go to another thread, as its connection may.
use denote.Param.Send.{IsSend, sendable}
use denote.Param.SendFields.{as_row_send, declared_send}
use denote.RattleType.{RattleType}
use denote.Ref.{NamedLft}
use Rattle.std.proofs.Crossing.{crosses}
use Rattle.std.proofs.option.Option.TheSendSync as option
use Rattle.sqlite.proofs.FileStore.TheSendSync as stores
use Rattle.sqlite.specs.contracts.FileStore as FileStore
use Rattle.sqlite_disk.proofs.modelled.Modelled.TheSendSync as modelled
use Rattle.sqlite_disk.specs.contracts.modelled.Modelled as Modelled
use Rattle.sqlite_disk.specs.contracts.modelled.ModelledDisk.TheImpl as disk
use Rattle.sqlite_disk.specs.contracts.start.Unknown as Unknown
use Rattle.sqlite_disk.specs.contracts.start.UnknownStart.TheImpl as start
use Rattle.sqlite_keeper.proofs.keeper.SqlKeeper.TheSendSync as keeper
use Rattle.sqlite_std_file.specs.contracts.host.Host as Host
use Rattle.sqlite_std_file.specs.contracts.host.HostCalls.TheImpl as calls
use Rattle.sql_file_keeper.specs.contracts.keeper.SqlFileKeeper as SqlFileKeeper

-- a file of the system
Host-send : IsSend Host.the_row
Host-send = search (sendable, crosses, declared_send, as_row_send) depth 40 fits 5000

-- that file, with what it is taken to hold
abbrev file : RattleType
file = Modelled.the_row Host.the_row Unknown.the_row calls.ghosts start.ghosts

file-send : IsSend file
file-send = search (sendable, crosses, modelled.the_send, Host-send) depth 20

-- the store in it and in its log
abbrev store : RattleType
store =
    FileStore.the_row file
    (disk.ghosts Host.the_row Unknown.the_row calls.ghosts disk.no_dict start.ghosts disk.no_dict disk.no_dict)

store-send : IsSend store
store-send = search (sendable, crosses, stores.the_send, file-send) depth 20

-- apart from the store, since a `search` that goes down through it runs out of steps
keeper-send : (a : NamedLft) → IsSend store → IsSend (SqlFileKeeper.the_row a)
keeper-send a s = search (sendable, crosses, option.the_field_send, keeper.the_send) depth 40 fits 5000

-- the keeper of rows in a database file
pub SqlFileKeeper-send : (a : NamedLft) → IsSend (SqlFileKeeper.the_row a)
SqlFileKeeper-send a = keeper-send a store-send
