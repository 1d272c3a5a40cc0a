-- A table may go to another thread, file and all.
use denote.Ref.{NamedLft}
use denote.Param.Send.{IsSend, sendable}
use Rattle.std.proofs.Crossing.{crosses}
use Rattle.sqlite.proofs.connection.Connection.TheSendSync.{the_send as connection}
use Rattle.sqlite.proofs.statement.Statement.TheSendSync.{the_send as statement}
use Rattle.sqlite_store.proofs.store.FileStore.TheSendSync.{the_send as store}
use Rattle.sqlite_disk.proofs.modelled.Modelled.TheSendSync.{the_send as modelled}
use Rattle.sqlite_std_file.specs.contracts.host.Host as Host
use Rattle.real_rows.specs.contracts.sql_table.SqlTable as SqlTable
use Rattle.real_rows.specs.contracts.sql_table.Opened as Opened

host : IsSend Host.the_row
host = search (sendable, crosses) depth 20

opened : IsSend Opened.the_row
opened = search (connection, statement, store, modelled, host, sendable, crosses) depth 20

pub SqlTable-send : (κ : NamedLft) → IsSend (SqlTable.the_row κ)
SqlTable-send κ = search (opened, sendable, crosses) depth 20
