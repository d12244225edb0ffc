use denote.Param.Send.{sendable}
use Rattle.store_keeper.proofs.Sent.{StoreKeeper-send}
use Rattle.gafd.proofs.main.Goals as goal

pub run-status-requires-send-K : goal.run-status-requires-send-K
run-status-requires-send-K c κs = search (sendable, StoreKeeper-send)
