-- A seat, as what a connection is answered by (own).
use Rattle.hall_core.specs.Seats.{SeatData}
use Rattle.hall_server.specs.Services.{Stand, stand}

-- what the seat has seen, its losses and its refusals
abbrev pub stand_of : SeatData → Stand
stand_of seat = stand seat.seen seat.losses seat.refusals
