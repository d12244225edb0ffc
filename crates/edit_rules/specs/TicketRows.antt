-- The serial of each number of each session (own).
use Rattle.std.specs.Prelude.{ℕ, ◌==◌, ◌&&◌, List, Option, None, Some}
use Rattle.std.specs.Map.{lookup}
use Rattle.std.specs.FinMap as finite
use Rattle.std.specs.Ordering.{nat_cmp}
use Rattle.std.specs.Cmp.Lexicographic.{slice_cmp}
use Rattle.edit_rules.specs.declared.sessions.Session.{Session}

-- what is known of each session
abbrev pub Sessions : Type 0
Sessions = finite.FinMap (slice_cmp nat_cmp) Session

-- serials by number of the session and number of the entry
abbrev pub TicketSerials : Type 0
TicketSerials = List ((ℕ × ℕ) × ℕ)

-- the rows, and how many more there may be without memory
pub record TicketsView : Type 0 where
  pub rows : TicketSerials
  pub spare : ℕ

-- the serial under two numbers
abbrev pub ticket : TicketSerials → ℕ → ℕ → Option ℕ
ticket rows session number =
    lookup (λ (k : ℕ × ℕ). (session == k.0) && (number == k.1)) rows

-- the serial of a number of a session, of which this is known
abbrev pub ticket_of : TicketSerials → Option Session → ℕ → Option ℕ
ticket_of rows None number = None
ticket_of rows (Some known) number = ticket rows known.number number

-- the number under which a session stands; a new one gets the serial of its first entry
abbrev pub number_for : Option Session → ℕ → ℕ
number_for None serial = serial
number_for (Some known) serial = known.number

-- the serial of the last entry of a session, of which this is known
abbrev pub last_of : Option Session → Option ℕ
last_of None = None
last_of (Some known) = Some known.last
