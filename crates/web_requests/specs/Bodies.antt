-- The bodies of replies, as JSON values (RFC 8259; the members are own). `put` keeps the keys in
-- the order of their bytes.
use Rattle.std.specs.Prelude.{ℕ, List, codes}
use Rattle.serde_json.specs.Data.{Data, string, number, unsigned, object, Members, no_members, put}
use Rattle.edit_entries.specs.declared.fault.EditFault.{EditFault}
use Rattle.edit_entries.specs.declared.fault.EditFault.TheVariants as faults
use Rattle.geda_grammar.specs.KindNames.{read_kind_name}

-- the member that tells a fault by its name
abbrev pub fault_members : List ℕ → Members
fault_members name = put (codes "fault") (string name) no_members

-- a fault by its name
abbrev pub named_fault : List ℕ → Data
named_fault name = object (fault_members name)

-- a fault by its name and a number
abbrev pub numbered_fault : List ℕ → List ℕ → ℕ → Data
numbered_fault name key n = object (put key (number (unsigned n)) (fault_members name))

-- a text that the reader refuses, with the line
abbrev pub bad_text_fault : List ℕ → ℕ → Data
bad_text_fault kind at =
    object (put (codes "read") (string kind)
    (put (codes "line") (number (unsigned at)) (fault_members (codes "BadText"))))

-- a body that is no entry, with the pointer of its first fault
abbrev pub bad_edit : List ℕ → Data
bad_edit pointer =
    object (put (codes "pointer") (string pointer) (fault_members (codes "BadEdit")))

-- an entry that stands in the history
abbrev pub done_entry : ℕ → ℕ → Data
done_entry first_id serial =
    object (put (codes "serial") (number (unsigned serial))
    (put (codes "first_id") (number (unsigned first_id)) no_members))

-- why an edit is refused, with its numbers
abbrev pub fault_data : EditFault → Data
fault_data faults.NoSheet = named_fault (codes "NoSheet")
fault_data faults.SheetExists = named_fault (codes "SheetExists")
fault_data faults.NoSymbol = named_fault (codes "NoSymbol")
fault_data faults.SymbolExists = named_fault (codes "SymbolExists")
fault_data (faults.NoObject id) = numbered_fault (codes "NoObject") (codes "id") id
fault_data (faults.NotOnKind id) = numbered_fault (codes "NotOnKind") (codes "id") id
fault_data (faults.BadText read line) = bad_text_fault (read_kind_name read) line
fault_data (faults.OutOfRange id) = numbered_fault (codes "OutOfRange") (codes "id") id
fault_data (faults.Stale newer) = numbered_fault (codes "Stale") (codes "newer") newer
fault_data faults.NotYours = named_fault (codes "NotYours")
fault_data (faults.UndoneAlready by) = numbered_fault (codes "UndoneAlready") (codes "by") by
fault_data (faults.UndoBlocked by) = numbered_fault (codes "UndoBlocked") (codes "by") by
fault_data (faults.SheetInUse id) = numbered_fault (codes "SheetInUse") (codes "id") id
fault_data (faults.BaseAhead front) = numbered_fault (codes "BaseAhead") (codes "front") front
fault_data (faults.NumberGap last) = numbered_fault (codes "NumberGap") (codes "last") last
fault_data (faults.NumberReused serial) =
    numbered_fault (codes "NumberReused") (codes "serial") serial
fault_data faults.TooManyObjects = named_fault (codes "TooManyObjects")
fault_data faults.ProjectFull = named_fault (codes "ProjectFull")
fault_data faults.HistoryFull = named_fault (codes "HistoryFull")
fault_data faults.NoSuchEntry = named_fault (codes "NoSuchEntry")
fault_data (faults.NoAttribute id) = numbered_fault (codes "NoAttribute") (codes "id") id

-- 409 where the history has moved on, and else 422
abbrev pub fault_status : EditFault → ℕ
fault_status (faults.Stale newer) = 409
fault_status (faults.BaseAhead front) = 409
fault_status (faults.NumberGap last) = 409
fault_status (faults.NumberReused serial) = 409
fault_status (faults.UndoBlocked by) = 409
fault_status _ = 422
