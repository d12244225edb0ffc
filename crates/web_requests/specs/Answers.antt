-- What a request is answered after a history, made anew from the entries alone (own).
use Rattle.std.specs.Prelude.{◌≡◌, ◌⊎◌, ⊤, ℕ, Bool, true, false, nat_lt, List, length, take, Option, Some, None, Result, Ok, Err, codes}
use Rattle.edit_entries.specs.Entries.{EntryData}
use Rattle.edit_rules.specs.Histories.{project}
use Rattle.edit_rules.specs.Verdicts.{verdict}
use Rattle.edit_rules.specs.declared.verdict.Verdict.{Verdict}
use Rattle.edit_rules.specs.declared.verdict.Verdict.TheVariants.{Accept, Repeat, Refused}
use Rattle.pin_matrix.specs.Matrices.{usual}
use Rattle.reports.specs.Reports.{ReportsTo}
use Rattle.reports.specs.declared.what.What.{What}
use Rattle.reports.specs.declared.fault.ReportFault.{ReportFault}
use Rattle.reports.specs.declared.fault.ReportFault.TheVariants as faults
use Rattle.serde_json.specs.Data.{Data}
use Rattle.serde_json.specs.Written.{compact_text}
use Rattle.web_requests.specs.declared.request.Allowed.{Allowed}
use Rattle.web_requests.specs.declared.request.Request.{Request}
use Rattle.web_requests.specs.declared.request.Request.TheVariants.{Edit, Report, Fixed}
use Rattle.web_requests.specs.declared.request.FixedRequest.{FixedRequest}
use Rattle.web_requests.specs.declared.request.FixedRequest.TheVariants.{BadEdit, BadQuery, NoRoute, NotAllowed, NoSheet, NoSymbol}
use Rattle.web_requests.specs.declared.head.Content.TheVariants.{Text, Json}
use Rattle.web_requests.specs.Texts.{reply_text}
use Rattle.web_requests.specs.Bodies.{named_fault, numbered_fault, bad_edit, done_entry, fault_data, fault_status}

-- a reply in JSON after so many entries
abbrev pub json_reply : ℕ → ℕ → Bool → Data → List ℕ
json_reply status front closing body =
    reply_text (record {
      status = status;
      content = Json;
      front = Some front;
      allowed = None;
      closing = closing;
    }) (compact_text body)

-- a reply with the text of a report after so many entries
abbrev pub report_reply : ℕ → Bool → List ℕ → List ℕ
report_reply front closing body =
    reply_text (record {
      status = 200;
      content = Text;
      front = Some front;
      allowed = None;
      closing = closing;
    }) body

-- the reply to another method than the one of a route
abbrev pub method_reply : Allowed → ℕ → Bool → List ℕ
method_reply allowed front closing =
    reply_text (record {
      status = 405;
      content = Json;
      front = Some front;
      allowed = Some allowed;
      closing = closing;
    }) (compact_text (named_fault (codes "Method")))

-- a reply that stands on no history, with a fault by its name
abbrev pub bare_reply : ℕ → Bool → List ℕ → List ℕ
bare_reply status closing fault =
    reply_text (record {
      status = status;
      content = Json;
      front = None;
      allowed = None;
      closing = closing;
    }) (compact_text (named_fault fault))

-- there was no memory
abbrev pub no_memory_reply : List ℕ
no_memory_reply = bare_reply 503 false (codes "NoMemory")

-- what was seen could not be looked at
abbrev pub no_entry_reply : List ℕ
no_entry_reply = bare_reply 500 false (codes "NoEntry")

-- an accepted edit could not be kept
abbrev pub lost_reply : ℕ → Bool → List ℕ
lost_reply front closing = json_reply 507 front closing (named_fault (codes "KeeperFault"))

-- a report wants a longer history than there is
abbrev pub is_behind : Option ℕ → ℕ → Bool
is_behind (Some least) front = nat_lt front least
is_behind None front = false

-- the first id of the entry at a serial: the next id of the project before it
abbrev pub first_id : List EntryData → ℕ → ℕ
first_id h serial = (project (take serial h)).next_id

-- the text is the reply to an edit with this verdict; one that is accepted has none
abbrev pub IsEditAnswer : List EntryData → Bool → List ℕ → Verdict → Type 0
IsEditAnswer h closing text (Accept change) = ⊥
IsEditAnswer h closing text (Repeat serial) =
    text ≡ json_reply 200 (length h) closing (done_entry (first_id h serial) serial)
IsEditAnswer h closing text (Refused fault) =
    text ≡ json_reply (fault_status fault) (length h) closing (fault_data fault)

-- the text is the reply to a report that comes to this
abbrev pub IsReportReply : ℕ → Bool → List ℕ → Result (List ℕ) ReportFault → Type 0
IsReportReply front closing text (Ok body) = text ≡ report_reply front closing body
IsReportReply front closing text (Err faults.NoSheet) =
    text ≡ json_reply 404 front closing (named_fault (codes "NoSheet"))
IsReportReply front closing text (Err faults.NoSymbol) =
    text ≡ json_reply 404 front closing (named_fault (codes "NoSymbol"))
IsReportReply front closing text (Err faults.TooManyInstances) =
    text ≡ json_reply 422 front closing (named_fault (codes "TooManyInstances"))
IsReportReply front closing text (Err faults.NoMemory) = ⊥

-- a report on the project of a history comes to this, under the usual matrix
abbrev pub ReportComesTo : List EntryData → What → Result (List ℕ) ReportFault → Type 0
ReportComesTo h what outcome = ReportsTo (project h) usual what outcome

-- the text is the reply to a report that wants a longer history
abbrev pub IsBehindAnswer : List EntryData → Option ℕ → Bool → List ℕ → Type 0
IsBehindAnswer h least closing text =
    (is_behind least (length h) ≡ true)
    × (text ≡ json_reply 409 (length h) closing
    (numbered_fault (codes "Behind") (codes "front") (length h)))

-- the text is the reply to a report that does not
abbrev pub IsShownAnswer : List EntryData → Option ℕ → What → Bool → List ℕ → Type 0
IsShownAnswer h least what closing text =
    (is_behind least (length h) ≡ false)
    × (outcome : Result (List ℕ) ReportFault) × ReportComesTo h what outcome
    × IsReportReply (length h) closing text outcome

-- the reply to a request that asks neither for an edit nor for a report, after so many entries
abbrev pub fixed_reply : FixedRequest → ℕ → Bool → List ℕ
fixed_reply (BadEdit pointer) front closing =
    json_reply 400 front closing (bad_edit pointer)
fixed_reply BadQuery front closing = json_reply 400 front closing (named_fault (codes "BadQuery"))
fixed_reply NoRoute front closing = json_reply 404 front closing (named_fault (codes "NoRoute"))
fixed_reply (NotAllowed allowed) front closing = method_reply allowed front closing
fixed_reply NoSheet front closing = json_reply 404 front closing (named_fault (codes "NoSheet"))
fixed_reply NoSymbol front closing = json_reply 404 front closing (named_fault (codes "NoSymbol"))

-- the text is the reply to a request after a history
abbrev pub IsRequestAnswer : List EntryData → Request → Bool → List ℕ → Type 0
IsRequestAnswer h (Edit entry) closing text = IsEditAnswer h closing text (verdict h entry)
IsRequestAnswer h (Report least what) closing text =
    IsBehindAnswer h least closing text ⊎ IsShownAnswer h least what closing text
IsRequestAnswer h (Fixed request) closing text = text ≡ fixed_reply request (length h) closing

-- the request asks for an edit or a report
abbrev pub IsForService : Request → Type 0
IsForService (Edit entry) = ⊤
IsForService (Report least what) = ⊤
IsForService (Fixed request) = ⊥

-- the reply acknowledges the request: its status is 200
abbrev pub Acknowledges : List ℕ → Type 0
Acknowledges text = take 12 text ≡ codes "HTTP/1.1 200"
