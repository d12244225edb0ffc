-- Which command the arguments of a command line ask for (own).
use Rattle.std.specs.Prelude.{◌≢◌, ◌≤◌, ⊤, ℕ, nat_le, nat_lt, Bool, false, ◌==◌, ◌&&◌, if◌then◌else◌, List, [], ◌∷◌, Option}
use Rattle.std.specs.Prelude.{Some, None, length, map, codes, String, string_bytes, option_map}
use Rattle.std.specs.Prelude.{option_and_then}
use Rattle.std.specs.List.{AllPairs, list_all}
use Rattle.std.specs.declared.alloc.Global.{Global}
use Rattle.std.specs.Char.{is_ascii_digit}
use Rattle.std.specs.Str.{bytes_eq}
use Rattle.std.specs.Str.Parse.{digits_value}
use Rattle.geda_defs.specs.Lists.{each_once}
use Rattle.geda_model.specs.Names.{is_name}
use Rattle.net_list.specs.declared.form.Form.{Form}
use Rattle.net_list.specs.declared.form.Form.TheVariants as forms
use Rattle.option_words.specs.Words.{Parts, parts_of}
use Rattle.web_heads.specs.Accesses.{AccessData, access_of}
use Rattle.command_words.specs.HostWords.{hosts_apart}
use Rattle.command_words.specs.declared.command.Command.{Command}
use Rattle.command_words.specs.declared.command.Command.TheVariants.{Netlist, Spice, Drc, Export, Symcheck, Renumber, Table, Fill, Work, Serve, Store}

-- the greatest number of steps of the work
abbrev pub most_steps : ℕ
most_steps = 100000

-- the file that a word names: the word is a Name
abbrev pub file_of : List ℕ → Option (List ℕ)
file_of word = if is_name word then Some word else None

-- no text stands twice
abbrev pub are_distinct : List (List ℕ) → Bool
are_distinct texts = length (each_once texts) == length texts

-- each word names a file, and no other one names it too
abbrev pub are_files : List (List ℕ) → Bool
are_files words = list_all is_name words && are_distinct words

-- the sheets that words name: one or more files that differ
abbrev pub sheets_of : List (List ℕ) → Option (List (List ℕ))
sheets_of [] = None
sheets_of (word ∷ others) = if are_files (word ∷ others) then Some (word ∷ others) else None

-- the form of a name
abbrev pub form_named : List ℕ → Option Form
form_named name =
    if bytes_eq name (codes "list") then Some forms.List
    else if bytes_eq name (codes "tango") then Some forms.Tango
    else if bytes_eq name (codes "pcb") then Some forms.Pcb
    else if bytes_eq name (codes "bom") then Some forms.Bom
    else None

-- the form that the value of `--form` names; the list where there is none
abbrev pub form_of : Option (List ℕ) → Option Form
form_of None = Some forms.List
form_of (Some name) = form_named name

-- the file that the value of `--matrix` names, where there is one
abbrev pub matrix_of : Option (List ℕ) → Option (Option (List ℕ))
matrix_of None = Some None
matrix_of (Some word) = option_map (λ file. Some file) (file_of word)

-- the value of `--form` asks for the SPICE text
abbrev pub is_spice : Option (List ℕ) → Bool
is_spice None = false
is_spice (Some name) = bytes_eq name (codes "spice")

-- the SPICE text of the sheets that are named
abbrev pub spice_of : List (List ℕ) → Option Command
spice_of words = option_map Spice (sheets_of words)

-- the net list in one of its forms, from the form's name and the words that name sheets
abbrev pub list_of : Parts → Option Command
list_of parts =
    option_and_then (λ form. option_map (Netlist form) (sheets_of parts.words))
    (form_of parts.value)

-- the net list, as the SPICE text or in one of its forms
abbrev pub netlist_of : Parts → Option Command
netlist_of parts = if is_spice parts.value then spice_of parts.words else list_of parts

-- the check, from the matrix's file and the words that name sheets
abbrev pub drc_of : Parts → Option Command
drc_of parts =
    option_and_then (λ matrix. option_map (Drc matrix) (sheets_of parts.words))
    (matrix_of parts.value)

-- the export of the one file that is named
abbrev pub export_of : List (List ℕ) → Option Command
export_of (word ∷ []) = option_map Export (file_of word)
export_of words = None

-- the check of the symbols that are named: one or more files that differ
abbrev pub symcheck_of : List (List ℕ) → Option Command
symcheck_of words = option_map Symcheck (sheets_of words)

-- the numbering of the sheets that are named
abbrev pub renumber_of : List (List ℕ) → Option Command
renumber_of words = option_map Renumber (sheets_of words)

-- the table of the one sheet that is named
abbrev pub table_of : List (List ℕ) → Option Command
table_of (word ∷ []) = option_map Table (file_of word)
table_of words = None

-- a table that is filled into a sheet: they are two files that differ
abbrev pub filling : List ℕ → List ℕ → Option Command
filling sheet table = if bytes_eq sheet table then None else Some (Fill sheet table)

-- the same of the two words that name them
abbrev pub fill_of : List (List ℕ) → Option Command
fill_of (sheet ∷ table ∷ []) =
    option_and_then (λ s. option_and_then (filling s) (file_of table)) (file_of sheet)
fill_of words = None

-- 1 to 10 digits
abbrev pub is_number : List ℕ → Bool
is_number word =
    nat_lt 0 (length word) && nat_lt (length word) 11 && list_all is_ascii_digit word

-- the number that a word writes, if it is at most so great
abbrev pub number_of : ℕ → List ℕ → Option ℕ
number_of most word =
    if is_number word && nat_le (digits_value 10 word) most
    then Some (digits_value 10 word) else None

-- the work from a start, and how many steps of it
abbrev pub work_of : List (List ℕ) → Option Command
work_of (start ∷ count ∷ []) =
    option_and_then (λ s. option_map (Work s) (number_of most_steps count))
    (number_of 4294967295 start)
work_of words = None

-- the serving at an address of what a store keeps, both any words, by these options
abbrev pub serving_of : AccessData → List (List ℕ) → Option Command
serving_of access (address ∷ store ∷ []) = Some (Serve address store access)
serving_of access words = None

-- the same, given the values of `--host`, and of `--who` where there is one
abbrev pub serve_of : List (List ℕ) → Parts → Option Command
serve_of hosts parts =
    option_and_then (λ access. serving_of access parts.words) (access_of hosts parts.value)

-- the serving that the words behind `serve` ask for
abbrev pub serve_with : List (List ℕ) → Option Command
serve_with words =
    option_and_then (λ found. option_and_then (serve_of found.hosts)
    (parts_of (Some (codes "who")) found.words)) (hosts_apart words)

-- the copying of what a store keeps into a database: both are any words
abbrev pub store_of : List (List ℕ) → Option Command
store_of (store ∷ database ∷ []) = Some (Store store database)
store_of words = None

-- the command of this name, with the words behind it: each has one option or none, but serve
abbrev pub command_with : List ℕ → List (List ℕ) → Option Command
command_with command words =
    if bytes_eq command (codes "netlist")
    then option_and_then netlist_of (parts_of (Some (codes "form")) words)
    else if bytes_eq command (codes "drc")
    then option_and_then drc_of (parts_of (Some (codes "matrix")) words)
    else if bytes_eq command (codes "export")
    then option_and_then (λ parts. export_of parts.words) (parts_of None words)
    else if bytes_eq command (codes "symcheck")
    then option_and_then (λ parts. symcheck_of parts.words) (parts_of None words)
    else if bytes_eq command (codes "renumber")
    then option_and_then (λ parts. renumber_of parts.words) (parts_of None words)
    else if bytes_eq command (codes "table")
    then option_and_then (λ parts. table_of parts.words) (parts_of None words)
    else if bytes_eq command (codes "fill")
    then option_and_then (λ parts. fill_of parts.words) (parts_of None words)
    else if bytes_eq command (codes "work")
    then option_and_then (λ parts. work_of parts.words) (parts_of None words)
    else if bytes_eq command (codes "serve")
    then serve_with words
    else if bytes_eq command (codes "store")
    then option_and_then (λ parts. store_of parts.words) (parts_of None words)
    else None

-- the command that the arguments ask for; none where they are used wrongly
abbrev pub command_of : List (String Global) → Option Command
command_of [] = None
command_of (command ∷ words) = command_with (string_bytes command) (map string_bytes words)

-- the files of a command differ, and its steps are not too many
abbrev pub IsAskable : Command → Type 0
IsAskable (Netlist form sheets) = AllPairs ◌≢◌ sheets
IsAskable (Spice sheets) = AllPairs ◌≢◌ sheets
IsAskable (Drc matrix sheets) = AllPairs ◌≢◌ sheets
IsAskable (Export file) = ⊤
IsAskable (Symcheck symbols) = AllPairs ◌≢◌ symbols
IsAskable (Renumber sheets) = AllPairs ◌≢◌ sheets
IsAskable (Table sheet) = ⊤
IsAskable (Fill sheet table) = ⊤
IsAskable (Work start count) = count ≤ most_steps
IsAskable (Serve address store access) = ⊤
IsAskable (Store store database) = ⊤
