-- The bounds of files and of their fields (own).
use Rattle.std.specs.Prelude.{ℕ}

-- how far a coordinate may stand from 0, in mils
abbrev pub greatest_coordinate : ℕ
greatest_coordinate = 200000

-- how far any other number may stand from 0
abbrev pub greatest_number : ℕ
greatest_number = 1000000

-- the lines of a text or of a path
abbrev pub most_lines : ℕ
most_lines = 10000

-- the objects of a sheet, and the parts of a symbol
abbrev pub most_objects : ℕ
most_objects = 100000

-- the bytes of a file
abbrev pub most_file_bytes : ℕ
most_file_bytes = 4194304

-- the bytes of the texts of all sheets and symbols of a project
abbrev pub most_project_text : ℕ
most_project_text = 67108864

-- the sheets of a project
abbrev pub most_sheets : ℕ
most_sheets = 1024

-- the symbols of a project's library
abbrev pub most_symbols : ℕ
most_symbols = 8192

-- the bytes of a name
abbrev pub most_name_bytes : ℕ
most_name_bytes = 100

-- the bytes of a word
abbrev pub most_word_bytes : ℕ
most_word_bytes = 200

-- the bytes of a basename that stands behind `EMBEDDED`
abbrev pub most_embedded_bytes : ℕ
most_embedded_bytes = 192
