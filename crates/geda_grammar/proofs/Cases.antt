-- Small files and their faults, computed.
use Rattle.std.proofs.Common.{◌≡◌, false, refl, ◌++◌, ◌∷◌, [], codes}
use Rattle.geda_text.specs.Lines.{lines_of, fields_of, digits_of, whole_of}
use Rattle.std.specs.Str.{is_utf8, chars}
use Rattle.geda_grammar.specs.declared.kind.ReadKind.TheVariants.{BadAngle, BadFormat, BadNumber, CutShort, FieldCount, Nested, NoVersion, NotAttribute, NotUtf8, OutOfRange, StrayBracket, TooLarge, UnknownLetter}
use Rattle.geda_grammar.specs.Faults.{IsFault, object_file, sheet_file, symbol_file}
use Rattle.geda_grammar.proofs.Ascii.{ascii}
use Rattle.geda_grammar.proofs.ReadingLaws.{sheet_faulty, symbol_faulty, object_faulty}

pub an_empty_file_has_no_version : IsFault sheet_file (codes "") NoVersion 1
unfolding lines_of fields_of digits_of whole_of
an_empty_file_has_no_version = (sheet_faulty (codes "") NoVersion 1).1 (refl)

pub a_date_alone_is_no_version_line : IsFault sheet_file (codes "v 20130925\n") BadFormat 1
unfolding lines_of fields_of digits_of whole_of
a_date_alone_is_no_version_line = (sheet_faulty (codes "v 20130925\n") BadFormat 1).1 (rw (ascii (codes "v 20130925") refl) refl)

pub a_font_is_unknown : IsFault sheet_file (codes "v 20130925 2\nF 0\n") UnknownLetter 2
unfolding lines_of fields_of digits_of whole_of
a_font_is_unknown = (sheet_faulty (codes "v 20130925 2\nF 0\n") UnknownLetter 2).1 (rw (ascii (codes "F 0") refl) refl)

pub a_field_is_missing : IsFault sheet_file (codes "v 20130925 2\nN 0 0 1 4\n") FieldCount 2
unfolding lines_of fields_of digits_of whole_of
a_field_is_missing = (sheet_faulty (codes "v 20130925 2\nN 0 0 1 4\n") FieldCount 2).1 (rw (ascii (codes "N 0 0 1 4") refl) refl)

pub a_field_is_no_number : IsFault sheet_file (codes "v 20130925 2\nN 0 0 1 x 4\n") BadNumber 2
unfolding lines_of fields_of digits_of whole_of
a_field_is_no_number = (sheet_faulty (codes "v 20130925 2\nN 0 0 1 x 4\n") BadNumber 2).1 (rw (ascii (codes "N 0 0 1 x 4") refl) refl)

pub an_angle_of_45_is_bad : IsFault sheet_file (codes "v 20130925 2\nC 0 0 1 45 0 a.sym\n") BadAngle 2
unfolding lines_of fields_of digits_of whole_of
an_angle_of_45_is_bad = (sheet_faulty (codes "v 20130925 2\nC 0 0 1 45 0 a.sym\n") BadAngle 2).1 (rw (ascii (codes "C 0 0 1 45 0 a.sym") refl) refl)

pub a_coordinate_is_too_far : IsFault sheet_file (codes "v 20130925 2\nN 200001 0 0 0 4\n") OutOfRange 2
unfolding lines_of fields_of digits_of whole_of
a_coordinate_is_too_far = (sheet_faulty (codes "v 20130925 2\nN 200001 0 0 0 4\n") OutOfRange 2).1 (rw (ascii (codes "N 200001 0 0 0 4") refl) refl)

pub a_brace_is_stray : IsFault sheet_file (codes "v 20130925 2\n}\n") StrayBracket 2
unfolding lines_of fields_of digits_of whole_of
a_brace_is_stray = (sheet_faulty (codes "v 20130925 2\n}\n") StrayBracket 2).1 (rw (ascii (codes "}") refl) refl)

pub a_component_is_nested : IsFault symbol_file (codes "v 20130925 2\nC 0 0 1 0 0 a.sym\n") Nested 2
unfolding lines_of fields_of digits_of whole_of
a_component_is_nested = (symbol_faulty (codes "v 20130925 2\nC 0 0 1 0 0 a.sym\n") Nested 2).1 (rw (ascii (codes "a.sym") refl, ascii (codes "C 0 0 1 0 0 a.sym") refl) refl)

pub a_net_is_no_attribute : IsFault sheet_file (codes "v 20130925 2\nN 0 0 1 0 4\n{\nN 0 0 1 0 4\n") NotAttribute 4
unfolding lines_of fields_of digits_of whole_of
a_net_is_no_attribute = (sheet_faulty (codes "v 20130925 2\nN 0 0 1 0 4\n{\nN 0 0 1 0 4\n") NotAttribute 4).1 (rw (ascii (codes "N 0 0 1 0 4") refl) refl)

pub a_text_is_cut_short : IsFault sheet_file (codes "v 20130925 2\nT 0 0 9 10 1 0 0 0 3\none\n") CutShort 4
unfolding lines_of fields_of digits_of whole_of
a_text_is_cut_short = (sheet_faulty (codes "v 20130925 2\nT 0 0 9 10 1 0 0 0 3\none\n") CutShort 4).1 (rw (ascii (codes "one") refl) refl)

pub a_second_object_is_too_large : IsFault object_file (codes "N 0 0 1 0 4\nN 0 0 1 0 4\n") TooLarge 2
unfolding lines_of fields_of digits_of whole_of
a_second_object_is_too_large = (object_faulty (codes "N 0 0 1 0 4\nN 0 0 1 0 4\n") TooLarge 2).1 (refl)

pub no_object_is_cut_short : IsFault object_file (codes "") CutShort 1
unfolding lines_of fields_of digits_of whole_of
no_object_is_cut_short = (object_faulty (codes "") CutShort 1).1 (refl)

no_text : is_utf8 (255 ∷ []) ≡ false
unfolding is_utf8 chars
no_text = refl

pub a_byte_ff_is_no_text : IsFault sheet_file (codes "v 20130925 2\n" ++ 255 ∷ 10 ∷ []) NotUtf8 2
unfolding lines_of fields_of digits_of whole_of
a_byte_ff_is_no_text = (sheet_faulty (codes "v 20130925 2\n" ++ 255 ∷ 10 ∷ []) NotUtf8 2).1 (rw no_text refl)
