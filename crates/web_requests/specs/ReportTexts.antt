-- Where the text of a report stands (own).
use Rattle.std.specs.Prelude.{ℕ, List}
use Rattle.std.specs.Arc.{arc_value}
use Rattle.web_requests.specs.declared.report_bytes.TextForm.{TextForm}
use Rattle.web_requests.specs.declared.report_bytes.TextForm.TheVariants.{Owned, Shared}

-- the text, by itself or in a reply
abbrev pub text_in_form : TextForm → List ℕ
text_in_form (Owned text) = text.items
text_in_form (Shared reply) = (arc_value reply).text
