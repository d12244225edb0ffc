-- The text of a net list in each form (own).
use Rattle.std.specs.Prelude.{ℕ, List}
use Rattle.net_list.specs.declared.nets.Nets.{Nets}
use Rattle.net_list.specs.declared.form.Form.{Form}
use Rattle.net_list.specs.declared.form.Form.TheVariants as forms
use Rattle.backends.specs.ListText.{list_text}
use Rattle.backends.specs.TangoText.{tango_text}
use Rattle.backends.specs.PcbText.{pcb_text}
use Rattle.backends.specs.BillText.{bill_text}

-- the text in a form
abbrev pub net_text : Form → Nets → List ℕ
net_text forms.List nets = list_text nets
net_text forms.Tango nets = tango_text nets
net_text forms.Pcb nets = pcb_text nets
net_text forms.Bom nets = bill_text nets
