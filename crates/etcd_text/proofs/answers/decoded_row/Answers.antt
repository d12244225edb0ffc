use Rattle.std.proofs.Common.{rules, ◌∙◌, Some, ap, sym}
use Rattle.base64.specs.Engines.{standard}
use Rattle.etcd_text.proofs.DecodedLemmas.{decodes, not_decoded}
use Rattle.etcd_text.proofs.answers.decoded_row.Goals as goal

pub returns-in-Ok : goal.returns-in-Ok
returns-in-Ok c =
    decodes standard c.args.text.now c.in-Ok.bytes.items c.in-Ok.ensures.ok
    ∙ ap Some (sym c.new.ensures)

pub returns-in-Err-DecodeError : goal.returns-in-Err-DecodeError
returns-in-Err-DecodeError c =
    not_decoded standard c.args.text.now c.in-Err-DecodeError.field-0
    c.in-Err-DecodeError.field-0-0 (search rules) c.in-Err-DecodeError.ensures.err
