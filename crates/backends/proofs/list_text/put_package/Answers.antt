use Rattle.std.proofs.Common.{append_assoc}
use Rattle.backends.proofs.list_text.put_package.Goals as goal

pub returns : goal.returns
returns c =
    rw (c.in_ok-push.ensures.items, c.in_ok-put_next_field-3.ensures, c.in_ok-put_next_field-2.ensures, c.in_ok-put_next_field.ensures, c.in_ok-put_word.ensures, c.as_bytes.ensures.value, c.as_str.ensures.text) (simp append_assoc)
