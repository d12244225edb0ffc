use Rattle.std.proofs.Common.{◌∙◌, ap, List, ℕ, true}
use Rattle.std.specs.Prelude.{cond, ◌≡◌}
use Rattle.std.specs.HashSet.{contains_text}
use Rattle.std.specs.Str.{bytes_eq}
use Rattle.std.specs.String.{string_bytes}
use Rattle.std.proofs.lemmas.Map.Text.{hash_set_updates_text}
use Rattle.instance_objects.proofs.LabelLemmas.{added}
use Rattle.instance_objects.proofs.labels.add_label.Goals as goal

pub returns-in_ok-insert : goal.returns-in_ok-insert
returns-in_ok-insert c = λ text.
    let old = c.args.labels.now in
    let new = c.insert.new.self in
    let has : contains_text new text ≡ cond (bytes_eq c.in-Some.label text) true (contains_text old text) =
    hash_set_updates_text (string_bytes c.in_ok-text.text) old new true c.in_ok-insert.ensures.updates text
    ∙ ap (λ (bs : List ℕ). cond (bytes_eq bs text) true (contains_text old text))
    (c.in_ok-text.ensures.ok ∙ c.as_str.ensures) in
    rw c.in-Some.is (added text c.in-Some.label (contains_text old text) (contains_text new text) has)
