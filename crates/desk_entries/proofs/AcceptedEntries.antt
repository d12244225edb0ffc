-- Entries that are all accepted are put behind a history.
use Rattle.std.proofs.Common.{◌≡◌, List, [], ◌∷◌, ◌++◌, None, refl, sym, ap, ◌∙◌, append_assoc, append-nil}
use Rattle.edit_entries.specs.Entries.{EntryData}
use Rattle.edit_rules.specs.Verdicts.{verdict}
use Rattle.edit_rules.specs.declared.verdict.Verdict.{Verdict}
use Rattle.edit_rules.specs.declared.verdict.Verdict.TheVariants as verdicts
use Rattle.desk_entries.specs.Putting.{put_all, put_by, unless_fault}
use Rattle.desk_entries.specs.TableEntries.{AreAccepted, IsAccepted}

pub all_put : (h es : List EntryData) → AreAccepted h es → put_all h es ≡ (h ++ es, None)
all_put h [] a = ap (λ (g : List EntryData). (g, None)) (sym (append-nil h))
all_put h (e ∷ es) a = by (verdict h e) refl a.0 (all_put (h ++ e ∷ []) es a.1)
  where
    by : (v : Verdict) → verdict h e ≡ v → IsAccepted v → put_all (h ++ e ∷ []) es ≡ ((h ++ e ∷ []) ++ es, None) → put_all h (e ∷ es) ≡ (h ++ e ∷ es, None)
    by (verdicts.Accept change) is ok more =
        ap (λ (v : Verdict). unless_fault (put_by h e v).1 (put_all (put_by h e v).0 es) (put_by h e v)) is
        ∙ more
        ∙ ap (λ (g : List EntryData). (g, None)) (append_assoc h (e ∷ []) es)
    by (verdicts.Repeat serial) is ok more = absurd ok
    by (verdicts.Refused fault) is ok more = absurd ok
