-- The text of a body.
use Rattle.std.proofs.Common.{◌≡◌, ℕ, false, List, codes, refl, ap, ◌∙◌, Result, Ok, Err, IfOk, String}
use Rattle.std.specs.String.{string_bytes}
use Rattle.std.specs.declared.alloc.Global.{Global}
use Rattle.std.specs.declared.cmp.Ordering.{Ordering}
use Rattle.std.specs.declared.cmp.Ordering.TheVariants.{Less, Equal, Greater}
use Rattle.std.specs.Ordering.{match_ordering, nat_cmp}
use Rattle.std.specs.Cmp.Lexicographic.{slice_cmp}
use Rattle.serde_json.specs.Data.{Data, object, number, string, unsigned, member, no_members}
use Rattle.serde_json.specs.Written.{compact_text, has_float}
use Rattle.web_requests.specs.Bodies.{numbered_fault}

pub body_text : {E : Type 0} (r : Result (String Global) E) (d e : Data) → d ≡ e → has_float e ≡ false
    → IfOk r (λ s. has_float d ≡ false → string_bytes s ≡ compact_text d) → IfOk r (λ s. string_bytes s ≡ compact_text e)
body_text (Ok s) d e same none f = f (ap has_float same ∙ none) ∙ ap compact_text same
body_text (Err x) d e same none f = tt

pub numbered_none : (name key : List ℕ) (n : ℕ) → has_float (numbered_fault name key n) ≡ false
numbered_none name key n = go (slice_cmp nat_cmp key (codes "fault"))
  where
    go : (o : Ordering) → has_float (object (match_ordering o (member key (number (unsigned n)) (member (codes "fault") (string name) no_members)) (member (codes "fault") (number (unsigned n)) no_members) (member (codes "fault") (string name) (member key (number (unsigned n)) no_members)))) ≡ false
    go Less = refl
    go Equal = refl
    go Greater = refl
