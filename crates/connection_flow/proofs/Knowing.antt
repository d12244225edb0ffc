-- What is known of bytes stays known while more come.
use Rattle.std.proofs.Common.{◌≡◌, ℕ, ◌+◌, ◌-◌, ◌≤◌, Bool, true, false, if◌then◌else◌, List, ◌++◌, length, drop, sym, subst, arith}
use Rattle.std.proofs.lemmas.List.{drop-append-le, length-append}
use Rattle.connection_flow.specs.declared.gathered.Known.{Known}
use Rattle.connection_flow.specs.declared.gathered.Known.TheVariants as knowns
use Rattle.connection_flow.specs.Requests.{IsKnown, IsWholeMessage}
use Rattle.web_heads.specs.declared.sizes.MessageSize.{MessageSize}
use Rattle.web_heads.specs.Cuts.{MessageData, IsMessage}
use Rattle.web_heads.proofs.Cutting.{Ends-append}
use Rattle.web_heads.proofs.MessageSizes.{sized_more, sized_message}
use Rattle.web_heads.specs.MessageFronts.{IsSized}

pub known_more : (known : Known) (bytes more : List ℕ) → IsKnown known bytes → IsKnown known (bytes ++ more)
known_more knowns.Nothing bytes more k = tt
known_more (knowns.Size size) bytes more k = sized_more bytes more size k
known_more knowns.Refused bytes more k = record { end = k.end; final = k.final; ends = Ends-append bytes more k.end k.final k.ends }

pub known_added : (known : Known) (taken : ℕ) (old new further : List ℕ) (b : Bool) → taken ≤ length old → IsKnown known (drop taken old) → new ≡ (if b then old ++ further else old) → (taken ≤ length new) × IsKnown known (drop taken new)
known_added known taken old new further true within k e = (
  subst (λ n. taken ≤ length n) (sym e) (longer (length (old ++ further)) (length old) (length further) (length-append old further) within),
  subst (λ n. IsKnown known (drop taken n)) (sym e) (subst (IsKnown known) (sym (drop-append-le taken old further within)) (known_more known (drop taken old) further k)),
)
  where
    longer : (n m k : ℕ) → n ≡ m + k → taken ≤ m → taken ≤ n
    longer n m k f l = omega (arith, f, l)
known_added known taken old new further false within k e = (subst (λ n. taken ≤ length n) (sym e) within, subst (λ n. IsKnown known (drop taken n)) (sym e) k)

pub whole_message : (known : Known) (bytes : List ℕ) (size : MessageSize) → known ≡ knowns.Size size → IsKnown known bytes → size.body ≤ length bytes - size.head → IsWholeMessage bytes (size.head + size.body)
whole_message known bytes size e k l = record { message = found.0; is = found.1; come = arrived }
  where
    sized : IsSized bytes size
    sized = subst (λ n. IsKnown n bytes) e k

    fits : (n h b : ℕ) → h ≤ n → b ≤ n - h → h + b ≤ n
    fits n h b i j = omega (arith, i, j)

    arrived : size.head + size.body ≤ length bytes
    arrived = fits (length bytes) size.head size.body sized.within l

    found : (message : MessageData) × IsMessage bytes message (drop (size.head + size.body) bytes)
    found = sized_message bytes size sized arrived
