-- The fixed replies, byte for byte.
use Rattle.std.proofs.Common.{◌≡◌, ℕ, Bool, true, false, List, [], ◌∷◌, ◌++◌, codes, decimal, refl, sym, ap, ◌∙◌, append_assoc, Result, Ok, Err, OnOk}
use Rattle.std.specs.Fmt.{digits}
use Rattle.serde_json.proofs.OnLiterals.{serde_json_on_literals}
use Rattle.web_requests.specs.Texts.{status_line, reply_text}
use Rattle.web_requests.specs.Answers.{no_memory_reply, no_entry_reply, lost_reply}
use Rattle.web_requests.specs.steps.Lost.{lost_start, lost_last, lost_end}

pub no_memory_bytes : codes "HTTP/1.1 503 Service Unavailable\r\nContent-Type: application/json\r\nContent-Length: 20\r\n\r\n{\"fault\":\"NoMemory\"}" ≡ no_memory_reply
unfolding serde_json_on_literals digits reply_text status_line
no_memory_bytes = refl

pub no_entry_bytes : codes "HTTP/1.1 500 Internal Server Error\r\nContent-Type: application/json\r\nContent-Length: 19\r\n\r\n{\"fault\":\"NoEntry\"}" ≡ no_entry_reply
unfolding serde_json_on_literals digits reply_text status_line
no_entry_bytes = refl

abbrev lost_body : List ℕ
lost_body = codes "{\"fault\":\"KeeperFault\"}"

size : codes "23" ≡ decimal 23
unfolding digits
size = refl

parts : (d e l b : List ℕ) → d ++ (e ++ (l ++ b)) ≡ ((d ++ e) ++ l) ++ b
parts d e l b = sym (append_assoc (d ++ e) l b ∙ append_assoc d e (l ++ b))

pub lost_bytes : (front : ℕ) (closing : Bool) → (lost_start ++ decimal front) ++ lost_end closing ≡ lost_reply front closing
unfolding serde_json_on_literals reply_text status_line
lost_bytes front true = ap (λ t. lost_start ++ t) (parts (decimal front) (13 ∷ 10 ∷ []) (lost_last (codes "23") true) lost_body)
    ∙ ap (λ n. lost_start ++ (((decimal front ++ (13 ∷ 10 ∷ [])) ++ lost_last n true) ++ lost_body)) size
lost_bytes front false = ap (λ t. lost_start ++ t) (parts (decimal front) (13 ∷ 10 ∷ []) (lost_last (codes "23") false) lost_body)
    ∙ ap (λ n. lost_start ++ (((decimal front ++ (13 ∷ 10 ∷ [])) ++ lost_last n false) ++ lost_body)) size

pub parts_three : (old a b c : List ℕ) → ((old ++ a) ++ b) ++ c ≡ old ++ ((a ++ b) ++ c)
parts_three old a b c = ap (λ t. t ++ c) (append_assoc old a b) ∙ append_assoc old (a ++ b) c

pub parts_five : (old a b c d e : List ℕ) → ((((old ++ a) ++ b) ++ c) ++ d) ++ e ≡ old ++ ((((a ++ b) ++ c) ++ d) ++ e)
parts_five old a b c d e = ap (λ t. (t ++ d) ++ e) (parts_three old a b c) ∙ parts_three old ((a ++ b) ++ c) d e

pub on_ok : {T E : Type 0} (r : Result T E) (P Q : Type 0) → (P → Q) → OnOk r P → OnOk r Q
on_ok (Ok x) P Q f p = f p
on_ok (Err e) P Q f p = tt
