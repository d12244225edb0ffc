-- Where the text of a report stands in its reply.
use Rattle.std.proofs.Common.{◌≡◌, ℕ, ◌-◌, ◌≤◌, false, List, ◌++◌, length, drop, ap, sym, ◌∙◌, arith}
use Rattle.std.proofs.lemmas.List.{length-append}
use Rattle.std.proofs.Math.Seq.{drop-append_seam}
use Rattle.web_requests.specs.Texts.{reply_text}
use Rattle.web_requests.specs.Answers.{report_reply}
use Rattle.web_requests.specs.SharedReplies.{ReportReplyData, open_reply}

-- what stands before the text is as long as the rest
length-head : (head text : List ℕ) → length (head ++ text) - length text ≡ length head
length-head head text = omega (arith, length-append head text)

-- the text is what is behind it
drop-head : (head text : List ℕ) → drop (length (head ++ text) - length text) (head ++ text) ≡ text
drop-head head text = ap (λ n. drop n (head ++ text)) (length-head head text) ∙ drop-append_seam head text

-- the text is no longer than the whole
length-behind : (head text : List ℕ) → length text ≤ length (head ++ text)
length-behind head text = omega (arith, length-append head text)

module _ (front : ℕ) (text : List ℕ) where
  reply-length : length text ≤ length (report_reply front false text)
  unfolding reply_text
  reply-length = length-behind _ text

  reply-end : drop (length (report_reply front false text) - length text) (report_reply front false text) ≡ text
  unfolding reply_text
  reply-end = drop-head _ text

  -- the text is no longer than its reply
  pub is-within : (bytes : List ℕ) → bytes ≡ report_reply front false text → length text ≤ length bytes
  is-within bytes e = rw e reply-length

  -- the text is the end of its reply
  is-end : (bytes : List ℕ) → bytes ≡ report_reply front false text → drop (length bytes - length text) bytes ≡ text
  is-end bytes e = rw e reply-end

  -- the reply is that of its end, which begins within it
  pub is-whole : (bytes : List ℕ) → bytes ≡ report_reply front false text → (length bytes - length text ≤ length bytes) × (bytes ≡ open_reply (record { front = front; text = drop (length bytes - length text) bytes }))
  is-whole bytes e = (omega arith, e ∙ ap (λ t. report_reply front false t) (sym (is-end bytes e)))

  abbrev reply-of : List ℕ → ReportReplyData
  reply-of t = record { front = front; text = t }

  -- it tells the front and the text
  pub is-told : (bytes : List ℕ) → bytes ≡ report_reply front false text → reply-of (drop (length bytes - length text) bytes) ≡ reply-of text
  is-told bytes e = ap reply-of (is-end bytes e)
