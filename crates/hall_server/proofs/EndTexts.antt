-- The fixed replies of the ends, byte for byte.
use Rattle.std.proofs.Common.{◌≡◌, codes, refl}
use Rattle.std.specs.Fmt.{digits}
use Rattle.serde_json.proofs.OnLiterals.{serde_json_on_literals}
use Rattle.web_requests.specs.Texts.{status_line, reply_text}
use Rattle.web_heads.specs.declared.cut_end.CutEnd.TheVariants.{BadHead, LargeHead, LargeBody, Unsupported, Foreign}
use Rattle.hall_server.specs.Transcripts.{end_reply}

pub bad_head_bytes : codes "HTTP/1.1 400 Bad Request\r\nContent-Type: application/json\r\nConnection: close\r\nContent-Length: 19\r\n\r\n{\"fault\":\"BadHead\"}" ≡ end_reply BadHead
unfolding serde_json_on_literals digits reply_text status_line
bad_head_bytes = refl

pub large_head_bytes : codes "HTTP/1.1 431 Request Header Fields Too Large\r\nContent-Type: application/json\r\nConnection: close\r\nContent-Length: 20\r\n\r\n{\"fault\":\"TooLarge\"}" ≡ end_reply LargeHead
unfolding serde_json_on_literals digits reply_text status_line
large_head_bytes = refl

pub large_body_bytes : codes "HTTP/1.1 413 Payload Too Large\r\nContent-Type: application/json\r\nConnection: close\r\nContent-Length: 20\r\n\r\n{\"fault\":\"TooLarge\"}" ≡ end_reply LargeBody
unfolding serde_json_on_literals digits reply_text status_line
large_body_bytes = refl

pub unsupported_bytes : codes "HTTP/1.1 501 Not Implemented\r\nContent-Type: application/json\r\nConnection: close\r\nContent-Length: 23\r\n\r\n{\"fault\":\"Unsupported\"}" ≡ end_reply Unsupported
unfolding serde_json_on_literals digits reply_text status_line
unsupported_bytes = refl

pub foreign_bytes : codes "HTTP/1.1 403 Forbidden\r\nContent-Type: application/json\r\nConnection: close\r\nContent-Length: 19\r\n\r\n{\"fault\":\"Foreign\"}" ≡ end_reply Foreign
unfolding serde_json_on_literals digits reply_text status_line
foreign_bytes = refl
