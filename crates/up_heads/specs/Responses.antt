-- The bytes of a response (RFC 9112, sections 4 and 5), and what is answered without a reply or a file.
use Rattle.std.specs.Prelude.{ℕ, ◌==◌, ◌||◌, Bool, List, [], ◌∷◌, ◌++◌, length, Option, Some, None, codes, decimal, if◌then◌else◌}
use Rattle.http.specs.StatusCode.{status_text}
use Rattle.up_canon.specs.Names.{is_from_to}
use Rattle.up_canon.specs.Refusals.{row, refusal_text}
use Rattle.up_canon.specs.declared.refusal.Refusal.{Refusal}
use Rattle.up_heads.specs.declared.check.Check.{Check}
use Rattle.up_heads.specs.declared.check.Check.TheVariants.{BadRequest, NotFound, AllowGet, AllowPost, LengthRequired, TooLarge, NotImplemented}
use Rattle.up_heads.specs.declared.responses.Allow.{Allow}
use Rattle.up_heads.specs.declared.responses.Allow.TheVariants.{Get, Post}

-- CR and LF
abbrev pub line_end : List ℕ
line_end = 13 ∷ 10 ∷ []

-- the one method that a route takes
abbrev pub allow_text : Option Allow → List ℕ
allow_text None = []
allow_text (Some Get) = codes "Allow: GET" ++ line_end
allow_text (Some Post) = codes "Allow: POST" ++ line_end

abbrev pub close_text : Bool → List ℕ
close_text last = if last then codes "Connection: close" ++ line_end else []

-- a response; its body isn't sent to HEAD
unfoldable pub response_of : ℕ → Option Allow → Bool → Bool → List ℕ → List ℕ
response_of status allow last head body =
    codes "HTTP/1.1 " ++ status_text status ++ line_end
    ++ codes "Content-Type: application/json" ++ line_end
    ++ codes "Content-Length: " ++ decimal (length body) ++ line_end
    ++ allow_text allow ++ close_text last ++ line_end ++ (if head then [] else body)

-- the body of an answer that is neither a reply nor a file
unfoldable pub error_body : ℕ → List ℕ → List ℕ
error_body number text = codes "{\"error\":" ++ decimal number ++ codes ",\"text\":\"" ++ text ++ codes "\"}"

-- what is answered to a request that fails a check
pub record CheckRow : Type 0 where
  pub status : ℕ
  pub allow : Option Allow
  pub number : ℕ
  pub text : List ℕ

abbrev pub check_row : Check → CheckRow
check_row BadRequest = record { status = 400; allow = None; number = 0; text = codes "bad request" }
check_row NotFound = record { status = 404; allow = None; number = 0; text = codes "not found" }
check_row AllowGet = record { status = 405; allow = Some Get; number = 0; text = codes "method not allowed" }
check_row AllowPost = record { status = 405; allow = Some Post; number = 0; text = codes "method not allowed" }
check_row LengthRequired = record { status = 411; allow = None; number = 0; text = codes "length required" }
check_row TooLarge = record { status = 413; allow = None; number = 4; text = codes "TooLarge" }
check_row NotImplemented = record { status = 501; allow = None; number = 0; text = codes "not implemented" }

abbrev pub check_response_of : Check → Bool → Bool → List ℕ
check_response_of check last head =
    response_of (check_row check).status (check_row check).allow last head (error_body (check_row check).number (check_row check).text)

-- the status of a refusal by its number: of a body 400 or 413, of keys 403, of what isn't there 404, of what is newer 409; else
-- the service can't answer now
abbrev pub refusal_status : ℕ → ℕ
refusal_status number =
    if is_from_to 5 7 number then 400
    else if number == 11 || number == 12 || number == 17 then 403
    else if number == 10 || number == 29 then 404
    else if is_from_to 13 16 number || number == 18 then 409
    else if number == 4 then 413
    else 503

abbrev pub refusal_response_of : Refusal → Bool → Bool → List ℕ
refusal_response_of refusal last head =
    response_of (refusal_status (row refusal).number) None last head (error_body (row refusal).number (refusal_text refusal))
